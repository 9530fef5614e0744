use Rattle.std.proofs.Common.{◌≡◌, ◌∙◌, sym, ap, subst}
use Rattle.std.specs.Prelude.{Some, Option, ℕ, slice_set}
use Rattle.spec_schedule.specs.declared.trace.TraceEvent.{TraceEvent}
use Rattle.spec_schedule.specs.declared.trace.TraceEvent.TheVariants.{Act}
use Rattle.spec_schedule.specs.Counting.{edited_all}
use Rattle.lgx_audit.specs.Along.{AreNumbersIn, program_of}
use Rattle.lgx_audit.proofs.Tallies.{none_told, one_told, no_action, no_program}
use Rattle.lgx_audit.proofs.numbers.edit_all.Goals as goal

pub returns-in-Some : goal.returns-in-Some
returns-in-Some c ns h =
    let a = c.in-Act in
    let is : c.args.e.now ≡ Act a.lane a.verb (Some c.in-Some.g) a.answer a.released = a.is ∙ ap (λ (g : Option ℕ). Act a.lane a.verb g a.answer a.released) c.in-Some.is in
    subst (λ (e : TraceEvent). AreNumbersIn (slice_set c.args.tallies.now c.in-Some.g c.edited.result) (edited_all e ns)) (sym is)
    (one_told a.lane a.verb c.in-Some.g a.answer a.released c.args.tallies.now c.edited.result ns (c.requires c.in-Some.g (ap program_of is)) c.edited.ensures h)

pub returns-in-None : goal.returns-in-None
returns-in-None c ns h = none_told c.args.e.now c.args.tallies.now ns (no_program c.args.e.now c.in-Act.lane c.in-Act.verb c.in-Act.program c.in-Act.answer c.in-Act.released c.in-Act.is c.in-None.is) h

pub returns-in_default : goal.returns-in_default
returns-in_default c ns h = none_told c.args.e.now c.args.tallies.now ns (no_action c.args.e.now (λ lane verb g answer r is. c.in_default.not-Act lane verb g answer r is)) h
