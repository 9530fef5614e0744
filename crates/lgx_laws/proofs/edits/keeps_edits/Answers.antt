use Rattle.std.proofs.Common.{◌≡◌, ◌∙◌, ap}
use Rattle.std.specs.Prelude.{Some, Option, ℕ}
use Rattle.spec_schedule.specs.declared.trace.TraceEvent.TheVariants.{Act}
use Rattle.lgx_audit.specs.Along.{program_of}
use Rattle.lgx_laws.proofs.edits.keeps_edits.Goals as goal

pub answers_on-right-requires : goal.answers_on-right-requires
answers_on-right-requires c =
    let a = c.in-Act in
    let is : c.args.e.now ≡ Act a.lane a.verb (Some c.in-Some.g) a.answer a.released = a.is ∙ ap (λ (g : Option ℕ). Act a.lane a.verb g a.answer a.released) c.in-Some.is in
    c.requires c.in-Some.g (ap program_of is)
