use Rattle.std.proofs.Common.{◌≡◌, ◌<◌, ◌∙◌, ap, sym, length}
use Rattle.std.specs.Prelude.{Some, Option, ℕ}
use Rattle.spec_schedule.specs.declared.trace.TraceEvent.{TraceEvent}
use Rattle.spec_schedule.specs.declared.trace.TraceEvent.TheVariants.{Act}
use Rattle.lgx_audit.specs.Along.{program_of}
use Rattle.lgx_laws.specs.Edits.{keeps_numbers}
use Rattle.lgx_laws.proofs.EditsAt.{newest_at}
use Rattle.lgx_laws.proofs.edits.keeps_numbers.Goals as goal

pub bounds-books-g : goal.bounds-books-g
bounds-books-g c =
    let a = c.in-Act in
    let is : c.args.e.now ≡ Act a.lane a.verb (Some c.in-Some.g) a.answer a.released = a.is ∙ ap (λ (g : Option ℕ). Act a.lane a.verb g a.answer a.released) c.in-Some.is in
    c.requires c.in-Some.g (ap program_of is)

pub returns-in-Some : goal.returns-in-Some
returns-in-Some c cs ns past h =
    let a = c.in-Act in
    let g = c.in-Some.g in
    let is : c.args.e.now ≡ Act a.lane a.verb (Some g) a.answer a.released = a.is ∙ ap (λ (w : Option ℕ). Act a.lane a.verb w a.answer a.released) c.in-Some.is in
    let within : g < length c.args.books.now = c.requires g (ap program_of is) in
    c.counts_on.ensures cs ns a.lane g a.released (newest_at c.args.books.now ns past h _ g within)
    ∙ ap (λ (e : TraceEvent). keeps_numbers (record { tasks = cs; programs = ns; event = e })) (sym is)
