use Rattle.std.proofs.Common.{◌≡◌, ◌∙◌, sym, ap, subst}
use Rattle.std.specs.Prelude.{Some, Option, ℕ, ◌∷◌, slice_set}
use Rattle.spec_schedule.specs.declared.trace.TraceEvent.{TraceEvent}
use Rattle.spec_schedule.specs.declared.trace.TraceEvent.TheVariants.{Act}
use Rattle.spec_schedule.specs.Counting.{edited_all}
use Rattle.lgx_audit.specs.Along.{program_of}
use Rattle.lgx_audit.proofs.Tallies.{no_action as no_edit, no_program as no_edited}
use Rattle.lgx_laws.specs.Kept.{Books}
use Rattle.lgx_laws.proofs.BooksOn.{books_kept, books_set, no_action, no_program}
use Rattle.lgx_laws.proofs.edits.book_event.Goals as goal

pub returns-in-Some : goal.returns-in-Some
returns-in-Some c cs ns past h =
    let a = c.in-Act in
    let is : c.args.e.now ≡ Act a.lane a.verb (Some c.in-Some.g) a.answer a.released = a.is ∙ ap (λ (g : Option ℕ). Act a.lane a.verb g a.answer a.released) c.in-Some.is in
    subst (λ (e : TraceEvent). Books (slice_set c.args.books.now c.in-Some.g c.booked_by.result) (edited_all e ns) (record { tasks = cs; programs = ns; event = e } ∷ past)) (sym is)
    (books_set a.lane a.released c.in-Some.g a.verb a.answer c.args.books.now cs ns past (c.requires c.in-Some.g (ap program_of is)) h c.booked_by.result c.booked_by.ensures)

pub returns-in-None : goal.returns-in-None
returns-in-None c cs ns past h =
    let a = c.in-Act in
    books_kept c.args.e.now c.args.books.now cs ns past h (no_edited c.args.e.now a.lane a.verb a.program a.answer a.released a.is c.in-None.is) (no_program c.args.e.now a.lane a.verb a.program a.answer a.released a.is c.in-None.is)

pub returns-in_default : goal.returns-in_default
returns-in_default c cs ns past h =
    books_kept c.args.e.now c.args.books.now cs ns past h (no_edit c.args.e.now (λ lane verb g answer r is. c.in_default.not-Act lane verb g answer r is)) (no_action c.args.e.now (λ lane verb g answer r is. c.in_default.not-Act lane verb g answer r is))
