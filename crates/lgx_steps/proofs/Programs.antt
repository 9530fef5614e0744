-- Where there is a task, there is a program: that of its list.
use Rattle.std.proofs.Common.{◌≡◌, ℕ, ◌<◌, List, length, sym, ap, ◌∙◌, subst, arith}
use Rattle.std.specs.Prelude.{slice_index}
use Rattle.std.proofs.lemmas.List.{length-map}
use Rattle.spec_machine.specs.Edits.{Book}
use Rattle.spec_machine.specs.State.{State}
use Rattle.lgx_edit.specs.EditsView.{EditsView}
use Rattle.lgx_steps.specs.PartsView.{PartsView}
use Rattle.lgx_steps.specs.Plans.{IsList, list_at}
use Rattle.lgx_steps.specs.Represents.{RepresentsState}

pub some-program : (n : ℕ) (v : PartsView) (s : State) → RepresentsState n v s → 0 < length v.progress → 0 < length v.book
some-program n v s h some =
    let task : 0 < length s.plan.schedule = subst (λ k. 0 < k) h.progresses some in
    let list : IsList s.plan.tags.programs (list_at s.plan.schedule 0) = h.sane.plan.lists 0 task in
    let known : slice_index (list_at s.plan.schedule 0) 0 < s.plan.tags.programs = list.known 0 list.some in
    let many : length s.books ≡ s.plan.tags.programs = h.sane.programs in
    let seen : length v.book ≡ length s.books = sym (length-map v.book (λ (e : EditsView). e.book)) ∙ ap (λ (bs : List Book). length bs) h.books in
    omega arith
