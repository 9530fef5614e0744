-- The lines of a journal with one more event, by recursion over the journal.
use Rattle.std.proofs.Common.{◌≡◌, ℕ, ◌+◌, Bool, true, false, cond, List, [], ◌∷◌, ◌++◌, sym, ap, ◌∙◌, arith, append_assoc}
use Rattle.std.proofs.lemmas.List.{append-nil}
use Rattle.std.proofs.lemmas.List.Sums.{sum_by-cons}
use Rattle.spec_machine.specs.declared.event.Event.{Event}
use Rattle.spec_machine.specs.Project.{Watch}
use Rattle.spec_machine.specs.State.{State, start}
use Rattle.spec_machine.specs.Machine.{step, run_from}
use Rattle.spec_machine.specs.Report.{is_step, steps_of, lines_from}
use Rattle.lgx_watch.specs.JournalLines.{lines_of_event, OneMoreEvent}

-- an event and then the others are counted as all of them are
counted : (n : ℕ) (x : Event) (journal : List Event) → cond (is_step x) (n + 1) n + steps_of journal ≡ n + steps_of (x ∷ journal)
counted n x journal = by_test (is_step x) ∙ ap (λ m. n + m) (sym (sum_by-cons (λ e. cond (is_step e) 1 0) x journal))
  where
    by_test : (b : Bool) → cond b (n + 1) n + steps_of journal ≡ n + (cond b 1 0 + steps_of journal)
    by_test true = omega arith
    by_test false = omega arith

lines_more : (watches : List Watch) (s : State) (n : ℕ) (journal : List Event) (e : Event) → lines_from watches s n (journal ++ e ∷ []) ≡ lines_from watches s n journal ++ lines_of_event watches (run_from s journal) (n + steps_of journal) e
lines_more watches s n [] e = append-nil (lines_of_event watches s n e) ∙ ap (λ m. lines_of_event watches s m e) (omega arith)
lines_more watches s n (x ∷ journal) e =
    let after = (step s x).state in
    let first = lines_of_event watches s n x in
    let others = lines_from watches after (cond (is_step x) (n + 1) n) journal in
    ap (λ rest. first ++ rest) (lines_more watches after (cond (is_step x) (n + 1) n) journal e)
    ∙ sym (append_assoc first others _)
    ∙ ap (λ m. (first ++ others) ++ lines_of_event watches (run_from after journal) m e) (counted n x journal)

pub one_more_event : OneMoreEvent
one_more_event project journal e = lines_more project.watches (start project) 0 journal e ∙ ap (λ m. lines_from project.watches (start project) 0 journal ++ lines_of_event project.watches (run_from (start project) journal) m e) (omega arith)
