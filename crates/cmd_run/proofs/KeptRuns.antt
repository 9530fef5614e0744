-- One more run that its type keeps.
use Rattle.std.proofs.Common.{◌≡◌, ℕ, zero, suc, ◌+◌, ◌<◌, List, [], ◌∷◌, length, take, slice_index_or, refl, sym, ap, ◌∙◌, add-one, subst, arith}
use Rattle.std.specs.Prelude.{IsTrue}
use Rattle.std.specs.List.{list_all}
use Rattle.std.proofs.lemmas.Bool.{and_from, and_parts}
use Rattle.spec_machine.specs.declared.event.Event.{Event}
use Rattle.spec_text.specs.declared.script.EventRun.{EventRun}
use Rattle.lgx_journal.specs.Written.{event_run, is_kept_run}

one_more : (rs : List EventRun) (i : ℕ) (d : EventRun) → i < length rs → IsTrue (list_all is_kept_run (take i rs))
    → IsTrue (is_kept_run (slice_index_or rs i d)) → IsTrue (list_all is_kept_run (take (suc i) rs))
one_more [] i d below h k = absurd (omega arith)
one_more (r ∷ rs) zero d below h k = and_from _ _ k refl
one_more (r ∷ rs) (suc i) d below h k =
    let two = and_parts (is_kept_run r) (list_all is_kept_run (take i rs)) h in
    and_from _ _ two.0 (one_more rs i d (omega arith) two.1 k)

pub kept_next : (rs : List EventRun) (i : ℕ) (d : EventRun) (e : Event) (n : ℕ) → i < length rs
    → e ≡ (slice_index_or rs i d).event → n ≡ (slice_index_or rs i d).count
    → IsTrue (list_all is_kept_run (take i rs)) → IsTrue (is_kept_run (event_run e n)) → IsTrue (list_all is_kept_run (take (i + 1) rs))
kept_next rs i d e n below event count h k =
    let P : EventRun → Type 0 = λ r. IsTrue (is_kept_run r) in
    let here = subst P (ap (λ (x : Event). event_run x n) event ∙ ap (λ m. event_run (slice_index_or rs i d).event m) count) k in
    subst (λ m. IsTrue (list_all is_kept_run (take m rs))) (sym (add-one i)) (one_more rs i d below h here)
