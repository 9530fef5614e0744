-- The numbers that the audit keeps are those of the definitions, program by program.
use Rattle.std.proofs.Common.{◌≡◌, ℕ, zero, suc, ◌+◌, ◌<◌, inl, inr, List, [], ◌∷◌, length, map, Option, Some, None, refl, sym, ◌∙◌, ap, subst, arith, get_or-set_same, get_or-set_other, length-set}
use Rattle.std.specs.Prelude.{slice_index_or, slice_set}
use Rattle.std.specs.List.{enumerate_from}
use Rattle.std.proofs.lemmas.Bool.{cases_eq, ne_eqb}
use Rattle.std.proofs.Common.{eq-eqb}
use Rattle.lgx_audit.specs.declared.numbers.Tally.{Tally}
use Rattle.spec_schedule.specs.declared.trace.Verb.{Verb}
use Rattle.spec_schedule.specs.declared.trace.TraceAnswer.{TraceAnswer}
use Rattle.spec_schedule.specs.declared.trace.TraceEvent.{TraceEvent}
use Rattle.spec_schedule.specs.declared.trace.TraceEvent.TheVariants.{Act}
use Rattle.spec_schedule.specs.Counting.{Numbers, unedited, edited, edited_at, edited_all}
use Rattle.lgx_audit.specs.Along.{numbers_in, no_tally, AreNumbersIn}

from_length : (e : TraceEvent) (i : ℕ) (ns : List Numbers) → length (map (λ x. edited_at x.0 e x.1) (enumerate_from i ns)) ≡ length ns
from_length e i [] = refl
from_length e i (n ∷ ns) = ap suc (from_length e (i + 1) ns)

from_at : (e : TraceEvent) (i : ℕ) (ns : List Numbers) (k : ℕ) → k < length ns → slice_index_or (map (λ x. edited_at x.0 e x.1) (enumerate_from i ns)) k unedited ≡ edited_at (i + k) e (slice_index_or ns k unedited)
from_at e i [] k h = absurd (omega arith)
from_at e i (n ∷ ns) zero h = ap (λ m. edited_at m e n) (let z : i ≡ i + 0 = omega arith in z)
from_at e i (n ∷ ns) (suc k) h = from_at e (i + 1) ns k (omega arith) ∙ ap (λ m. edited_at m e (slice_index_or ns k unedited)) (let z : i + 1 + k ≡ i + suc k = omega arith in z)

-- from what each number becomes
pub all_told : (e : TraceEvent) (old new : List Tally) (ns : List Numbers) → length new ≡ length old → AreNumbersIn old ns → ((k : ℕ) → k < length ns → (x : Numbers) → numbers_in (slice_index_or old k no_tally) ≡ x → numbers_in (slice_index_or new k no_tally) ≡ edited_at k e x) → AreNumbersIn new (edited_all e ns)
all_told e old new ns same h each =
    let l = h.many in
    let long = from_length e 0 ns in
    record {
      many = omega arith;
      each = λ k within.
          (let lt : k < length ns = omega arith in
          each k lt (slice_index_or ns k unedited) (h.each k lt)
          ∙ ap (λ m. edited_at m e (slice_index_or ns k unedited)) (let z : k ≡ 0 + k = omega arith in z) ∙ sym (from_at e 0 ns k lt));
    }

-- no edit
pub none_told : (e : TraceEvent) (ts : List Tally) (ns : List Numbers) → ((k : ℕ) (x : Numbers) → edited_at k e x ≡ x) → AreNumbersIn ts ns → AreNumbersIn ts (edited_all e ns)
none_told e ts ns same h = all_told e ts ts ns refl h (λ k within x is. is ∙ sym (same k x))

pub one_told : (lane : ℕ) (verb : Verb) (g : ℕ) (answer : TraceAnswer) (r : ℕ) (ts : List Tally) (t : Tally) (ns : List Numbers) → g < length ts → numbers_in t ≡ edited verb answer (numbers_in (slice_index_or ts g no_tally)) → AreNumbersIn ts ns → AreNumbersIn (slice_set ts g t) (edited_all (Act lane verb (Some g) answer r) ns)
one_told lane verb g answer r ts t ns within made h =
    all_told (Act lane verb (Some g) answer r) ts (slice_set ts g t) ns (length-set ts g t) h (λ k below x is. elim (cases_eq k g) [
      | inl same ↦ subst (λ n. numbers_in (slice_index_or ts n no_tally) ≡ x → numbers_in (slice_index_or (slice_set ts g t) n no_tally) ≡ edited_at n (Act lane verb (Some g) answer r) x) (sym same)
          (λ is'. ap numbers_in (get_or-set_same ts g t no_tally within) ∙ (made ∙ (ap (edited verb answer) is' ∙ sym (rw (eq-eqb g g refl) refl)))) is
      | inr other ↦ ap numbers_in (get_or-set_other ts g k t no_tally other) ∙ (is ∙ sym (rw (ne_eqb k g other) refl))
    ])

-- what is no action edits nothing
pub no_action : (e : TraceEvent) → ((lane : ℕ) (verb : Verb) (g : Option ℕ) (answer : TraceAnswer) (r : ℕ) → e ≡ Act lane verb g answer r → ⊥) → (k : ℕ) (x : Numbers) → edited_at k e x ≡ x
no_action (Act lane verb g answer r) none k x = absurd (none lane verb g answer r refl)
no_action _ none k x = refl

pub no_program : (e : TraceEvent) (lane : ℕ) (verb : Verb) (g : Option ℕ) (answer : TraceAnswer) (r : ℕ) → e ≡ Act lane verb g answer r → g ≡ None → (k : ℕ) (x : Numbers) → edited_at k e x ≡ x
no_program e lane verb g answer r is none k x = ap (λ (y : TraceEvent). edited_at k y x) is ∙ ap (λ (h : Option ℕ). edited_at k (Act lane verb h answer r) x) none
