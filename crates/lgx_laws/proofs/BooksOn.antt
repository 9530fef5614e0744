-- What is kept of programs after one event more is what the definitions count back.
use Rattle.std.proofs.Common.{◌≡◌, ℕ, zero, suc, ◌+◌, ◌<◌, inl, inr, List, [], ◌∷◌, length, map, Option, Some, None, refl, sym, ◌∙◌, ap, subst, arith, eq-eqb, get_or-set_same, get_or-set_other, length-set}
use Rattle.std.specs.Prelude.{replicate, slice_index_or, slice_set}
use Rattle.std.specs.List.{enumerate_from}
use Rattle.std.proofs.lemmas.Bool.{cases_eq, ne_eqb}
use Rattle.std.proofs.lemmas.List.{length-replicate, get_or-replicate}
use Rattle.spec_schedule.specs.declared.trace.Verb.{Verb}
use Rattle.spec_schedule.specs.declared.trace.Verb.TheVariants as verb
use Rattle.spec_schedule.specs.declared.trace.TraceAnswer.{TraceAnswer}
use Rattle.spec_schedule.specs.declared.trace.TraceAnswer.TheVariants as answer
use Rattle.spec_schedule.specs.declared.trace.TraceEvent.{TraceEvent}
use Rattle.spec_schedule.specs.declared.trace.TraceEvent.TheVariants.{Act}
use Rattle.spec_schedule.specs.Counting.{Counted, CountedEvent, Numbers, unedited, edited, edited_at, edited_all}
use Rattle.lgx_laws.specs.declared.edits.Booked.{Booked}
use Rattle.lgx_laws.specs.Edits.{Owned, owned_by, owned_after, owned}
use Rattle.lgx_laws.specs.Kept.{no_booked, booked, owned_in, numbers_in, Books}

-- ---- the numbers after an event, program by program

edited_many : (e : TraceEvent) (i : ℕ) (ns : List Numbers) → length (map (λ x. edited_at x.0 e x.1) (enumerate_from i ns)) ≡ length ns
edited_many e i [] = refl
edited_many e i (n ∷ ns) = ap suc (edited_many e (i + 1) ns)

edited_each : (e : TraceEvent) (i : ℕ) (ns : List Numbers) (k : ℕ) → k < length ns → slice_index_or (map (λ x. edited_at x.0 e x.1) (enumerate_from i ns)) k unedited ≡ edited_at (i + k) e (slice_index_or ns k unedited)
edited_each e i [] k h = absurd (omega arith)
edited_each e i (n ∷ ns) zero h = ap (λ m. edited_at m e n) (let z : i ≡ i + 0 = omega arith in z)
edited_each e i (n ∷ ns) (suc k) h = edited_each e (i + 1) ns k (omega arith) ∙ ap (λ m. edited_at m e (slice_index_or ns k unedited)) (let z : i + 1 + k ≡ i + suc k = omega arith in z)

-- ---- an event more

module _ (e : TraceEvent) (old : List Booked) (cs : List Counted) (ns : List Numbers) (past : List CountedEvent) (h : Books old ns past) where
  abbrev later : List CountedEvent
  later = record { tasks = cs; programs = ns; event = e } ∷ past

  -- what is to be kept of a program
  abbrev wanted : ℕ → Booked
  wanted k = booked (edited_at k e (slice_index_or ns k unedited)) (owned_after k e (owned k past))

  books_all : (new : List Booked) → length new ≡ length old → ((k : ℕ) → k < length ns → slice_index_or new k no_booked ≡ wanted k) → Books new (edited_all e ns) later
  books_all new same each =
      let l = h.many in
      let long = edited_many e 0 ns in
      record {
        many = omega arith;
        each = λ k within.
            (let lt : k < length ns = omega arith in
            each k lt
            ∙ ap (λ n. booked n (owned_after k e (owned k past))) (ap (λ m. edited_at m e (slice_index_or ns k unedited)) (let z : k ≡ 0 + k = omega arith in z) ∙ sym (edited_each e 0 ns k lt)));
      }

  -- no edit
  pub books_kept : ((k : ℕ) (n : Numbers) → edited_at k e n ≡ n) → ((k : ℕ) (o : Owned) → owned_after k e o ≡ o) → Books old (edited_all e ns) later
  books_kept edits owners = books_all old refl (λ k l. h.each k l ∙ (ap (λ n. booked n (owned k past)) (sym (edits k (slice_index_or ns k unedited))) ∙ ap (booked (edited_at k e (slice_index_or ns k unedited))) (sym (owners k (owned k past)))))

-- the base's number decides of no other
base_aside : (v : Verb) (a : TraceAnswer) (n : Numbers) (o : Owned) → booked (edited v a (numbers_in (booked n o))) (owned_by 0 v a o) ≡ booked (edited v a n) (owned_by 0 v a o)
base_aside verb.Accept answer.Done n o = refl
base_aside verb.Accept (answer.Number k) n o = refl
base_aside verb.Accept answer.No n o = refl
base_aside verb.Test answer.Done n o = refl
base_aside verb.Test (answer.Number k) n o = refl
base_aside verb.Test answer.No n o = refl
base_aside verb.Untest answer.Done n o = refl
base_aside verb.Untest (answer.Number k) n o = refl
base_aside verb.Untest answer.No n o = refl
base_aside verb.Assemble answer.Done n o = refl
base_aside verb.Assemble (answer.Number k) n o = refl
base_aside verb.Assemble answer.No n o = refl
base_aside verb.Cancel answer.Done n o = refl
base_aside verb.Cancel (answer.Number k) n o = refl
base_aside verb.Cancel answer.No n o = refl
base_aside verb.Run a n o = refl
base_aside verb.Program a n o = refl
base_aside verb.Clear a n o = refl
base_aside verb.Other a n o = refl

-- an edit of one program
module _ (lane mask g : ℕ) (v : Verb) (a : TraceAnswer) (old : List Booked) (cs : List Counted) (ns : List Numbers) (past : List CountedEvent) (within : g < length old) (h : Books old ns past) where
  abbrev e : TraceEvent
  e = Act lane v (Some g) a mask

  -- the numbers and the owner that come of it
  same_numbers : (n : Numbers) (o x : Owned) → booked (edited v a (numbers_in (booked n o))) x ≡ booked (edited v a n) x
  same_numbers n o x = ap (λ (b : Booked). let y : Booked = record { newest = b.newest; testing = b.testing; owner = x.owner; tested = x.tested } in y) (base_aside v a n o)

  made_here : (b : Booked) → b ≡ booked (edited v a (numbers_in (slice_index_or old g no_booked))) (owned_by lane v a (owned_in (slice_index_or old g no_booked))) → b ≡ booked (edited v a (slice_index_or ns g unedited)) (owned_by lane v a (owned g past))
  made_here b is =
      let l = h.many in
      is ∙ (ap (λ (x : Booked). booked (edited v a (numbers_in x)) (owned_by lane v a (owned_in x))) (h.each g (omega arith))
      ∙ same_numbers (slice_index_or ns g unedited) (owned g past) (owned_by lane v a (owned g past)))

  pub books_set : (b : Booked) → b ≡ booked (edited v a (numbers_in (slice_index_or old g no_booked))) (owned_by lane v a (owned_in (slice_index_or old g no_booked))) → Books (slice_set old g b) (edited_all e ns) (record { tasks = cs; programs = ns; event = e } ∷ past)
  books_set b is =
      books_all e old cs ns past h (slice_set old g b) (length-set old g b) (λ k l. elim (cases_eq k g) [
        | inl same ↦ subst (λ n. slice_index_or (slice_set old g b) n no_booked ≡ wanted e old cs ns past h n) (sym same)
            (get_or-set_same old g b no_booked within ∙ (made_here b is ∙ sym (rw (eq-eqb g g refl) refl)))
        | inr other ↦ get_or-set_other old g k b no_booked other ∙ (h.each k l ∙ sym (rw (ne_eqb k g other) refl))
      ])

-- what is no action is no edit
pub no_action : (e : TraceEvent) → ((lane : ℕ) (v : Verb) (g : Option ℕ) (a : TraceAnswer) (r : ℕ) → e ≡ Act lane v g a r → ⊥) → (k : ℕ) (o : Owned) → owned_after k e o ≡ o
no_action (Act lane v g a r) none k o = absurd (none lane v g a r refl)
no_action _ none k o = refl

pub no_program : (e : TraceEvent) (lane : ℕ) (v : Verb) (g : Option ℕ) (a : TraceAnswer) (r : ℕ) → e ≡ Act lane v g a r → g ≡ None → (k : ℕ) (o : Owned) → owned_after k e o ≡ o
no_program e lane v g a r is none k o = ap (λ (y : TraceEvent). owned_after k y o) is ∙ ap (λ (h : Option ℕ). owned_after k (Act lane v h a r) o) none

-- ---- at the start nothing is

numbers_first : (n g : ℕ) → slice_index_or (replicate n unedited) g unedited ≡ unedited
numbers_first zero g = refl
numbers_first (suc n) zero = refl
numbers_first (suc n) (suc g) = numbers_first n g

pub books_first : (programs : ℕ) (xs : List Booked) → xs ≡ replicate programs no_booked → Books xs (replicate programs unedited) [] × (length xs ≡ programs)
books_first programs xs is =
    let long : length xs ≡ programs = ap length is ∙ length-replicate programs no_booked in
    let m = length-replicate programs unedited in (
      record {
        many = long ∙ sym m;
        each = λ g within. (ap (λ (ys : List Booked). slice_index_or ys g no_booked) is ∙ (get_or-replicate programs g no_booked no_booked (omega arith) ∙ ap (λ n. booked n (owned g [])) (sym (numbers_first programs g))));
      },
      long,
    )
