-- The word that tells which queues have a task.
use Rattle.std.proofs.Common.{◌≡◌, ◌≢◌, ℕ, ◌<◌, ◌*◌, ◌^◌, ◌%◌, zero, suc, List, [], ◌∷◌, length, get_or, bit_and, None, inl, inr, refl, sym, ap, ◌∙◌, arith}
use Rattle.std.specs.List.{slice_get}
use Rattle.std.specs.Int.{w32, bit_at, bit_not}
use Rattle.std.proofs.lemmas.Bool.{cases_lt}
use Rattle.std.proofs.lemmas.Nat.{and_le_l}
use Rattle.std.proofs.lemmas.Nat.Bits.{bit_at_above, bit_at_clear_other}
use Rattle.std.proofs.lemmas.List.{get_or_past}
use Rattle.lgx_sched.specs.TableView.{front_of}
use Rattle.lgx_sched.specs.ReadyBits.{ready_bit}

-- ---- the front

both : (n : ℕ) → n ≡ 0 → n ≡ 1 → ⊥
both n e e' = omega arith

pub ready-within : (qs : List (List ℕ)) (p : ℕ) → ready_bit (get_or qs p []) ≡ 1 → p < length qs
ready-within qs p e = elim (cases_lt p (length qs)) [
  | inl l ↦ l
  | inr past ↦ absurd (both (ready_bit (get_or qs p [])) (ap ready_bit (get_or_past qs p [] past)) e)
]

-- the front is that of the first queue that has a task
pub front-first : (qs : List (List ℕ)) (p : ℕ) → ready_bit (get_or qs p []) ≡ 1 → ((k : ℕ) → k < p → ready_bit (get_or qs k []) ≡ 0) → slice_get (get_or qs p []) 0 ≡ front_of qs
front-first [] p e h = refl
front-first ([] ∷ qs) zero e h = absurd (both 0 refl e)
front-first ([] ∷ qs) (suc p) e h = front-first qs p e (λ k l. h (suc k) (omega arith))
front-first ((t ∷ q) ∷ qs) zero e h = refl
front-first ((t ∷ q) ∷ qs) (suc p) e h = absurd (both 1 (h 0 (omega arith)) refl)

pub front-nowhere : (qs : List (List ℕ)) → ((k : ℕ) → ready_bit (get_or qs k []) ≡ 0) → None ≡ front_of qs
front-nowhere [] h = refl
front-nowhere ([] ∷ qs) h = front-nowhere qs (λ k. h (suc k))
front-nowhere ((t ∷ q) ∷ qs) h = absurd (both 1 (h 0) refl)

-- ---- the word

-- a bit that is cleared leaves the others, also those beyond the word
pub cleared-other : (word k i : ℕ) → k < 32 → word < 2 ^ 32 → i ≢ k → bit_at (bit_and word (bit_not w32 (1 * 2 ^ k % 2 ^ 32))) i ≡ bit_at word i
cleared-other word k i within fits ne = elim (cases_lt i 32) [
  | inl l ↦ bit_at_clear_other w32 word k within i l ne
  | inr past ↦ bit_at_above (bit_and word (bit_not w32 (1 * 2 ^ k % 2 ^ 32))) 32 i (omega (arith, and_le_l word (bit_not w32 (1 * 2 ^ k % 2 ^ 32)))) past ∙ sym (bit_at_above word 32 i fits past)
]
