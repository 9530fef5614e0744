-- As long as there are few, all faults are kept; and lists that agree up to a place and at it.
use Rattle.std.proofs.Common.{◌≡◌, ℕ, ◌+◌, ◌-◌, ◌<◌, ◌≤◌, List, [], ◌∷◌, ◌++◌, length, drop, take, Some, slice_get, subst, sym, ◌∙◌, ap, arith}
use Rattle.std.proofs.lemmas.List.{take_more, length-take-le}
use Rattle.std.proofs.lemmas.Option.{slice_get_within, get_or_from_slice_get}
use Rattle.circular_buffer.proofs.Places.{slice_get-some}
use Rattle.spec_base.specs.declared.limits.TheConstants.{FAULT_LOG_LENGTH}
use Rattle.spec_tables.specs.declared.fault.Fault.{Fault}
use Rattle.lgx_fault.specs.Kept.{last_faults}

few_are_kept : (all : List Fault) → length all ≤ FAULT_LOG_LENGTH → last_faults all ≡ all
few_are_kept all few = ap (λ m. drop m all) (none (length all) few)
  where
    none : (m : ℕ) → m ≤ FAULT_LOG_LENGTH → m - FAULT_LOG_LENGTH ≡ 0
    none m few = omega (arith, few)

-- one more of a list, which is this one
one_more : (all : List Fault) (i : ℕ) (f : Fault) → slice_get all i ≡ Some f → take (i + 1) all ≡ take i all ++ f ∷ []
one_more all i f at =
    take_more all i f (slice_get_within all i f at) ∙ ap (λ x. take i all ++ x ∷ []) (get_or_from_slice_get all i f f at)

pub next_kept : (all : List Fault) (i : ℕ) (f : Fault) → length all ≤ FAULT_LOG_LENGTH → slice_get all i ≡ Some f → last_faults (take i all ++ f ∷ []) ≡ take (i + 1) all
next_kept all i f few at =
    ap last_faults (sym (one_more all i f at)) ∙ few_are_kept (take (i + 1) all) at-most
  where
    -- so many were taken
    at-most : length (take (i + 1) all) ≤ FAULT_LOG_LENGTH
    at-most =
        let within : i < length all = slice_get_within all i f at in
        let taken : length (take (i + 1) all) ≡ i + 1 = length-take-le (i + 1) all (omega (arith, within)) in
        omega (arith, taken, within, few)

pub next_same : (xs ys : List Fault) (i : ℕ) → i < length xs → take i xs ≡ take i ys → slice_get xs i ≡ slice_get ys i → take (i + 1) xs ≡ take (i + 1) ys
next_same xs ys i within before here =
    let it = slice_get-some xs i within in
    one_more xs i it.0 it.1 ∙ ap (λ zs. zs ++ it.0 ∷ []) before ∙ sym (one_more ys i it.0 (sym here ∙ it.1))
