-- A name read from left to right, with the byte before.
use Rattle.std.proofs.Common.{◌≡◌, ◌≤◌, ◌<◌, ◌+◌, ℕ, List, [], ◌∷◌, length, drop, get_or, Bool, true, false, not, ◌&&◌, ◌||◌, arith, rules, refl, suc, add-one, drop-cons}
use Rattle.std.specs.List.{list_all}
use Rattle.std.proofs.lemmas.Grind.{common_steps}
use Rattle.std.proofs.lemmas.Slice.Eq.{bytes_eq-Decides}
use Rattle.lgx_num.specs.Laws.{SameInLowerCase}
use Rattle.std.specs.Prelude.{nat_le}
use Rattle.std.proofs.Common.{ap}
use Rattle.std.proofs.lemmas.Bool.{and_parts, and_from}
use Rattle.spec_base.specs.declared.limits.TheConstants.{MAX_NAME_BYTES}
use Rattle.lgx_num.specs.Name.{is_name, is_spelled, is_start, is_name_byte, is_underscore, has_double, ends_open, goes_on}

-- the tests at the next byte and after it are those on all that is left
next_tests : (n u v a d e : Bool) → ((n && a) && not ((u && v) || d) && not e) ≡ (n && not (u && v) && (a && not d && not e))
next_tests false u v a d e = refl
next_tests true false v a d e = refl
next_tests true true false a d e = refl
next_tests true true true false d e = refl
next_tests true true true true d e = refl

-- one byte more
pub goes_on-cons : (before c : ℕ) (cs : List ℕ) → goes_on before (c ∷ cs) ≡ (is_name_byte c && not (is_underscore before && is_underscore c) && goes_on c cs)
goes_on-cons before c cs = next_tests (is_name_byte c) (is_underscore before) (is_underscore c) (list_all is_name_byte cs) (has_double (c ∷ cs)) (ends_open (c ∷ cs))

pub goes_on_at : (before : ℕ) (rest : List ℕ) (i : ℕ) → i < length rest → goes_on before (drop i rest) ≡ (is_name_byte (get_or rest i 0) && not (is_underscore before && is_underscore (get_or rest i 0)) && goes_on (get_or rest i 0) (drop (i + 1) rest))
goes_on_at before rest i below = rw (add-one, drop-cons rest i 0) (goes_on-cons before (get_or rest i 0) (drop (suc i) rest))

-- the end
pub goes_on_past : (before : ℕ) (rest : List ℕ) (i : ℕ) → length rest ≤ i → goes_on before (drop i rest) ≡ not (is_underscore before)
goes_on_past before rest i past = let e : drop i rest ≡ [] = grind (arith, common_steps) in rw e refl

-- the comparison of names decides
pub same_in_lower_case : SameInLowerCase
same_in_lower_case a b = search (rules, bytes_eq-Decides)

-- the bytes of a name
pub name_bytes : (w : List ℕ) → is_name w ≡ true → list_all is_name_byte w ≡ true
name_bytes [] h = refl
name_bytes (c ∷ cs) h =
    let spelled = (and_parts (nat_le (length (c ∷ cs)) MAX_NAME_BYTES) (is_spelled (c ∷ cs)) h).1 in
    let two = and_parts (is_start c) (goes_on c cs) spelled in
    let rest = and_parts (list_all is_name_byte cs && not (has_double (c ∷ cs))) (not (ends_open (c ∷ cs))) two.1 in
    and_from _ _ (ap (λ b. b || (nat_le 48 c && nat_le c 57)) two.0) (and_parts (list_all is_name_byte cs) (not (has_double (c ∷ cs))) rest.0).0
