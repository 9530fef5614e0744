-- Names that are read, and the first of things that pass a test.
use Rattle.std.proofs.Common.{◌≡◌, ℕ, ◌<◌, ◌≤◌, Bool, true, false, if◌then◌else◌, List, [], ◌∷◌, length, get_or, refl, ap, arith, Option, Some, None, IsSome, IfSome, IsTrue, position}
use Rattle.std.specs.Prelude.{◌↔◌, nat_lt}
use Rattle.std.proofs.lemmas.Bool.Decides.{nat_tests}
use Rattle.std.proofs.lemmas.List.Sums.{position_or_len_is}
use Rattle.lgx_num.specs.Name.{is_name}

pub read_name : (text : List ℕ) (o : Option (List ℕ)) → (IsSome o ↔ IsTrue (is_name text)) → IfSome o (λ name. name ≡ text) → o ≡ (if is_name text then Some text else None)
read_name text o found bytes = go (is_name text) o found bytes
  where
    go : (b : Bool) (o : Option (List ℕ)) → (IsSome o ↔ IsTrue b) → IfSome o (λ name. name ≡ text) → o ≡ (if b then Some text else None)
    go true (Some name) found bytes = ap Some bytes
    go true None found bytes = absurd (cc (found.1 refl))
    go false (Some name) found bytes = absurd (cc (found.0 refl))
    go false None found bytes = refl

pub position_here : {X : Type 0} (p : X → Bool) (xs : List X) (i : ℕ) (d : X) → i < length xs → ((k : ℕ) (d : X) → k < i → p (get_or xs k d) ≡ false) → p (get_or xs i d) ≡ true → Some i ≡ position p xs
position_here p xs i d h before here =
    let at = position_or_len_is p xs i d (omega arith) (λ k l. before k d l) (λ _. here) in
    let yes : nat_lt i (length xs) ≡ true = grind (arith, nat_tests) in
    rw (at, yes) refl

pub position_none : {X : Type 0} (p : X → Bool) (xs : List X) (n : ℕ) → length xs ≤ n → ((k : ℕ) (d : X) → k < n → p (get_or xs k d) ≡ false) → None ≡ position p xs
position_none p [] n h none = refl
position_none p (x ∷ xs) n h none =
    let at = position_or_len_is p (x ∷ xs) (length (x ∷ xs)) x (omega arith) (λ k l. none k x (omega arith)) (λ l. absurd (omega arith)) in
    let no : nat_lt (length (x ∷ xs)) (length (x ∷ xs)) ≡ false = grind (arith, nat_tests) in
    rw (at, no) refl
