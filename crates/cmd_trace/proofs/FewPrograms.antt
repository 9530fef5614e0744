-- A task of a valid project has no more programs than the project.
use Rattle.std.proofs.Common.{◌≡◌, ℕ, zero, suc, ◌+◌, ◌<◌, ◌≤◌, ◌^◌, ◌==◌, List, [], ◌∷◌, ◌++◌, length, Bool, true, false, cond, nat_lt, inl, inr, refl, sym, subst, arith, eqb-true}
use Rattle.std.specs.Prelude.{slice_index_or, flat_map, count_by, if◌then◌else◌}
use Rattle.std.specs.List.{list_all, range_with_len}
use Rattle.std.proofs.lemmas.Bool.{and_from, and_parts, ltb-true, leb-true, lt-ltb, cases_eq, ne_eqb}
use Rattle.std.proofs.Common.{eq-eqb, nat_le}
use Rattle.std.proofs.lemmas.List.Sums.{sum_by-cons}
use Rattle.spec_machine.specs.declared.limits.TheConstants.{MAX_PROGRAMS}
use Rattle.spec_machine.specs.Project.{Project}
use Rattle.spec_machine.specs.ValidProject.{IsValidProject, is_list_of, is_listed_once}

abbrev count_of : ℕ → List ℕ → ℕ
count_of n xs = count_by (λ m. m == n) xs

counted : (n x : ℕ) (xs : List ℕ) → count_of n (x ∷ xs) ≡ cond (x == n) 1 0 + count_of n xs
counted n x xs = sum_by-cons (λ m. cond (m == n) 1 0) x xs

abbrev one_if : Bool → ℕ
one_if b = cond b 1 0

-- ---- elements below a limit, each at most once, are no more than the limit

abbrev without : ℕ → List ℕ → List ℕ
without n [] = []
without n (x ∷ xs) = if x == n then without n xs else x ∷ without n xs

parted : (n : ℕ) (xs : List ℕ) → length xs ≡ count_of n xs + length (without n xs)
parted n [] = refl
parted n (x ∷ xs) = let c = counted n x xs in let r = parted n xs in sizes (x == n) (count_of n (x ∷ xs)) (count_of n xs) c r
  where
    sizes : (b : Bool) (all some : ℕ) → all ≡ one_if b + some → length xs ≡ some + length (without n xs) → length (x ∷ xs) ≡ all + length (if b then without n xs else x ∷ without n xs)
    sizes true all some c r = omega arith
    sizes false all some c r = omega arith

fewer : (i n : ℕ) (xs : List ℕ) → count_of i (without n xs) ≤ count_of i xs
fewer i n [] = omega arith
fewer i n (x ∷ xs) = let c = counted i x xs in let d = counted i x (without n xs) in let r = fewer i n xs in go (x == n) c d r
  where
    go : (b : Bool) → count_of i (x ∷ xs) ≡ one_if (x == i) + count_of i xs → count_of i (x ∷ without n xs) ≡ one_if (x == i) + count_of i (without n xs) → count_of i (without n xs) ≤ count_of i xs → count_of i (if b then without n xs else x ∷ without n xs) ≤ count_of i (x ∷ xs)
    go true c d r = omega arith
    go false c d r = omega arith

below : (n : ℕ) (xs : List ℕ) → list_all (λ m. nat_lt m (suc n)) xs ≡ true → list_all (λ m. nat_lt m n) (without n xs) ≡ true
below n [] h = refl
below n (x ∷ xs) h =
    let two = and_parts (nat_lt x (suc n)) (list_all (λ m. nat_lt m (suc n)) xs) h in
    let rest = below n xs two.1 in
    elim (cases_eq x n) [
      | inl e ↦ (let q : (x == n) ≡ true = eq-eqb x n e in rw q rest)
      | inr ne ↦ (let q : (x == n) ≡ false = ne_eqb x n ne in rw q (and_from _ _ (lt-ltb x n (let l = ltb-true x (suc n) two.0 in omega arith)) rest))
    ]

pub few : (n : ℕ) (xs : List ℕ) → list_all (λ m. nat_lt m n) xs ≡ true → ((i : ℕ) → i < n → count_of i xs ≤ 1) → length xs ≤ n
few zero [] h c = omega arith
few zero (x ∷ xs) h c = (let l = ltb-true x 0 (and_parts (nat_lt x 0) (list_all (λ m. nat_lt m 0) xs) h).0 in absurd (omega arith))
few (suc n) xs h c =
    let p = parted n xs in
    let one = c n (omega arith) in
    let rest = few n (without n xs) (below n xs h) (λ i l. (let f = fewer i n xs in let g = c i (omega arith) in omega arith)) in
    omega arith

-- ---- one list of a schedule

abbrev all_of : List (List ℕ) → List ℕ
all_of schedule = flat_map (λ list. list) schedule

count_append : (n : ℕ) (xs ys : List ℕ) → count_of n (xs ++ ys) ≡ count_of n xs + count_of n ys
count_append n [] ys = omega arith
count_append n (x ∷ xs) ys = let e = count_append n xs ys in let a = counted n x (xs ++ ys) in let b = counted n x xs in omega arith

in_all : (n : ℕ) (schedule : List (List ℕ)) (t : ℕ) → count_of n (slice_index_or schedule t []) ≤ count_of n (all_of schedule)
in_all n [] t = omega arith
in_all n (ns ∷ rest) zero = let a = count_append n ns (all_of rest) in omega arith
in_all n (ns ∷ rest) (suc t) = let a = count_append n ns (all_of rest) in let r = in_all n rest t in omega arith

range_at : (test : ℕ → Bool) (from many i : ℕ) → list_all test (range_with_len from many) ≡ true → i < many → test (from + i) ≡ true
range_at test from zero i h l = absurd (omega arith)
range_at test from (suc many) zero h l = let plus : from + 0 ≡ from = omega arith in subst (λ k. test k ≡ true) (sym plus) (and_parts (test from) (list_all test (range_with_len (from + 1) many)) h).0
range_at test from (suc many) (suc i) h l =
    let plus : (from + 1) + i ≡ from + suc i = omega arith in
    subst (λ k. test k ≡ true) plus (range_at test (from + 1) many i (and_parts (test from) (list_all test (range_with_len (from + 1) many)) h).1 (omega arith))

list_at : (test : List ℕ → Bool) (schedule : List (List ℕ)) (t : ℕ) → list_all test schedule ≡ true → t < length schedule → test (slice_index_or schedule t []) ≡ true
list_at test [] t h l = absurd (omega arith)
list_at test (ns ∷ rest) zero h l = (and_parts (test ns) (list_all test rest) h).0
list_at test (ns ∷ rest) (suc t) h l = list_at test rest t (and_parts (test ns) (list_all test rest) h).1 (omega arith)

module _ (p : Project) (valid : IsValidProject p) where
  pub few_in_project : length p.programs < 2 ^ 32
  few_in_project =
      let most = leb-true (length p.programs) MAX_PROGRAMS (and_parts (nat_lt 0 (length p.programs)) (nat_le (length p.programs) MAX_PROGRAMS) valid.limits.programs).1 in
      omega arith

  pub few_in_task : (t : ℕ) → t < length p.schedule → length (slice_index_or p.schedule t []) < 2 ^ 32
  few_in_task t l =
      let ns = slice_index_or p.schedule t [] in
      let known = (and_parts (nat_lt 0 (length ns)) (list_all (λ n. nat_lt n (length p.programs)) ns) (list_at (is_list_of (length p.programs)) p.schedule t valid.lists l)).1 in
      let some = few (length p.programs) ns known (λ i below. (
      let zero_plus : 0 + i ≡ i = omega arith in
      let once = subst (λ k. is_listed_once p.schedule k ≡ true) zero_plus (range_at (is_listed_once p.schedule) 0 (length p.programs) i valid.once below) in
      let one : count_of i (all_of p.schedule) ≡ 1 = eqb-true _ _ once in
      let part = in_all i p.schedule t in
      omega arith)) in
      let most = few_in_project in
      omega arith
