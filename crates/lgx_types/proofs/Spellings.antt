-- A name is found by its spelling as it is found among the names.
use Rattle.std.proofs.Common.{◌≡◌, ℕ, ◌+◌, ◌<◌, List, [], ◌∷◌, ◌++◌, length, map, Bool, true, false, cond, not, ◌&&◌, zero, suc, Option, Some, None, is_some, refl, sym, ap, subst, arith, ◌∙◌, length-append, leb-true}
use Rattle.std.specs.Prelude.{Vec, option_map, slice_index, position, nat_le, if◌then◌else◌, IsTrue, IfSome}
use Rattle.std.specs.Option.{option_or}
use Rattle.std.specs.declared.alloc.Global.{Global}
use Rattle.std.specs.Char.{to_ascii_lowercase}
use Rattle.std.specs.List.{AllByRecursion as Each, position_from, list_any}
use Rattle.std.proofs.lemmas.List.{length-map}
use Rattle.std.proofs.lemmas.Iterator.Adapters.{position_from-zero}
use Rattle.std.proofs.lemmas.Slice.Eq.{bytes_eq-Decides}
use Rattle.spec_base.specs.declared.limits.TheConstants.{MAX_NAME_BYTES}
use Rattle.spec_base.proofs.Lists.{any_some, each_append, pointwise_sym}
use Rattle.lgx_num.specs.Name.{same, is_name, is_spelled}
use Rattle.lgx_types.specs.Spellings.{finds, IsShort, IsIndex}

abbrev pub Spellings : Type 0
Spellings = List (Vec ℕ Global)

abbrev pub lower : List ℕ → List ℕ
lower text = map to_ascii_lowercase text

one_spelling : (spelling : Vec ℕ Global) (name text : List ℕ) → spelling.items ≡ lower name → finds (lower text) spelling ≡ same name text
one_spelling spelling name text p = rw p (pointwise_sym (lower text) (lower name))

-- ---- positions

position_more : {A : Type 0} (test : A → Bool) (xs : List A) (x : A) (i : ℕ) → position_from test i (xs ++ x ∷ []) ≡ option_or (position_from test i xs) (cond (test x) (Some (i + length xs)) None)
position_more test [] x i = go (test x)
  where
    go : (b : Bool) → cond b (Some i) None ≡ cond b (Some (i + 0)) None
    go true = ap Some (omega arith)
    go false = refl
position_more test (y ∷ xs) x i = go (test y) (position_more test xs x (i + 1))
  where
    shift : (b : Bool) → cond b (Some (i + 1 + length xs)) None ≡ cond b (Some (i + suc (length xs))) None
    shift true = ap Some (omega arith)
    shift false = refl

    go : (b : Bool) → position_from test (i + 1) (xs ++ x ∷ []) ≡ option_or (position_from test (i + 1) xs) (cond (test x) (Some (i + 1 + length xs)) None) → cond b (Some i) (position_from test (i + 1) (xs ++ x ∷ [])) ≡ option_or (cond b (Some i) (position_from test (i + 1) xs)) (cond (test x) (Some (i + suc (length xs))) None)
    go true e = refl
    go false e = e ∙ ap (option_or (position_from test (i + 1) xs)) (shift (test x))

position_end : {A : Type 0} (test : A → Bool) (xs : List A) (x : A) → position_from test 0 (xs ++ x ∷ []) ≡ option_or (position_from test 0 xs) (cond (test x) (Some (length xs)) None)
position_end test xs x = let zero_plus : 0 + length xs ≡ length xs = omega arith in subst (λ (n : ℕ). position_from test 0 (xs ++ x ∷ []) ≡ option_or (position_from test 0 xs) (cond (test x) (Some n) None)) zero_plus (position_more test xs x 0)

position_low : {A : Type 0} (test : A → Bool) (xs : List A) (i k : ℕ) → position_from test i xs ≡ Some k → k < i + length xs
position_low test [] i k p = absurd (cc p)
position_low test (x ∷ xs) i k p = go (test x) p (position_low test xs (i + 1) k)
  where
    go : (b : Bool) → cond b (Some i) (position_from test (i + 1) xs) ≡ Some k → (position_from test (i + 1) xs ≡ Some k → k < i + 1 + length xs) → k < i + suc (length xs)
    go true q known = let e : i ≡ k = cc q in omega arith
    go false q known = omega (arith, known q)

index_before : (xs : List ℕ) (x k : ℕ) → k < length xs → slice_index (xs ++ x ∷ []) k ≡ slice_index xs k
index_before [] x k h = absurd (omega arith)
index_before (y ∷ xs) x zero h = refl
index_before (y ∷ xs) x (suc k) h = index_before xs x k (omega arith)

index_last : (xs : List ℕ) (x : ℕ) → slice_index (xs ++ x ∷ []) (length xs) ≡ x
index_last [] x = refl
index_last (y ∷ xs) x = index_last xs x

-- ---- a name more

module _ (names : List (List ℕ)) (spellings : Spellings) (firsts : List ℕ) (name : List ℕ) (spelling : Vec ℕ Global) (h : IsIndex names spellings firsts) (small : IsShort name) (spelled : spelling.items ≡ lower name) where
  all_short : Each IsShort (names ++ name ∷ [])
  all_short = each_append IsShort names (name ∷ []) h.short (small, tt)

  -- of a new spelling
  with_new : IsIndex (names ++ name ∷ []) (spellings ++ spelling ∷ []) (firsts ++ length names ∷ [])
  with_new = record { short = all_short; long = omega (arith, length-append firsts (length names ∷ []), length-append spellings (spelling ∷ []), h.long); found = λ text. found text (position_from (finds (lower text)) 0 spellings) refl }
    where
      found : (text : List ℕ) (o : Option ℕ) → position_from (finds (lower text)) 0 spellings ≡ o → option_map (λ k. slice_index (firsts ++ length names ∷ []) k) (position_from (finds (lower text)) 0 (spellings ++ spelling ∷ [])) ≡ position_from (λ name. same name text) 0 (names ++ name ∷ [])
      found text o q = rw (position_end (finds (lower text)) spellings spelling, position_end (λ name. same name text) names name, one_spelling spelling name text spelled, ← h.found text, q) (go o q (same name text))
        where
          go : (o : Option ℕ) → position_from (finds (lower text)) 0 spellings ≡ o → (b : Bool) → option_map (λ k. slice_index (firsts ++ length names ∷ []) k) (option_or o (cond b (Some (length spellings)) None)) ≡ option_or (option_map (λ k. slice_index firsts k) o) (cond b (Some (length names)) None)
          go (Some k) q b = ap Some (index_before firsts (length names) k (omega (arith, h.long, position_low (finds (lower text)) spellings 0 k q)))
          go None q true = ap Some (subst (λ (n : ℕ). slice_index (firsts ++ length names ∷ []) n ≡ length names) h.long (index_last firsts (length names)))
          go None q false = refl

  -- of a spelling that is there
  with_old : list_any (finds (lower name)) spellings ≡ true → IsIndex (names ++ name ∷ []) spellings firsts
  with_old there = record { short = all_short; long = h.long; found = λ text. found text (position_from (finds (lower text)) 0 spellings) refl (same name text) refl }
    where
      found : (text : List ℕ) (o : Option ℕ) → position_from (finds (lower text)) 0 spellings ≡ o → (b : Bool) → same name text ≡ b → option_map (λ k. slice_index firsts k) (position_from (finds (lower text)) 0 spellings) ≡ position_from (λ name. same name text) 0 (names ++ name ∷ [])
      found text o q b r = rw (position_end (λ name. same name text) names name, ← h.found text, q, r) (go o q b r)
        where
          go : (o : Option ℕ) → position_from (finds (lower text)) 0 spellings ≡ o → (b : Bool) → same name text ≡ b → option_map (λ k. slice_index firsts k) o ≡ option_or (option_map (λ k. slice_index firsts k) o) (cond b (Some (length names)) None)
          go (Some k) q b r = refl
          go None q false r = refl
          go None q true r =
              let one : lower name ≡ lower text = (bytes_eq-Decides (lower name) (lower text)).0 r in
              let some : is_some (position_from (finds (lower text)) 0 spellings) ≡ true = subst (λ (t : List ℕ). is_some (position_from (finds t) 0 spellings) ≡ true) one (sym (any_some (finds (lower name)) spellings 0) ∙ there) in
              absurd (cc (some, ap is_some q))

  pub with_one_more : (names' : List (List ℕ)) (spellings' : Spellings) (firsts' : List ℕ) (is_new : Bool) (number : ℕ) → names' ≡ names ++ name ∷ [] → is_new ≡ not (list_any (finds spelling.items) spellings) → spellings' ≡ (if list_any (finds spelling.items) spellings then spellings else spellings ++ spelling ∷ []) → number ≡ length names → firsts' ≡ (if is_new then firsts ++ number ∷ [] else firsts) → IsIndex names' spellings' firsts'
  with_one_more names' spellings' firsts' is_new number p t q n r = rw (p, q, r, t, n) (go (list_any (finds spelling.items) spellings) refl)
    where
      go : (b : Bool) → list_any (finds spelling.items) spellings ≡ b → IsIndex (names ++ name ∷ []) (if b then spellings else spellings ++ spelling ∷ []) (if not b then firsts ++ length names ∷ [] else firsts)
      go true e = with_old (subst (λ (t : List ℕ). list_any (finds t) spellings ≡ true) spelled e)
      go false e = with_new

-- ---- what is found

pub name_short : (name : List ℕ) → IsTrue (is_name name) → IsShort name
name_short name h = leb-true (length name) MAX_NAME_BYTES (first (nat_le (length name) MAX_NAME_BYTES) (is_spelled name) h)
  where
    first : (a b : Bool) → IsTrue (a && b) → a ≡ true
    first true b h = refl
    first false b h = absurd (let f : false ≡ true → ⊥ = λ p. cc in f h)

-- no name is the same as a longer text
none_long : (names : List (List ℕ)) (text : List ℕ) (i : ℕ) → Each IsShort names → MAX_NAME_BYTES < length text → position_from (λ name. same name text) i names ≡ None
none_long [] text i h long = refl
none_long (name ∷ names) text i h long = go (same name text) refl (none_long names text (i + 1) h.1 long)
  where
    go : (b : Bool) → same name text ≡ b → position_from (λ name. same name text) (i + 1) names ≡ None → cond b (Some i) (position_from (λ name. same name text) (i + 1) names) ≡ None
    go true p e =
        let one : length (lower name) ≡ length (lower text) = ap length ((bytes_eq-Decides (lower name) (lower text)).0 p) in
        absurd (omega (arith, one, h.0, long, length-map name to_ascii_lowercase, length-map text to_ascii_lowercase))
    go false p e = e

pub long_number : (names : List (List ℕ)) (spellings : Spellings) (firsts : List ℕ) (text : List ℕ) → IsIndex names spellings firsts → MAX_NAME_BYTES < length text → position (λ name. same name text) names ≡ None
long_number names spellings firsts text h long = position_from-zero (λ name. same name text) names ∙ none_long names text 0 h.short long

pub number_is : (names : List (List ℕ)) (spellings : Spellings) (firsts : List ℕ) (text spelling : List ℕ) → IsIndex names spellings firsts → spelling ≡ lower text → option_map (λ k. slice_index firsts k) (position (finds spelling) spellings) ≡ position (λ name. same name text) names
number_is names spellings firsts text spelling h p = rw (p, position_from-zero (finds (lower text)) spellings, position_from-zero (λ name. same name text) names) (h.found text)

-- a number of a name is one of so many
pub number_within : (names : List (List ℕ)) (text : List ℕ) (o : Option ℕ) → o ≡ position (λ name. same name text) names → IfSome o (λ i. i < length names)
number_within names text o p = go o (sym (position_from-zero (λ name. same name text) names) ∙ sym p)
  where
    go : (o : Option ℕ) → position_from (λ name. same name text) 0 names ≡ o → IfSome o (λ i. i < length names)
    go None q = tt
    go (Some i) q = omega (arith, position_low (λ name. same name text) names 0 i q)
