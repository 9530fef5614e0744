-- Changes that are put where they belong and woven with the base are the merged rungs.
use Rattle.std.proofs.Common.{◌≡◌, ℕ, suc, ◌+◌, ◌<◌, Bool, true, false, cond, List, [], ◌∷◌, ◌++◌, length, get_or, set, Option, Some, None, refl, ap, sym, subst, ◌∙◌, append_assoc, eqb-true, eq-eqb, arith}
use Rattle.std.specs.Prelude.{nat_eq, filter_map, flat_map, fold, replicate, unwrap_or, slice_index_or}
use Rattle.std.specs.List.{enumerate_from, cons_option}
use Rattle.std.specs.Option.{option_or}
use Rattle.std.proofs.lemmas.Bool.{false≢true}
use Rattle.std.proofs.lemmas.List.{append-nil, get_or-set_same, get_or-set_other, length-set, get_or-replicate, length-replicate, with_items_is}
use Rattle.std.specs.Global.{Vec}
use Rattle.std.specs.Vec.{with_items}
use Rattle.spec_base.specs.FirstCause.{first}
use Rattle.spec_base.proofs.Numbers.{one_on}
use Rattle.spec_base.proofs.Options.{or_none}
use Rattle.lgx_rung.specs.Tree.{Source}
use Rattle.spec_machine.specs.Edits.{Change, Replaced, Inserted, Deleted, put_before, put_instead, around, merged}
use Rattle.lgx_edit.specs.Merging.{AroundView, nothing_around, inserted, taken, with_change, rest_of}

-- ---- what stands at a place after some changes

-- what these changes make of what stood around rung i
abbrev after : ℕ → List Change → AroundView → AroundView
after i changes a = record {
  before = a.before ++ filter_map (put_before i) changes;
  instead = option_or a.instead (first (filter_map (put_instead i) changes));
}

around_is : (a b : AroundView) → a.before ≡ b.before → a.instead ≡ b.instead → a ≡ b
around_is a b e f =
    ap (λ (x : List Source). let r : AroundView = record { before = x; instead = a.instead } in r) e
    ∙ ap (λ (o : Option (List Source)). let r : AroundView = record { before = b.before; instead = o } in r) f

after_none : (i : ℕ) (a : AroundView) → after i [] a ≡ a
after_none i a = around_is (after i [] a) a (append-nil a.before) (or_none a.instead)

or_assoc : {A : Type 0} (o p q : Option A) → option_or (option_or o p) q ≡ option_or o (option_or p q)
or_assoc None p q = refl
or_assoc (Some x) p q = refl

first_more : {A : Type 0} (o : Option A) (xs : List A) → first (cons_option o xs) ≡ option_or o (first xs)
first_more None xs = refl
first_more (Some x) xs = refl

cons_more : {A : Type 0} (o : Option A) (xs : List A) → cons_option o [] ++ xs ≡ cons_option o xs
cons_more None xs = refl
cons_more (Some x) xs = refl

-- one change, and then the others
after_more : (i : ℕ) (c : Change) (cs : List Change) (a : AroundView) → after i cs (after i (c ∷ []) a) ≡ after i (c ∷ cs) a
after_more i c cs a =
    around_is (after i cs (after i (c ∷ []) a)) (after i (c ∷ cs) a)
    (append_assoc a.before (cons_option (put_before i c) []) (filter_map (put_before i) cs)
    ∙ ap (λ (xs : List Source). a.before ++ xs) (cons_more (put_before i c) (filter_map (put_before i) cs)))
    (or_assoc a.instead (first (cons_option (put_instead i c) [])) (first (filter_map (put_instead i) cs))
    ∙ ap (λ (o : Option (List Source)). option_or a.instead o) (by_first (put_instead i c)))
  where
    by_first : (o : Option (List Source)) → option_or (first (cons_option o [])) (first (filter_map (put_instead i) cs)) ≡ first (cons_option o (filter_map (put_instead i) cs))
    by_first None = refl
    by_first (Some x) = refl

-- what is set at place k is there, and the other places are as they were
at_set : (places : List AroundView) (k i : ℕ) (v w : AroundView) → i < length places → (k ≡ i → v ≡ w) → (nat_eq k i ≡ false → get_or places i nothing_around ≡ w)
    → get_or (set places k v) i nothing_around ≡ w
at_set places k i v w h same other = by_place (nat_eq k i) refl
  where
    by_place : (b : Bool) → nat_eq k i ≡ b → get_or (set places k v) i nothing_around ≡ w
    by_place true e =
        let here : k ≡ i = eqb-true k i e in
        ap (λ (j : ℕ). get_or (set places j v) i nothing_around) here ∙ (get_or-set_same places i v nothing_around h ∙ same here)
    by_place false e = get_or-set_other places k i v nothing_around (λ (here : i ≡ k). false≢true (sym e ∙ eq-eqb k i (sym here))) ∙ other e

module _ (places : List AroundView) (k i : ℕ) where
  abbrev there : ℕ → AroundView
  there j = get_or places j nothing_around

  change_inserted : (new : Source) → i < length places → get_or (with_change places (Inserted k new)) i nothing_around ≡ after i (Inserted k new ∷ []) (there i)
  change_inserted new h = at_set places k i (inserted new (there k)) (after i (Inserted k new ∷ []) (there i)) h at here
    where
      at : k ≡ i → inserted new (there k) ≡ after i (Inserted k new ∷ []) (there i)
      at e = ap (λ (j : ℕ). inserted new (there j)) e
          ∙ around_is (inserted new (there i)) (after i (Inserted k new ∷ []) (there i))
          (ap (λ (b : Bool). (there i).before ++ cons_option (cond b (Some new) None) []) (sym (eq-eqb k i e))) (sym (or_none (there i).instead))

      here : nat_eq k i ≡ false → there i ≡ after i (Inserted k new ∷ []) (there i)
      here e = sym (after_none i (there i))
          ∙ around_is (after i [] (there i)) (after i (Inserted k new ∷ []) (there i))
          (ap (λ (b : Bool). (there i).before ++ cons_option (cond b (Some new) None) []) (sym e)) refl

  -- something put in place of rung k
  change_taken : (rungs : List Source) (c : Change) → i < length places → put_before i c ≡ None → put_instead i c ≡ cond (nat_eq k i) (Some rungs) None
      → get_or (set places k (taken (Some rungs) (there k))) i nothing_around ≡ after i (c ∷ []) (there i)
  change_taken rungs c h none some = at_set places k i (taken (Some rungs) (there k)) (after i (c ∷ []) (there i)) h at here
    where
      first_of : (o : Option (List Source)) → first (cons_option o []) ≡ o
      first_of None = refl
      first_of (Some x) = refl

      before_is : (there i).before ≡ (there i).before ++ cons_option (put_before i c) []
      before_is = sym (ap (λ (o : Option Source). (there i).before ++ cons_option o []) none ∙ append-nil (there i).before)

      instead_is : (b : Bool) → nat_eq k i ≡ b → option_or (there i).instead (cond b (Some rungs) None) ≡ option_or (there i).instead (first (cons_option (put_instead i c) []))
      instead_is b e = ap (λ (o : Option (List Source)). option_or (there i).instead o) (sym (first_of (put_instead i c) ∙ (some ∙ ap (λ (x : Bool). cond x (Some rungs) None) e)))

      at : k ≡ i → taken (Some rungs) (there k) ≡ after i (c ∷ []) (there i)
      at e = ap (λ (j : ℕ). taken (Some rungs) (there j)) e
          ∙ around_is (taken (Some rungs) (there i)) (after i (c ∷ []) (there i)) before_is (instead_is true (eq-eqb k i e))

      here : nat_eq k i ≡ false → there i ≡ after i (c ∷ []) (there i)
      here e = around_is (there i) (after i (c ∷ []) (there i)) before_is (sym (or_none (there i).instead) ∙ instead_is false e)

changed_at : (places : List AroundView) (i : ℕ) (c : Change) → i < length places → get_or (with_change places c) i nothing_around ≡ after i (c ∷ []) (get_or places i nothing_around)
changed_at places i (Inserted k new) h = change_inserted places k i new h
changed_at places i (Replaced k new) h = change_taken places k i (new ∷ []) (Replaced k new) h refl refl
changed_at places i (Deleted k) h = change_taken places k i [] (Deleted k) h refl refl

as_many_places : (places : List AroundView) (c : Change) → length (with_change places c) ≡ length places
as_many_places places (Replaced k new) = length-set places k (taken (Some (new ∷ [])) (get_or places k nothing_around))
as_many_places places (Inserted k new) = length-set places k (inserted new (get_or places k nothing_around))
as_many_places places (Deleted k) = length-set places k (taken (Some []) (get_or places k nothing_around))

pub places_kept : (places : List AroundView) (cs : List Change) → length (fold with_change places cs) ≡ length places
places_kept places [] = refl
places_kept places (c ∷ cs) = places_kept (with_change places c) cs ∙ as_many_places places c

put_at : (places : List AroundView) (cs : List Change) (i : ℕ) → i < length places → get_or (fold with_change places cs) i nothing_around ≡ after i cs (get_or places i nothing_around)
put_at places [] i h = sym (after_none i (get_or places i nothing_around))
put_at places (c ∷ cs) i h =
    put_at (with_change places c) cs i (subst (λ (n : ℕ). i < n) (sym (as_many_places places c)) h)
    ∙ (ap (λ (a : AroundView). after i cs a) (changed_at places i c h) ∙ after_more i c cs (get_or places i nothing_around))

-- ---- woven with the base

-- the first of these rungs, if there is one, with all that is put around it
abbrev pub sources_around : List Source → AroundView → List Source
sources_around [] a = a.before
sources_around (rung ∷ rungs) a = a.before ++ unwrap_or a.instead (rung ∷ [])

-- each rung with what is put around it, and what is put after the last
abbrev pub sources_woven : List Source → List AroundView → List Source
sources_woven base [] = []
sources_woven base (a ∷ places) = sources_around base a ++ sources_woven (rest_of base) places

unwrap_first : {A : Type 0} (xs : List A) (d : A) → unwrap_or (first xs) d ≡ slice_index_or xs 0 d
unwrap_first [] d = refl
unwrap_first (x ∷ xs) d = refl

-- what these changes put around rung i, alone
abbrev placed : List Change → ℕ → AroundView
placed cs i = record { before = filter_map (put_before i) cs; instead = first (filter_map (put_instead i) cs) }

woven_from : (cs : List Change) (base : List Source) (places : List AroundView) (n : ℕ) → length places ≡ length base + 1
    → ((j : ℕ) → j < length places → get_or places j nothing_around ≡ placed cs (n + j))
    → sources_woven base places ≡ flat_map (around cs) (enumerate_from n base) ++ filter_map (put_before (n + length base)) cs
woven_from cs [] [] n len there = absurd (omega arith)
woven_from cs [] (a ∷ b ∷ places) n len there = absurd (omega arith)
woven_from cs [] (a ∷ []) n len there = append-nil a.before ∙ ap (λ (x : AroundView). x.before) (there 0 (omega arith))
woven_from cs (r ∷ rs) [] n len there = absurd (omega arith)
woven_from cs (r ∷ rs) (a ∷ places) n len there =
    ap (λ (xs : List Source). sources_around (r ∷ rs) a ++ xs) (woven_from cs rs places (n + 1) (omega arith) others)
    ∙ (ap (λ (xs : List Source). xs ++ (flat_map (around cs) (enumerate_from (n + 1) rs) ++ filter_map (put_before (n + 1 + length rs)) cs)) here
    ∙ (sym (append_assoc (around cs (n, r)) (flat_map (around cs) (enumerate_from (n + 1) rs)) (filter_map (put_before (n + 1 + length rs)) cs))
    ∙ ap (λ (k : ℕ). (around cs (n, r) ++ flat_map (around cs) (enumerate_from (n + 1) rs)) ++ filter_map (put_before k) cs) (sym (one_on n (length rs)))))
  where
    others : (j : ℕ) → j < length places → get_or places j nothing_around ≡ placed cs (n + 1 + j)
    others j h = let sum : n + suc j ≡ n + 1 + j = one_on n j in there (suc j) (omega arith) ∙ ap (λ (k : ℕ). placed cs k) sum

    at_n : a ≡ placed cs n
    at_n = let none : n + 0 ≡ n = omega arith in there 0 (omega arith) ∙ ap (λ (k : ℕ). placed cs k) none

    here : sources_around (r ∷ rs) a ≡ around cs (n, r)
    here = ap (λ (x : AroundView). x.before ++ unwrap_or x.instead (r ∷ [])) at_n
        ∙ ap (λ (xs : List Source). filter_map (put_before n) cs ++ xs) (unwrap_first (filter_map (put_instead n) cs) (r ∷ []))

pub woven-merged : (base : List Source) (cs : List Change) → sources_woven base (fold with_change (replicate (length base + 1) nothing_around) cs) ≡ merged base cs
woven-merged base cs =
    let none : 0 + length base ≡ length base = omega arith in
    woven_from cs base (fold with_change (replicate (length base + 1) nothing_around) cs) 0 count there
    ∙ ap (λ (n : ℕ). flat_map (around cs) (enumerate_from 0 base) ++ filter_map (put_before n) cs) none
  where
    count : length (fold with_change (replicate (length base + 1) nothing_around) cs) ≡ length base + 1
    count = places_kept (replicate (length base + 1) nothing_around) cs ∙ length-replicate (length base + 1) nothing_around

    there : (j : ℕ) → j < length (fold with_change (replicate (length base + 1) nothing_around) cs) → get_or (fold with_change (replicate (length base + 1) nothing_around) cs) j nothing_around ≡ placed cs (0 + j)
    there j h =
        let below : j < length base + 1 = subst (λ (n : ℕ). j < n) count h in
        let same : j ≡ 0 + j = omega arith in
        put_at (replicate (length base + 1) nothing_around) cs j (subst (λ (n : ℕ). j < n) (sym (length-replicate (length base + 1) nothing_around)) below)
        ∙ (ap (λ (a : AroundView). after j cs a) (get_or-replicate (length base + 1) j nothing_around nothing_around below)
        ∙ ap (λ (k : ℕ). placed cs k) same)

-- the places of a vector after some changes
pub changed_places : (v : Vec AroundView) (cs : List Change) (ws : List AroundView) → ws ≡ fold with_change v.items cs → (with_items v ws).items ≡ fold with_change v.items cs
changed_places v cs ws e = with_items_is v ws (ap (λ (xs : List AroundView). length xs) e ∙ (places_kept v.items cs ∙ sym v.ok.0)) ∙ e

-- ---- no changes

unchanged_from : (n : ℕ) (base : List Source) → flat_map (around []) (enumerate_from n base) ≡ base
unchanged_from n [] = refl
unchanged_from n (r ∷ rs) = ap (λ (xs : List Source). r ∷ xs) (unchanged_from (n + 1) rs)

pub merged-none : (base : List Source) → merged base [] ≡ base
merged-none base = append-nil (flat_map (around []) (enumerate_from 0 base)) ∙ unchanged_from 0 base
