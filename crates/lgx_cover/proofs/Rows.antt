-- An execution more in a routine's row.
use Rattle.std.proofs.Common.{◌≡◌, ℕ, ◌+◌, ◌<◌, ◌≤◌, max, List, [], ◌∷◌, ◌++◌, length, map, get_or, set, Bool, true, false, cond, not, ◌&&◌, count_by, inl, inr, refl, sym, ap, ◌∙◌, subst, arith}
use Rattle.std.proofs.lemmas.Bool.{cases_eq, eq-eqb, ne_eqb}
use Rattle.std.proofs.lemmas.List.{get_or-set_same, get_or-set_other, get_or_default, map-append}
use Rattle.std.proofs.lemmas.List.Sums.{sum_by-append, sum_by-cons, count_by-le-length}
use Rattle.lgx_engine.specs.declared.place.Execution.{Execution}
use Rattle.lgx_cover.specs.declared.row.Counts.{Counts}
use Rattle.lgx_cover.specs.Counts.{is_true_at, is_false_at, counts, one_more, above, places_end}
use Rattle.lgx_cover.specs.Tables.{grown, no_counts, IsRowOf}
use Rattle.lgx_cover.proofs.Ends.{above_more, get_grown, length_grown, length_written}

-- ---- counts

count_more : {A : Type 0} (p : A → Bool) (xs : List A) (x : A) → count_by p (xs ++ x ∷ []) ≡ count_by p xs + cond (p x) 1 0
count_more p xs x =
    let all = sum_by-append (λ y. cond (p y) 1 0) xs (x ∷ []) in
    let last = sum_by-cons (λ y. cond (p y) 1 0) x [] in
    omega (arith, all, last)

counts_by : (l : ℕ) (xs : List Execution) (x : Execution) (t f : ℕ) → cond (is_true_at l x) 1 0 ≡ t → cond (is_false_at l x) 1 0 ≡ f
    → counts l (xs ++ x ∷ []) ≡ record { with_true = (counts l xs).with_true + t; with_false = (counts l xs).with_false + f }
counts_by l xs x t f is_t is_f =
    let true_more : count_by (is_true_at l) (xs ++ x ∷ []) ≡ count_by (is_true_at l) xs + t = count_more (is_true_at l) xs x ∙ ap (λ n. count_by (is_true_at l) xs + n) is_t in
    let false_more : count_by (is_false_at l) (xs ++ x ∷ []) ≡ count_by (is_false_at l) xs + f = count_more (is_false_at l) xs x ∙ ap (λ n. count_by (is_false_at l) xs + n) is_f in
    let at_true : ℕ → Counts = λ n. record { with_true = n; with_false = count_by (is_false_at l) (xs ++ x ∷ []) } in
    let at_false : ℕ → Counts = λ n. record { with_true = count_by (is_true_at l) xs + t; with_false = n } in
    ap at_true true_more ∙ ap at_false false_more

-- a true condition at this place
counted_true : (xs : List Execution) (x : Execution) → x.on ≡ true → counts x.left (xs ++ x ∷ []) ≡ record { with_true = (counts x.left xs).with_true + 1; with_false = (counts x.left xs).with_false }
counted_true xs x on =
    let here = eq-eqb x.left x.left refl in
    let at_false : ℕ → Counts = λ n. record { with_true = (counts x.left xs).with_true + 1; with_false = n } in
    counts_by x.left xs x 1 0 (ap (λ b. cond (b && x.on) 1 0) here ∙ ap (λ b. cond b 1 0) on) (ap (λ b. cond (b && not x.on) 1 0) here ∙ ap (λ b. cond (not b) 1 0) on)
    ∙ ap at_false (omega arith)

-- a false condition at this place
counted_false : (xs : List Execution) (x : Execution) → x.on ≡ false → counts x.left (xs ++ x ∷ []) ≡ record { with_true = (counts x.left xs).with_true; with_false = (counts x.left xs).with_false + 1 }
counted_false xs x off =
    let here = eq-eqb x.left x.left refl in
    let at_true : ℕ → Counts = λ n. record { with_true = n; with_false = (counts x.left xs).with_false + 1 } in
    counts_by x.left xs x 0 1 (ap (λ b. cond (b && x.on) 1 0) here ∙ ap (λ b. cond b 1 0) off) (ap (λ b. cond (b && not x.on) 1 0) here ∙ ap (λ b. cond (not b) 1 0) off)
    ∙ ap at_true (omega arith)

pub counted_more : (xs : List Execution) (x : Execution) → counts x.left (xs ++ x ∷ []) ≡ one_more (counts x.left xs) x.on
counted_more xs x = go x.on refl
  where
    go : (b : Bool) → x.on ≡ b → counts x.left (xs ++ x ∷ []) ≡ one_more (counts x.left xs) b
    go true on = counted_true xs x on
    go false off = counted_false xs x off

-- another place
counted_elsewhere : (l : ℕ) (xs : List Execution) (x : Execution) → (l ≡ x.left → ⊥) → counts l (xs ++ x ∷ []) ≡ counts l xs
counted_elsewhere l xs x other =
    let off = ne_eqb l x.left other in
    let at_true : ℕ → Counts = λ n. record { with_true = n; with_false = (counts l xs).with_false + 0 } in
    let at_false : ℕ → Counts = λ n. record { with_true = (counts l xs).with_true; with_false = n } in
    counts_by l xs x 0 0 (ap (λ b. cond (b && x.on) 1 0) off) (ap (λ b. cond (b && not x.on) 1 0) off)
    ∙ (ap at_true (omega arith) ∙ ap at_false (omega arith))

-- ---- the row

-- a count is no more than there are executions
pub few_counts : (l : ℕ) (xs : List Execution) → ((counts l xs).with_true ≤ length xs) × ((counts l xs).with_false ≤ length xs)
few_counts l xs = (count_by-le-length (is_true_at l) xs, count_by-le-length (is_false_at l) xs)

-- what is found at the place of an execution, once there is room for it
pub found_counts : (row : List Counts) (xs : List Execution) (x : Execution) → IsRowOf row xs → get_or (grown row x.left no_counts) x.left no_counts ≡ counts x.left xs
found_counts row xs x is = get_grown row x.left x.left no_counts ∙ is.counted x.left

-- what is read there
pub read_counts : (row new : List Counts) (xs : List Execution) (x : Execution) (c : Counts) → IsRowOf row xs → new ≡ grown row x.left no_counts → x.left < length new → c ≡ get_or new x.left c → c ≡ counts x.left xs
read_counts row new xs x c is grew has read =
    read ∙ (get_or_default new x.left c no_counts has ∙ (ap (λ (l : List Counts). get_or l x.left no_counts) grew ∙ found_counts row xs x is))

module _ (row : List Counts) (xs : List Execution) (x : Execution) (c : Counts) (is : IsRowOf row xs) (now : c ≡ counts x.left (xs ++ x ∷ [])) where
  abbrev written : List Counts
  written = set (grown row x.left no_counts) x.left c

  here : get_or written x.left no_counts ≡ counts x.left (xs ++ x ∷ [])
  here =
      get_or-set_same (grown row x.left no_counts) x.left c no_counts (let n = length_grown row x.left no_counts in omega arith) ∙ now

  elsewhere : (l : ℕ) → (l ≡ x.left → ⊥) → get_or written l no_counts ≡ counts l (xs ++ x ∷ [])
  elsewhere l other =
      get_or-set_other (grown row x.left no_counts) x.left l c no_counts other
      ∙ (get_grown row x.left l no_counts ∙ (is.counted l ∙ sym (counted_elsewhere l xs x other)))

  ends : length written ≡ places_end (xs ++ x ∷ [])
  ends =
      length_written row x.left no_counts c
      ∙ (ap (λ n. max n (x.left + 1)) is.end
      ∙ sym (ap above (map-append (λ (y : Execution). y.left) xs (x ∷ [])) ∙ above_more (map (λ (y : Execution). y.left) xs) x.left))

  pub row_more : IsRowOf written (xs ++ x ∷ [])
  row_more = record {
    end = ends;
    counted = λ l. elim (cases_eq l x.left) [
      | inl same ↦ subst (λ (k : ℕ). get_or written k no_counts ≡ counts k (xs ++ x ∷ [])) (sym same) here
      | inr other ↦ elsewhere l other
    ];
  }
