-- An execution more in a version's table.
use Rattle.std.proofs.Common.{◌≡◌, ℕ, ◌+◌, ◌<◌, ◌≤◌, max, List, [], ◌∷◌, ◌++◌, length, map, get_or, set, Bool, true, false, cond, nat_eq, inl, inr, refl, sym, ap, ◌∙◌, subst, subst₂, append-nil, arith}
use Rattle.std.proofs.lemmas.Bool.{cases_eq, eq-eqb, ne_eqb}
use Rattle.std.proofs.lemmas.List.{get_or-set_same, get_or-set_other, get_or_default, map-append}
use Rattle.std.proofs.lemmas.List.Elements.{filter-append}
use Rattle.std.proofs.lemmas.List.Sums.{length-filter, count_by-le-length}
use Rattle.lgx_engine.specs.declared.place.Execution.{Execution}
use Rattle.lgx_cover.specs.declared.row.Counts.{Counts}
use Rattle.lgx_cover.specs.Counts.{above, in_routine, routines_end}
use Rattle.lgx_cover.specs.Tables.{grown, IsRowOf, IsTableOf}
use Rattle.lgx_cover.proofs.Ends.{above_more, get_grown, length_grown, length_written}

-- ---- the executions of a routine

routine_more : (r : ℕ) (xs : List Execution) (x : Execution) (b : Bool) → nat_eq r x.routine ≡ b → in_routine r (xs ++ x ∷ []) ≡ in_routine r xs ++ cond b (x ∷ []) []
routine_more r xs x b is =
    filter-append (λ (y : Execution). nat_eq r y.routine) xs (x ∷ []) ∙ ap (λ t. in_routine r xs ++ cond t (x ∷ []) []) is

pub same_routine : (xs : List Execution) (x : Execution) → in_routine x.routine (xs ++ x ∷ []) ≡ in_routine x.routine xs ++ x ∷ []
same_routine xs x = routine_more x.routine xs x true (eq-eqb x.routine x.routine refl)

other_routine : (r : ℕ) (xs : List Execution) (x : Execution) → (r ≡ x.routine → ⊥) → in_routine r (xs ++ x ∷ []) ≡ in_routine r xs
other_routine r xs x other = routine_more r xs x false (ne_eqb r x.routine other) ∙ append-nil (in_routine r xs)

pub few_in_routine : (r : ℕ) (xs : List Execution) → length (in_routine r xs) ≤ length xs
few_in_routine r xs =
    let passed = length-filter (λ (x : Execution). nat_eq r x.routine) xs in
    let few = count_by-le-length (λ (x : Execution). nat_eq r x.routine) xs in
    omega (arith, passed, few)

-- ---- the table

-- the row that is found for an execution, once there is room for it
pub found_row : (rows : List (List Counts)) (xs : List Execution) (r : ℕ) → IsTableOf rows xs → IsRowOf (get_or (grown rows r []) r []) (in_routine r xs)
found_row rows xs r is = subst (λ row. IsRowOf row (in_routine r xs)) (sym (get_grown rows r r [])) (is.rows_are r)

-- what is read there
pub read_row : (rows inside : List (List Counts)) (xs : List Execution) (r : ℕ) (row : List Counts) → IsTableOf rows xs → inside ≡ grown rows r [] → r < length inside → row ≡ get_or inside r row → IsRowOf row (in_routine r xs)
read_row rows inside xs r row is grew has read =
    let there : row ≡ get_or (grown rows r []) r [] = read ∙ (get_or_default inside r row [] has ∙ ap (λ (l : List (List Counts)). get_or l r []) grew) in
    subst (λ (q : List Counts). IsRowOf q (in_routine r xs)) (sym there) (found_row rows xs r is)

module _ (rows : List (List Counts)) (xs : List Execution) (x : Execution) (row : List Counts) (is : IsTableOf rows xs) (now : IsRowOf row (in_routine x.routine xs ++ x ∷ [])) where
  abbrev written : List (List Counts)
  written = set (grown rows x.routine []) x.routine row

  at_place : get_or written x.routine [] ≡ row
  at_place =
      get_or-set_same (grown rows x.routine []) x.routine row [] (let n = length_grown rows x.routine [] in omega arith)

  here : IsRowOf (get_or written x.routine []) (in_routine x.routine (xs ++ x ∷ []))
  here =
      subst₂ (λ (q : List Counts) (ys : List Execution). IsRowOf q ys) (sym at_place) (sym (same_routine xs x)) now

  elsewhere : (r : ℕ) → (r ≡ x.routine → ⊥) → IsRowOf (get_or written r []) (in_routine r (xs ++ x ∷ []))
  elsewhere r other =
      let row_is : get_or written r [] ≡ get_or rows r [] = get_or-set_other (grown rows x.routine []) x.routine r row [] other ∙ get_grown rows x.routine r [] in
      subst₂ (λ (q : List Counts) (ys : List Execution). IsRowOf q ys) (sym row_is) (sym (other_routine r xs x other)) (is.rows_are r)

  ends : length written ≡ routines_end (xs ++ x ∷ [])
  ends =
      length_written rows x.routine [] row
      ∙ (ap (λ n. max n (x.routine + 1)) is.end
      ∙ sym (ap above (map-append (λ (y : Execution). y.routine) xs (x ∷ [])) ∙ above_more (map (λ (y : Execution). y.routine) xs) x.routine))

  pub table_more : IsTableOf written (xs ++ x ∷ [])
  table_more = record {
    end = ends;
    rows_are = λ r. elim (cases_eq r x.routine) [
      | inl same ↦ subst (λ (k : ℕ). IsRowOf (get_or written k []) (in_routine k (xs ++ x ∷ []))) (sym same) here
      | inr other ↦ elsewhere r other
    ];
  }
