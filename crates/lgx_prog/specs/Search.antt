-- A search for the routines that are called.
use Rattle.std.specs.Prelude.{ℕ, Bool, true, false, not, ◌&&◌, nat_lt, if◌then◌else◌, List, [], ◌∷◌, ◌++◌, length, slice_index_or, slice_set, slice_get, fold, Option, Some, None}
use Rattle.spec_scan.specs.Position.{Rungs}
use Rattle.lgx_prog.specs.Flat.{Flat, IsFlat}
use Rattle.lgx_prog.specs.FlatProgram.{Program, IsFlatProgram, no_code}
use Rattle.lgx_prog.specs.Executes.{called_in}

-- for each routine whether it was found, and those that were, in order
pub record Found : Type 0 where
  pub marks : List Bool
  pub found : List ℕ

-- a routine that wasn't found yet is found now
abbrev pub with_found : Found → ℕ → Found
with_found s n = if nat_lt n (length s.marks) && not (slice_index_or s.marks n false) then record { marks = slice_set s.marks n true; found = s.found ++ n ∷ [] } else s

-- the calls of the routine that was found as number i are found, where there is one
abbrev pub examined : List Flat → Found → ℕ → Found
examined routines s i = go (slice_get s.found i)
  where
    go : Option ℕ → Found
    go None = s
    go (Some n) = fold with_found s (called_in (slice_index_or routines n no_code).code)

abbrev pub number_if : Bool → ℕ → List ℕ
number_if true n = n ∷ []
number_if false n = []

-- these are the codes of these routines
abbrev pub AreFlat : List Flat → List Rungs → Type 0
AreFlat [] [] = Unit {0}
AreFlat [] (r ∷ rs) = ⊥
AreFlat (f ∷ fs) [] = ⊥
AreFlat (f ∷ fs) (r ∷ rs) = IsFlat f r × AreFlat fs rs

-- whichever rungs these codes are of, the program is that of the rungs
abbrev pub IsMadeOf : Program → List Flat → ℕ → Type 0
IsMadeOf program flats main =
    (rungs : List Rungs) → AreFlat flats rungs → IsFlatProgram program (record { routines = rungs; main = main })

abbrev pub option_list : Option ℕ → List ℕ
option_list None = []
option_list (Some n) = n ∷ []
