-- What accepted edits make of the rungs of a base, one edit after another.
use Rattle.std.specs.Prelude.{◌≡◌, ℕ, zero, suc, List, [], ◌∷◌, ◌++◌, flat_map, fold, Option, Some, None, option_to_list}
use Rattle.lgx_rung.specs.Tree.{Source}
use Rattle.spec_machine.specs.Edits.{Change, Replaced, Inserted, Deleted, merged}

-- What is at a rung of the base: the rungs inserted before it, the one inserted first on top; the rung itself, until an edit takes
-- it; and what replaces it.
pub record Spot : Type 0 where
  pub inserted : List Source
  pub rung : Option Source
  pub replacement : Option Source

abbrev pub untouched : Option Source → Spot
untouched rung = record { inserted = []; rung = rung; replacement = None }

-- a spot for each rung of the base, and one past the last, where there is no rung
abbrev pub spots : List Source → List Spot
spots [] = untouched None ∷ []
spots (rung ∷ base) = untouched (Some rung) ∷ spots base

-- the rung is taken, and this comes in its place; where there is none any more, nothing changes
abbrev pub taken : Option Source → Spot → Spot
taken new s = go s.rung
  where
    go : Option Source → Spot
    go None = s
    go (Some rung) = record s { rung = None; replacement = new }

abbrev pub edited : Change → Spot → Spot
edited (Inserted k new) s = record s { inserted = s.inserted ++ new ∷ [] }
edited (Replaced k new) s = taken (Some new) s
edited (Deleted k) s = taken None s

-- the spot that an edit is of
abbrev pub spot_of : Change → ℕ
spot_of (Inserted k new) = k
spot_of (Replaced k new) = k
spot_of (Deleted k) = k

-- an edit of spot k, counted from 0; of one that isn't there it changes nothing
abbrev pub edited_at : ℕ → Change → List Spot → List Spot
edited_at k c [] = []
edited_at zero c (s ∷ ss) = edited c s ∷ ss
edited_at (suc k) c (s ∷ ss) = s ∷ edited_at k c ss

abbrev pub rungs_at : Spot → List Source
rungs_at s = s.inserted ++ (option_to_list s.rung ++ option_to_list s.replacement)

-- the base with these edits, which were accepted in this order
abbrev pub with_edits : List Source → List Change → List Source
with_edits base changes = flat_map rungs_at (fold (λ ss c. edited_at (spot_of c) c ss) (spots base) changes)

-- The machine merges by rungs, and that is the same.
abbrev pub MergesEdits : Type 0
MergesEdits = (base : List Source) (changes : List Change) → merged base changes ≡ with_edits base changes
