-- The changes of a routine, each where it belongs.
use Rattle.std.specs.Prelude.{List, [], ◌∷◌, ◌++◌, map, Option, Some, None, option_map, unwrap_or, slice_set, slice_index_or}
use Rattle.std.specs.Option.{option_or}
use Rattle.lgx_rung.specs.Tree.{Source}
use Rattle.spec_machine.specs.Edits.{Change, Replaced, Inserted, Deleted}
use Rattle.lgx_edit.specs.declared.merge.Instead.{Instead}
use Rattle.lgx_edit.specs.declared.merge.Instead.TheVariants.{Itself, Nothing, Other}
use Rattle.lgx_edit.specs.declared.pick.Pick.{Pick}
use Rattle.lgx_edit.specs.declared.pick.Pick.TheVariants.{Old, New}
use Rattle.lgx_edit.specs.Shared.{RungPair}

-- the rungs before a rung, and those in its place, if it was replaced or deleted
pub record AroundView : Type 0 where
  pub before : List Source
  pub instead : Option (List Source)

abbrev pub nothing_around : AroundView
nothing_around = record { before = []; instead = None }

abbrev pub instead_of : Instead → Option (List Source)
instead_of Itself = None
instead_of Nothing = Some []
instead_of (Other rung) = Some (rung ∷ [])

abbrev pub inserted : Source → AroundView → AroundView
inserted rung a = record a { before = a.before ++ rung ∷ [] }

-- what was put in place of the rung first stays
abbrev pub taken : Option (List Source) → AroundView → AroundView
taken instead a = record a { instead = option_or a.instead instead }

-- the change at the place that it names; behind the last place it does nothing
abbrev pub with_change : List AroundView → Change → List AroundView
with_change places (Replaced i new) = slice_set places i (taken (Some (new ∷ [])) (slice_index_or places i nothing_around))
with_change places (Inserted i new) = slice_set places i (inserted new (slice_index_or places i nothing_around))
with_change places (Deleted i) = slice_set places i (taken (Some []) (slice_index_or places i nothing_around))

-- the first of these rungs, if there is one, with all that is put around it
abbrev pub put_around : List RungPair → AroundView → List Pick
put_around [] a = map New a.before
put_around (rung ∷ rungs) a = map New a.before ++ unwrap_or (option_map (map New) a.instead) (Old rung ∷ [])

abbrev pub rest_of : {A : Type 0} → List A → List A
rest_of [] = []
rest_of (rung ∷ rungs) = rungs

-- each rung with what is put around it, and what is put after the last
abbrev pub woven : List RungPair → List AroundView → List Pick
woven base [] = []
woven base (a ∷ places) = put_around base a ++ woven (rest_of base) places
