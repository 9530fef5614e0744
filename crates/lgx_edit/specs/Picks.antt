-- The rungs of a merged routine before they are checked.
use Rattle.std.specs.Prelude.{◌≡◌, true, List, map}
use Rattle.std.specs.List.{AllByRecursion as Each}
use Rattle.lgx_rung.specs.Tree.{Source}
use Rattle.spec_language.specs.Checked.{CheckScope}
use Rattle.lgx_check.specs.Known.{is_plain, IsKnown}
use Rattle.lgx_edit.specs.Shared.{RungPair}
use Rattle.lgx_edit.specs.declared.pick.Pick.{Pick}
use Rattle.lgx_edit.specs.declared.pick.Pick.TheVariants.{Old, New}

-- a rung as it was written
abbrev pub pick_source : Pick → Source
pick_source (Old r) = r.source
pick_source (New source) = source

abbrev pub pick_sources : List Pick → List Source
pick_sources picks = map pick_source picks

-- if the rung is plain, it is known to be checked to what it has
abbrev pub IsRungKnown : CheckScope → RungPair → Type 0
IsRungKnown scope r = is_plain r.source ≡ true → IsKnown scope r.source r.checked

abbrev pub AreKnown : CheckScope → List RungPair → Type 0
AreKnown scope rungs = Each (IsRungKnown scope) rungs

-- the same of a rung that a routine had before
abbrev pub IsPickKnown : CheckScope → Pick → Type 0
IsPickKnown scope (Old r) = IsRungKnown scope r
IsPickKnown scope (New source) = Unit {0}

abbrev pub ArePicksKnown : CheckScope → List Pick → Type 0
ArePicksKnown scope picks = Each (IsPickKnown scope) picks
