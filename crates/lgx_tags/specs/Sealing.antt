-- A sealed table, and the tags that it knows.
use Rattle.std.specs.Prelude.{◌^◌, ◌≡◌, ◌<◌, List, length, None}
use Rattle.spec_language.specs.Declarations.{Declarations}
use Rattle.spec_language.specs.Resolution.{seal_fault}
use Rattle.lgx_tags.specs.Layouts.{placed_tags}
use Rattle.lgx_tags.specs.Chains.{Resolved, AllResolved}
use Rattle.lgx_tags.specs.declared.layout.PlacedTag.{PlacedTag}

-- ---- sealing

-- what a sealed table keeps: its tags as they are laid, and what each entry stands for
pub record IsSealOf (d : Declarations) (laid : List PlacedTag) (known : List Resolved) : Type 0 where
  pub tags : laid ≡ placed_tags d
  pub few : length laid < 2 ^ 32
  pub all_resolved : AllResolved d known
  pub faultless : seal_fault d ≡ None
