-- The whole of a controller tag, by where the tags lie and what types they have.
use Rattle.std.specs.Prelude.{ℕ, ◌*◌, ◌==◌, ◌&&◌, ◌||◌, not, Bool, false, List, [], ◌∷◌, filter_map, Option, Some, None}
use Rattle.spec_language.specs.declared.types.DataType.{DataType}
use Rattle.spec_language.specs.declared.types.TypeDecl.{TypeDecl}
use Rattle.spec_project.specs.declared.described.DescribedMeaning.{DescribedMeaning}
use Rattle.spec_project.specs.declared.described.DescribedMeaning.TheVariants.{OfType as typed, AliasOf}
use Rattle.spec_project.specs.declared.described.DescribedTag.{DescribedTag}
use Rattle.spec_language.specs.declared.tag.Found.{Found}
use Rattle.spec_language.specs.Declarations.{Declarations}
use Rattle.spec_project.specs.declared.fault.ProjectFault.{ProjectFault}
use Rattle.spec_project.specs.declared.fault.ProjectCode.TheVariants.{P5}
use Rattle.spec_project.specs.Faults.{here, refused_if}
use Rattle.spec_project.specs.Places.{is_short, may_connect, same_type}
use Rattle.spec_project.specs.Tags.{data_type}
use Rattle.spec_language.specs.TagSpans.{spans_of}
use Rattle.spec_language.specs.declared.span.TagSpan.{TagSpan}

-- the types of tags, in order; an alias has none
abbrev pub meaning_type : List TypeDecl → DescribedMeaning → Option DataType
meaning_type types (typed of dim) = Some (data_type types of dim)
meaning_type types (AliasOf target) = None

abbrev pub tag_types : List TypeDecl → List DescribedTag → List DataType
tag_types types tags = filter_map (λ t. meaning_type types t.meaning) tags

-- a tag that lies so begins at this bit, and has this type
abbrev pub is_tag_at : ℕ → DataType → TagSpan → DataType → Bool
is_tag_at at of span type = 8 * span.start == at && same_type type of

-- one of the first tags begins at this bit and has this type, where the first are of these types
abbrev pub is_one_of : ℕ → DataType → List TagSpan → List DataType → Bool
is_one_of at of [] types = false
is_one_of at of (span ∷ spans) [] = false
is_one_of at of (span ∷ spans) (type ∷ types) = is_tag_at at of span type || is_one_of at of spans types

-- what is found may be connected, where the controller's tags are of these types
abbrev pub is_connected : Declarations → List DataType → Found → Bool
is_connected d types f = is_one_of f.at f.of (spans_of d) types && may_connect f.of && is_short d f.of

-- P5: it may not
abbrev pub connected_among : Declarations → List DataType → Found → Option ProjectFault
connected_among d types f = refused_if (not (is_connected d types f)) (here P5)
