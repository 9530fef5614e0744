-- Working out the sizes of structures, each after those inside it.
use Rattle.std.specs.Prelude.{◌≡◌, ℕ, zero, suc, ◌+◌, ◌*◌, ◌/◌, ◌<◌, ◌≤◌, min, false, true, List, [], ◌∷◌, length, drop, flat_map, sum_by, slice_get, slice_index, Option, Some, None, Result, Ok, Err}
use Rattle.spec_language.specs.declared.types.Base.{Base}
use Rattle.spec_language.specs.declared.types.Base.TheVariants.{Bool as OneBit, Sint, Int, Dint, Timer, Counter, User}
use Rattle.spec_language.specs.declared.types.DataType.{DataType}
use Rattle.spec_language.specs.declared.types.TypeDecl.{TypeDecl}
use Rattle.spec_base.specs.declared.limits.TheConstants.{MAX_STRUCTURE_BYTES}
use Rattle.spec_language.specs.Layout.{begin_after, size_in, sizes_to, members_of}
use Rattle.spec_language.specs.TypeFaults.{among, parts, reaches_itself}
use Rattle.lgx_types.specs.declared.sizing.Visit.{Visit}
use Rattle.lgx_types.specs.declared.sizing.Visit.TheVariants.{Unvisited, InProgress, Sized}
use Rattle.lgx_types.specs.declared.sizing.Frame.{Frame}
use Rattle.lgx_types.specs.declared.sizing.Outcome.{Outcome}
use Rattle.lgx_types.specs.declared.sizing.Outcome.TheVariants.{Sizes, Cycle}
use Rattle.lgx_types.specs.Outlines.{outline}

-- sizes that are too large count as one
abbrev pub capped : ℕ → ℕ
capped n = min n (MAX_STRUCTURE_BYTES + 1)

-- the size of a type whose elements have a known size
abbrev pub sized_by : ℕ → Base → ℕ → ℕ
sized_by element base zero = element
sized_by element OneBit (suc n) = suc n / 8
sized_by element base (suc n) = suc n * element

-- the byte after members of these types, if what comes before them ends at this byte
abbrev pub end_of : List ℕ → ℕ → List DataType → ℕ
end_of sizes at [] = at
end_of sizes at (t ∷ ts) = end_of sizes (begin_after at t + size_in sizes t) ts

-- the structure of a base
abbrev pub number_of : Base → List ℕ
number_of (User j) = j ∷ []
number_of _ = []

-- the structures of these types
abbrev pub users : List DataType → List ℕ
users ts = flat_map (λ t. number_of t.base) ts

-- the types of the members of structure i
abbrev pub types_at : List TypeDecl → ℕ → List DataType
types_at types i = outline types (members_of types i)

-- ---- what is known

-- structure i doesn't reach itself, and from some number of rounds on this is its size
pub record IsSized (types : List TypeDecl) (i size : ℕ) : Type 0 where
  pub alone : reaches_itself types i ≡ false
  pub start : ℕ
  pub rounds : (k : ℕ) → start ≤ k → capped size ≡ capped (slice_index (sizes_to k types) i)

-- the size of an element by the marks of structures, or the structure that has none yet
abbrev pub by_visit : ℕ → Option Visit → Result ℕ ℕ
by_visit j (Some (Sized size)) = Ok size
by_visit j (Some _) = Err j
by_visit j None = Err j

abbrev pub element_of : List Visit → Base → Result ℕ ℕ
element_of visits OneBit = Ok 1
element_of visits Sint = Ok 1
element_of visits Int = Ok 2
element_of visits Dint = Ok 4
element_of visits Timer = Ok 16
element_of visits Counter = Ok 12
element_of visits (User j) = by_visit j (slice_get visits j)

-- the members of a structure before the next one are of structures that don't reach themselves, and end at this byte
pub record IsBegun (types : List TypeDecl) (f : Frame) : Type 0 where
  pub there : f.structure < length types
  pub low : f.at ≤ MAX_STRUCTURE_BYTES + 1
  pub alone : ((j : ℕ) → among (users (drop f.next (types_at types f.structure))) j ≡ true → reaches_itself types j ≡ false) → (j : ℕ) → among (users (types_at types f.structure)) j ≡ true → reaches_itself types j ≡ false
  pub start : ℕ
  pub rounds : (k : ℕ) → start ≤ k → capped (end_of (sizes_to k types) f.at (drop f.next (types_at types f.structure))) ≡ capped (end_of (sizes_to k types) 0 (types_at types f.structure))

-- what is known of the marks of structures
pub record AreVisits (types : List TypeDecl) (visits : List Visit) : Type 0 where
  pub many : length visits ≡ length types
  pub sized : (i size : ℕ) → slice_get visits i ≡ Some (Sized size) → IsSized types i size

-- a stack of structures that are being worked out, each inside the one before it; those that are open are in it
pub record IsSizing (types : List TypeDecl) (visits : List Visit) (stack : List Frame) : Type 0 where
  pub known : AreVisits types visits
  pub begun : (p : ℕ) (f : Frame) → slice_get stack p ≡ Some f → IsBegun types f
  pub entered : (i : ℕ) → slice_get visits i ≡ Some InProgress → (p : ℕ) × ((f : Frame) × ((slice_get stack p ≡ Some f) × (f.structure ≡ i)))
  pub leads : (p : ℕ) (f g : Frame) → slice_get stack p ≡ Some f → slice_get stack (suc p) ≡ Some g → among (parts types f.structure) g.structure ≡ true

-- structure i was looked at
abbrev pub IsVisited : List Visit → ℕ → Type 0
IsVisited visits i = slice_get visits i ≡ Some Unvisited → ⊥

abbrev pub size_of_visit : Visit → ℕ
size_of_visit Unvisited = 0
size_of_visit InProgress = 0
size_of_visit (Sized size) = size

-- what is left to be done at least
abbrev pub weight : Visit → ℕ
weight Unvisited = 2
weight InProgress = 0
weight (Sized size) = 0

abbrev pub remaining : List Visit → List Frame → ℕ
remaining visits stack = sum_by weight visits + length stack

-- structure i reaches itself
abbrev pub ReachesItself : List TypeDecl → ℕ → Type 0
ReachesItself types i = (i < length types) × (reaches_itself types i ≡ true)

-- sizes of all structures, none of which reaches itself; or one that does
abbrev pub IsOutcome : List TypeDecl → Outcome → Type 0
IsOutcome types (Sizes sizes) = (length sizes.items ≡ length types) × ((i : ℕ) → i < length types → IsSized types i (slice_index sizes.items i))
IsOutcome types (Cycle i) = ReachesItself types i
