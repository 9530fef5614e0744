-- Sizes and places of what texts name.
use Rattle.std.proofs.Common.{◌≡◌, ℕ, zero, suc, ◌*◌, ◌<◌, ◌≤◌, Bool, true, false, not, ◌&&◌, ◌||◌, ◌==◌, nat_lt, List, [], refl, arith, eqb-true, leb-true}
use Rattle.spec_base.specs.declared.limits.TheConstants.{MAX_CONNECTION_WORDS}
use Rattle.lgx_num.specs.Image.{InBounds}
use Rattle.spec_language.specs.declared.types.Base.{Base}
use Rattle.spec_language.specs.declared.types.Base.TheVariants.{Bool as OneBit, Sint, Int, Dint, Timer, Counter, User}
use Rattle.spec_language.specs.declared.types.DataType.{DataType}
use Rattle.spec_language.specs.declared.types.TypeDecl.{TypeDecl}
use Rattle.spec_language.specs.declared.tag.Found.{Found}
use Rattle.spec_language.specs.Declarations.{Declarations}
use Rattle.spec_language.specs.Layout.{single}
use Rattle.spec_language.proofs.FoundBounds.{and_left, and_right, twice_not}
use Rattle.spec_language.specs.Resolution.{integer_bits, kind_of}
use Rattle.spec_language.specs.ResolutionLaws.{EndsBy, LiesIn}
use Rattle.spec_project.specs.Places.{is_one_value, is_short, may_connect, place_of, same_base}
use Rattle.lgx_types.specs.Tables.{HasSize}
use Rattle.spec_language.specs.TagSpans.{spans_of}
use Rattle.lgx_places.specs.WholeTags.{is_connected, is_one_of}

impossible : false ≡ true → ⊥
impossible e = cc

-- what no subscript moves lies where it begins
lies_there : (types : List TypeDecl) (len : ℕ) (f : Found) → LiesIn types len f → f.steps ≡ [] → EndsBy types f.of f.stop f.at
lies_there types len f l fixed = l.inside f.at (rw fixed refl)

-- ---- places

-- a single value that ends by a byte of the image lies in the image
ends_within : (types : List TypeDecl) (len at stop : ℕ) (base : Base) (dim : ℕ) → is_one_value (record { base = base; dim = dim }) ≡ true → EndsBy types (record { base = base; dim = dim }) stop at → stop ≤ len → InBounds (record { kind = kind_of base; at = at }) len
ends_within types len at stop OneBit zero one e h = (e.0, omega arith)
ends_within types len at stop Sint zero one e h = (e.0, omega arith)
ends_within types len at stop Int zero one e h = (e.0, omega arith)
ends_within types len at stop Dint zero one e h = (e.0, omega arith)
ends_within types len at stop Timer zero one e h = absurd (impossible one)
ends_within types len at stop Counter zero one e h = absurd (impossible one)
ends_within types len at stop (User i) zero one e h = absurd (impossible one)
ends_within types len at stop base (suc n) one e h = absurd (omega (arith, eqb-true (suc n) 0 (twice_not (suc n == 0) (and_left (not (not (suc n == 0))) (same_base base OneBit || nat_lt 0 (integer_bits base)) one))))

pub value_in_bounds : (types : List TypeDecl) (len : ℕ) (f : Found) → LiesIn types len f → f.steps ≡ [] → is_one_value f.of ≡ true → InBounds (place_of f) len
value_in_bounds types len f l fixed one = ends_within types len f.at f.stop f.of.base f.of.dim one (lies_there types len f l fixed) l.stop

-- ---- sizes

-- a type that may be connected has a size, if it isn't long
pub short_has_size : (types : List TypeDecl) (base : Base) (dim : ℕ) → may_connect (record { base = base; dim = dim }) ≡ true → HasSize types (single base) → dim ≤ MAX_CONNECTION_WORDS → HasSize types (record { base = base; dim = dim })
short_has_size types Dint dim may s h = record { declared = tt; short = omega arith; even = tt }
short_has_size types (User i) zero may s h = s
short_has_size types (User i) (suc n) may s h = absurd (omega (arith, eqb-true (suc n) 0 may))
short_has_size types OneBit dim may s h = absurd (impossible may)
short_has_size types Sint dim may s h = absurd (impossible may)
short_has_size types Int dim may s h = absurd (impossible may)
short_has_size types Timer dim may s h = absurd (impossible may)
short_has_size types Counter dim may s h = absurd (impossible may)

-- it isn't long if its words are few
pub few_words : (d : Declarations) (base : Base) (dim : ℕ) → may_connect (record { base = base; dim = dim }) ≡ true → is_short d (record { base = base; dim = dim }) ≡ true → dim ≤ MAX_CONNECTION_WORDS
few_words d base zero may few = omega arith
few_words d Dint (suc n) may few = let h = leb-true (suc n * 4) (4 * MAX_CONNECTION_WORDS) few in omega arith
few_words d (User i) (suc n) may few = absurd (omega (arith, eqb-true (suc n) 0 may))
few_words d OneBit (suc n) may few = absurd (impossible may)
few_words d Sint (suc n) may few = absurd (impossible may)
few_words d Int (suc n) may few = absurd (impossible may)
few_words d Timer (suc n) may few = absurd (impossible may)
few_words d Counter (suc n) may few = absurd (impossible may)

pub many_words : (d : Declarations) (base : Base) (dim : ℕ) → may_connect (record { base = base; dim = dim }) ≡ true → MAX_CONNECTION_WORDS < dim → is_short d (record { base = base; dim = dim }) ≡ false
many_words d base dim may h = go (is_short d (record { base = base; dim = dim })) refl
  where
    go : (b : Bool) → is_short d (record { base = base; dim = dim }) ≡ b → b ≡ false
    go false e = refl
    go true e = absurd (let few = few_words d base dim may e in omega arith)

-- what may be connected has a size
pub connected_has_size : (d : Declarations) (types : List DataType) (f : Found) → is_connected d types f ≡ true → HasSize d.types (single f.of.base) → HasSize d.types f.of
connected_has_size d types f is s =
    let one = is_one_of f.at f.of (spans_of d) types in
    let may : may_connect f.of ≡ true = and_right one (may_connect f.of) (and_left (one && may_connect f.of) (is_short d f.of) is) in
    let few : is_short d f.of ≡ true = and_right (one && may_connect f.of) (is_short d f.of) is in
    short_has_size d.types f.of.base f.of.dim may s (few_words d f.of.base f.of.dim may few)
