-- Each subscript of what a text names lies in one tag.
use Rattle.std.specs.Prelude.{◌≡◌, ℕ, ◌+◌, ◌*◌, ◌/◌, ◌<◌, ◌≤◌, true, not, ◌==◌, nat_lt, List, [], ◌∷◌, length, Result, Ok, refl}
use Rattle.std.proofs.Common.{sym, subst, arith, inr, ltb-true}
use Rattle.spec_base.specs.declared.limits.TheConstants.{MAX_SUBSCRIPTS}
use Rattle.spec_base.specs.FirstCause.{unless, some_or}
use Rattle.spec_base.proofs.Binds.{bind_ok, ok_inj, unless_ok}
use Rattle.spec_base.proofs.Lists.{each_append}
use Rattle.lgx_num.specs.declared.number.Kind.{Kind}
use Rattle.lgx_num.specs.declared.number.Kind.TheVariants.{Bool as KBool, Sint, Int, Dint}
use Rattle.lgx_num.specs.declared.place.Index.{Index}
use Rattle.lgx_num.specs.Image.{bits_of}
use Rattle.lgx_num.specs.Number.{bytes_in}
use Rattle.lgx_num.specs.Paths.{CanReach}
use Rattle.spec_language.specs.declared.tag.Found.{Found}
use Rattle.spec_language.specs.declared.tag.Scope.{Scope}
use Rattle.spec_language.specs.declared.tag.TagCode.{TagCode}
use Rattle.spec_language.specs.declared.tag.TagCode.TheVariants.{G4, G5, G6, G9, G10}
use Rattle.spec_language.specs.declared.types.DataType.{DataType}
use Rattle.spec_language.specs.Declarations.{Declarations, bytes}
use Rattle.spec_language.specs.Layout.{member as member_of, single}
use Rattle.spec_language.specs.OperandForm.{Form, tag, member, element, indexed, bit, form as form_in}
use Rattle.spec_language.specs.Resolution.{aliases, index_by, integer_bits, is_array, is_integer, kind_of, may_index, named, operands, resolved}
use Rattle.spec_language.specs.ResolutionLaws.{EndsBy, LiesIn, Sound}
use Rattle.spec_language.proofs.FoundBounds.{and_left, and_right, empty_steps, is_single, named_lies, resolved_lies}
use Rattle.spec_language.proofs.OperandBounds.{cell_room}
use Rattle.spec_beside.specs.InTags.{IsInTag, PlaceInTag, StepsInTags, SubscriptsInTags}
use Rattle.spec_beside.proofs.InTags.{named_in, resolved_in}

pub cell_ends : (k : Kind) (stop to : ℕ) → to + bits_of k ≤ 8 * stop → (to < 8 * stop) × (to / 8 + bytes_in k ≤ stop)
cell_ends KBool stop to h = (omega arith, omega arith)
cell_ends Sint stop to h = (omega arith, omega arith)
cell_ends Int stop to h = (omega arith, omega arith)
cell_ends Dint stop to h = (omega arith, omega arith)

module _ (d : Declarations) (sound : Sound d) (scope : Scope) where
  abbrev names : List ℕ → Result Found TagCode
  names = named d scope

  known : (name : List ℕ) (f : Found) → names name ≡ Ok f → LiesIn d.types (bytes d) f × (f.steps ≡ [])
  known name f p = named_lies (length (aliases d)) d scope name f sound p

  -- the place of a subscript is an integer that ends where its tag does, or before
  place_in : (array : DataType) (i : Found) → LiesIn d.types (bytes d) i → IsInTag d i → may_index i ≡ true → PlaceInTag d (index_by d.types array i).of
  place_in array i l h may =
      let integer : is_integer i.of ≡ true = and_left (is_integer i.of) (length i.steps == 0) may in
      let one : i.of ≡ single i.of.base = is_single i.of (and_left (not (is_array i.of)) (nat_lt 0 (integer_bits i.of.base)) integer) in
      let inside : EndsBy d.types i.of i.stop i.at = l.inside i.at (subst (λ (is : List Index). CanReach is i.at i.at) (sym (empty_steps i.steps (and_right (is_integer i.of) (length i.steps == 0) may))) refl) in
      let room = cell_room d.types i.of.base i.stop i.stop i.at (inr (ltb-true 0 (integer_bits i.of.base) (and_right (not (is_array i.of)) (nat_lt 0 (integer_bits i.of.base)) integer))) (omega arith) (subst (λ (t : DataType). EndsBy d.types t i.stop i.at) one inside) in
      let ends = cell_ends (kind_of i.of.base) i.stop i.at room.1 in
      record { tag = h.tag; within = h.within; from = h.from; upto = omega (arith, h.stop, ends.0); ends = omega (arith, h.stop, ends.1) }

  -- only a variable subscript adds one
  steps_in : (form : Form) (f : Found) → resolved operands d.types names form ≡ Ok f → StepsInTags d f.steps
  steps_in (tag name) f p = subst (StepsInTags d) (sym (known name f p).1) tt
  steps_in (member form name) f p =
      let a = bind_ok (resolved operands d.types names form) _ f p in
      let b = bind_ok (unless (not (is_array a.0.of)) G4) _ f a.2 in
      let c = bind_ok (some_or (member_of d.types a.0.of.base name) G4) _ f b.2 in
      subst (λ (z : Found). StepsInTags d z.steps) (ok_inj _ f c.2) (steps_in form a.0 a.1)
  steps_in (element form n) f p =
      let a = bind_ok (resolved operands d.types names form) _ f p in
      let b = bind_ok (unless (is_array a.0.of) G5) _ f a.2 in
      let c = bind_ok (unless (nat_lt n a.0.of.dim) G5) _ f b.2 in
      subst (λ (z : Found). StepsInTags d z.steps) (ok_inj _ f c.2) (steps_in form a.0 a.1)
  steps_in (bit form n) f p =
      let a = bind_ok (resolved operands d.types names form) _ f p in
      let b = bind_ok (unless (is_integer a.0.of) G5) _ f a.2 in
      let c = bind_ok (unless (nat_lt n (integer_bits a.0.of.base)) G5) _ f b.2 in
      subst (λ (z : Found). StepsInTags d z.steps) (ok_inj _ f c.2) (steps_in form a.0 a.1)
  steps_in (indexed form inner) f p =
      let a = bind_ok (resolved operands d.types names form) _ f p in
      let b = bind_ok (unless (is_array a.0.of) G5) _ f a.2 in
      let i = bind_ok (resolved operands d.types names inner) _ f b.2 in
      let c = bind_ok (unless (may_index i.0) G6) _ f i.2 in
      let e = bind_ok (unless (nat_lt (length a.0.steps) MAX_SUBSCRIPTS) G9) _ f c.2 in
      let lies = (resolved_lies operands d.types (bytes d) names sound.types known inner i.0 i.1).0 in
      let in_tag = resolved_in d operands d.types names (λ name f q. named_in d (length (aliases d)) scope name f q) inner i.0 i.1 in
      subst (λ (z : Found). StepsInTags d z.steps) (ok_inj _ f e.2)
      (each_append (λ (j : Index). PlaceInTag d j.of) a.0.steps (index_by d.types a.0.of i.0 ∷ []) (steps_in form a.0 a.1) (place_in a.0.of i.0 lies in_tag (unless_ok _ _ _ c.1), tt))

pub subscripts_in_tags : SubscriptsInTags
subscripts_in_tags d scope text f sound p =
    let a = bind_ok (some_or (form_in text) G10) _ f p in
    steps_in d sound scope a.0 f a.2
