-- What is read of a text lies in the image.
use Rattle.std.specs.Prelude.{◌≡◌, ℕ, zero, suc, ◌+◌, ◌*◌, ◌<◌, ◌≤◌, Bool, true, false, not, ◌==◌, nat_lt, List, [], ◌∷◌, ◌++◌, length, slice_index, Result, Ok, Err, if◌then◌else◌, refl}
use Rattle.std.specs.List.{AllByRecursion as Each}
use Rattle.std.proofs.Common.{sym, subst, arith}
use Rattle.std.proofs.lemmas.Bool.Decides.{nat_tests}
use Rattle.lgx_num.specs.Name.{is_name}
use Rattle.lgx_num.specs.Paths.{CanReach}
use Rattle.lgx_num.specs.declared.place.Index.{Index}
use Rattle.spec_language.specs.declared.types.Base.{Base}
use Rattle.spec_language.specs.declared.types.Base.TheVariants.{Bool as OneBit, Sint, Int, Dint, Timer, Counter, User}
use Rattle.spec_language.specs.declared.types.DataType.{DataType}
use Rattle.spec_language.specs.declared.types.TypeDecl.{TypeDecl}
use Rattle.spec_language.specs.declared.tag.TagCode.{TagCode}
use Rattle.spec_language.specs.declared.tag.TagCode.TheVariants.{G5, G6, G9, G10}
use Rattle.spec_language.specs.declared.tag.Found.{Found}
use Rattle.spec_base.specs.FirstCause.{◌>>=◌, unless}
use Rattle.spec_language.specs.Layout.{single, sizes, size_of}
use Rattle.spec_language.specs.LayoutLaws.{SoundTypes}
use Rattle.spec_language.specs.OperandForm.{are_digits, digits_number}
use Rattle.spec_language.specs.Resolution.{is_array, find_member, find_element, find_bit, find_indexed, may_index, index_by, Subscripts}
use Rattle.spec_language.specs.ResolutionLaws.{LiesIn, width}
use Rattle.spec_base.proofs.Binds.{bind_ok, ok_inj, err_not_ok, unless_ok}
use Rattle.spec_language.proofs.FoundBounds.{member_lies, element_lies, bit_lies, indexed_lies}
use Rattle.spec_language.proofs.SizesSettle.{even_none, sizes_length}
use Rattle.spec_base.proofs.Lists.{each_append}
use Rattle.lgx_types.specs.Tables.{IsNumbered, HasSize}
use Rattle.lgx_tags.specs.Parts as part
use Rattle.lgx_tags.specs.Parts.{OperandPart}
use Rattle.lgx_tags.specs.TextReading.{find_dotted, Reading, may_open, open_at, close_at, step, IsInImage, IsOpen, AllInImage, AreSized, NamesInBounds}
use Rattle.spec_base.specs.declared.limits.TheConstants.{MAX_IMAGE_BYTES}

-- ---- bounds

-- with all subscripts 0 nothing is moved
leads_none : (is : List Index) (at : ℕ) → Each (λ i. 0 < i.length) is → CanReach is at at
leads_none [] at p = refl
leads_none (i ∷ is) at p = (0, at, p.0, leads_none is at p.1, omega arith)

ends : (types : List TypeDecl) (bytes : ℕ) (f : Found) → IsInImage types bytes f → f.at + width types f.of ≤ 8 * bytes
ends types bytes f p = omega (arith, (p.lies.inside f.at (leads_none f.steps f.at p.some)).1, p.lies.stop)

pub within : (types : List TypeDecl) (bytes : ℕ) (f : Found) → bytes ≤ MAX_IMAGE_BYTES → IsInImage types bytes f → f.at + width types f.of ≤ 8 * MAX_IMAGE_BYTES
within types bytes f h p = omega (arith, ends types bytes f p)

pub at_within : (types : List TypeDecl) (bytes : ℕ) (f : Found) → bytes ≤ MAX_IMAGE_BYTES → IsInImage types bytes f → f.at ≤ 8 * MAX_IMAGE_BYTES
at_within types bytes f h p = omega (arith, ends types bytes f p)

-- what has a size is among the sizes
listed : (xs : List ℕ) (i : ℕ) → 0 < slice_index xs i → i < length xs
listed [] i h = absurd (omega arith)
listed (x ∷ xs) zero h = omega arith
listed (x ∷ xs) (suc i) h = omega (arith, listed xs i h)

numbered : (types : List TypeDecl) (base : Base) → 0 < size_of types (single base) → IsNumbered (length types) base
numbered types OneBit h = tt
numbered types Sint h = tt
numbered types Int h = tt
numbered types Dint h = tt
numbered types Timer h = tt
numbered types Counter h = tt
numbered types (User i) h = omega (arith, listed (sizes types) i h, sizes_length types (length types))

-- the table of types has the size of an element of what lies in the image
pub has_size : (types : List TypeDecl) (bytes : ℕ) (f : Found) → LiesIn types bytes f → HasSize types (single f.of.base)
has_size types bytes f p = record { declared = numbered types f.of.base p.filled; short = omega arith; even = even_none f.of.base }

-- ---- steps

placed_like : (types : List TypeDecl) (bytes : ℕ) (g f : Found) → IsInImage types bytes g → LiesIn types bytes f × (f.steps ≡ g.steps) → IsInImage types bytes f
placed_like types bytes g f p q = record { lies = q.0; some = subst (λ (is : List Index). Each (λ i. 0 < i.length) is) (sym q.1) p.some }

pub named_placed : (types : List TypeDecl) (bytes : ℕ) (f : Found) → LiesIn types bytes f × (f.steps ≡ []) → IsInImage types bytes f
named_placed types bytes f q = record { lies = q.0; some = subst (λ (is : List Index). Each (λ i. 0 < i.length) is) (sym q.1) tt }

-- an array has an element
some_elements : (t : DataType) → is_array t ≡ true → 0 < t.dim
some_elements t p = go (t.dim == 0) refl p
  where
    go : (b : Bool) → (t.dim == 0) ≡ b → not b ≡ true → 0 < t.dim
    go true e q = absurd (cc q)
    go false e q = grind (arith, nat_tests)

dotted_placed : (types : List TypeDecl) (bytes : ℕ) (g f : Found) (w : List ℕ) → SoundTypes types → IsInImage types bytes g → find_dotted types g w ≡ Ok f → IsInImage types bytes f
dotted_placed types bytes g f w s p e = go (is_name w) (are_digits 10 w) e
  where
    go : (a b : Bool) → (if a then find_member types g w else if b then find_bit g (digits_number 10 w) else Err G10) ≡ Ok f → IsInImage types bytes f
    go true b q = placed_like types bytes g f p (member_lies types bytes g f w s p.lies q)
    go false true q = placed_like types bytes g f p (bit_lies types bytes g f (digits_number 10 w) p.lies q)
    go false false q = err_not_ok G10 f q

indexed_placed : (types : List TypeDecl) (bytes : ℕ) (g i f : Found) → IsInImage types bytes g → is_array g.of ≡ true → IsInImage types bytes i → find_indexed types g (Ok i) ≡ Ok f → IsInImage types bytes f
indexed_placed types bytes g i f p a q e =
    let b = bind_ok (unless (may_index i) G6) _ f e in
    let c = bind_ok (unless (nat_lt (length g.steps) 4) G9) _ f b.2 in
    let made : Found = record g { steps = g.steps ++ index_by types g.of i ∷ []; of = single g.of.base } in
    let same : made ≡ f = ok_inj made f c.2 in
    record { lies = indexed_lies types bytes g f (Ok i) p.lies (λ x r. subst (λ (z : Found). LiesIn types bytes z) (ok_inj i x r) q.lies) e; some = subst (λ (z : Found). Each (λ i. 0 < i.length) z.steps) same (each_append (λ i. 0 < i.length) g.steps (index_by types g.of i ∷ []) p.some (some_elements g.of a, tt)) }

open_placed : (types : List TypeDecl) (bytes : ℕ) (s : Subscripts) (named : List ℕ → Result Found TagCode) (w : List ℕ) (k j : Reading) → NamesInBounds types bytes named → AllInImage types bytes k → open_at s named w k ≡ Ok j → AllInImage types bytes j
open_placed types bytes s named w k j known p e =
    let a = bind_ok (unless (is_array k.found.of) G5) _ j e in
    let b = bind_ok (unless (may_open s) G6) _ j a.2 in
    let c = bind_ok (named w) _ j b.2 in
    let made : Reading = record { arrays = k.found ∷ k.arrays; found = c.0 } in
    subst (λ (z : Reading). AllInImage types bytes z) (ok_inj made j c.2) (record { arrays = (record { placed = p.found; array = unless_ok _ _ _ a.1 }, p.arrays); found = named_placed types bytes c.0 (known w c.0 c.1) })

close_placed : (types : List TypeDecl) (bytes : ℕ) (arrays : List Found) (f : Found) (j : Reading) → Each (IsOpen types bytes) arrays → IsInImage types bytes f → close_at types arrays f ≡ Ok j → AllInImage types bytes j
close_placed types bytes [] f j p q e = err_not_ok G10 j e
close_placed types bytes (a ∷ arrays) f j p q e =
    let c = bind_ok (find_indexed types a (Ok f)) _ j e in
    let made : Reading = record { arrays = arrays; found = c.0 } in
    subst (λ (z : Reading). AllInImage types bytes z) (ok_inj made j c.2) (record { arrays = p.1; found = indexed_placed types bytes a f c.0 p.0.placed p.0.array q c.1 })

replaced : (types : List TypeDecl) (bytes : ℕ) (k j : Reading) (r : Result Found TagCode) → AllInImage types bytes k → ((f : Found) → r ≡ Ok f → IsInImage types bytes f) → (r >>= λ f. Ok (record k { found = f })) ≡ Ok j → AllInImage types bytes j
replaced types bytes k j r p known e =
    let a = bind_ok r _ j e in
    let made : Reading = record k { found = a.0 } in
    subst (λ (z : Reading). AllInImage types bytes z) (ok_inj made j a.2) (record { arrays = p.arrays; found = known a.0 a.1 })

pub step_placed : (types : List TypeDecl) (bytes : ℕ) (s : Subscripts) (named : List ℕ → Result Found TagCode) (p : OperandPart) (k j : Reading) → SoundTypes types → NamesInBounds types bytes named → AllInImage types bytes k → step s types named p k ≡ Ok j → AllInImage types bytes j
step_placed types bytes s named (part.dotted w) k j sound known q e = replaced types bytes k j (find_dotted types k.found w) q (λ f r. dotted_placed types bytes k.found f w sound q.found r) e
step_placed types bytes s named (part.element w) k j sound known q e = replaced types bytes k j (find_element types k.found (digits_number 10 w)) q (λ f r. placed_like types bytes k.found f q.found (element_lies types bytes k.found f (digits_number 10 w) q.found.lies r)) e
step_placed types bytes s named (part.opened w) k j sound known q e = open_placed types bytes s named w k j known q e
step_placed types bytes s named part.closed k j sound known q e = close_placed types bytes k.arrays k.found j q.arrays q.found e

pub all_sized : (types : List TypeDecl) (bytes : ℕ) (arrays : List Found) → Each (IsOpen types bytes) arrays → AreSized types arrays
all_sized types bytes [] p = tt
all_sized types bytes (a ∷ arrays) p = (has_size types bytes a p.0.placed.lies, all_sized types bytes arrays p.1)
