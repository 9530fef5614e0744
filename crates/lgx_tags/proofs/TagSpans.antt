-- What a sealed table tells of its tags, and what it finds.
use Rattle.std.specs.Prelude.{◌≡◌, ℕ, zero, suc, ◌+◌, ◌<◌, ◌≤◌, List, [], ◌∷◌, length, slice_get, Option, Some, None, option_map, refl}
use Rattle.std.specs.List.{AllByRecursion as Each}
use Rattle.std.proofs.Common.{sym, ap, ◌∙◌, arith, subst}
use Rattle.std.proofs.lemmas.List.{length-map}
use Rattle.std.proofs.lemmas.Option.{slice_get-map, slice_get_within, same_Some}
use Rattle.spec_language.specs.declared.types.TypeDecl.{TypeDecl}
use Rattle.spec_language.specs.declared.tag.Scope.{Scope}
use Rattle.spec_language.specs.declared.tag.TagCode.TheVariants.{G5, G10}
use Rattle.spec_base.specs.FirstCause.{◌>>=◌, unless, some_or}
use Rattle.spec_language.specs.Layout.{size_of}
use Rattle.spec_language.specs.OperandForm.{Form, tag, member, element, indexed, bit, form}
use Rattle.spec_language.specs.Declarations.{Entry, Declarations, entry_size, size_for, bytes}
use Rattle.spec_language.specs.Resolution.{is_array, find_member, find_element, find_bit, find_indexed, Subscripts, subscript_by, resolved, in_form}
use Rattle.spec_base.proofs.Lists.{each_get}
use Rattle.lgx_tags.specs.Layouts.{order_of, placed_tags, IsOfEntries}
use Rattle.lgx_tags.specs.Chains.{Answer}
use Rattle.spec_language.specs.TagSpans.{tags_of, span_of, spans_of, tag_names}
use Rattle.lgx_tags.specs.declared.layout.PlacedTag.{PlacedTag}
use Rattle.spec_language.specs.declared.span.TagSpan.{TagSpan}
use Rattle.lgx_tags.proofs.Segments.{LaidIs, Pairs, all_segment, laid_tags, ends_at, starts_within}
use Rattle.spec_base.specs.declared.limits.TheConstants.{MAX_IMAGE_BYTES}

-- ---- the tags

pairs_length : (d : Declarations) (ls : List PlacedTag) (xs : List (ℕ × Entry)) → Pairs d ls xs → length ls ≡ length xs
pairs_length d [] [] p = refl
pairs_length d [] (x ∷ xs) p = absurd p
pairs_length d (l ∷ ls) [] p = absurd p
pairs_length d (l ∷ ls) (x ∷ xs) p = ap suc (pairs_length d ls xs p.3)

pub told_count : (d : Declarations) → length (placed_tags d) ≡ length (spans_of d)
told_count d = pairs_length d (placed_tags d) (tags_of d) (all_segment d).pairs ∙ sym (length-map (tags_of d) (span_of d.types))

-- a tag as it is laid, and as the definition has it
record Told (d : Declarations) (l : PlacedTag) (o : Option (ℕ × Entry)) : Type 0 where
  tag_of : ℕ × Entry
  is : o ≡ Some tag_of
  start_is : l.start ≡ tag_of.0
  there : slice_get d.entries l.entry ≡ Some tag_of.1
  type_is : size_for d.types tag_of.1.meaning ≡ size_of d.types l.of

pairs_at : (d : Declarations) (ls : List PlacedTag) (xs : List (ℕ × Entry)) (i : ℕ) (l : PlacedTag) → Pairs d ls xs → slice_get ls i ≡ Some l → Told d l (slice_get xs i)
pairs_at d [] xs i l p g = absurd (cc g)
pairs_at d (m ∷ ls) [] i l p g = absurd p
pairs_at d (m ∷ ls) (x ∷ xs) zero l p g = subst (λ (l : PlacedTag). Told d l (Some x)) (same_Some m l g) (record { tag_of = x; is = refl; start_is = p.0; there = p.1; type_is = ap (size_for d.types) p.2 })
pairs_at d (m ∷ ls) (x ∷ xs) (suc i) l p g = pairs_at d ls xs i l p.3 g

told_at : (d : Declarations) (ls : List PlacedTag) (i : ℕ) (l : PlacedTag) → ls ≡ placed_tags d → slice_get ls i ≡ Some l → Told d l (slice_get (tags_of d) i)
told_at d ls i l p g = pairs_at d (placed_tags d) (tags_of d) i l (all_segment d).pairs (ap (λ (ls : List PlacedTag). slice_get ls i) (sym p) ∙ g)

laid_at : (d : Declarations) (ls : List PlacedTag) (i : ℕ) (l : PlacedTag) → ls ≡ placed_tags d → slice_get ls i ≡ Some l → LaidIs d l
laid_at d ls i l p g = each_get (LaidIs d) (placed_tags d) i l (laid_tags d) (ap (λ (ls : List PlacedTag). slice_get ls i) (sym p) ∙ g)

pub told_entry : (d : Declarations) (ls : List PlacedTag) (i : ℕ) (l : PlacedTag) → ls ≡ placed_tags d → slice_get ls i ≡ Some l → l.entry < length d.entries
told_entry d ls i l p g = slice_get_within d.entries l.entry (laid_at d ls i l p g).entry (laid_at d ls i l p g).there

pub told_span : (d : Declarations) (ls : List PlacedTag) (i : ℕ) (l : PlacedTag) (e : Entry) → ls ≡ placed_tags d → slice_get ls i ≡ Some l → slice_get d.entries l.entry ≡ Some e → Some (record { scope = e.scope; start = l.start; end = l.end }) ≡ slice_get (spans_of d) i
told_span d ls i l e p g h =
    let t : Told d l (slice_get (tags_of d) i) = told_at d ls i l p g in
    let same : e ≡ t.tag_of.1 = same_Some e t.tag_of.1 (sym h ∙ t.there) in
    let end : l.end ≡ t.tag_of.0 + entry_size d.types t.tag_of.1 = (laid_at d ls i l p g).end_is ∙ ap (λ (n : ℕ). l.start + n) (sym t.type_is) ∙ ap (λ (n : ℕ). n + entry_size d.types t.tag_of.1) t.start_is in
    let x : ℕ × Entry = t.tag_of in
    let made : Scope → ℕ → ℕ → Option TagSpan = λ s b n. Some (record { scope = s; start = b; end = n }) in
    ap (λ (e : Entry). made e.scope l.start l.end) same ∙ ap (λ (b : ℕ). made x.1.scope b l.end) t.start_is ∙ ap (made x.1.scope x.0) end ∙ sym (slice_get-map (span_of d.types) (tags_of d) i ∙ ap (option_map (span_of d.types)) t.is)

pub told_name : (d : Declarations) (ls : List PlacedTag) (i : ℕ) (l : PlacedTag) (e : Entry) → ls ≡ placed_tags d → slice_get ls i ≡ Some l → slice_get d.entries l.entry ≡ Some e → Some e.name ≡ slice_get (tag_names d) i
told_name d ls i l e p g h =
    let t : Told d l (slice_get (tags_of d) i) = told_at d ls i l p g in
    let same : e ≡ t.tag_of.1 = same_Some e t.tag_of.1 (sym h ∙ t.there) in
    let name_of : ℕ × Entry → List ℕ = λ x. x.1.name in
    ap (λ (e : Entry). Some e.name) same ∙ sym (slice_get-map name_of (tags_of d) i ∙ ap (option_map name_of) t.is)

both : (d : Declarations) (ls : List PlacedTag) → Each (LaidIs d) ls → Each (λ l. l.start ≤ MAX_IMAGE_BYTES) ls → Each (IsOfEntries (length d.entries)) ls
both d [] p q = tt
both d (l ∷ ls) p q = ((slice_get_within d.entries l.entry p.0.entry p.0.there, omega (arith, q.0)), both d ls p.1 q.1)

pub all_within : (d : Declarations) → bytes d ≤ MAX_IMAGE_BYTES → Each (IsOfEntries (length d.entries)) (placed_tags d)
all_within d h = both d (placed_tags d) (laid_tags d) (starts_within d.types 0 MAX_IMAGE_BYTES (order_of d) (omega (arith, ends_at d)))

-- ---- what is found

resolved_same : (s : Subscripts) (types : List TypeDecl) (f g : List ℕ → Answer) → ((name : List ℕ) → f name ≡ g name) → (form : Form) → resolved s types f form ≡ resolved s types g form
resolved_same s types f g h (tag name) = h name
resolved_same s types f g h (member form name) = ap (λ (r : Answer). r >>= λ x. find_member types x name) (resolved_same s types f g h form)
resolved_same s types f g h (element form n) = ap (λ (r : Answer). r >>= λ x. find_element types x n) (resolved_same s types f g h form)
resolved_same s types f g h (bit form n) = ap (λ (r : Answer). r >>= λ x. find_bit x n) (resolved_same s types f g h form)
resolved_same s types f g h (indexed form inner) = ap (λ (r : Answer). r >>= λ x. unless (is_array x.of) G5 >>= λ _. find_indexed types x (subscript_by s (resolved s types f inner))) (resolved_same s types f g h form) ∙ ap (λ (i : Answer). resolved s types g form >>= λ x. unless (is_array x.of) G5 >>= λ _. find_indexed types x (subscript_by s i)) (resolved_same s types f g h inner)

pub form_same : (s : Subscripts) (types : List TypeDecl) (f g : List ℕ → Answer) (text : List ℕ) → ((name : List ℕ) → f name ≡ g name) → in_form s types f text ≡ in_form s types g text
form_same s types f g text h = go (form text)
  where
    go : (o : Option Form) → (some_or o G10 >>= resolved s types f) ≡ (some_or o G10 >>= resolved s types g)
    go None = refl
    go (Some form) = resolved_same s types f g h form
