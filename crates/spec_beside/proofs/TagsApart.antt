-- Tags lie apart, in the order of their numbers; so an operand of one tag misses each byte of another.
use Rattle.std.specs.Prelude.{filter, slice_index_or}
use Rattle.std.specs.List.{AllByRecursion as Each, list_any}
use Rattle.std.proofs.Common.{◌≡◌, ℕ, zero, suc, ◌+◌, ◌*◌, ◌/◌, ◌<◌, ◌≤◌, ◌⊎◌, inl, inr, Bool, true, false, ◌||◌, cond, List, [], ◌∷◌, length, map, refl, sym, subst, arith}
use Rattle.std.proofs.lemmas.Bool.{and_from, cases_lt, le-leb, lt-ltb}
use Rattle.lgx_num.specs.declared.place.Index.{Index}
use Rattle.lgx_num.specs.declared.place.Operand.{Operand}
use Rattle.lgx_num.specs.declared.place.Operand.TheVariants as operand
use Rattle.lgx_num.specs.declared.place.Path.{Path}
use Rattle.lgx_num.specs.declared.place.Place.{Place}
use Rattle.lgx_num.specs.Number.{bytes_in}
use Rattle.lgx_num.specs.Paths.{CanReach}
use Rattle.spec_language.specs.declared.types.TypeDecl.{TypeDecl}
use Rattle.spec_language.specs.Declarations.{Declarations, Entry, entry_size, in_order, laid_from}
use Rattle.spec_language.specs.Layout.{round_up}
use Rattle.spec_machine.specs.Project.{Project}
use Rattle.spec_language.specs.declared.span.TagSpan.{TagSpan}
use Rattle.spec_language.specs.TagSpans.{is_laid_tag, span_of, spans_of}
use Rattle.spec_uses.specs.Changes.{IsByteOf}
use Rattle.spec_uses.specs.Uses.{holds_bit, no_span, span_at}
use Rattle.spec_uses.specs.Written.{first_bits}
use Rattle.spec_beside.specs.InTags.{OperandInTag, PathInTag, PlaceInTag, StepsInTags}
use Rattle.spec_beside.specs.Misses.{IsBeside, Misses, PathMisses, PlaceMisses}
use Rattle.spec_beside.specs.Sites.{BytesAreOfOneTag}

-- ---- one tag after another

abbrev spans_from : List TypeDecl → ℕ → List Entry → List TagSpan
spans_from types at es = map (span_of types) (filter is_laid_tag (laid_from types at es))

abbrev nth : List TagSpan → ℕ → TagSpan
nth spans k = slice_index_or spans k no_span

-- where the next entry begins, and the tags from this entry on, if it is one or not
abbrev next_begin : List TypeDecl → ℕ → Entry → ℕ
next_begin types at e = round_up 4 (at + entry_size types e)

abbrev those : List TypeDecl → ℕ → Entry → List Entry → Bool → List TagSpan
those types at e es b = map (span_of types) (cond b ((at, e) ∷ filter is_laid_tag (laid_from types (next_begin types at e) es)) (filter is_laid_tag (laid_from types (next_begin types at e) es)))

starts_later : (types : List TypeDecl) (at : ℕ) (es : List Entry) (k : ℕ) → k < length (spans_from types at es) → at ≤ (nth (spans_from types at es) k).start
starts_later types at [] k h = absurd (omega arith)
starts_later types at (e ∷ es) k h = go (is_laid_tag (at, e)) k h (starts_later types (next_begin types at e) es)
  where
    go : (b : Bool) (k : ℕ) → k < length (those types at e es b) → ((k : ℕ) → k < length (spans_from types (next_begin types at e) es) → next_begin types at e ≤ (nth (spans_from types (next_begin types at e) es) k).start) → at ≤ (nth (those types at e es b) k).start
    go false k h later = omega (arith, later k h)
    go true zero h later = omega arith
    go true (suc k) h later = omega (arith, later k (omega arith))

apart_from : (types : List TypeDecl) (at : ℕ) (es : List Entry) (i j : ℕ) → i < j → j < length (spans_from types at es) → (nth (spans_from types at es) i).end ≤ (nth (spans_from types at es) j).start
apart_from types at [] i j before h = absurd (omega arith)
apart_from types at (e ∷ es) i j before h = go (is_laid_tag (at, e)) i j before h (apart_from types (next_begin types at e) es)
  where
    go : (b : Bool) (i j : ℕ) → i < j → j < length (those types at e es b) → ((i j : ℕ) → i < j → j < length (spans_from types (next_begin types at e) es) → (nth (spans_from types (next_begin types at e) es) i).end ≤ (nth (spans_from types (next_begin types at e) es) j).start) → (nth (those types at e es b) i).end ≤ (nth (those types at e es b) j).start
    go false i j before h later = later i j before h
    go true i zero before h later = absurd (omega arith)
    go true zero (suc j) before h later = omega (arith, starts_later types (next_begin types at e) es j (omega arith))
    go true (suc i) (suc j) before h later = later i j (omega arith) (omega arith)

pub tags_apart : (d : Declarations) (i j : ℕ) → i < j → j < length (spans_of d) → (span_at d i).end ≤ (span_at d j).start
tags_apart d i j before h = apart_from d.types 0 (in_order d) i j before h

-- a byte is one of a single tag
pub bytes_are_of_one_tag : BytesAreOfOneTag
bytes_are_of_one_tag p i j b h k = go (cases_lt i j) (cases_lt j i)
  where
    go : (i < j) ⊎ (j ≤ i) → (j < i) ⊎ (i ≤ j) → i ≡ j
    go (inl before) other = absurd (omega (arith, tags_apart p.tags i j before k.tag, h.upto, k.from))
    go (inr le) (inl after) = absurd (omega (arith, tags_apart p.tags j i after h.tag, k.upto, h.from))
    go (inr le) (inr ge) = omega arith

-- ---- operands and a byte of a tag

-- subscripts never lead below the first bit
reach_grows : (is : List Index) (at to : ℕ) → CanReach is at to → at ≤ to
reach_grows [] at to r = omega (arith, r)
reach_grows (i ∷ is) at to r = omega (arith, reach_grows is at r.1 r.3, r.4)

or_false : (a b : Bool) → (a || b) ≡ false → (a ≡ false) × (b ≡ false)
or_false false b h = (refl, h)
or_false true b h = absurd (cc h)

bit_held : (s : TagSpan) (bit : ℕ) → 8 * s.start ≤ bit → bit < 8 * s.end → holds_bit s bit ≡ true
bit_held s bit from upto = and_from _ _ (le-leb (8 * s.start) bit from) (lt-ltb bit (8 * s.end) upto)

module _ (p : Project) (k b : ℕ) (byte : IsByteOf p k b) where
  -- its own tag holds a path's first bit; another tag lies before it or behind it
  path_misses : (path : Path) (stop : ℕ → ℕ) → PathInTag p.tags path stop → holds_bit (span_at p.tags k) path.at ≡ false → PathMisses b path stop
  path_misses path stop h none to r = go (cases_lt h.tag k)
    where
      more : path.at ≤ to
      more = reach_grows path.steps path.at to r

      other : (k < h.tag) ⊎ (h.tag ≤ k) → k ≤ h.tag → IsBeside (to / 8) (stop (to / 8)) b
      other (inl before) past = inl (let a = tags_apart p.tags k h.tag before h.within in omega (arith, h.from, more, byte.upto))
      other (inr le) past =
          let same : h.tag ≡ k = omega arith in
          let from : 8 * (span_at p.tags k).start ≤ path.at = subst (λ (n : ℕ). 8 * (span_at p.tags n).start ≤ path.at) same h.from in
          let upto : to < 8 * (span_at p.tags k).end = subst (λ (n : ℕ). to < 8 * (span_at p.tags n).end) same (h.begins to r) in
          absurd (cc (bit_held (span_at p.tags k) path.at from (omega (arith, upto, more)), none))

      go : (h.tag < k) ⊎ (k ≤ h.tag) → IsBeside (to / 8) (stop (to / 8)) b
      go (inl before) = inr (let a = tags_apart p.tags h.tag k before byte.tag in omega (arith, h.ends to r, byte.from))
      go (inr past) = other (cases_lt k h.tag) past

  -- the same of the place of a subscript, and of each subscript of an operand
  place_misses : (at : Place) → PlaceInTag p.tags at → holds_bit (span_at p.tags k) at.at ≡ false → PlaceMisses b at
  place_misses at h none =
      path_misses (record { kind = at.kind; at = at.at; steps = [] }) (λ to. to + bytes_in at.kind)
      (record { tag = h.tag; within = h.within; from = h.from; begins = λ to r. omega (arith, r, h.upto); ends = λ to r. subst (λ (n : ℕ). n / 8 + bytes_in at.kind ≤ (span_at p.tags h.tag).end) (sym r) h.ends; subscripts = tt })
      none at.at refl

  pub steps_miss : (steps : List Index) → StepsInTags p.tags steps → list_any (holds_bit (span_at p.tags k)) (map (λ (i : Index). i.of.at) steps) ≡ false → Each (λ (i : Index). PlaceMisses b i.of) steps
  steps_miss [] h none = tt
  steps_miss (i ∷ steps) h none =
      let n = or_false (holds_bit (span_at p.tags k) i.of.at) (list_any (holds_bit (span_at p.tags k)) (map (λ (i : Index). i.of.at) steps)) none in
      (place_misses i.of h.0 n.0, steps_miss steps h.1 n.1)

  pub operands_miss : (os : List Operand) → Each (OperandInTag p.tags) os → list_any (holds_bit (span_at p.tags k)) (first_bits os) ≡ false → Each (Misses b) os
  operands_miss [] h none = tt
  operands_miss (operand.Cell path ∷ os) h none =
      let n = or_false (holds_bit (span_at p.tags k) path.at) (list_any (holds_bit (span_at p.tags k)) (first_bits os)) none in
      (path_misses path _ h.0 n.0, operands_miss os h.1 n.1)
  operands_miss (operand.Timer path ∷ os) h none =
      let n = or_false (holds_bit (span_at p.tags k) path.at) (list_any (holds_bit (span_at p.tags k)) (first_bits os)) none in
      (path_misses path _ h.0 n.0, operands_miss os h.1 n.1)
  operands_miss (operand.Counter path ∷ os) h none =
      let n = or_false (holds_bit (span_at p.tags k) path.at) (list_any (holds_bit (span_at p.tags k)) (first_bits os)) none in
      (path_misses path _ h.0 n.0, operands_miss os h.1 n.1)
  operands_miss (operand.Block c ∷ os) h none =
      let n = or_false (holds_bit (span_at p.tags k) c.path.at) (list_any (holds_bit (span_at p.tags k)) (first_bits os)) none in
      (path_misses c.path _ h.0 n.0, operands_miss os h.1 n.1)
  operands_miss (o ∷ os) h none = (tt, operands_miss os h.1 none)
