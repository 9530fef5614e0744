-- The tags of a project lie apart, in the order of their numbers.
use Rattle.std.specs.Prelude.{filter}
use Rattle.std.proofs.Common.{ℕ, zero, suc, ◌+◌, ◌<◌, ◌≤◌, Bool, true, false, cond, List, [], ◌∷◌, length, map, arith}
use Rattle.spec_language.specs.declared.types.TypeDecl.{TypeDecl}
use Rattle.spec_language.specs.Declarations.{Declarations, Entry, entry_size, in_order, laid_from}
use Rattle.spec_language.specs.Layout.{round_up}
use Rattle.spec_language.specs.declared.span.TagSpan.{TagSpan}
use Rattle.spec_language.specs.TagSpans.{is_laid_tag, span_of, spans_of}
use Rattle.lgx_xref.specs.Apart.{AreApart, span_in}

abbrev spans_from : List TypeDecl → ℕ → List Entry → List TagSpan
spans_from types at es = map (span_of types) (filter is_laid_tag (laid_from types at es))

-- where the next entry begins, and the tags from this entry on, if it is one or not
abbrev next_begin : List TypeDecl → ℕ → Entry → ℕ
next_begin types at e = round_up 4 (at + entry_size types e)

abbrev those : List TypeDecl → ℕ → Entry → List Entry → Bool → List TagSpan
those types at e es b = map (span_of types) (cond b ((at, e) ∷ filter is_laid_tag (laid_from types (next_begin types at e) es)) (filter is_laid_tag (laid_from types (next_begin types at e) es)))

goes_forward : (types : List TypeDecl) (at : ℕ) (es : List Entry) (k : ℕ) → k < length (spans_from types at es) → (span_in (spans_from types at es) k).start ≤ (span_in (spans_from types at es) k).end
goes_forward types at [] k h = absurd (omega arith)
goes_forward types at (e ∷ es) k h = go (is_laid_tag (at, e)) k h (goes_forward types (next_begin types at e) es)
  where
    go : (b : Bool) (k : ℕ) → k < length (those types at e es b) → ((k : ℕ) → k < length (spans_from types (next_begin types at e) es) → (span_in (spans_from types (next_begin types at e) es) k).start ≤ (span_in (spans_from types (next_begin types at e) es) k).end) → (span_in (those types at e es b) k).start ≤ (span_in (those types at e es b) k).end
    go false k h later = later k h
    go true zero h later = omega arith
    go true (suc k) h later = later k (omega arith)

starts_later : (types : List TypeDecl) (at : ℕ) (es : List Entry) (k : ℕ) → k < length (spans_from types at es) → at ≤ (span_in (spans_from types at es) k).start
starts_later types at [] k h = absurd (omega arith)
starts_later types at (e ∷ es) k h = go (is_laid_tag (at, e)) k h (starts_later types (next_begin types at e) es)
  where
    go : (b : Bool) (k : ℕ) → k < length (those types at e es b) → ((k : ℕ) → k < length (spans_from types (next_begin types at e) es) → next_begin types at e ≤ (span_in (spans_from types (next_begin types at e) es) k).start) → at ≤ (span_in (those types at e es b) k).start
    go false k h later = omega (arith, later k h)
    go true zero h later = omega arith
    go true (suc k) h later = omega (arith, later k (omega arith))

apart_from : (types : List TypeDecl) (at : ℕ) (es : List Entry) (i j : ℕ) → i < j → j < length (spans_from types at es) → (span_in (spans_from types at es) i).end ≤ (span_in (spans_from types at es) j).start
apart_from types at [] i j before h = absurd (omega arith)
apart_from types at (e ∷ es) i j before h = go (is_laid_tag (at, e)) i j before h (apart_from types (next_begin types at e) es)
  where
    go : (b : Bool) (i j : ℕ) → i < j → j < length (those types at e es b) → ((i j : ℕ) → i < j → j < length (spans_from types (next_begin types at e) es) → (span_in (spans_from types (next_begin types at e) es) i).end ≤ (span_in (spans_from types (next_begin types at e) es) j).start) → (span_in (those types at e es b) i).end ≤ (span_in (those types at e es b) j).start
    go false i j before h later = later i j before h
    go true i zero before h later = absurd (omega arith)
    go true zero (suc j) before h later = omega (arith, starts_later types (next_begin types at e) es j (omega arith))
    go true (suc i) (suc j) before h later = later i j (omega arith) (omega arith)

pub tags_apart : (d : Declarations) → AreApart (spans_of d)
tags_apart d = record { forward = goes_forward d.types 0 (in_order d); apart = apart_from d.types 0 (in_order d) }
