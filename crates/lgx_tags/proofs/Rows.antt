-- The tags of each scope, as they are put after one another.
use Rattle.std.specs.Prelude.{◌≡◌, ℕ, zero, suc, ◌+◌, ◌<◌, ◌≤◌, Bool, true, false, cond, ◌==◌, List, [], ◌∷◌, ◌++◌, length, map, drop, replicate, slice_set, slice_index_or, refl}
use Rattle.std.specs.List.{AllByRecursion as Each, range_with_len}
use Rattle.std.proofs.Common.{sym, ap, ◌∙◌, arith, eq-eqb, append_assoc, get_or, subst}
use Rattle.std.proofs.lemmas.List.{append-nil, drop_more, length-map}
use Rattle.std.proofs.lemmas.List.FromFn.{length-range_with_len}
use Rattle.spec_language.specs.declared.types.TypeDecl.{TypeDecl}
use Rattle.spec_language.specs.declared.tag.Scope.{Scope}
use Rattle.spec_language.specs.declared.tag.Scope.TheVariants.{Controller, Program}
use Rattle.spec_language.specs.Layout.{round_up, size_of}
use Rattle.spec_language.specs.Declarations.{Meaning, tag, alias, Entry, same_scope}
use Rattle.lgx_tags.specs.Scopes.{IsScopeOf}
use Rattle.lgx_tags.specs.Layouts.{scopes, slot_of, numbered, tags_in, with_entry, rows_of, place_tags, place_tags_end}
use Rattle.lgx_tags.specs.declared.layout.NumberedTag.{NumberedTag}
use Rattle.lgx_tags.specs.declared.layout.PlacedTag.{PlacedTag}
use Rattle.std.proofs.lemmas.Bool.{ne_eqb}

-- ---- one entry more

abbrev pub added : Scope → Scope → List NumberedTag → List NumberedTag
added own s ts = cond (same_scope own s) ts []

pub tags_snoc : (s : Scope) (n : ℕ) (es : List Entry) (e : Entry) → tags_in s n (es ++ e ∷ []) ≡ tags_in s n es ++ added e.scope s (numbered (n + length es) e.meaning)
tags_snoc s n [] e = append-nil (added e.scope s (numbered n e.meaning)) ∙ ap (λ (m : ℕ). added e.scope s (numbered m e.meaning)) at
  where
    at : n ≡ n + 0
    at = omega arith
tags_snoc s n (x ∷ es) e =
    let at : suc n + length es ≡ n + suc (length es) = omega arith in
    let front : List NumberedTag = cond (same_scope x.scope s) (numbered n x.meaning) [] in
    ap (λ (l : List NumberedTag). front ++ l) (tags_snoc s (suc n) es e ∙ ap (λ (m : ℕ). tags_in s (suc n) es ++ added e.scope s (numbered m e.meaning)) at) ∙ sym (append_assoc front (tags_in s (suc n) es) (added e.scope s (numbered (n + suc (length es)) e.meaning)))

map_same : (f g : Scope → List NumberedTag) (ps : List ℕ) → Each (λ p. f (Program p) ≡ g (Program p)) ps → map f (map Program ps) ≡ map g (map Program ps)
map_same f g [] h = refl
map_same f g (p ∷ ps) h = rw (h.0, map_same f g ps h.1) refl

-- the scopes of a list, with some tags after those of one scope
abbrev more : (Scope → List NumberedTag) → Scope → List NumberedTag → Scope → List NumberedTag
more f own ts s = f s ++ added own s ts

past : (f : Scope → List NumberedTag) (q : ℕ) (ts : List NumberedTag) (a n : ℕ) → q < a → Each (λ p. f (Program p) ≡ more f (Program q) ts (Program p)) (range_with_len a n)
past f q ts a zero h = tt
past f q ts a (suc n) h = let e : (q == a) ≡ false = ne_eqb q a (λ r. omega arith) in (rw e (sym (append-nil (f (Program a)))), past f q ts (a + 1) n (omega arith))

put_range : (f : Scope → List NumberedTag) (q : ℕ) (ts : List NumberedTag) (a n i : ℕ) → q ≡ a + i → i < n → slice_set (map f (map Program (range_with_len a n))) i (slice_index_or (map f (map Program (range_with_len a n))) i [] ++ ts) ≡ map (more f (Program q) ts) (map Program (range_with_len a n))
put_range f q ts a zero i p h = absurd (omega arith)
put_range f q ts a (suc n) zero p h =
    let at : (q == a) ≡ true = eq-eqb q a (omega arith) in
    rw at (ap (λ (l : List (List NumberedTag)). (f (Program a) ++ ts) ∷ l) (map_same f (more f (Program q) ts) (range_with_len (a + 1) n) (past f q ts (a + 1) n (omega arith))))
put_range f q ts a (suc n) (suc i) p h =
    let at : (q == a) ≡ false = ne_eqb q a (λ r. omega arith) in
    rw (at, append-nil (f (Program a)), put_range f q ts (a + 1) n i (omega arith) (omega arith)) refl

none_added : (f : Scope → List NumberedTag) (ts : List NumberedTag) (ps : List ℕ) → Each (λ p. f (Program p) ≡ more f Controller ts (Program p)) ps
none_added f ts [] = tt
none_added f ts (p ∷ ps) = (sym (append-nil (f (Program p))), none_added f ts ps)

pub put_scopes : (f : Scope → List NumberedTag) (own : Scope) (programs : ℕ) (ts : List NumberedTag) → IsScopeOf programs own → slice_set (map f (scopes programs)) (slot_of own) (slice_index_or (map f (scopes programs)) (slot_of own) [] ++ ts) ≡ map (more f own ts) (scopes programs)
put_scopes f Controller programs ts h = ap (λ (l : List (List NumberedTag)). (f Controller ++ ts) ∷ l) (map_same f (more f Controller ts) (range_with_len 0 programs) (none_added f ts (range_with_len 0 programs)))
put_scopes f (Program q) programs ts h =
    let at : q + 1 ≡ suc q = omega arith in
    rw (at, append-nil (f Controller), put_range f q ts 0 programs q (omega arith) h) refl

same_rows : (f g : Scope → List NumberedTag) (ss : List Scope) → ((s : Scope) → f s ≡ g s) → map f ss ≡ map g ss
same_rows f g [] h = refl
same_rows f g (s ∷ ss) h = rw (h s, same_rows f g ss h) refl

pub rows_snoc : (es : List Entry) (programs : ℕ) (e : Entry) → IsScopeOf programs e.scope → with_entry (rows_of es programs) (length es) e.scope e.meaning ≡ rows_of (es ++ e ∷ []) programs
rows_snoc es programs e h = go e.meaning ∙ same_rows (more (λ s. tags_in s 0 es) e.scope (numbered (length es) e.meaning)) (λ s. tags_in s 0 (es ++ e ∷ [])) (scopes programs) one
  where
    zero_on : 0 + length es ≡ length es
    zero_on = omega arith

    one : (s : Scope) → tags_in s 0 es ++ added e.scope s (numbered (length es) e.meaning) ≡ tags_in s 0 (es ++ e ∷ [])
    one s = sym (tags_snoc s 0 es e ∙ ap (λ (m : ℕ). tags_in s 0 es ++ added e.scope s (numbered m e.meaning)) zero_on)

    nothing : (own s : Scope) → tags_in s 0 es ≡ more (λ s. tags_in s 0 es) own [] s
    nothing own s = sym (by_test (same_scope own s))
      where
        by_test : (b : Bool) → tags_in s 0 es ++ cond b [] [] ≡ tags_in s 0 es
        by_test true = append-nil (tags_in s 0 es)
        by_test false = append-nil (tags_in s 0 es)

    go : (m : Meaning) → with_entry (rows_of es programs) (length es) e.scope m ≡ map (more (λ s. tags_in s 0 es) e.scope (numbered (length es) m)) (scopes programs)
    go (tag of) = put_scopes (λ s. tags_in s 0 es) e.scope programs (record { entry = length es; of = of } ∷ []) h
    go (alias target) = same_rows (λ s. tags_in s 0 es) (more (λ s. tags_in s 0 es) e.scope []) (scopes programs) (nothing e.scope)

pub rows_length : (es : List Entry) (programs : ℕ) → length (rows_of es programs) ≡ programs + 1
rows_length es programs = omega (arith, length-map (map Program (range_with_len 0 programs)) (λ s. tags_in s 0 es), length-map (range_with_len 0 programs) Program, length-range_with_len 0 programs)

pub slot_within : (programs : ℕ) (s : Scope) → IsScopeOf programs s → slot_of s < programs + 1
slot_within programs Controller h = omega arith
slot_within programs (Program p) h = omega arith

-- no entries, no tags
pub rows_empty : (programs : ℕ) → rows_of [] programs ≡ replicate (programs + 1) []
rows_empty programs = let at : programs + 1 ≡ suc programs = omega arith in rw at (ap (λ (l : List (List NumberedTag)). [] ∷ l) (none 0 programs))
  where
    none : (a n : ℕ) → map (λ s. tags_in s 0 []) (map Program (range_with_len a n)) ≡ replicate n []
    none a zero = refl
    none a (suc n) = ap (λ (l : List (List NumberedTag)). [] ∷ l) (none (a + 1) n)

-- ---- where they end

pub place_tags_grows : (types : List TypeDecl) (at : ℕ) (ts : List NumberedTag) → at ≤ place_tags_end types at ts
place_tags_grows types at [] = omega arith
place_tags_grows types at (t ∷ ts) = omega (arith, place_tags_grows types (round_up 4 (at + size_of types t.of)) ts)

-- the tag of an index ends before the last one does
pub place_tags_within : (types : List TypeDecl) (at i : ℕ) (ts : List NumberedTag) (d : NumberedTag) → i < length ts → at + size_of types (get_or ts i d).of ≤ place_tags_end types at (drop i ts)
place_tags_within types at i ts d h = rw (drop_more ts i d h) (omega (arith, place_tags_grows types (round_up 4 (at + size_of types (get_or ts i d).of)) (drop (i + 1) ts)))

-- one more tag is laid where those before it end
pub placed_next : (types : List TypeDecl) (at i : ℕ) (ts : List NumberedTag) (d : NumberedTag) (laid all : List PlacedTag) → i < length ts → laid ++ place_tags types at (drop i ts) ≡ all → (laid ++ record { entry = (get_or ts i d).entry; of = (get_or ts i d).of; start = at; end = at + size_of types (get_or ts i d).of } ∷ []) ++ place_tags types (round_up 4 (at + size_of types (get_or ts i d).of)) (drop (i + 1) ts) ≡ all
placed_next types at i ts d laid all h p = rw append_assoc (subst (λ (l : List NumberedTag). laid ++ place_tags types at l ≡ all) (drop_more ts i d h) p)

pub end_next : (types : List TypeDecl) (at i : ℕ) (ts : List NumberedTag) (d : NumberedTag) (end : ℕ) → i < length ts → place_tags_end types at (drop i ts) ≡ end → place_tags_end types (round_up 4 (at + size_of types (get_or ts i d).of)) (drop (i + 1) ts) ≡ end
end_next types at i ts d end h p = subst (λ (l : List NumberedTag). place_tags_end types at l ≡ end) (drop_more ts i d h) p
