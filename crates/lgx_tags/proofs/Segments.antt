-- The tags as they are laid: each with its number among the entries, where it begins by the entries before it.
use Rattle.std.specs.Prelude.{◌≡◌, ℕ, zero, suc, ◌+◌, ◌%◌, ◌≤◌, Bool, true, false, cond, List, [], ◌∷◌, ◌++◌, map, filter, flat_map, slice_get, Some, refl, ⊤}
use Rattle.std.specs.List.{AllByRecursion as Each, range_with_len}
use Rattle.std.proofs.lemmas.List.{append-nil}
use Rattle.std.proofs.lemmas.List.Elements.{filter-append}
use Rattle.lgx_types.specs.Tables.{HasSize}
use Rattle.lgx_tags.specs.Tables.{IsSized, IsAdmitted}
use Rattle.lgx_tags.proofs.Rows.{place_tags_grows}
use Rattle.std.proofs.Common.{sym, ap, ◌∙◌, arith, subst, append_assoc}
use Rattle.spec_language.specs.declared.types.TypeDecl.{TypeDecl}
use Rattle.spec_language.specs.declared.tag.Scope.{Scope}
use Rattle.spec_language.specs.declared.tag.Scope.TheVariants.{Controller, Program}
use Rattle.spec_language.specs.Layout.{round_up, size_of}
use Rattle.spec_language.specs.Declarations.{Meaning, tag, alias, Entry, Declarations, same_scope, in_scope, entry_size, in_order, laid_from, end_of, bytes}
use Rattle.spec_base.proofs.Lists.{each_append, each_flat}
use Rattle.spec_language.specs.TagSpans.{is_laid_tag}
use Rattle.lgx_tags.specs.Layouts.{scopes, numbered, tags_in, rows_of, order_of, place_tags, place_tags_end, placed_tags}
use Rattle.lgx_tags.specs.Starts.{padded_size, padded_total, begin_in, programs_from, laid_before, start_of}
use Rattle.lgx_tags.specs.declared.layout.NumberedTag.{NumberedTag}
use Rattle.lgx_tags.specs.declared.layout.PlacedTag.{PlacedTag}
use Rattle.lgx_tags.proofs.Spans.{next_at, words, words_on, total_append, end_is}
use Rattle.lgx_tags.proofs.Starts.{laid_append, range_append}
use Rattle.lgx_tags.proofs.Chains.{scope_same}
use Rattle.std.proofs.lemmas.Grind.{flat_map-append}

-- a tag as it is laid
pub record LaidIs (d : Declarations) (l : PlacedTag) : Type 0 where
  pub entry : Entry
  pub there : slice_get d.entries l.entry ≡ Some entry
  pub type_is : entry.meaning ≡ tag l.of
  pub start_is : l.start ≡ start_of d entry.scope l.entry
  pub end_is : l.end ≡ l.start + size_of d.types l.of

-- the same tags, with and without their numbers
abbrev pub Pairs : Declarations → List PlacedTag → List (ℕ × Entry) → Type 0
Pairs d [] [] = ⊤
Pairs d [] (x ∷ xs) = ⊥
Pairs d (l ∷ ls) [] = ⊥
Pairs d (l ∷ ls) (x ∷ xs) = (l.start ≡ x.0) × (slice_get d.entries l.entry ≡ Some x.1) × (x.1.meaning ≡ tag l.of) × Pairs d ls xs

pub pairs_append : (d : Declarations) (ls ms : List PlacedTag) (xs ys : List (ℕ × Entry)) → Pairs d ls xs → Pairs d ms ys → Pairs d (ls ++ ms) (xs ++ ys)
pairs_append d [] ms [] ys p q = q
pairs_append d [] ms (x ∷ xs) ys p q = absurd p
pairs_append d (l ∷ ls) ms [] ys p q = absurd p
pairs_append d (l ∷ ls) ms (x ∷ xs) ys p q = (p.0, p.1, p.2, pairs_append d ls ms xs ys p.3 q)

pub place_tags_append : (types : List TypeDecl) (at : ℕ) (ts us : List NumberedTag) → place_tags types at (ts ++ us) ≡ place_tags types at ts ++ place_tags types (place_tags_end types at ts) us
place_tags_append types at [] us = refl
place_tags_append types at (t ∷ ts) us = ap (λ (l : List PlacedTag). record { entry = t.entry; of = t.of; start = at; end = at + size_of types t.of } ∷ l) (place_tags_append types (round_up 4 (at + size_of types t.of)) ts us)

pub place_tags_end_append : (types : List TypeDecl) (at : ℕ) (ts us : List NumberedTag) → place_tags_end types at (ts ++ us) ≡ place_tags_end types (place_tags_end types at ts) us
place_tags_end_append types at [] us = refl
place_tags_end_append types at (t ∷ ts) us = place_tags_end_append types (round_up 4 (at + size_of types t.of)) ts us

-- ---- one scope

-- what is laid of tags, beside entries laid from the same byte
pub record Segment (d : Declarations) (at : ℕ) (ts : List NumberedTag) (es : List Entry) : Type 0 where
  pub laid : Each (LaidIs d) (place_tags d.types at ts)
  pub pairs : Pairs d (place_tags d.types at ts) (filter is_laid_tag (laid_from d.types at es))
  pub end : place_tags_end d.types at ts ≡ end_of d.types at es

-- an alias takes no bytes
no_bytes : (at : ℕ) → at % 4 ≡ 0 → round_up 4 (at + 0) ≡ at
no_bytes at p = omega arith

one_segment : (d : Declarations) (s : Scope) (n at : ℕ) (sc : Scope) (nm : List ℕ) (m : Meaning) (ts : List NumberedTag) (xs : List Entry) → at % 4 ≡ 0 → slice_get d.entries n ≡ Some (record { scope = sc; name = nm; meaning = m }) → at ≡ start_of d s n → (b : Bool) → same_scope sc s ≡ b → Segment d (cond b (at + padded_size d.types (record { scope = sc; name = nm; meaning = m })) at) ts xs → Segment d at (cond b (numbered n m) [] ++ ts) (cond b (record { scope = sc; name = nm; meaning = m } ∷ xs) xs)
one_segment d s n at sc nm m ts xs p g r false q rest = rest
one_segment d s n at sc nm (alias target) ts xs p g r true q rest =
    let on : at + 0 ≡ at = omega arith in
    let here : Segment d at ts xs = subst (λ (b : ℕ). Segment d b ts xs) on rest in
    let stuck : at ≡ round_up 4 (at + 0) = sym (no_bytes at p) in
    record { laid = here.laid; pairs = subst (λ (b : ℕ). Pairs d (place_tags d.types at ts) (filter is_laid_tag (laid_from d.types b xs))) stuck here.pairs; end = here.end ∙ ap (λ (b : ℕ). end_of d.types b xs) stuck }
one_segment d s n at sc nm (tag of) ts xs p g r true q rest =
    let after : Segment d (round_up 4 (at + size_of d.types of)) ts xs = subst (λ (b : ℕ). Segment d b ts xs) (sym (next_at at (size_of d.types of) p)) rest in
    let own : start_of d s n ≡ start_of d sc n = ap (λ (t : Scope). start_of d t n) (sym (scope_same sc s q)) in
    record { laid = (record { entry = record { scope = sc; name = nm; meaning = tag of }; there = g; type_is = refl; start_is = r ∙ own; end_is = refl }, after.laid); pairs = (refl, g, refl, after.pairs); end = after.end }

words_share : (at n : ℕ) (b : Bool) → at % 4 ≡ 0 → cond b (at + round_up 4 n) at % 4 ≡ 0
words_share at n true p = words_on at n p
words_share at n false p = p

pub scope_segment : (d : Declarations) (s : Scope) (n at : ℕ) (es : List Entry) → at % 4 ≡ 0 → ((i : ℕ) → slice_get es i ≡ slice_get d.entries (n + i)) → ((i : ℕ) → begin_in d.types s at es i ≡ start_of d s (n + i)) → Segment d at (tags_in s n es) (in_scope es s)
scope_segment d s n at [] p g r = record { laid = tt; pairs = tt; end = refl }
scope_segment d s n at (e ∷ es) p g r =
    let b : Bool = same_scope e.scope s in
    let first : n + 0 ≡ n = omega arith in
    one_segment d s n at e.scope e.name e.meaning (tags_in s (suc n) es) (in_scope es s) p (ap (slice_get d.entries) (sym first) ∙ sym (g 0)) (r 0 ∙ ap (start_of d s) first) b refl (scope_segment d s (suc n) (cond b (at + padded_size d.types e) at) es (words_share at (entry_size d.types e) b p) (λ i. g (suc i) ∙ ap (slice_get d.entries) (shift i)) (λ i. r (suc i) ∙ ap (start_of d s) (shift i)))
  where
    shift : (i : ℕ) → n + suc i ≡ suc n + i
    shift i = omega arith

-- ---- all scopes

pub join : (d : Declarations) (at : ℕ) (ts us : List NumberedTag) (xs ys : List Entry) → Segment d at ts xs → Segment d (end_of d.types at xs) us ys → Segment d at (ts ++ us) (xs ++ ys)
join d at ts us xs ys p q =
    let after : Segment d (place_tags_end d.types at ts) us ys = subst (λ (b : ℕ). Segment d b us ys) (sym p.end) q in
    let laids : place_tags d.types at (ts ++ us) ≡ place_tags d.types at ts ++ place_tags d.types (place_tags_end d.types at ts) us = place_tags_append d.types at ts us in
    let entries : filter is_laid_tag (laid_from d.types at (xs ++ ys)) ≡ filter is_laid_tag (laid_from d.types at xs) ++ filter is_laid_tag (laid_from d.types (end_of d.types at xs) ys) = ap (filter is_laid_tag) (laid_append d.types at xs ys) ∙ filter-append is_laid_tag (laid_from d.types at xs) (laid_from d.types (end_of d.types at xs) ys) in
    let pairs : Pairs d (place_tags d.types at ts ++ place_tags d.types (place_tags_end d.types at ts) us) (filter is_laid_tag (laid_from d.types at xs) ++ filter is_laid_tag (laid_from d.types (end_of d.types at xs) ys)) = pairs_append d (place_tags d.types at ts) (place_tags d.types (place_tags_end d.types at ts) us) (filter is_laid_tag (laid_from d.types at xs)) (filter is_laid_tag (laid_from d.types (end_of d.types at xs) ys)) p.pairs (subst (λ (b : ℕ). Pairs d (place_tags d.types (place_tags_end d.types at ts) us) (filter is_laid_tag (laid_from d.types b ys))) p.end after.pairs) in
    record {
      laid = subst (Each (LaidIs d)) (sym laids) (each_append (LaidIs d) (place_tags d.types at ts) (place_tags d.types (place_tags_end d.types at ts) us) p.laid after.laid);
      pairs = subst (λ (ls : List PlacedTag). Pairs d ls (filter is_laid_tag (laid_from d.types at (xs ++ ys)))) (sym laids) (subst (Pairs d (place_tags d.types at ts ++ place_tags d.types (place_tags_end d.types at ts) us)) (sym entries) pairs);
      end = place_tags_end_append d.types at ts us ∙ after.end ∙ ap (λ (b : ℕ). end_of d.types b ys) p.end ∙ ends_append d.types at xs ys;
    }
  where
    ends_append : (types : List TypeDecl) (at : ℕ) (xs ys : List Entry) → end_of types (end_of types at xs) ys ≡ end_of types at (xs ++ ys)
    ends_append types at [] ys = refl
    ends_append types at (x ∷ xs) ys = ends_append types (round_up 4 (at + entry_size types x)) xs ys

-- the tags of a scope, where it begins
whole_scope : (d : Declarations) (s : Scope) (at : ℕ) → at ≡ padded_total d.types (laid_before d.entries s) → Segment d at (tags_in s 0 d.entries) (in_scope d.entries s)
whole_scope d s at p = scope_segment d s 0 at d.entries (ap (λ (n : ℕ). n % 4) p ∙ words d.types (laid_before d.entries s)) (λ i. ap (slice_get d.entries) (zero_on i)) (λ i. ap (λ (b : ℕ). begin_in d.types s b d.entries i) p ∙ ap (start_of d s) (zero_on i))
  where
    zero_on : (i : ℕ) → i ≡ 0 + i
    zero_on i = omega arith

next_program : (es : List Entry) (a : ℕ) → laid_before es (Program (a + 1)) ≡ laid_before es (Program a) ++ in_scope es (Program a)
next_program es a =
    let one : range_with_len 0 (a + 1) ≡ range_with_len 0 a ++ a ∷ [] = range_append 0 a 1 ∙ ap (λ (b : ℕ). range_with_len 0 a ++ b ∷ []) zero_on in
    ap (λ (ps : List ℕ). in_scope es Controller ++ flat_map (λ p. in_scope es (Program p)) ps) one ∙ ap (λ (l : List Entry). in_scope es Controller ++ l) (flat_map-append (λ p. in_scope es (Program p)) (range_with_len 0 a) (a ∷ [])) ∙ ap (λ (l : List Entry). in_scope es Controller ++ (programs_from es 0 a ++ l)) (append-nil (in_scope es (Program a))) ∙ sym (append_assoc (in_scope es Controller) (programs_from es 0 a) (in_scope es (Program a)))
  where
    zero_on : 0 + a ≡ a
    zero_on = omega arith

programs_segment : (d : Declarations) (a k at : ℕ) → at ≡ padded_total d.types (laid_before d.entries (Program a)) → Segment d at (flat_map (λ s. tags_in s 0 d.entries) (map Program (range_with_len a k))) (flat_map (λ p. in_scope d.entries (Program p)) (range_with_len a k))
programs_segment d a zero at p = record { laid = tt; pairs = tt; end = refl }
programs_segment d a (suc k) at p =
    let xs : List Entry = in_scope d.entries (Program a) in
    let after : end_of d.types at xs ≡ padded_total d.types (laid_before d.entries (Program (a + 1))) = end_is d.types at xs (ap (λ (n : ℕ). n % 4) p ∙ words d.types (laid_before d.entries (Program a))) ∙ ap (λ (n : ℕ). n + padded_total d.types xs) p ∙ sym (total_append d.types (laid_before d.entries (Program a)) xs) ∙ ap (padded_total d.types) (sym (next_program d.entries a)) in
    join d at (tags_in (Program a) 0 d.entries) (flat_map (λ s. tags_in s 0 d.entries) (map Program (range_with_len (a + 1) k))) xs (flat_map (λ p. in_scope d.entries (Program p)) (range_with_len (a + 1) k)) (whole_scope d (Program a) at p) (programs_segment d (a + 1) k (end_of d.types at xs) after)

pub all_segment : (d : Declarations) → Segment d 0 (order_of d) (in_order d)
all_segment d =
    let xs : List Entry = in_scope d.entries Controller in
    let after : end_of d.types 0 xs ≡ padded_total d.types (laid_before d.entries (Program 0)) = omega (arith, end_is d.types 0 xs refl, ap (padded_total d.types) (append-nil xs)) in
    join d 0 (tags_in Controller 0 d.entries) (flat_map (λ s. tags_in s 0 d.entries) (map Program (range_with_len 0 d.programs))) xs (flat_map (λ p. in_scope d.entries (Program p)) (range_with_len 0 d.programs)) (whole_scope d Controller 0 refl) (programs_segment d 0 d.programs (end_of d.types 0 xs) after)

-- ---- what follows

pub laid_tags : (d : Declarations) → Each (LaidIs d) (placed_tags d)
laid_tags d = (all_segment d).laid

pub ends_at : (d : Declarations) → place_tags_end d.types 0 (order_of d) ≡ bytes d
ends_at d = (all_segment d).end

pub starts_within : (types : List TypeDecl) (at most : ℕ) (ts : List NumberedTag) → place_tags_end types at ts ≤ most → Each (λ l. l.start ≤ most) (place_tags types at ts)
starts_within types at most [] h = tt
starts_within types at most (t ∷ ts) h = (omega (arith, place_tags_grows types (round_up 4 (at + size_of types t.of)) ts), starts_within types (round_up 4 (at + size_of types t.of)) most ts h)

pub rows_flat : (es : List Entry) (programs : ℕ) → flat_map (λ row. row) (rows_of es programs) ≡ flat_map (λ s. tags_in s 0 es) (scopes programs)
rows_flat es programs = go (scopes programs)
  where
    go : (ss : List Scope) → flat_map (λ row. row) (map (λ s. tags_in s 0 es) ss) ≡ flat_map (λ s. tags_in s 0 es) ss
    go [] = refl
    go (s ∷ ss) = ap (λ (l : List NumberedTag). tags_in s 0 es ++ l) (go ss)

sized_tags : (types : List TypeDecl) (programs : ℕ) (s : Scope) (n : ℕ) (es : List Entry) → Each (IsAdmitted types programs) es → Each (λ t. HasSize types t.of) (tags_in s n es)
sized_tags types programs s n [] h = tt
sized_tags types programs s n (e ∷ es) h = each_append (λ t. HasSize types t.of) (cond (same_scope e.scope s) (numbered n e.meaning) []) (tags_in s (suc n) es) (one (same_scope e.scope s) e.meaning h.0.sized) (sized_tags types programs s (suc n) es h.1)
  where
    one : (b : Bool) (m : Meaning) → IsSized types m → Each (λ t. HasSize types t.of) (cond b (numbered n m) [])
    one true (tag of) p = (p, tt)
    one true (alias target) p = tt
    one false m p = tt

pub order_sized : (d : Declarations) → Each (IsAdmitted d.types d.programs) d.entries → Each (λ t. HasSize d.types t.of) (order_of d)
order_sized d h = each_flat (λ t. HasSize d.types t.of) (λ s. tags_in s 0 d.entries) (scopes d.programs) (λ s. sized_tags d.types d.programs s 0 d.entries h)
