-- The whole of a controller tag, found by the spans of the first tags and by their types.
use Rattle.std.proofs.Common.{◌≡◌, ℕ, ◌+◌, ◌*◌, ◌<◌, ◌≤◌, Bool, true, false, not, ◌&&◌, ◌||◌, ◌==◌, List, [], ◌∷◌, ◌++◌, length, map, drop, get_or, Option, Some, None, Result, Ok, Err, refl, ap, sym, subst, ◌∙◌, add-one, arith}
use Rattle.std.specs.Prelude.{cond, filter, slice_get, zero, suc}
use Rattle.std.specs.List.{AllByRecursion as Each, cons_option, enumerate_from, flat_map, list_any, range_with_len}
use Rattle.std.proofs.lemmas.List.{append-nil, drop_all, map-append}
use Rattle.std.proofs.lemmas.List.Elements.{filter-append}
use Rattle.spec_base.proofs.Lists.{each_flat}
use Rattle.spec_language.specs.declared.types.DataType.{DataType}
use Rattle.spec_language.specs.declared.types.TypeDecl.{TypeDecl}
use Rattle.spec_language.specs.declared.tag.Found.{Found}
use Rattle.spec_language.specs.declared.tag.Scope.{Scope}
use Rattle.spec_language.specs.declared.tag.Scope.TheVariants.{Controller, Program}
use Rattle.spec_language.specs.declared.tag.TagCode.{TagCode}
use Rattle.spec_language.specs.Declarations.{Entry, Meaning, entry_size, in_scope, laid_from, same_scope}
use Rattle.spec_language.specs.Layout.{round_up, size_of}
use Rattle.spec_project.specs.declared.described.Described.{Described}
use Rattle.spec_project.specs.declared.described.DescribedMeaning.{DescribedMeaning}
use Rattle.spec_project.specs.declared.described.DescribedMeaning.TheVariants.{OfType as typed, AliasOf}
use Rattle.spec_project.specs.declared.described.DescribedProgram.{DescribedProgram}
use Rattle.spec_project.specs.declared.described.DescribedTag.{DescribedTag}
use Rattle.spec_project.specs.declared.fault.ProjectCode.TheVariants.{P5}
use Rattle.spec_project.specs.Faults.{here, refused_if}
use Rattle.spec_project.specs.Places.{connected_refusal, found_refusal, is_controller_tag, is_short, is_whole_tag, may_connect}
use Rattle.spec_project.specs.Tags.{ScopedTag, data_type, declarations, entry_of, tags_in}
use Rattle.spec_language.specs.declared.span.TagSpan.{TagSpan}
use Rattle.spec_language.specs.TagSpans.{is_laid_tag, span_of, spans_of}
use Rattle.lgx_places.specs.WholeTags.{connected_among, is_one_of, is_tag_at, meaning_type, tag_types}

-- ---- the controller's entries come first

abbrev numbered : Scope → ℕ → List DescribedTag → List ScopedTag
numbered scope i tags = map (λ e. record { scope = scope; number = e.0; tag = e.1 }) (enumerate_from i tags)

abbrev is_own : Entry → Bool
is_own e = same_scope e.scope Controller

abbrev IsOther : Entry → Type 0
IsOther e = is_own e ≡ false

all_own : (types : List TypeDecl) (i : ℕ) (tags : List DescribedTag) → filter is_own (map (entry_of types) (numbered Controller i tags)) ≡ map (entry_of types) (numbered Controller i tags)
all_own types i [] = refl
all_own types i (t ∷ tags) = ap (λ es. entry_of types (record { scope = Controller; number = i; tag = t }) ∷ es) (all_own types (i + 1) tags)

none_own : (types : List TypeDecl) (n i : ℕ) (tags : List DescribedTag) → filter is_own (map (entry_of types) (numbered (Program n) i tags)) ≡ []
none_own types n i [] = refl
none_own types n i (t ∷ tags) = none_own types n (i + 1) tags

abbrev of_programs : ℕ → List DescribedProgram → List ScopedTag
of_programs i programs = flat_map (λ e. tags_in (Program e.0) e.1.tags) (enumerate_from i programs)

no_program_own : (types : List TypeDecl) (i : ℕ) (programs : List DescribedProgram) → filter is_own (map (entry_of types) (of_programs i programs)) ≡ []
no_program_own types i [] = refl
no_program_own types i (q ∷ programs) =
    ap (filter is_own) (map-append (entry_of types) (tags_in (Program i) q.tags) (of_programs (i + 1) programs))
    ∙ filter-append is_own (map (entry_of types) (tags_in (Program i) q.tags)) (map (entry_of types) (of_programs (i + 1) programs))
    ∙ ap (λ es. es ++ filter is_own (map (entry_of types) (of_programs (i + 1) programs))) (none_own types i 0 q.tags)
    ∙ no_program_own types (i + 1) programs

own_entries : (p : Described) → in_scope (declarations p).entries Controller ≡ map (entry_of p.types) (tags_in Controller p.tags)
own_entries p =
    ap (filter is_own) (map-append (entry_of p.types) (tags_in Controller p.tags) (of_programs 0 p.programs))
    ∙ filter-append is_own (map (entry_of p.types) (tags_in Controller p.tags)) (map (entry_of p.types) (of_programs 0 p.programs))
    ∙ ap (λ es. es ++ filter is_own (map (entry_of p.types) (of_programs 0 p.programs))) (all_own p.types 0 p.tags)
    ∙ ap (λ es. map (entry_of p.types) (tags_in Controller p.tags) ++ es) (no_program_own p.types 0 p.programs)
    ∙ append-nil (map (entry_of p.types) (tags_in Controller p.tags))

-- ---- and the programs' are none of the controller's

in_program_other : (n : ℕ) (es : List Entry) → Each IsOther (in_scope es (Program n))
in_program_other n [] = tt
in_program_other n (e ∷ es) = go e.scope e.name e.meaning (in_program_other n es)
  where
    go : (scope : Scope) (name : List ℕ) (meaning : Meaning) → Each IsOther (in_scope es (Program n)) → Each IsOther (in_scope (record { scope = scope; name = name; meaning = meaning } ∷ es) (Program n))
    go Controller name meaning h = h
    go (Program m) name meaning h = by_test (m == n)
      where
        by_test : (b : Bool) → Each IsOther (cond b (record { scope = Program m; name = name; meaning = meaning } ∷ in_scope es (Program n)) (in_scope es (Program n)))
        by_test true = (refl, h)
        by_test false = h

none_laid : (types : List TypeDecl) (f : Found) (at : ℕ) (es : List Entry) → Each IsOther es → list_any (is_controller_tag f) (laid_from types at es) ≡ false
none_laid types f at [] h = refl
none_laid types f at (e ∷ es) h = rw h.0 (none_laid types f (round_up 4 (at + entry_size types e)) es h.1)

-- ---- tag by tag

no_more_types : (at : ℕ) (of : DataType) (spans : List TagSpan) → is_one_of at of spans [] ≡ false
no_more_types at of [] = refl
no_more_types at of (span ∷ spans) = refl

never : (b rest : Bool) → (b && false || rest) ≡ rest
never true rest = refl
never false rest = refl

abbrev laid_spans : List TypeDecl → ℕ → List Entry → List TagSpan
laid_spans types at es = map (span_of types) (filter is_laid_tag (laid_from types at es))

first_tags : (types : List TypeDecl) (f : Found) (at i : ℕ) (tags : List DescribedTag) (rest : List Entry) → Each IsOther rest
    → list_any (is_controller_tag f) (laid_from types at (map (entry_of types) (numbered Controller i tags) ++ rest))
    ≡ is_one_of f.at f.of (laid_spans types at (map (entry_of types) (numbered Controller i tags) ++ rest)) (tag_types types tags)
first_tags types f at i [] rest h = none_laid types f at rest h ∙ sym (no_more_types f.at f.of (laid_spans types at rest))
first_tags types f at i (t ∷ tags) rest h = go t.name t.meaning (λ next. first_tags types f next (i + 1) tags rest h)
  where
    go : (name : List ℕ) (meaning : DescribedMeaning)
        → ((next : ℕ) → list_any (is_controller_tag f) (laid_from types next (map (entry_of types) (numbered Controller (i + 1) tags) ++ rest)) ≡ is_one_of f.at f.of (laid_spans types next (map (entry_of types) (numbered Controller (i + 1) tags) ++ rest)) (tag_types types tags))
        → list_any (is_controller_tag f) (laid_from types at (entry_of types (record { scope = Controller; number = i; tag = record { name = name; meaning = meaning } }) ∷ map (entry_of types) (numbered Controller (i + 1) tags) ++ rest))
        ≡ is_one_of f.at f.of (laid_spans types at (entry_of types (record { scope = Controller; number = i; tag = record { name = name; meaning = meaning } }) ∷ map (entry_of types) (numbered Controller (i + 1) tags) ++ rest)) (tag_types types (record { name = name; meaning = meaning } ∷ tags))
    go name (typed of dim) after = ap (λ b. is_tag_at f.at f.of (span_of types (at, entry_of types (record { scope = Controller; number = i; tag = record { name = name; meaning = typed of dim } }))) (data_type types of dim) || b) (after (round_up 4 (at + size_of types (data_type types of dim))))
    go name (AliasOf target) after = never (8 * at == f.at) _ ∙ after (round_up 4 (at + 0))

pub whole_is_one_of : (p : Described) (f : Found) → is_whole_tag (declarations p) f ≡ is_one_of f.at f.of (spans_of (declarations p)) (tag_types p.types p.tags)
whole_is_one_of p f =
    let others : List Entry = flat_map (λ n. in_scope (declarations p).entries (Program n)) (range_with_len 0 (length p.programs)) in
    let are : Each IsOther others = each_flat IsOther (λ n. in_scope (declarations p).entries (Program n)) (range_with_len 0 (length p.programs)) (λ n. in_program_other n (declarations p).entries) in
    let P : List Entry → Type 0 = λ own. list_any (is_controller_tag f) (laid_from p.types 0 (own ++ others)) ≡ is_one_of f.at f.of (laid_spans p.types 0 (own ++ others)) (tag_types p.types p.tags) in
    subst P (sym (own_entries p)) (first_tags p.types f 0 0 p.tags others are)

-- what is refused is the same
pub same_refusals : (p : Described) (types : List DataType) (r : Result Found TagCode) → types ≡ tag_types p.types p.tags → found_refusal (connected_among (declarations p) types) r ≡ found_refusal (connected_refusal (declarations p)) r
same_refusals p types (Err code) is = refl
same_refusals p types (Ok f) is =
    rw is (ap (λ b. refused_if (not (b && may_connect f.of && is_short (declarations p) f.of)) (here P5)) (sym (whole_is_one_of p f)))

-- ---- one more

abbrev GoesOn : ℕ → DataType → List TagSpan → List DataType → ℕ → Type 0
GoesOn at of spans types i = is_one_of at of (drop i spans) (drop i types) ≡ is_one_of at of spans types

-- there are no more tags
none_left : (at : ℕ) (of : DataType) (spans : List TagSpan) (types : List DataType) (i : ℕ) → slice_get spans i ≡ None → is_one_of at of (drop i spans) (drop i types) ≡ false
none_left at of [] types zero e = refl
none_left at of [] types (suc i) e = refl
none_left at of (span ∷ spans) types zero e = absurd (cc e)
none_left at of (span ∷ spans) [] (suc i) e = no_more_types at of (drop i spans)
none_left at of (span ∷ spans) (t ∷ types) (suc i) e = none_left at of spans types i e

pub no_more_tags : (at : ℕ) (of : DataType) (spans : List TagSpan) (types : List DataType) (i : ℕ) → GoesOn at of spans types i → slice_get spans i ≡ None → is_one_of at of spans types ≡ false
no_more_tags at of spans types i goes e = sym goes ∙ none_left at of spans types i e

some_inj : (s t : TagSpan) → Some s ≡ Some t → s ≡ t
some_inj s t e = cc

-- there is one more
one_of_suc : (at : ℕ) (of : DataType) (spans : List TagSpan) (types : List DataType) (i : ℕ) (span : TagSpan) (d : DataType) → i < length types → slice_get spans i ≡ Some span
    → is_one_of at of (drop i spans) (drop i types) ≡ is_tag_at at of span (get_or types i d) || is_one_of at of (drop (suc i) spans) (drop (suc i) types)
one_of_suc at of spans [] i span d lt e = absurd (omega arith)
one_of_suc at of [] (t ∷ types) i span d lt e = absurd (cc e)
one_of_suc at of (s ∷ spans) (t ∷ types) zero span d lt e = ap (λ (x : TagSpan). is_tag_at at of x t || is_one_of at of spans types) (some_inj s span e)
one_of_suc at of (s ∷ spans) (t ∷ types) (suc i) span d lt e = one_of_suc at of spans types i span d (omega arith) e

one_of_step : (at : ℕ) (of : DataType) (spans : List TagSpan) (types : List DataType) (i : ℕ) (span : TagSpan) (d : DataType) → i < length types → slice_get spans i ≡ Some span
    → is_one_of at of (drop i spans) (drop i types) ≡ is_tag_at at of span (get_or types i d) || is_one_of at of (drop (i + 1) spans) (drop (i + 1) types)
one_of_step at of spans types i span d lt e = rw add-one (one_of_suc at of spans types i span d lt e)

-- it is the one, or it isn't
pub this_tag : (at : ℕ) (of : DataType) (spans : List TagSpan) (types : List DataType) (i : ℕ) (span : TagSpan) (d : DataType) → i < length types → GoesOn at of spans types i
    → slice_get spans i ≡ Some span → is_tag_at at of span (get_or types i d) ≡ true → is_one_of at of spans types ≡ true
this_tag at of spans types i span d lt goes e passes =
    sym goes ∙ one_of_step at of spans types i span d lt e ∙ ap (λ b. b || is_one_of at of (drop (i + 1) spans) (drop (i + 1) types)) passes

pub later_tag : (at : ℕ) (of : DataType) (spans : List TagSpan) (types : List DataType) (i : ℕ) (span : TagSpan) (d : DataType) → i < length types → GoesOn at of spans types i
    → slice_get spans i ≡ Some span → is_tag_at at of span (get_or types i d) ≡ false → GoesOn at of spans types (i + 1)
later_tag at of spans types i span d lt goes e fails =
    sym (sym goes ∙ one_of_step at of spans types i span d lt e ∙ ap (λ b. b || is_one_of at of (drop (i + 1) spans) (drop (i + 1) types)) fails)

pub no_tag_left : (at : ℕ) (of : DataType) (spans : List TagSpan) (types : List DataType) (i : ℕ) → length types ≤ i → GoesOn at of spans types i → is_one_of at of spans types ≡ false
no_tag_left at of spans types i h goes = sym goes ∙ ap (is_one_of at of (drop i spans)) (drop_all i types h) ∙ no_more_types at of (drop i spans)

pub few_types : (types : List TypeDecl) (tags : List DescribedTag) → length (tag_types types tags) ≤ length tags
few_types types [] = omega arith
few_types types (t ∷ tags) = go (meaning_type types t.meaning) (few_types types tags)
  where
    go : (o : Option DataType) → length (tag_types types tags) ≤ length tags → length (cons_option o (tag_types types tags)) ≤ suc (length tags)
    go (Some of) h = omega arith
    go None h = omega arith
