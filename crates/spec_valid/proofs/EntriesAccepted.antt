-- How many entries the scopes of a project have, and how long their arrays are.
use Rattle.std.specs.Prelude.{◌≡◌, ℕ, suc, ◌+◌, ◌<◌, ◌≤◌, Bool, true, false, cond, ◌==◌, List, [], ◌∷◌, ◌++◌, length, map, flat_map, IsTrue, ⊤, refl}
use Rattle.std.specs.List.{AllByRecursion as Each, enumerate_from, list_all, range_with_len}
use Rattle.std.proofs.Common.{ap, ◌∙◌, arith, eqb-true, length-append}
use Rattle.std.proofs.lemmas.Bool.{and_from, le-leb, ne_eqb}
use Rattle.std.proofs.lemmas.List.{map-append}
use Rattle.std.proofs.lemmas.List.Elements.{filter-append}
use Rattle.spec_base.proofs.Lists.{each_append}
use Rattle.spec_base.specs.declared.limits.TheConstants.{MAX_ELEMENTS}
use Rattle.spec_language.specs.Declarations.{Entry, in_scope, same_scope}
use Rattle.spec_language.specs.declared.tag.Scope.{Scope}
use Rattle.spec_language.specs.declared.tag.Scope.TheVariants.{Controller, Program}
use Rattle.spec_language.specs.declared.types.TypeDecl.{TypeDecl}
use Rattle.spec_machine.specs.ValidProject.{has_few_entries, has_few_in, has_small_array}
use Rattle.spec_machine.specs.declared.limits.TheConstants.{MAX_SCOPE_TAGS}
use Rattle.spec_project.specs.Limits.{IsSmallProgram, IsSmallTag, IsWithinLimits}
use Rattle.spec_project.specs.Tags.{ScopedTag, declarations, entry_meaning, entry_of, scoped_tags, tags_in}
use Rattle.spec_project.specs.declared.described.Described.{Described}
use Rattle.spec_project.specs.declared.described.DescribedMeaning.{DescribedMeaning}
use Rattle.spec_project.specs.declared.described.DescribedMeaning.TheVariants.{OfType as typed, AliasOf}
use Rattle.spec_project.specs.declared.described.DescribedProgram.{DescribedProgram}
use Rattle.spec_project.specs.declared.described.DescribedTag.{DescribedTag}
use Rattle.spec_valid.proofs.Lists.{all_made, all_pass}

-- ---- how many entries of a scope

-- the entries of a scope among those of these tags
abbrev many_in : List TypeDecl → Scope → List ScopedTag → ℕ
many_in types scope ts = length (in_scope (map (entry_of types) ts) scope)

many_append : (types : List TypeDecl) (scope : Scope) (ts us : List ScopedTag)
    → many_in types scope (ts ++ us) ≡ many_in types scope ts + many_in types scope us
many_append types scope ts us =
    let test = λ (e : Entry). same_scope e.scope scope in
    ap (λ es. length (in_scope es scope)) (map-append (entry_of types) ts us)
    ∙ ap length (filter-append test (map (entry_of types) ts) (map (entry_of types) us))
    ∙ length-append (in_scope (map (entry_of types) ts) scope) (in_scope (map (entry_of types) us) scope)

-- tags of a scope, the first with this number
abbrev numbered : Scope → ℕ → List DescribedTag → List ScopedTag
numbered scope i ts = map (λ e. record { scope = scope; number = e.0; tag = e.1 }) (enumerate_from i ts)

own_few : (types : List TypeDecl) (own scope : Scope) (i : ℕ) (ts : List DescribedTag)
    → many_in types scope (numbered own i ts) ≤ length ts
own_few types own scope i [] = omega arith
own_few types own scope i (t ∷ ts) = go (same_scope own scope) (own_few types own scope (i + 1) ts)
  where
    go : (b : Bool) → many_in types scope (numbered own (i + 1) ts) ≤ length ts
        → length (cond b (entry_of types (record { scope = own; number = i; tag = t }) ∷ in_scope (map (entry_of types) (numbered own (i + 1) ts)) scope) (in_scope (map (entry_of types) (numbered own (i + 1) ts)) scope)) ≤ suc (length ts)
    go true few = omega arith
    go false few = omega arith

other_none : (types : List TypeDecl) (own scope : Scope) → same_scope own scope ≡ false
    → (i : ℕ) (ts : List DescribedTag) → many_in types scope (numbered own i ts) ≡ 0
other_none types own scope other i [] = refl
other_none types own scope other i (t ∷ ts) =
    let rest = in_scope (map (entry_of types) (numbered own (i + 1) ts)) scope in
    ap (λ b. length (cond b (entry_of types (record { scope = own; number = i; tag = t }) ∷ rest) rest)) other ∙ other_none types own scope other (i + 1) ts

-- ---- the programs'

abbrev programs_tags : ℕ → List DescribedProgram → List ScopedTag
programs_tags i qs = flat_map (λ e. tags_in (Program e.0) e.1.tags) (enumerate_from i qs)

none_of_controller : (types : List TypeDecl) (i : ℕ) (qs : List DescribedProgram)
    → many_in types Controller (programs_tags i qs) ≡ 0
none_of_controller types i [] = refl
none_of_controller types i (q ∷ qs) =
    let here = other_none types (Program i) Controller refl 0 q.tags in
    let rest = none_of_controller types (i + 1) qs in
    omega (arith, many_append types Controller (tags_in (Program i) q.tags) (programs_tags (i + 1) qs), here, rest)

none_after : (types : List TypeDecl) (n i : ℕ) (qs : List DescribedProgram) → n < i
    → many_in types (Program n) (programs_tags i qs) ≡ 0
none_after types n i [] h = refl
none_after types n i (q ∷ qs) h =
    let other : (i == n) ≡ false = ne_eqb i n (λ e. omega arith) in
    let here = other_none types (Program i) (Program n) other 0 q.tags in
    let rest = none_after types n (i + 1) qs (omega arith) in
    omega (arith, many_append types (Program n) (tags_in (Program i) q.tags) (programs_tags (i + 1) qs), here, rest)

few_of_program : (types : List TypeDecl) (n i : ℕ) (qs : List DescribedProgram) → Each IsSmallProgram qs
    → many_in types (Program n) (programs_tags i qs) ≤ MAX_SCOPE_TAGS
few_of_program types n i [] h = omega arith
few_of_program types n i (q ∷ qs) h = go (i == n) refl (few_of_program types n (i + 1) qs h.1)
  where
    parts : many_in types (Program n) (programs_tags i (q ∷ qs)) ≡ many_in types (Program n) (tags_in (Program i) q.tags) + many_in types (Program n) (programs_tags (i + 1) qs)
    parts = many_append types (Program n) (tags_in (Program i) q.tags) (programs_tags (i + 1) qs)

    go : (b : Bool) → (i == n) ≡ b → many_in types (Program n) (programs_tags (i + 1) qs) ≤ MAX_SCOPE_TAGS
        → many_in types (Program n) (programs_tags i (q ∷ qs)) ≤ MAX_SCOPE_TAGS
    go true e later =
        let is : i ≡ n = eqb-true i n e in
        let few = h.0.tags.few in
        omega (arith, parts, own_few types (Program i) (Program n) 0 q.tags, none_after types n (i + 1) qs (omega arith), few)
    go false e later = omega (arith, parts, other_none types (Program i) (Program n) e 0 q.tags, later)

-- ---- all scopes

few_of_controller : (p : Described) → IsWithinLimits p → many_in p.types Controller (scoped_tags p) ≤ MAX_SCOPE_TAGS
few_of_controller p within =
    let few = within.tags.few in
    omega (arith, many_append p.types Controller (tags_in Controller p.tags) (programs_tags 0 p.programs), own_few p.types Controller Controller 0 p.tags, none_of_controller p.types 0 p.programs, few)

few_of_each : (p : Described) → IsWithinLimits p → (n : ℕ)
    → many_in p.types (Program n) (scoped_tags p) ≤ MAX_SCOPE_TAGS
few_of_each p within n =
    omega (arith, many_append p.types (Program n) (tags_in Controller p.tags) (programs_tags 0 p.programs), other_none p.types Controller (Program n) refl 0 p.tags, few_of_program p.types n 0 p.programs within.programs.each)

each_anyway : {A : Type 0} (xs : List A) → Each (λ x. ⊤) xs
each_anyway [] = tt
each_anyway (x ∷ xs) = (tt, each_anyway xs)

pub few_entries : (p : Described) → IsWithinLimits p → IsTrue (has_few_entries (declarations p))
few_entries p within =
    let d = declarations p in
    let ns = range_with_len 0 d.programs in
    and_from (has_few_in d Controller) (list_all (λ n. has_few_in d (Program n)) ns) (le-leb (many_in p.types Controller (scoped_tags p)) MAX_SCOPE_TAGS (few_of_controller p within))
    (all_pass (λ n. ⊤) (λ n. has_few_in d (Program n)) ns (λ n _. le-leb (many_in p.types (Program n) (scoped_tags p)) MAX_SCOPE_TAGS (few_of_each p within n)) (each_anyway ns))

-- ---- arrays

abbrev HasSmallArray : ScopedTag → Type 0
HasSmallArray t = IsSmallTag t.tag

small_numbered : (own : Scope) (i : ℕ) (ts : List DescribedTag) → Each IsSmallTag ts
    → Each HasSmallArray (numbered own i ts)
small_numbered own i [] h = tt
small_numbered own i (t ∷ ts) h = (h.0, small_numbered own (i + 1) ts h.1)

small_programs_tags : (i : ℕ) (qs : List DescribedProgram) → Each IsSmallProgram qs
    → Each HasSmallArray (programs_tags i qs)
small_programs_tags i [] h = tt
small_programs_tags i (q ∷ qs) h =
    each_append HasSmallArray (tags_in (Program i) q.tags) (programs_tags (i + 1) qs) (small_numbered (Program i) 0 q.tags h.0.tags.each) (small_programs_tags (i + 1) qs h.1)

small_entry : (types : List TypeDecl) (t : ScopedTag) → HasSmallArray t
    → IsTrue (has_small_array (entry_of types t).meaning)
small_entry types t h = go t.tag.meaning h
  where
    go : (m : DescribedMeaning) → HasSmallArray (record t { tag = record { name = t.tag.name; meaning = m } })
        → IsTrue (has_small_array (entry_meaning types m))
    go (typed of dim) small = le-leb dim MAX_ELEMENTS small
    go (AliasOf target) small = refl

pub small_arrays : (p : Described) → IsWithinLimits p
    → IsTrue (list_all (λ e. has_small_array e.meaning) (declarations p).entries)
small_arrays p within =
    all_made HasSmallArray (entry_of p.types) (λ e. has_small_array e.meaning) (scoped_tags p) (small_entry p.types)
    (each_append HasSmallArray (tags_in Controller p.tags) (programs_tags 0 p.programs) (small_numbered Controller 0 p.tags within.tags.each) (small_programs_tags 0 p.programs within.programs.each))
