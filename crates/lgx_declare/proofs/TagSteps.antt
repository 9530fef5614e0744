-- The tags of a scope and of all programs, one after another.
use Rattle.std.proofs.Common.{◌≡◌, ℕ, zero, suc, ◌+◌, ◌<◌, ◌≤◌, Bool, false, None, List, [], ◌∷◌, ◌++◌, length, map, drop, get_or, refl, ap, sym, subst, ◌∙◌, arith, length-append}
use Rattle.std.proofs.lemmas.List.{at_drop_more, drop_all, length-map}
use Rattle.std.specs.List.{AllByRecursion as Each, enumerate_from}
use Rattle.std.proofs.lemmas.List.FromFn.{length-enumerate_from}
use Rattle.lgx_tags.specs.Tables.{Table}
use Rattle.spec_language.specs.declared.tag.Scope.{Scope}
use Rattle.spec_language.specs.declared.tag.Scope.TheVariants.{Controller, Program}
use Rattle.spec_language.specs.Declarations.{Declarations}
use Rattle.spec_project.specs.declared.described.DescribedProgram.{DescribedProgram}
use Rattle.spec_project.specs.declared.described.DescribedTag.{DescribedTag}
use Rattle.spec_project.specs.Faults.{or_else}
use Rattle.spec_project.specs.declared.described.Described.{Described}
use Rattle.spec_project.specs.Tags.{ScopedTag, declarations, declarations_of, entry_of, tag_fault, tags_fault, tags_in}
use Rattle.lgx_declare.specs.Declaring.{declaring_fault, program_tags_from, tags_from, with_tags}
use Rattle.lgx_declare.proofs.Declared.{all_tags, declaring_both, declaring_none, declaring_one, with_more, with_none}

-- what is declared more leaves the types and the number of programs
pub with_types : (d : Declarations) (ts : List ScopedTag) → (with_tags d ts).types ≡ d.types
unfolding with_tags
with_types d ts = refl

pub with_programs : (d : Declarations) (ts : List ScopedTag) → (with_tags d ts).programs ≡ d.programs
unfolding with_tags
with_programs d ts = refl

pub with_many : (d : Declarations) (ts : List ScopedTag) → length (with_tags d ts).entries ≡ length d.entries + length ts
unfolding with_tags
with_many d ts = length-append d.entries (map (entry_of d.types) ts) ∙ ap (λ (n : ℕ). length d.entries + n) (length-map ts (entry_of d.types))

abbrev pub scoped : Scope → ℕ → DescribedTag → ScopedTag
scoped scope i tag = record { scope = scope; number = i; tag = tag }

scope_step : (scope : Scope) (tags : List DescribedTag) (i : ℕ) (tag : DescribedTag) → i < length tags → tag ≡ get_or tags i tag → tags_from scope i (drop i tags) ≡ scoped scope i tag ∷ tags_from scope (i + 1) (drop (i + 1) tags)
scope_step scope tags i tag lt is =
    at_drop_more (λ ts. tags_from scope i ts) tags i tag lt
    ∙ ap (λ (t : DescribedTag). scoped scope i t ∷ tags_from scope (i + 1) (drop (i + 1) tags)) (sym is)

pub scope_made : (d : Declarations) (scope : Scope) (tags : List DescribedTag) (i : ℕ) (tag : DescribedTag) → i < length tags → tag ≡ get_or tags i tag
    → with_tags d (tags_from scope i (drop i tags)) ≡ with_tags (with_tags d (scoped scope i tag ∷ [])) (tags_from scope (i + 1) (drop (i + 1) tags))
scope_made d scope tags i tag lt is = ap (with_tags d) (scope_step scope tags i tag lt is) ∙ sym (with_more d (scoped scope i tag ∷ []) (tags_from scope (i + 1) (drop (i + 1) tags)))

pub scope_goes : (d : Declarations) (scope : Scope) (tags : List DescribedTag) (i : ℕ) (tag : DescribedTag) → i < length tags → tag ≡ get_or tags i tag
    → declaring_fault d (tags_from scope i (drop i tags)) ≡ or_else (tag_fault d (scoped scope i tag)) (declaring_fault (with_tags d (scoped scope i tag ∷ [])) (tags_from scope (i + 1) (drop (i + 1) tags)))
scope_goes d scope tags i tag lt is = ap (declaring_fault d) (scope_step scope tags i tag lt is) ∙ declaring_one d (scoped scope i tag) (tags_from scope (i + 1) (drop (i + 1) tags))

program_step : (programs : List DescribedProgram) (i : ℕ) (q : DescribedProgram) → i < length programs → q ≡ get_or programs i q → program_tags_from i (drop i programs) ≡ tags_in (Program i) q.tags ++ program_tags_from (i + 1) (drop (i + 1) programs)
program_step programs i q lt is =
    at_drop_more (λ qs. program_tags_from i qs) programs i q lt
    ∙ ap (λ (p : DescribedProgram). tags_in (Program i) p.tags ++ program_tags_from (i + 1) (drop (i + 1) programs)) (sym is)

pub program_made : (d : Declarations) (programs : List DescribedProgram) (i : ℕ) (q : DescribedProgram) (own : List DescribedTag) → i < length programs → q ≡ get_or programs i q → own ≡ q.tags
    → with_tags d (program_tags_from i (drop i programs)) ≡ with_tags (with_tags d (tags_in (Program i) own)) (program_tags_from (i + 1) (drop (i + 1) programs))
program_made d programs i q own lt is mine = rw mine (ap (with_tags d) (program_step programs i q lt is) ∙ sym (with_more d (tags_in (Program i) q.tags) (program_tags_from (i + 1) (drop (i + 1) programs))))

pub program_goes : (d : Declarations) (programs : List DescribedProgram) (i : ℕ) (q : DescribedProgram) (own : List DescribedTag) → i < length programs → q ≡ get_or programs i q → own ≡ q.tags
    → declaring_fault d (program_tags_from i (drop i programs)) ≡ or_else (declaring_fault d (tags_in (Program i) own)) (declaring_fault (with_tags d (tags_in (Program i) own)) (program_tags_from (i + 1) (drop (i + 1) programs)))
program_goes d programs i q own lt is mine = rw mine (ap (declaring_fault d) (program_step programs i q lt is) ∙ declaring_both d (tags_in (Program i) q.tags) (program_tags_from (i + 1) (drop (i + 1) programs)))

-- ---- at the end

pub scope_end : (scope : Scope) (tags : List DescribedTag) (i : ℕ) → length tags ≤ i → tags_from scope i (drop i tags) ≡ []
scope_end scope tags i h = ap (λ ts. tags_from scope i ts) (drop_all i tags h)

pub programs_end : (programs : List DescribedProgram) (i : ℕ) → length programs ≤ i → program_tags_from i (drop i programs) ≡ []
programs_end programs i h = ap (λ qs. program_tags_from i qs) (drop_all i programs h)

pub none_left : (d : Declarations) (ts : List ScopedTag) → ts ≡ [] → declaring_fault d ts ≡ None
none_left d ts e = ap (declaring_fault d) e ∙ declaring_none d

pub none_more : (d : Declarations) (ts : List ScopedTag) → ts ≡ [] → with_tags d ts ≡ d
none_more d ts e = ap (with_tags d) e ∙ with_none d

pub table_is : (t : Table) (d : Declarations) → t.declarations ≡ d → t.sealed ≡ false → t ≡ record { declarations = d; sealed = false }
table_is t d p q = ap (λ (e : Declarations). record { declarations = e; sealed = t.sealed }) p ∙ ap (λ (b : Bool). record { declarations = d; sealed = b }) q

pub each_at : {A : Type 0} (P : A → Type 0) (xs : List A) (i : ℕ) (x : A) → Each P xs → i < length xs → x ≡ get_or xs i x → P x
each_at P [] i x h lt is = absurd (omega arith)
each_at P (y ∷ ys) zero x h lt is = subst P (sym is) h.0
each_at P (y ∷ ys) (suc i) x h lt is = each_at P ys i x h.1 (omega arith) is

pub scope_many : (scope : Scope) (own : List DescribedTag) (q : DescribedProgram) → own ≡ q.tags → length (tags_in scope own) ≡ length q.tags
scope_many scope own q e = rw e (length-map (enumerate_from 0 q.tags) (λ e. scoped scope e.0 e.1) ∙ length-enumerate_from 0 q.tags)

-- ---- the whole

pub tags_many : (scope : Scope) (own : List DescribedTag) → length (tags_in scope own) ≡ length own
tags_many scope own = length-map (enumerate_from 0 own) (λ e. scoped scope e.0 e.1) ∙ length-enumerate_from 0 own

pub whole_fault : (p : Described) (d : Declarations) (own : List DescribedTag) (programs : List DescribedProgram) → d ≡ declarations_of p [] → own ≡ p.tags → programs ≡ p.programs
    → tags_fault p ≡ or_else (declaring_fault d (tags_in Controller own)) (declaring_fault (with_tags d (tags_in Controller own)) (program_tags_from 0 programs))
whole_fault p d own programs start mine all = rw (start, mine, all) (all_tags p ∙ declaring_both (declarations_of p []) (tags_in Controller p.tags) (program_tags_from 0 p.programs))

-- what is left when the controller's tags are declared
pub programs_left : (p : Described) (d e : Declarations) (own : List DescribedTag) (programs : List DescribedProgram) → d ≡ declarations_of p [] → own ≡ p.tags → programs ≡ p.programs
    → declaring_fault d (tags_in Controller own) ≡ None → e ≡ with_tags d (tags_in Controller own) → tags_fault p ≡ declaring_fault e (program_tags_from 0 programs)
programs_left p d e own programs start mine all none made =
    whole_fault p d own programs start mine all
    ∙ ap (λ o. or_else o (declaring_fault (with_tags d (tags_in Controller own)) (program_tags_from 0 programs))) none
    ∙ ap (λ (f : Declarations). declaring_fault f (program_tags_from 0 programs)) (sym made)

pub whole_made : (p : Described) (d : Declarations) (own : List DescribedTag) (programs : List DescribedProgram) → d ≡ declarations_of p [] → own ≡ p.tags → programs ≡ p.programs
    → with_tags (with_tags d (tags_in Controller own)) (program_tags_from 0 programs) ≡ declarations p
unfolding with_tags
whole_made p d own programs start mine all = rw (start, mine, all) (with_more (declarations_of p []) (tags_in Controller p.tags) (program_tags_from 0 p.programs))
