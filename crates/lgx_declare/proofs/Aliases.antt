-- The alias of a number among all.
use Rattle.std.proofs.Common.{◌≡◌, ℕ, suc, ◌+◌, ◌<◌, List, [], ◌∷◌, length, map, get_or, Option, Some, None, refl, ap, sym, subst, arith}
use Rattle.std.specs.Prelude.{zero, filter, option_map, slice_get}
use Rattle.std.specs.Option.{option_or}
use Rattle.std.specs.Result.{result_err}
use Rattle.std.specs.List.{filter_map}
use Rattle.spec_language.specs.declared.types.TypeDecl.{TypeDecl}
use Rattle.spec_language.specs.declared.tag.Scope.{Scope}
use Rattle.spec_language.specs.declared.tag.TagCode.{TagCode}
use Rattle.spec_language.specs.Declarations.{Entry, Declarations}
use Rattle.spec_language.specs.Resolution.{aliases, first_bad, found_fixed, seal_fault, target_of}
use Rattle.spec_project.specs.declared.described.Described.{Described}
use Rattle.spec_project.specs.declared.described.DescribedMeaning.{DescribedMeaning}
use Rattle.spec_project.specs.declared.described.DescribedMeaning.TheVariants.{OfType as typed, AliasOf}
use Rattle.spec_base.specs.Causes.{IsFaultOf}
use Rattle.spec_language.specs.declared.tag.Scope.TheVariants.{Controller, Program}
use Rattle.spec_project.specs.declared.fault.ProjectFault.{ProjectFault}
use Rattle.spec_project.specs.Faults.{at_place}
use Rattle.spec_project.specs.Tags.{ScopedTag, declarations, entry_of, in_tags_of, is_alias, scoped_tags}
use Rattle.lgx_declare.specs.declared.declare.AliasPlace.{AliasPlace}
use Rattle.lgx_declare.specs.AliasPlaces.{place_of}

abbrev numbered : TagCode → ℕ → Option (TagCode × ℕ)
numbered code n = Some (code, n)

abbrev number_in : Option (TagCode × ℕ) → ℕ
number_in None = 0
number_in (Some x) = x.1

same_number : (c code : TagCode) (k n : ℕ) → numbered c k ≡ numbered code n → k ≡ n
same_number c code k n q = ap number_in q

bad_within : (d : Declarations) (k n : ℕ) (code : TagCode) (as' : List (Scope × List ℕ)) → first_bad d k as' ≡ Some (code, n) → n < k + length as'
bad_within d k n code [] p = absurd (cc p)
bad_within d k n code (a ∷ more) p = go (result_err (found_fixed d a.0 a.1)) (bad_within d (suc k) n code more) p
  where
    go : (o : Option TagCode) → (first_bad d (suc k) more ≡ Some (code, n) → n < suc k + length more) → option_or (option_map (λ c. (c, k)) o) (first_bad d (suc k) more) ≡ Some (code, n) → n < k + suc (length more)
    go (Some c) h q = omega (arith, same_number c code k n q)
    go None h q = let g = h q in omega arith

abbrev with_scope : Entry → Option (Scope × List ℕ)
with_scope e = option_map (λ target. (e.scope, target)) (target_of e.meaning)

as_many : (types : List TypeDecl) (ts : List ScopedTag) → length (filter_map with_scope (map (entry_of types) ts)) ≡ length (filter is_alias ts)
as_many types [] = refl
as_many types (t ∷ ts) = go t.tag.meaning refl (as_many types ts)
  where
    go : (m : DescribedMeaning) → t.tag.meaning ≡ m → length (filter_map with_scope (map (entry_of types) ts)) ≡ length (filter is_alias ts) → length (filter_map with_scope (map (entry_of types) (t ∷ ts))) ≡ length (filter is_alias (t ∷ ts))
    go (typed of dim) e h = rw e h
    go (AliasOf target) e h = rw e (ap suc h)

-- the first alias with a fault is one of the file's
pub alias_within : (p : Described) (code : TagCode) (n : ℕ) → seal_fault (declarations p) ≡ Some (code, n) → n < length (filter is_alias (scoped_tags p))
alias_within p code n e = let h = bad_within (declarations p) 0 n code (aliases (declarations p)) e in omega (arith, as_many p.types (scoped_tags p), h)

-- the place of an alias is where it stands
pub alias_at : (ts : List ScopedTag) (k : ℕ) (place d : AliasPlace) → k < length ts → place ≡ get_or (map place_of ts) k d → (t : ScopedTag) × (slice_get ts k ≡ Some t) × (place ≡ place_of t)
alias_at [] k place d lt is = absurd (omega arith)
alias_at (t ∷ ts) zero place d lt is = (t, refl, is)
alias_at (t ∷ ts) (suc k) place d lt is = alias_at ts k place d (omega arith) is

-- a refusal at its place, and then in its list
pub told_in : (scope : Scope) (number : ℕ) (fault : ProjectFault) (e r : Option ProjectFault) → IsFaultOf (at_place number (Some fault)) e → IsFaultOf (in_tags_of scope e) r → IsFaultOf (in_tags_of scope (at_place number (Some fault))) r
told_in scope number fault (Some g) r h k = subst (λ (o : Option ProjectFault). IsFaultOf (in_tags_of scope o) r) (sym h) k
told_in Controller number fault None None h k = tt
told_in Controller number fault None (Some x) h k = absurd (cc k)
told_in (Program n) number fault None None h k = tt
told_in (Program n) number fault None (Some x) h k = absurd (cc k)
