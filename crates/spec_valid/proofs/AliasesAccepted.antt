-- Aliases of which none is refused: each names something.
use Rattle.std.specs.Prelude.{◌≡◌, ℕ, suc, ◌+◌, ◌<◌, List, [], ◌∷◌, length, map, filter, filter_map, slice_get, zero, decimal, Option, Some, None, option_and_then, option_map, refl}
use Rattle.std.specs.Option.{option_or}
use Rattle.std.specs.Result.{result_err}
use Rattle.std.proofs.Common.{ap, arith}
use Rattle.std.proofs.lemmas.Option.{same_Some}
use Rattle.spec_language.specs.Declarations.{Declarations, Entry}
use Rattle.spec_language.specs.Resolution.{aliases, first_bad, found_fixed, seal_fault, target_of}
use Rattle.spec_language.specs.declared.tag.Scope.{Scope}
use Rattle.spec_language.specs.declared.tag.TagCode.{TagCode}
use Rattle.spec_language.specs.declared.types.TypeDecl.{TypeDecl}
use Rattle.spec_project.specs.Faults.{here_for, under}
use Rattle.spec_project.specs.Tags.{ScopedTag, aliases_fault, at_tag, declarations, entry_of, is_alias, scoped_tags}
use Rattle.spec_project.specs.declared.described.Described.{Described}
use Rattle.spec_project.specs.declared.described.DescribedMeaning.{DescribedMeaning}
use Rattle.spec_project.specs.declared.described.DescribedMeaning.TheVariants.{OfType as typed, AliasOf}
use Rattle.spec_project.specs.declared.fault.Inner.TheVariants.{OfTag}
use Rattle.spec_project.specs.declared.fault.ProjectCode.TheVariants.{P9}
use Rattle.spec_project.specs.declared.fault.ProjectFault.{ProjectFault}
use Rattle.spec_valid.proofs.Passes.{not_mapped}
use Rattle.spec_valid.proofs.TagsAccepted.{not_in_tags}

-- the number of the first bad alias is one of the aliases'
bad_below : (d : Declarations) (k : ℕ) (found : List (Scope × List ℕ)) (x : TagCode × ℕ) → first_bad d k found ≡ Some x
    → x.1 < k + length found
bad_below d k [] x h = absurd (cc h)
bad_below d k (a ∷ more) x h = go (result_err (found_fixed d a.0 a.1)) (bad_below d (suc k) more x) h
  where
    go : (o : Option TagCode) → (first_bad d (suc k) more ≡ Some x → x.1 < suc k + length more)
        → option_or (option_map (λ code. (code, k)) o) (first_bad d (suc k) more) ≡ Some x → x.1 < k + suc (length more)
    go (Some code) later r = let e : k ≡ x.1 = ap (λ (y : TagCode × ℕ). y.1) (same_Some (code, k) x r) in omega arith
    go None later r = omega (arith, later r)

abbrev alias_in : Entry → Option (Scope × List ℕ)
alias_in e = option_map (λ target. (e.scope, target)) (target_of e.meaning)

abbrev with_meaning : ScopedTag → DescribedMeaning → ScopedTag
with_meaning t m = record t { tag = record { name = t.tag.name; meaning = m } }

-- the aliases among the declarations are those among the tags
as_many : (types : List TypeDecl) (ts : List ScopedTag)
    → length (filter_map alias_in (map (entry_of types) ts)) ≡ length (filter is_alias ts)
as_many types [] = refl
as_many types (t ∷ ts) = go t.tag.meaning (as_many types ts)
  where
    go : (m : DescribedMeaning) → length (filter_map alias_in (map (entry_of types) ts)) ≡ length (filter is_alias ts)
        → length (filter_map alias_in (map (entry_of types) (with_meaning t m ∷ ts))) ≡ length (filter is_alias (with_meaning t m ∷ ts))
    go (typed of dim) same = same
    go (AliasOf target) same = ap suc same

is_there : {A : Type 0} (xs : List A) (i : ℕ) → i < length xs → slice_get xs i ≡ None → ⊥
is_there [] i h e = omega arith
is_there (x ∷ xs) zero h e = absurd (cc e)
is_there (x ∷ xs) (suc i) h e = is_there xs i (omega arith) e

abbrev refused : TagCode × ℕ → Option ScopedTag → Option ProjectFault
refused f o = option_and_then (λ t. at_tag t (Some (here_for P9 (OfTag f.0)))) o

is_refused : (f : TagCode × ℕ) (o : Option ScopedTag) → (o ≡ None → ⊥) → refused f o ≡ None → ⊥
is_refused f None there r = there refl
is_refused f (Some t) there r =
    let some : Some (here_for P9 (OfTag f.0)) ≡ None = not_mapped (under (decimal t.number)) _ (not_in_tags t.scope _ r) in
    cc some

pub sealed_tags : (p : Described) → aliases_fault p ≡ None → seal_fault (declarations p) ≡ None
unfolding aliases_fault
sealed_tags p h = go (seal_fault (declarations p)) refl h
  where
    go : (o : Option (TagCode × ℕ)) → seal_fault (declarations p) ≡ o
        → option_and_then (λ f. refused f (slice_get (filter is_alias (scoped_tags p)) f.1)) o ≡ None → o ≡ None
    go None e r = refl
    go (Some f) e r =
        let below : f.1 < length (filter is_alias (scoped_tags p)) = omega (arith, bad_below (declarations p) 0 (aliases (declarations p)) f e, as_many p.types (scoped_tags p)) in
        absurd (is_refused f (slice_get (filter is_alias (scoped_tags p)) f.1) (is_there (filter is_alias (scoped_tags p)) f.1 below) r)
