-- The first alias with a fault, and how many tags there are.
use Rattle.std.specs.Prelude.{◌≡◌, ℕ, suc, ◌+◌, ◌≤◌, Bool, true, false, cond, List, [], ◌∷◌, length, slice_get, slice_index_or, Option, Some, option_map, Ok, Err, refl}
use Rattle.std.specs.List.{AllByRecursion as Each, filter_map}
use Rattle.std.specs.Option.{option_or}
use Rattle.std.specs.Result.{result_err}
use Rattle.std.proofs.Common.{sym, ap, ◌∙◌, arith}
use Rattle.spec_language.specs.declared.types.TypeDecl.{TypeDecl}
use Rattle.spec_language.specs.declared.tag.Scope.{Scope}
use Rattle.spec_language.specs.declared.tag.TagCode.{TagCode}
use Rattle.spec_language.specs.declared.tag.TagCode.TheVariants.{G7}
use Rattle.spec_language.specs.Layout.{round_up, size_of}
use Rattle.spec_language.specs.LayoutLaws.{IsSoundType}
use Rattle.spec_language.specs.ResolutionLaws.{IsSoundMeaning, Sound}
use Rattle.spec_language.specs.Declarations.{Meaning, tag, alias, Entry, Declarations, same_scope, bytes}
use Rattle.spec_language.specs.Resolution.{target_of, found_fixed, first_bad, seal_fault}
use Rattle.spec_base.proofs.Lists.{each_append, each_flat}
use Rattle.lgx_tags.specs.Layouts.{scopes, numbered, tags_in, order_of, place_tags, place_tags_end, placed_tags}
use Rattle.lgx_tags.specs.Chains.{Resolved, answer, is_target, bad_from, count_aliases, AllResolved}
use Rattle.lgx_tags.specs.declared.layout.NumberedTag.{NumberedTag}
use Rattle.lgx_tags.proofs.Declares.{AreInScopes}
use Rattle.lgx_tags.proofs.ResolvedChains.{resolved_alias}
use Rattle.lgx_tags.proofs.SoundTags.{some_bytes}
use Rattle.lgx_tags.proofs.Segments.{ends_at}

abbrev with_scope : Entry → Option (Scope × List ℕ)
with_scope e = option_map (λ target. (e.scope, target)) (target_of e.meaning)

pub count_is : (es : List Entry) → count_aliases es ≡ length (filter_map with_scope es)
count_is [] = refl
count_is (e ∷ es) = go e.meaning (count_is es)
  where
    go : (m : Meaning) → count_aliases es ≡ length (filter_map with_scope es) → cond (is_target m) (suc (count_aliases es)) (count_aliases es) ≡ length (filter_map with_scope (record { scope = e.scope; name = e.name; meaning = m } ∷ es))
    go (tag of) p = p
    go (alias t) p = ap suc p

fault_same : (k : Resolved) → result_err (answer k) ≡ result_err k
fault_same (Ok s) = refl
fault_same (Err code) = refl

abbrev or_next : Option TagCode → ℕ → Option (TagCode × ℕ) → Option (TagCode × ℕ)
or_next o k rest = option_or (option_map (λ code. (code, k)) o) rest

bad_is : (d : Declarations) (known : List Resolved) → AreInScopes d.programs d.entries → AllResolved d known → (n k : ℕ) (es : List Entry) → ((i : ℕ) → slice_get es i ≡ slice_get d.entries (n + i)) → bad_from known n k es ≡ first_bad d k (filter_map with_scope es)
bad_is d known h w n k [] g = refl
bad_is d known h w n k (e ∷ es) g = go e.meaning refl (bad_is d known h w (suc n) k es rest) (bad_is d known h w (suc n) (suc k) es rest)
  where
    first : n + 0 ≡ n
    first = omega arith

    rest : (i : ℕ) → slice_get es i ≡ slice_get d.entries (suc n + i)
    rest i = g (suc i) ∙ ap (slice_get d.entries) shift
      where
        shift : n + suc i ≡ suc n + i
        shift = omega arith

    there : slice_get d.entries n ≡ Some e
    there = ap (slice_get d.entries) (sym first) ∙ sym (g 0)

    go : (m : Meaning) → e.meaning ≡ m → bad_from known (suc n) k es ≡ first_bad d k (filter_map with_scope es) → bad_from known (suc n) (suc k) es ≡ first_bad d (suc k) (filter_map with_scope es) → cond (is_target m) (or_next (result_err (slice_index_or known n (Err G7))) k (bad_from known (suc n) (suc k) es)) (bad_from known (suc n) k es) ≡ first_bad d k (filter_map with_scope (record { scope = e.scope; name = e.name; meaning = m } ∷ es))
    go (tag of) p same next = same
    go (alias t) p same next =
        let fault : result_err (slice_index_or known n (Err G7)) ≡ result_err (found_fixed d e.scope t) = sym (fault_same (slice_index_or known n (Err G7))) ∙ ap result_err (sym (resolved_alias d known h w n e t there p)) in
        ap (λ (o : Option TagCode). or_next o k (bad_from known (suc n) (suc k) es)) fault ∙ ap (or_next (result_err (found_fixed d e.scope t)) k) next

pub bad_fault : (d : Declarations) (known : List Resolved) → AreInScopes d.programs d.entries → AllResolved d known → bad_from known 0 0 d.entries ≡ seal_fault d
bad_fault d known h w = bad_is d known h w 0 0 d.entries (λ i. ap (slice_get d.entries) (zero_on i))
  where
    zero_on : (i : ℕ) → i ≡ 0 + i
    zero_on i = omega arith

-- ---- how many tags there are

sound_tags : (types : List TypeDecl) (s : Scope) (n : ℕ) (es : List Entry) → Each (λ e. IsSoundMeaning types e.meaning) es → Each (λ t. IsSoundType types t.of) (tags_in s n es)
sound_tags types s n [] h = tt
sound_tags types s n (e ∷ es) h = each_append (λ t. IsSoundType types t.of) (cond (same_scope e.scope s) (numbered n e.meaning) []) (tags_in s (suc n) es) (one (same_scope e.scope s) e.meaning h.0) (sound_tags types s (suc n) es h.1)
  where
    one : (b : Bool) (m : Meaning) → IsSoundMeaning types m → Each (λ t. IsSoundType types t.of) (cond b (numbered n m) [])
    one true (tag of) p = (p, tt)
    one true (alias target) p = tt
    one false m p = tt

many : (types : List TypeDecl) (at : ℕ) (ts : List NumberedTag) → Each (λ t. IsSoundType types t.of) ts → at + length ts ≤ place_tags_end types at ts
many types at [] h = omega arith
many types at (t ∷ ts) h = omega (arith, some_bytes types t.of h.0, many types (round_up 4 (at + size_of types t.of)) ts h.1)

place_tags_length : (types : List TypeDecl) (at : ℕ) (ts : List NumberedTag) → length (place_tags types at ts) ≡ length ts
place_tags_length types at [] = refl
place_tags_length types at (t ∷ ts) = ap suc (place_tags_length types (round_up 4 (at + size_of types t.of)) ts)

-- there are no more tags than bytes
pub tags_few : (d : Declarations) → Sound d → length (placed_tags d) ≤ bytes d
tags_few d s = omega (arith, place_tags_length d.types 0 (order_of d), ends_at d, many d.types 0 (order_of d) (each_flat (λ t. IsSoundType d.types t.of) (λ s. tags_in s 0 d.entries) (scopes d.programs) (λ sc. sound_tags d.types sc 0 d.entries s.tags)))
