-- Looking at one entry after the other.
use Rattle.std.specs.Prelude.{◌≡◌, ℕ, ◌+◌, ◌-◌, ◌<◌, ◌≤◌, Bool, true, false, ◌==◌, List, [], length, Some, Ok, refl}
use Rattle.std.proofs.Common.{sym, ap, ◌∙◌, arith, inl, inr, subst, eqb-true, eq-eqb}
use Rattle.std.proofs.lemmas.Option.{slice_get_within}
use Rattle.spec_language.specs.declared.tag.Scope.{Scope}
use Rattle.spec_language.specs.declared.tag.Found.{Found}
use Rattle.spec_language.specs.Declarations.{Meaning, tag, alias, Declarations, bytes}
use Rattle.spec_language.specs.Resolution.{target_of, named_within, aliases}
use Rattle.spec_language.specs.ResolutionLaws.{Sound, LiesIn}
use Rattle.spec_language.proofs.FoundBounds.{named_lies}
use Rattle.lgx_tags.specs.Chains.{Resolved, named_by, open_in, Below, PartlyResolved, IsStuck, ResolvesEntry, ResolvesPass, AllResolved}
use Rattle.lgx_tags.proofs.Declares.{AreInScopes}
use Rattle.lgx_tags.proofs.Chains.{known_below}

-- what is known of names lies in the image
pub names_in_bounds : (d : Declarations) (known : List Resolved) (s : Scope) → AreInScopes d.programs d.entries → PartlyResolved d known → Sound d → (name : List ℕ) (f : Found) → named_by d.entries known s name ≡ Ok f → LiesIn d.types (bytes d) f × (f.steps ≡ [])
names_in_bounds d known s h w sound name f p = go (known_below (length (aliases d) - open_in known) d known h w.below s name)
  where
    go : Below (named_by d.entries known s name) (named_within (length (aliases d) - open_in known) d s name) → LiesIn d.types (bytes d) f × (f.steps ≡ [])
    go (inl q) = absurd (cc (sym p ∙ q))
    go (inr q) = named_lies (length (aliases d) - open_in known) d s name f sound (sym q ∙ p)

pub alias_of : (m : Meaning) (t : List ℕ) → Some t ≡ target_of m → m ≡ alias t
alias_of (tag of) t p = absurd (cc p)
alias_of (alias u) t p = let q : t ≡ u = cc p in ap alias (sym q)

abbrev pub StuckBelow : Declarations → List Resolved → List Resolved → ℕ → Type 0
StuckBelow d old known i = open_in known ≡ open_in old → (known ≡ old) × ((j : ℕ) → j < i → IsStuck d known j)

pub resolve_more : (d : Declarations) (old known new : List Resolved) (i : ℕ) → open_in known ≤ open_in old → StuckBelow d old known i → ResolvesEntry d i known new → StuckBelow d old new (i + 1)
resolve_more d old known new i f s l same =
    let first : open_in new ≡ open_in known = omega (arith, l.fewer) in
    let second : open_in known ≡ open_in old = omega (arith, l.fewer) in
    let here = l.stuck first in
    let before = s second in
    (here.0 ∙ before.0, λ j h. go j h (j == i) refl here before.1)
  where
    go : (j : ℕ) → j < i + 1 → (b : Bool) → (j == i) ≡ b → (new ≡ known) × IsStuck d new i → ((j : ℕ) → j < i → IsStuck d known j) → IsStuck d new j
    go j h true q here before = let at : i ≡ j = sym (eqb-true j i q) in subst (λ (j : ℕ). IsStuck d new j) at here.1
    go j h false q here before = subst (λ (known : List Resolved). IsStuck d known j) (sym here.0) (before j (below j h q))
      where
        below : (j : ℕ) → j < i + 1 → (j == i) ≡ false → j < i
        below j h q = let other : j ≡ i → ⊥ = λ r. absurd (cc (eq-eqb j i r, q)) in omega arith

-- after a pass that found nothing more all is known, or will never be
pub pass_resolves_all : (d : Declarations) (old new : List Resolved) → ResolvesPass d old new → open_in new ≡ open_in old → AllResolved d new
pass_resolves_all d old new p same = record { partly = p.partly; stuck = stuck }
  where
    stuck : (i : ℕ) → IsStuck d new i
    stuck i e t g m o = (p.stuck same).1 i (slice_get_within d.entries i e g) e t g m o
