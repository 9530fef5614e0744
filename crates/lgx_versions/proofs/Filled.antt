-- Which slots are filled, and that they tell the roles.
use Rattle.std.proofs.Common.{◌≡◌, ℕ, true, ◌||◌, List, Option, Some, None, option_map, is_some, ◌⊎◌, inl, inr, refl, sym, ap, ◌∙◌, eqb}
use Rattle.std.specs.Prelude.{unwrap_or}
use Rattle.std.proofs.Math.ListN.{get_or-map}
use Rattle.std.proofs.lemmas.List.{length-map}
use Rattle.std.proofs.lemmas.Bool.{false≢true, or_cases, or_left, or_right, eq-eqb, eqb-true}
use Rattle.std.proofs.lemmas.Option.{none-some, same_Some}
use Rattle.lgx_versions.specs.declared.slots.Version.{Version}
use Rattle.lgx_versions.specs.declared.slots.SlotRoles.{SlotRoles}
use Rattle.lgx_versions.specs.declared.versions.Versions.TheInside.{Inside}
use Rattle.lgx_versions.specs.View.{number_at, number_of, HasRole, AreSlotsOf}
use Rattle.lgx_versions.specs.Slots.{in_slot, no_version, version_at, numbers_in, is_at, uses}
use Rattle.lgx_versions.specs.Seen.{roles_of, AreSlots}

abbrev Slots : Type 0
Slots = List (Option Version)

-- ---- numbers and versions

pub number_in : (xs : Slots) (i : ℕ) → number_at (numbers_in xs) i ≡ number_of (in_slot xs i)
number_in xs i = get_or-map (λ (o : Option Version). number_of o) xs i None

-- a slot in which a version lies has that version's number
pub filled_number : (xs : Slots) (i : ℕ) → is_some (in_slot xs i) ≡ true → number_at (numbers_in xs) i ≡ Some (version_at xs i).number
filled_number xs i filled = number_in xs i ∙ at (in_slot xs i) filled
  where
    at : (o : Option Version) → is_some o ≡ true → number_of o ≡ Some (unwrap_or o no_version).number
    at None h = absurd (false≢true h)
    at (Some v) h = refl

-- and a version lies in a slot that has a number
numbered_filled : (xs : Slots) (i n : ℕ) → number_at (numbers_in xs) i ≡ Some n → is_some (in_slot xs i) ≡ true
numbered_filled xs i n h = at (in_slot xs i) (sym (number_in xs i) ∙ h)
  where
    at : (o : Option Version) → number_of o ≡ Some n → is_some o ≡ true
    at None e = absurd (none-some n e)
    at (Some v) e = refl

number_of_version : (xs : Slots) (i n : ℕ) → number_at (numbers_in xs) i ≡ Some n → (version_at xs i).number ≡ n
number_of_version xs i n h = same_Some _ _ (sym (filled_number xs i (numbered_filled xs i n h)) ∙ h)

-- ---- which slots are used

-- a slot is used as the base's, the merged program's or the held one's
abbrev pub IsUsed : SlotRoles → ℕ → Type 0
IsUsed p i = (i ≡ p.base) ⊎ ((p.merged ≡ Some i) ⊎ (p.held ≡ Some i))

at_that : (o : Option ℕ) (i : ℕ) → is_at o i ≡ true → o ≡ Some i
at_that None i h = absurd (false≢true h)
at_that (Some k) i h = ap Some (eqb-true k i h)

pub that_at : (o : Option ℕ) (i : ℕ) → o ≡ Some i → is_at o i ≡ true
that_at o i e = ap (λ (x : Option ℕ). is_at x i) e ∙ eq-eqb i i refl

pub uses_cases : (p : SlotRoles) (i : ℕ) → uses p i ≡ true → IsUsed p i
uses_cases p i h =
    elim (or_cases (eqb i p.base) (is_at p.merged i || is_at p.held i) h) [
      | inl base ↦ inl (eqb-true i p.base base)
      | inr others ↦ elim (or_cases (is_at p.merged i) (is_at p.held i) others) [
        | inl merged ↦ inr (inl (at_that p.merged i merged))
        | inr held ↦ inr (inr (at_that p.held i held))
      ]
    ]

pub cases_uses : (p : SlotRoles) (i : ℕ) → IsUsed p i → uses p i ≡ true
cases_uses p i (inl base) = or_left _ _ (eq-eqb i p.base base)
cases_uses p i (inr (inl merged)) = or_right (eqb i p.base) _ (or_left _ _ (that_at p.merged i merged))
cases_uses p i (inr (inr held)) = or_right (eqb i p.base) _ (or_right (is_at p.merged i) _ (that_at p.held i held))

-- ---- the slots tell the roles

-- the place that an option tells, if the version there has a number
pub told_place : (f : ℕ → Version) (o : Option ℕ) (n : ℕ)
    → number_of (option_map f o) ≡ Some n → (k : ℕ) × (o ≡ Some k) × ((f k).number ≡ n)
told_place f None n h = absurd (none-some n h)
told_place f (Some k) n h = (k, refl, same_Some _ _ h)

place_told : (f : ℕ → Version) (o : Option ℕ) (k n : ℕ) → o ≡ Some k → (f k).number ≡ n → number_of (option_map f o) ≡ Some n
place_told f o k n e h = ap (λ (x : Option ℕ). number_of (option_map f x)) e ∙ ap Some h

pub are_slots_of : (v : Inside) → AreSlots v → AreSlotsOf (roles_of v) (numbers_in v.slots)
are_slots_of v a = record {
  count = length-map v.slots (λ (o : Option Version). number_of o) ∙ a.count;
  kept = kept;
  others = λ i n h. role i n (number_of_version v.slots i n h)
      (uses_cases v.places i (sym (a.filled i) ∙ numbered_filled v.slots i n h));
  once = a.once;
}
  where
    found : (k n : ℕ) → IsUsed v.places k → (version_at v.slots k).number ≡ n → (i : ℕ) × (number_at (numbers_in v.slots) i ≡ Some n)
    found k n used e = (k, filled_number v.slots k (a.filled k ∙ cases_uses v.places k used) ∙ ap Some e)

    told : (o : Option ℕ) (n : ℕ) → ((k : ℕ) → o ≡ Some k → IsUsed v.places k)
        → number_of (option_map (version_at v.slots) o) ≡ Some n → (i : ℕ) × (number_at (numbers_in v.slots) i ≡ Some n)
    told o n used h =
        let w : (k : ℕ) × (o ≡ Some k) × ((version_at v.slots k).number ≡ n) = told_place (version_at v.slots) o n h in
        found w.0 n (used w.0 w.1) w.2

    kept : (n : ℕ) → HasRole (roles_of v) n → (i : ℕ) × (number_at (numbers_in v.slots) i ≡ Some n)
    kept n (inl base) = found v.places.base n (inl refl) base
    kept n (inr (inl merged)) = told v.places.merged n (λ k e. inr (inl e)) merged
    kept n (inr (inr held)) = told v.places.held n (λ k e. inr (inr e)) held

    role : (i n : ℕ) → (version_at v.slots i).number ≡ n → IsUsed v.places i → HasRole (roles_of v) n
    role i n e (inl base) = inl (ap (λ (k : ℕ). (version_at v.slots k).number) (sym base) ∙ e)
    role i n e (inr (inl merged)) = inr (inl (place_told (version_at v.slots) v.places.merged i n merged e))
    role i n e (inr (inr held)) = inr (inr (place_told (version_at v.slots) v.places.held i n held e))
