-- The held program and the selected one.
use Rattle.std.proofs.Common.{◌≡◌, ◌≢◌, ℕ, ◌<◌, Bool, true, false, if◌then◌else◌, length, Option, Some, None, option_map, IfSome, is_some, inl, inr, refl, sym, ap, ◌∙◌}
use Rattle.std.specs.Prelude.{unwrap_or}
use Rattle.std.proofs.lemmas.Bool.{cases_lt, false≢true}
use Rattle.std.proofs.lemmas.List.{get_or_past}
use Rattle.lgx_versions.specs.declared.slots.Version.{Version}
use Rattle.lgx_versions.specs.declared.slots.SlotRoles.{SlotRoles}
use Rattle.lgx_versions.specs.declared.versions.Versions.TheInside.{Inside}
use Rattle.lgx_versions.specs.Roles.{selected}
use Rattle.lgx_versions.specs.View.{number_of}
use Rattle.lgx_versions.specs.Slots.{in_slot, version_at, selected_place, is_at, uses}
use Rattle.lgx_versions.specs.Seen.{roles_of, AreSlots}
use Rattle.lgx_versions.proofs.Filled.{IsUsed, cases_uses, uses_cases, that_at, told_place, filled_number}

-- ---- one slot is freed

-- the slot that is held is one of the slots
pub held-within : (v : Inside) → AreSlots v → IfSome v.places.held (λ i. i < length v.slots)
held-within v a = within v.places.held (λ i e. cases_uses v.places i (inr (inr e)))
  where
    filled : (i : ℕ) → uses v.places i ≡ true → i < length v.slots
    filled i used = elim (cases_lt i (length v.slots)) [
      | inl l ↦ l
      | inr past ↦ absurd (false≢true (sym (ap (λ (o : Option Version). is_some o) (get_or_past v.slots i None past)) ∙ (a.filled i ∙ used)))
    ]

    within : (o : Option ℕ) → ((i : ℕ) → o ≡ Some i → uses v.places i ≡ true) → IfSome o (λ i. i < length v.slots)
    within None h = tt
    within (Some i) h = filled i (h i refl)

-- a program that isn't the held one lies where it is used also when another is held
pub others-used : (v : Inside) (q : SlotRoles) → AreSlots v → q.base ≡ v.places.base → q.merged ≡ v.places.merged
    → (i : ℕ) → v.places.held ≢ Some i → is_some (in_slot v.slots i) ≡ true → uses q i ≡ true
others-used v q a base merged i apart filled = by_use (uses_cases v.places i (sym (a.filled i) ∙ filled))
  where
    by_use : IsUsed v.places i → uses q i ≡ true
    by_use (inl e) = cases_uses q i (inl (e ∙ sym base))
    by_use (inr (inl e)) = cases_uses q i (inr (inl (merged ∙ e)))
    by_use (inr (inr e)) = absurd (apart e)

-- ---- the selected program

selected-used : (p : SlotRoles) → IsUsed p (selected_place p)
selected-used p = by_testing p.testing p.merged refl
  where
    by_testing : (b : Bool) (m : Option ℕ) → p.merged ≡ m → IsUsed p (if b then unwrap_or m p.base else p.base)
    by_testing true None e = inl refl
    by_testing true (Some k) e = inr (inl e)
    by_testing false m e = inl refl

selected-filled : (v : Inside) → AreSlots v → is_some (in_slot v.slots (selected_place v.places)) ≡ true
selected-filled v a = a.filled (selected_place v.places) ∙ cases_uses v.places (selected_place v.places) (selected-used v.places)

selected-there : (v : Inside) → version_at v.slots (selected_place v.places) ≡ selected (roles_of v)
selected-there v = by_testing v.places.testing v.places.merged
  where
    by_testing : (b : Bool) (m : Option ℕ)
        → version_at v.slots (if b then unwrap_or m v.places.base else v.places.base) ≡ (if b then unwrap_or (option_map (version_at v.slots) m) (version_at v.slots v.places.base) else version_at v.slots v.places.base)
    by_testing true None = refl
    by_testing true (Some k) = refl
    by_testing false m = refl

-- if it isn't held, what is held has another number, if anything is
pub held-other : (v : Inside) → AreSlots v → is_at v.places.held (selected_place v.places) ≡ false → number_of (roles_of v).held ≢ Some (selected (roles_of v)).number
held-other v a apart same =
    let at = selected_place v.places in
    let n : ℕ = (version_at v.slots at).number in
    let told : (k : ℕ) × (v.places.held ≡ Some k) × ((version_at v.slots k).number ≡ n) = told_place (version_at v.slots) v.places.held n (same ∙ ap (λ (x : Version). Some x.number) (sym (selected-there v))) in
    let one = filled_number v.slots told.0 (a.filled told.0 ∙ cases_uses v.places told.0 (inr (inr told.1))) ∙ ap Some told.2 in
    let two = filled_number v.slots at (selected-filled v a) in
    false≢true (sym apart ∙ that_at v.places.held at (told.1 ∙ ap Some (a.once told.0 at n one two)))
