-- What freeing the slots that aren't used leaves.
use Rattle.std.proofs.Common.{◌≡◌, ℕ, ◌≤◌, Bool, true, false, cond, List, length, Option, Some, None, option_map, is_some, inl, inr, refl, sym, ap, ◌∙◌, subst}
use Rattle.std.specs.Prelude.{unwrap_or, IsSome, IsTrue}
use Rattle.std.proofs.lemmas.Bool.{false≢true}
use Rattle.std.proofs.lemmas.Option.{none-some}
use Rattle.lgx_versions.specs.declared.slots.TheConstants.{SLOTS}
use Rattle.lgx_versions.specs.declared.slots.Version.{Version}
use Rattle.lgx_versions.specs.declared.slots.SlotRoles.{SlotRoles}
use Rattle.lgx_versions.specs.declared.versions.Versions.TheInside.{Inside}
use Rattle.lgx_versions.specs.View.{VersionsView, number_at, number_of, NoneTwice, NoneMoves}
use Rattle.lgx_versions.specs.Slots.{in_slot, no_version, version_at, numbers_in, uses, HasFreed}
use Rattle.lgx_versions.specs.Seen.{roles_of, view_of, AreSlots}
use Rattle.lgx_versions.proofs.Filled.{number_in, IsUsed, uses_cases, cases_uses}

-- As the fields are before the slots that aren't used are freed.
pub record AreReady (v : Inside) : Type 0 where
  pub count : length v.slots ≡ SLOTS
  pub filled : (i : ℕ) → uses v.places i ≡ true → is_some (in_slot v.slots i) ≡ true
  pub once : NoneTwice (numbers_in v.slots)
  pub numbered : (i n : ℕ) → number_at (numbers_in v.slots) i ≡ Some n → n ≤ v.newest
  pub tested : IsTrue v.places.testing → IsSome v.places.merged

-- a slot that has a number afterwards is used, and had it before
pub freed_number : (p : SlotRoles) (xs ys : List (Option Version)) (i n : ℕ) → HasFreed p xs ys
    → number_at (numbers_in ys) i ≡ Some n → (uses p i ≡ true) × (number_at (numbers_in xs) i ≡ Some n)
freed_number p xs ys i n freed h =
    let seen : number_of (cond (uses p i) (in_slot xs i) None) ≡ Some n = sym (ap (λ (o : Option Version). number_of o) (freed i)) ∙ (sym (number_in ys i) ∙ h) in
    let w : (uses p i ≡ true) × (number_of (in_slot xs i) ≡ Some n) = by_use (uses p i) (in_slot xs i) seen in
    (w.0, number_in xs i ∙ w.1)
  where
    by_use : (b : Bool) (o : Option Version) → number_of (cond b o None) ≡ Some n → (b ≡ true) × (number_of o ≡ Some n)
    by_use true o e = (refl, e)
    by_use false o e = absurd (none-some n e)

pub freed-slots : (v : Inside) (ys : List (Option Version)) → AreReady v
    → HasFreed v.places v.slots ys → length ys ≡ length v.slots → AreSlots (record v { slots = ys })
freed-slots v ys r freed same = record {
  count = same ∙ r.count;
  filled = λ i. ap (λ (o : Option Version). is_some o) (freed i) ∙ by_use (uses v.places i) (in_slot v.slots i) (r.filled i);
  once = λ i j n a b. r.once i j n (had i n a) (had j n b);
  numbered = λ i n h. r.numbered i n (had i n h);
  tested = r.tested;
}
  where
    had : (i n : ℕ) → number_at (numbers_in ys) i ≡ Some n → number_at (numbers_in v.slots) i ≡ Some n
    had i n h = (freed_number v.places v.slots ys i n freed h).1

    by_use : (b : Bool) (o : Option Version) → (b ≡ true → is_some o ≡ true) → is_some (cond b o None) ≡ b
    by_use true o h = h refl
    by_use false o h = refl

-- what is used stays where it is
pub freed-roles : (v : Inside) (ys : List (Option Version)) → HasFreed v.places v.slots ys → roles_of (record v { slots = ys }) ≡ roles_of v
freed-roles v ys freed =
    ap (λ (x : Version). record (roles_of (record v { slots = ys })) { base = x }) (stays v.places.base (inl refl))
    ∙ (ap (λ (x : Option Version). record (roles_of (record v { slots = ys })) { base = version_at v.slots v.places.base; merged = x })
    (same_told v.places.merged (λ k e. stays k (inr (inl e))))
    ∙ ap (λ (x : Option Version). record (roles_of v) { held = x }) (same_told v.places.held (λ k e. stays k (inr (inr e)))))
  where
    stays : (k : ℕ) → IsUsed v.places k → version_at ys k ≡ version_at v.slots k
    stays k used = ap (λ (o : Option Version). unwrap_or o no_version) (freed k
        ∙ ap (λ (b : Bool). cond b (in_slot v.slots k) None) (cases_uses v.places k used))

    same_told : (o : Option ℕ) → ((k : ℕ) → o ≡ Some k → version_at ys k ≡ version_at v.slots k)
        → option_map (version_at ys) o ≡ option_map (version_at v.slots) o
    same_told None h = refl
    same_told (Some k) h = ap Some (h k refl)

-- ---- other places for the same slots

-- fewer slots are used than before, and the others are freed
pub fewer-slots : (v : Inside) (q : SlotRoles) (ys : List (Option Version)) → AreSlots v
    → ((i : ℕ) → IsUsed q i → IsUsed v.places i) → (IsTrue q.testing → IsSome q.merged)
    → HasFreed q v.slots ys → length ys ≡ length v.slots → AreSlots (record v { slots = ys; places = q })
fewer-slots v q ys a fewer tested freed same = freed-slots (record v { places = q }) ys (record {
  count = a.count;
  filled = λ i used. a.filled i ∙ cases_uses v.places i (fewer i (uses_cases q i used));
  once = a.once;
  numbered = a.numbered;
  tested = tested;
}) freed same

pub fewer-stays : (v : Inside) (q : SlotRoles) (ys : List (Option Version)) (before : VersionsView) → AreSlots v → view_of v ≡ before
    → HasFreed q v.slots ys → NoneMoves before.slots (numbers_in ys)
fewer-stays v q ys before a is freed =
    subst (λ (w : VersionsView). NoneMoves w.slots (numbers_in ys)) is
    (λ i j n old now. a.once i j n old (freed_number q v.slots ys j n freed now).1)

-- the places after `cancel`, `drop_hold` and `assemble`
abbrev pub without_merged : SlotRoles → SlotRoles
without_merged p = record p { merged = None; testing = false }

abbrev pub without_held : SlotRoles → SlotRoles
without_held p = record p { held = None }

abbrev pub with_base : SlotRoles → ℕ → SlotRoles
with_base p k = record p { base = k; merged = None; testing = false }

pub without_merged-fewer : (p : SlotRoles) (i : ℕ) → IsUsed (without_merged p) i → IsUsed p i
without_merged-fewer p i (inl base) = inl base
without_merged-fewer p i (inr (inl merged)) = absurd (none-some i merged)
without_merged-fewer p i (inr (inr held)) = inr (inr held)

pub without_held-fewer : (p : SlotRoles) (i : ℕ) → IsUsed (without_held p) i → IsUsed p i
without_held-fewer p i (inl base) = inl base
without_held-fewer p i (inr (inl merged)) = inr (inl merged)
without_held-fewer p i (inr (inr held)) = absurd (none-some i held)

pub with_base-fewer : (p : SlotRoles) (k i : ℕ) → p.merged ≡ Some k → IsUsed (with_base p k) i → IsUsed p i
with_base-fewer p k i merged_k (inl base) = inr (inl (merged_k ∙ ap Some (sym base)))
with_base-fewer p k i merged_k (inr (inl merged)) = absurd (none-some i merged)
with_base-fewer p k i merged_k (inr (inr held)) = inr (inr held)

-- the slot of the merged program, if there is one
pub merged_place : (v : Inside) (k : ℕ) (seen : VersionsView) → view_of v ≡ seen → IsSome seen.roles.merged
    → k ≡ unwrap_or v.places.merged v.places.base → v.places.merged ≡ Some k
merged_place v k seen is some e = by_merged v.places.merged (subst (λ (w : VersionsView). IsSome w.roles.merged) (sym is) some) e
  where
    by_merged : (o : Option ℕ) → IsSome (option_map (version_at v.slots) o) → k ≡ unwrap_or o v.places.base → o ≡ Some k
    by_merged None h e = absurd (false≢true h)
    by_merged (Some m) h e = ap Some (sym e)
