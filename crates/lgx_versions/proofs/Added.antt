-- A new version in a slot of neither the base nor the held program.
use Rattle.std.proofs.Common.{◌≡◌, ◌≢◌, ℕ, ◌+◌, ◌<◌, ◌≤◌, true, List, length, set, Option, Some, None, option_map, is_some, ◌⊎◌, inl, inr, refl, sym, ap, ◌∙◌, subst, arith, get_or-set_same, get_or-set_other}
use Rattle.std.specs.Prelude.{unwrap_or}
use Rattle.std.proofs.lemmas.List.{length-set}
use Rattle.std.proofs.lemmas.Bool.{cases_eq}
use Rattle.std.proofs.lemmas.Option.{same_Some}
use Rattle.lgx_prog.specs.FlatProgram.{Program}
use Rattle.lgx_versions.specs.declared.slots.TheConstants.{SLOTS}
use Rattle.lgx_versions.specs.declared.slots.Version.{Version}
use Rattle.lgx_versions.specs.declared.slots.SlotRoles.{SlotRoles}
use Rattle.lgx_versions.specs.declared.versions.Versions.TheInside.{Inside}
use Rattle.lgx_versions.specs.Roles.{add}
use Rattle.lgx_versions.specs.View.{VersionsView, number_at, number_of, NoneMoves}
use Rattle.lgx_versions.specs.Slots.{in_slot, no_version, version_at, numbers_in, uses, HasFreed}
use Rattle.lgx_versions.specs.Seen.{roles_of, view_of, AreSlots}
use Rattle.lgx_versions.proofs.Filled.{number_in, IsUsed, uses_cases, cases_uses}
use Rattle.lgx_versions.proofs.Freed.{AreReady, freed_number}

-- neither the base nor the held program lies in this slot
pub record IsSpare (p : SlotRoles) (k : ℕ) : Type 0 where
  pub slot : k < SLOTS
  pub base : k ≡ p.base → ⊥
  pub held : p.held ≡ Some k → ⊥

abbrev pub next_version : Inside → Program → Version
next_version v program = record { number = v.newest + 1; program = program }

-- the fields with a new merged program in this slot, before the others are freed
abbrev pub with_new : Inside → ℕ → Program → Inside
with_new v k program = record {
  slots = set v.slots k (Some (next_version v program));
  places = record v.places { merged = Some k };
  newest = v.newest + 1;
}

in_bounds : (v : Inside) (k : ℕ) → AreSlots v → IsSpare v.places k → k < length v.slots
in_bounds v k a spare = subst (λ (m : ℕ). k < m) (sym a.count) spare.slot

-- a slot has the new number, or the number from before
abbrev IsNewOrOld : Inside → ℕ → ℕ → ℕ → Type 0
IsNewOrOld v k j n = ((j ≡ k) × (n ≡ v.newest + 1)) ⊎ (number_at (numbers_in v.slots) j ≡ Some n)

new_or_old : (v : Inside) (k : ℕ) (program : Program) (j n : ℕ) → k < length v.slots
    → number_at (numbers_in (with_new v k program).slots) j ≡ Some n → IsNewOrOld v k j n
new_or_old v k program j n l h =
    elim (cases_eq j k) [
      | inl e ↦ inl (e, sym (same_Some (v.newest + 1) n (sym (ap (λ (o : Option Version). number_of o) (at_new e)) ∙ seen)))
      | inr ne ↦ inr (number_in v.slots j ∙ (sym (ap (λ (o : Option Version). number_of o) (get_or-set_other v.slots k j new None ne)) ∙ seen))
    ]
  where
    new : Option Version
    new = Some (next_version v program)

    at_new : j ≡ k → in_slot (set v.slots k new) j ≡ new
    at_new e = ap (λ (m : ℕ). in_slot (set v.slots k new) m) e ∙ get_or-set_same v.slots k new None l

    seen : number_of (in_slot (set v.slots k new) j) ≡ Some n
    seen = sym (number_in (set v.slots k new) j) ∙ h

pub added-ready : (v : Inside) (k : ℕ) (program : Program) → AreSlots v → IsSpare v.places k → AreReady (with_new v k program)
added-ready v k program a spare = record {
  count = length-set v.slots k new ∙ a.count;
  filled = filled;
  once = λ i j n at_i at_j. once i j n (new_or_old v k program i n l at_i) (new_or_old v k program j n l at_j);
  numbered = λ i n h. numbered i n (new_or_old v k program i n l h);
  tested = λ h. refl;
}
  where
    new : Option Version
    new = Some (next_version v program)

    l : k < length v.slots
    l = in_bounds v k a spare

    used_before : (i : ℕ) → i ≢ k → IsUsed (with_new v k program).places i → IsUsed v.places i
    used_before i ne (inl base) = inl base
    used_before i ne (inr (inl merged)) = absurd (ne (sym (same_Some k i merged)))
    used_before i ne (inr (inr held)) = inr (inr held)

    filled : (i : ℕ) → uses (with_new v k program).places i ≡ true → is_some (in_slot (set v.slots k new) i) ≡ true
    filled i used =
        elim (cases_eq i k) [
          | inl e ↦ ap (λ (o : Option Version). is_some o) (ap (λ (m : ℕ). in_slot (set v.slots k new) m) e ∙ get_or-set_same v.slots k new None l)
          | inr ne ↦ ap (λ (o : Option Version). is_some o) (get_or-set_other v.slots k i new None ne)
              ∙ (a.filled i ∙ cases_uses v.places i (used_before i ne (uses_cases (with_new v k program).places i used)))
        ]

    once : (i j n : ℕ) → IsNewOrOld v k i n → IsNewOrOld v k j n → i ≡ j
    once i j n (inl x) (inl y) = x.0 ∙ sym y.0
    once i j n (inl x) (inr y) = let old : n ≤ v.newest = a.numbered j n y in let e : n ≡ v.newest + 1 = x.1 in absurd (omega arith)
    once i j n (inr x) (inl y) = let old : n ≤ v.newest = a.numbered i n x in let e : n ≡ v.newest + 1 = y.1 in absurd (omega arith)
    once i j n (inr x) (inr y) = a.once i j n x y

    numbered : (i n : ℕ) → IsNewOrOld v k i n → n ≤ v.newest + 1
    numbered i n (inl x) = let e : n ≡ v.newest + 1 = x.1 in omega arith
    numbered i n (inr x) = let old : n ≤ v.newest = a.numbered i n x in omega arith

-- the base and the held program are those from before
pub added-roles : (v : Inside) (k : ℕ) (program : Program) → AreSlots v → IsSpare v.places k
    → roles_of (with_new v k program) ≡ add program (roles_of v)
added-roles v k program a spare =
    ap (λ (x : Version). record (roles_of (with_new v k program)) { base = x }) (stays v.places.base (λ e. spare.base (sym e)))
    ∙ (ap (λ (x : Version). record (roles_of (with_new v k program)) { base = version_at v.slots v.places.base; merged = Some x })
    (ap (λ (o : Option Version). unwrap_or o no_version) (get_or-set_same v.slots k new None (in_bounds v k a spare)))
    ∙ ap (λ (x : Option Version). record (add program (roles_of v)) { held = x }) (held_stays v.places.held spare.held))
  where
    new : Option Version
    new = Some (next_version v program)

    stays : (i : ℕ) → i ≢ k → version_at (set v.slots k new) i ≡ version_at v.slots i
    stays i ne = ap (λ (o : Option Version). unwrap_or o no_version) (get_or-set_other v.slots k i new None ne)

    held_stays : (o : Option ℕ) → (o ≡ Some k → ⊥) → option_map (version_at (set v.slots k new)) o ≡ option_map (version_at v.slots) o
    held_stays None h = refl
    held_stays (Some i) h = ap Some (stays i (λ e. h (ap Some e)))

pub added-stays : (v : Inside) (k : ℕ) (program : Program) (ys : List (Option Version)) (before : VersionsView) → AreSlots v
    → IsSpare v.places k → view_of v ≡ before → HasFreed (with_new v k program).places (with_new v k program).slots ys
    → NoneMoves before.slots (numbers_in ys)
added-stays v k program ys before a spare is freed =
    subst (λ (w : VersionsView). NoneMoves w.slots (numbers_in ys)) is (λ i j n old now. by_slot i j n old
    (new_or_old v k program j n (in_bounds v k a spare) (freed_number (with_new v k program).places (with_new v k program).slots ys j n freed now).1))
  where
    by_slot : (i j n : ℕ) → number_at (numbers_in v.slots) i ≡ Some n → IsNewOrOld v k j n → i ≡ j
    by_slot i j n old (inl y) = let below : n ≤ v.newest = a.numbered i n old in let e : n ≡ v.newest + 1 = y.1 in absurd (omega arith)
    by_slot i j n old (inr y) = a.once i j n old y
