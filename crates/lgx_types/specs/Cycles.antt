-- Which structures a structure reaches, found by going from structure to structure.
use Rattle.std.specs.Prelude.{◌≡◌, ℕ, ◌+◌, ◌<◌, ◌⊎◌, Bool, true, false, cond, List, length, sum_by, slice_get, Some}
use Rattle.spec_language.specs.declared.types.TypeDecl.{TypeDecl}
use Rattle.spec_language.specs.TypeFaults.{among, parts, reached_to, reaches_itself}

-- structure i reaches structure x
abbrev pub Reaches : List TypeDecl → ℕ → ℕ → Type 0
Reaches types i x = (m : ℕ) × (among (reached_to m types i) x ≡ true)

-- every part of structure x is seen
abbrev pub AllSeen : List TypeDecl → List Bool → ℕ → Type 0
AllSeen types seen x = (y : ℕ) → among (parts types x) y ≡ true → slice_get seen y ≡ Some true

-- The structures that are seen are reached from structure i. Each of them but structure j waits, or its parts are seen;
-- those that wait are seen.
pub record IsSearch (types : List TypeDecl) (i j : ℕ) (seen : List Bool) (waiting : List ℕ) : Type 0 where
  pub many : length seen ≡ length types
  pub reached : (x : ℕ) → slice_get seen x ≡ Some true → Reaches types i x
  pub waits : (p x : ℕ) → slice_get waiting p ≡ Some x → slice_get seen x ≡ Some true
  pub gone : (x : ℕ) → slice_get seen x ≡ Some true → (x ≡ j) ⊎ (((p : ℕ) × (slice_get waiting p ≡ Some x)) ⊎ AllSeen types seen x)

-- what was seen is seen
abbrev pub Keeps : List Bool → List Bool → Type 0
Keeps old new = (x : ℕ) → slice_get old x ≡ Some true → slice_get new x ≡ Some true

-- what is left to be done at least
abbrev pub to_see : List Bool → List ℕ → ℕ
to_see seen waiting = sum_by (λ b. cond b 0 2) seen + length waiting

-- the first structure that reaches itself
pub record IsFirstCycle (types : List TypeDecl) (i : ℕ) : Type 0 where
  pub there : i < length types
  pub cycle : reaches_itself types i ≡ true
  pub before : (j : ℕ) → j < i → reaches_itself types j ≡ false
