-- What a script is and keeps.
use Rattle.std.specs.Prelude.{ℕ, ◌/◌, List, length, sum_by, Bool, not, ◌&&◌, ◌||◌, nat_le, nat_lt, nat_eq}
use Rattle.std.specs.List.{list_all}
use Rattle.spec_base.specs.declared.limits.TheConstants.{MAX_SCRIPT_STEPS, OWN_LANE, MAX_ACTIONS}
use Rattle.spec_text.specs.declared.script.Timed.{Timed}

-- at least `steps` processor steps, a tick after every pace-th of them, and for each lane its actions in order
pub record Script : Type 0 where
  pub steps : ℕ
  pub pace : ℕ
  pub lanes : List (List Timed)

abbrev pub script : ℕ → ℕ → List (List Timed) → Script
script steps pace lanes = record { steps = steps; pace = pace; lanes = lanes }

-- steps and pace are at least 1, and within the limit
abbrev pub is_out : ℕ → Bool
is_out n = nat_eq n 0 || nat_lt MAX_SCRIPT_STEPS n

abbrev pub actions_in : Script → ℕ
actions_in s = sum_by (λ lane. length lane) s.lanes

-- the number of the last tick
abbrev pub last_tick : Script → ℕ
last_tick s = s.steps / s.pace

-- Lanes have lower numbers than a journal's own; there are not too many actions; and no action waits for a tick that doesn't come.
abbrev pub is_script : Script → Bool
is_script s =
    not (is_out s.steps) && not (is_out s.pace) && nat_le (length s.lanes) OWN_LANE && nat_le (actions_in s) MAX_ACTIONS && list_all (λ lane. list_all (λ t. nat_le t.at (last_tick s)) lane) s.lanes
