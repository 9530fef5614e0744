-- The text of a script: how its lines are read, with the first line that is refused and its first cause.
use Rattle.std.specs.Prelude.{ℕ, ◌+◌, List, [], ◌∷◌, ◌++◌, length, replicate, slice_set, slice_index_or, true, false, not, ◌&&◌, nat_lt, nat_le, if◌then◌else◌, Option, Some, None, Result, Ok, Err, codes}
use Rattle.std.specs.List.{last_or}
use Rattle.std.specs.Str.{bytes_eq}
use Rattle.spec_base.specs.declared.limits.TheConstants.{OWN_LANE, MAX_ACTIONS}
use Rattle.spec_machine.specs.declared.event.Action.{Action}
use Rattle.spec_text.specs.declared.script.Timed.{Timed}
use Rattle.spec_text.specs.Scripts.{Script, script, is_out, actions_in, last_tick}
use Rattle.spec_text.specs.declared.script.JournalCode.{JournalCode}
use Rattle.spec_text.specs.declared.script.JournalCode.TheVariants.{J1, J2, J3, J4, J5}
use Rattle.spec_text.specs.declared.script.JournalFault.{JournalFault}
use Rattle.spec_base.specs.FirstCause.{◌>>=◌, unless, some_or}
use Rattle.spec_text.specs.TextLines.{lines, is_skipped, words, first_word, after_word, unsigned_of}
use Rattle.spec_text.specs.ActionText.{action_of}
use Rattle.spec_text.specs.JournalText.{lane_of, is_end, is_line, refused}

-- ---- the first line: `run STEPS PACE LANES`

-- a script of `steps` steps, with pace `pace` and `lanes` lanes, and no action yet
abbrev pub bare : ℕ → ℕ → ℕ → Script
bare steps pace lanes = script steps pace (replicate lanes [])

abbrev pub bare_of : Option ℕ → Option ℕ → Option ℕ → Option Script
bare_of (Some steps) (Some pace) (Some lanes) = Some (bare steps pace lanes)
bare_of _ _ _ = None

abbrev pub header_of : List (List ℕ) → Option Script
header_of (verb ∷ steps ∷ pace ∷ lanes ∷ []) = if bytes_eq verb (codes "run") then bare_of (unsigned_of steps) (unsigned_of pace) (unsigned_of lanes) else None
header_of _ = None

-- steps and pace are within their limit, and lanes have lower numbers than a journal's own
abbrev pub read_header : List ℕ → Result Script JournalCode
read_header line = do
  _ ← unless (is_line line) J1
  script ← some_or (header_of (words line)) J1
  _ ← unless (not (is_out script.steps) && not (is_out script.pace) && nat_le (length script.lanes) OWN_LANE) J4
  Ok script

-- ---- the other lines: `@LANE AT ACTION`

pub record LaneAction : Type 0 where
  pub lane : ℕ
  pub timed : Timed

abbrev pub lane_action_from : Option ℕ → Option ℕ → Option Action → Option LaneAction
lane_action_from (Some lane) (Some at) (Some action) = Some (record { lane = lane; timed = record { at = at; action = action } })
lane_action_from _ _ _ = None

abbrev pub lane_action_of : List ℕ → Option LaneAction
lane_action_of line = lane_action_from (lane_of line) (unsigned_of (first_word (after_word line))) (action_of (after_word (after_word line)))

-- the actions of a lane so far
abbrev pub lane_at : Script → ℕ → List Timed
lane_at s lane = slice_index_or s.lanes lane []

abbrev pub with_lane_action : Script → LaneAction → Script
with_lane_action s t = record s { lanes = slice_set s.lanes t.lane (lane_at s t.lane ++ t.timed ∷ []) }

-- the tick of the lane's line before, or 0
abbrev pub at_or_zero : Option Timed → ℕ
at_or_zero None = 0
at_or_zero (Some t) = t.at

abbrev pub last_at : Script → ℕ → ℕ
last_at s lane = at_or_zero (last_or None (lane_at s lane))

-- The script with the line's action last in its lane, or the line's first cause. A script has not too many actions;
-- no action waits for a tick that doesn't come, and none comes after one of its lane that waits longer.
abbrev pub read_lane_line : Script → List ℕ → Result Script JournalCode
read_lane_line s line = do
  _ ← unless (is_line line) J1
  action ← some_or (lane_action_of line) J1
  _ ← unless (nat_lt action.lane (length s.lanes)) J2
  _ ← unless (nat_lt (actions_in s) MAX_ACTIONS) J4
  _ ← unless (nat_le action.timed.at (last_tick s)) J3
  _ ← unless (nat_le (last_at s action.lane) action.timed.at) J5
  Ok (with_lane_action s action)

-- ---- the first line that has a cause

-- the lines from number n on, after a text that gave this script
abbrev pub lanes_from : ℕ → Script → List (List ℕ) → Result Script JournalFault
lanes_from n s [] = refused n J1
lanes_from n s (l ∷ ls) =
    elim (is_skipped l) [
      | true ↦ lanes_from (n + 1) s ls
      | false ↦ elim (is_end l && is_line l) [
        | true ↦ Ok s
        | false ↦ elim (read_lane_line s l) [ Err code ↦ refused n code | Ok s' ↦ lanes_from (n + 1) s' ls ]
      ]
    ]

abbrev pub script_from : ℕ → List (List ℕ) → Result Script JournalFault
script_from n [] = refused n J1
script_from n (l ∷ ls) =
    elim (is_skipped l) [
      | true ↦ script_from (n + 1) ls
      | false ↦ elim (read_header l) [ Err code ↦ refused n code | Ok s ↦ lanes_from (n + 1) s ls ]
    ]

-- the script that a text is, or the first line with a cause and its first cause
abbrev pub script_of : List ℕ → Result Script JournalFault
script_of bytes = script_from 1 (lines bytes)
