-- The due action of a lane, by its number.
use Rattle.std.proofs.Common.{◌≡◌, ℕ, ◌<◌, ◌≤◌, inl, inr, Bool, true, false, cond, not, List, [], length, Some, None, sym, ◌∙◌, ap}
use Rattle.std.specs.Prelude.{◌&&◌, nat_le, slice_get}
use Rattle.std.proofs.lemmas.Bool.{cases_lt, le-leb, lt-leb}
use Rattle.std.proofs.lemmas.List.{get_or_past}
use Rattle.spec_tables.specs.Tasks.{held}
use Rattle.spec_machine.specs.declared.event.Event.{Event}
use Rattle.spec_machine.specs.Machine.{run}
use Rattle.spec_machine.specs.Project.{Project}
use Rattle.spec_text.specs.declared.script.Timed.{Timed}
use Rattle.spec_text.specs.Scripts.{Script}
use Rattle.spec_lanes.specs.Held.{is_holdable}
use Rattle.spec_lanes.specs.Turns.{lane_of, done_by, ticks_of, next_of, would_be_held, is_due, if_due, due_action}
use Rattle.spec_lanes.proofs.Clocks.{run_ticks}
use Rattle.spec_lanes.proofs.Holding.{holds_words_and_modes}

-- by the controller's tick and whether a CPS is open
pub due_told : (p : Project) (es : List Event) (lane : ℕ) (t : Timed) (now : ℕ) (opened : Bool) → now ≡ (run p es).tick → opened ≡ held (run p es).table → (nat_le t.at now && not (is_holdable t.action && opened)) ≡ is_due p es lane t
due_told p es lane t now opened tick open_is =
    ap (λ k. nat_le t.at k && not (is_holdable t.action && opened)) (tick ∙ run_ticks p es)
    ∙ ap (λ b. nat_le t.at (ticks_of es) && not b) (ap (λ b. is_holdable t.action && b) open_is ∙ sym (holds_words_and_modes p es lane t.action))

-- the next action by the lane's count, which is told of the script's lanes
pub next_told : (script : Script) (es : List Event) (lane done : ℕ) → (lane < length script.lanes → done ≡ done_by lane es) → slice_get (lane_of script lane) done ≡ next_of script es lane
next_told script es lane done told =
    elim (cases_lt lane (length script.lanes)) [
      | inl lt ↦ ap (slice_get (lane_of script lane)) (told lt)
      | inr ge ↦
          (let past : lane_of script lane ≡ [] = get_or_past script.lanes lane [] ge in
          ap (λ (ts : List Timed). slice_get ts done) past ∙ sym (ap (λ (ts : List Timed). slice_get ts (done_by lane es)) past))
    ]

module _ (p : Project) (script : Script) (es : List Event) (lane done : ℕ) (told : lane < length script.lanes → done ≡ done_by lane es) where
  pub due_none : slice_get (lane_of script lane) done ≡ None → due_action p script es lane ≡ None
  due_none none = ap (if_due p es lane) (sym (next_told script es lane done told) ∙ none)

  by_test : (t : Timed) (b : Bool) → slice_get (lane_of script lane) done ≡ Some t → is_due p es lane t ≡ b → due_action p script es lane ≡ cond b (Some t.action) None
  by_test t b here due =
      ap (if_due p es lane) (sym (next_told script es lane done told) ∙ here) ∙ ap (λ x. cond x (Some t.action) None) due

  pub due_some : (t : Timed) → slice_get (lane_of script lane) done ≡ Some t → is_due p es lane t ≡ true → due_action p script es lane ≡ Some t.action
  due_some t here due = by_test t true here due

  pub due_later : (t : Timed) → slice_get (lane_of script lane) done ≡ Some t → is_due p es lane t ≡ false → due_action p script es lane ≡ None
  due_later t here due = by_test t false here due

-- the controller's tick is the number of ticks
pub now_is : (p : Project) (es : List Event) (now : ℕ) → now ≡ (run p es).tick → now ≡ ticks_of es
now_is p es now tick = tick ∙ run_ticks p es

-- its tick hasn't come
pub not_yet : (p : Project) (es : List Event) (lane : ℕ) (t : Timed) (now : ℕ) → now ≡ (run p es).tick → now < t.at → nat_le t.at now ≡ is_due p es lane t
not_yet p es lane t now tick later =
    let none : nat_le t.at now ≡ false = lt-leb t.at now later in
    none ∙ sym (ap (λ b. b && not (would_be_held p es lane t.action)) (ap (nat_le t.at) (sym (tick ∙ run_ticks p es)) ∙ none))

-- its tick has come, so that it is due unless it is held
pub come_told : (p : Project) (es : List Event) (lane : ℕ) (t : Timed) (now : ℕ) (held_now : Bool) → now ≡ (run p es).tick → t.at ≤ now → held_now ≡ would_be_held p es lane t.action → not held_now ≡ is_due p es lane t
come_told p es lane t now held_now tick come is =
    ap not is
    ∙ sym (ap (λ b. b && not (would_be_held p es lane t.action)) (ap (nat_le t.at) (sym (tick ∙ run_ticks p es)) ∙ le-leb t.at now come))

-- held if it may be held and a CPS is open, and else not
pub held_told : (p : Project) (es : List Event) (lane : ℕ) (t : Timed) (opened : Bool) → is_holdable t.action ≡ true → opened ≡ held (run p es).table → opened ≡ would_be_held p es lane t.action
held_told p es lane t opened may is = is ∙ sym (holds_words_and_modes p es lane t.action ∙ ap (λ b. b && held (run p es).table) may)

pub free_told : (p : Project) (es : List Event) (lane : ℕ) (t : Timed) → is_holdable t.action ≡ false → false ≡ would_be_held p es lane t.action
free_told p es lane t not_may = sym (holds_words_and_modes p es lane t.action ∙ ap (λ b. b && held (run p es).table) not_may)
