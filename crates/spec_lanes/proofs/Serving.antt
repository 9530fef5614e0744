-- A journal's opening, its bounds, and when it is complete.
use Rattle.std.proofs.Common.{◌≡◌, ℕ, zero, suc, ◌-◌, ◌/◌, ◌<◌, ◌≤◌, Bool, true, false, cond, not, List, [], ◌∷◌, length, get_or, map, replicate, Option, Some, None, refl, sym, ◌∙◌, ap, subst, arith}
use Rattle.std.specs.Prelude.{◌&&◌, nat_le, sum, slice_get}
use Rattle.std.specs.List.{AllZip}
use Rattle.std.proofs.lemmas.Bool.{and_from, and_parts, false≢true, le-leb, leb-true, ne_eqb, not-true, not_from_false}
use Rattle.std.proofs.lemmas.List.{length-replicate, get_or-replicate}
use Rattle.std.proofs.lemmas.List.Folds.{sum_by-replicate}
use Rattle.std.proofs.lemmas.Nat.{le-div}
use Rattle.std.proofs.Math.Nat.{div-mul-le_self, mul-zero, zero-div}
use Rattle.spec_base.specs.declared.limits.TheConstants.{OWN_LANE}
use Rattle.spec_tables.specs.Tasks.{held, has_open_cps}
use Rattle.spec_machine.specs.declared.event.Action.TheVariants.{ModeRun}
use Rattle.spec_machine.specs.declared.event.Event.{Event}
use Rattle.spec_machine.specs.declared.event.Event.TheVariants.{Cpu, Act}
use Rattle.spec_machine.specs.Events.{steps_of}
use Rattle.spec_machine.specs.Machine.{step, run}
use Rattle.spec_machine.specs.Project.{Project}
use Rattle.spec_machine.specs.State.{start}
use Rattle.spec_text.specs.declared.script.Timed.{Timed}
use Rattle.spec_text.specs.Scripts.{Script}
use Rattle.spec_schedule.specs.Partial.{Made, made_if, made_by, LaneDid, is_held, is_held_after, through_step, IsPartial}
use Rattle.spec_reach.proofs.Reached.{reached_start}
use Rattle.spec_reach.proofs.Views.{down_state}
use Rattle.spec_lanes.specs.Held.{is_holdable}
use Rattle.spec_lanes.specs.Turns.{lane_of, done_by, ticks_of, next_of, would_be_held, is_due, if_due, due_action, is_spent, most_steps}
use Rattle.spec_lanes.specs.Served.{IsServed}
use Rattle.spec_lanes.specs.Laws.{opening, OpeningIsServed, NoneIsLeft, CountsTell, FewEventsServe, AllIsComplete}
use Rattle.spec_lanes.proofs.LaneLists.{did_from, few_counts, whole_counts}
use Rattle.spec_lanes.proofs.Holding.{holds_words_and_modes}
use Rattle.spec_lanes.proofs.Ranges.{all_in}
use Rattle.spec_lanes.proofs.OpenCopies.{open_is_held, held_before, held_by}
use Rattle.spec_lanes.proofs.Scripts.{proper_of, comes_by, lane_did, count_is}

-- ---- the opening

none_open : (p : Project) → held (start p).table ≡ true → ⊥
none_open p h =
    let some = held_by p (start p) (reached_start p) h in
    false≢true (sym (ap has_open_cps (down_state p.tasks some.0)) ∙ some.2.flag)

shut_at_start : (p : Project) → held (start p).table ≡ false
shut_at_start p = go (held (start p).table) refl
  where
    go : (b : Bool) → held (start p).table ≡ b → b ≡ false
    go false e = refl
    go true e = absurd (none_open p e)

no_step : Act OWN_LANE ModeRun ≡ Cpu → ⊥
no_step e = cc e

-- after it none is open
shut_after : (p : Project) → is_held_after p opening ≡ true → ⊥
shut_after p h = none_open p (held_before p (start p) (Act OWN_LANE ModeRun) no_step (reached_start p) h)

-- no lane of the script's did anything
nothing_did : (script : Script) (i : ℕ) → i < OWN_LANE → LaneDid opening i 0 (lane_of script i)
nothing_did script i below =
    let none : made_by i 0 opening ≡ [] = ap (λ b. made_if b ModeRun 0 []) (ne_eqb OWN_LANE i (λ e. absurd (omega arith))) in
    record {
      enough = omega arith;
      order = ap (map (λ (m : Made). m.action)) none;
      due = subst (λ (ms : List Made). AllZip {A = Made} {B = Timed} (λ m t. t.at ≤ m.ticks) ms []) (sym none) tt;
    }

zeros_did : (script : Script) → length script.lanes ≤ OWN_LANE → (i : ℕ) → i < length script.lanes → LaneDid opening i (get_or (replicate (length script.lanes) 0) i 0) (lane_of script i)
zeros_did script few i lt =
    subst (λ n. LaneDid opening i n (lane_of script i)) (sym (get_or-replicate (length script.lanes) i 0 0 lt)) (nothing_did script i (omega arith))

pub opening_is_served : OpeningIsServed
opening_is_served p script valid proper =
    let zeros : List ℕ = replicate {A = ℕ} (length script.lanes) 0 in
    let none : sum zeros ≡ 0 = sum_by-replicate (λ (k : ℕ). k) (length script.lanes) 0 ∙ mul-zero (length script.lanes) in
    let free : not (is_held (step (start p) (Act OWN_LANE ModeRun)).answer) ≡ true =
    not_from_false _ (holds_words_and_modes p [] OWN_LANE ModeRun ∙ shut_at_start p) in
    record {
      valid = valid;
      proper = proper;
      partial = record {
        opening = refl;
        rest = refl;
        lanes = did_from opening zeros script.lanes (length-replicate (length script.lanes) 0) (zeros_did script (proper_of script proper).lanes);
        answers = and_from _ true free refl;
        ticks = refl;
        steps = all_in (λ k. is_held_after p (through_step k opening)) script.steps (0 - script.steps) (λ k ge lt. absurd (omega arith));
      };
      events = omega (arith, none);
      ticks = sym (zero-div script.pace);
      since = λ h. absurd (shut_after p h);
      taken = λ ge t c k. absurd (shut_after p (open_is_held (run p opening) t c k));
      few = omega arith;
    }

-- ---- counts and bounds

pub counts_tell : CountsTell
counts_tell p script counts es lane h lt =
    let count = count_is p script counts es h lane lt in
    let enough = (lane_did p script counts es h lane lt).enough in
    record { count = sym count; few = omega arith }

div_less : (m n k : ℕ) → 0 < k → m ≤ n → m / k ≤ n / k
div_less m n k some le = le-div (m / k) n k some (let a = div-mul-le_self m k in omega arith)

pub few_events_serve : FewEventsServe
few_events_serve p script counts es h =
    let acts = few_counts es 0 counts script.lanes h.partial.lanes in
    let all = h.events in
    let steps = h.few in
    let ticks = h.ticks in
    let fewer = div_less (steps_of es) (most_steps script) script.pace (proper_of script h.proper).pace h.few in
    omega arith

-- ---- what is left

none_held : (b c : Bool) → c ≡ false → (b && c) ≡ false
none_held true c e = e
none_held false c e = refl

pub none_past : {A : Type 0} (xs : List A) (i : ℕ) → slice_get xs i ≡ None → length xs ≤ i
none_past [] i none = omega arith
none_past (x ∷ xs) zero none = absurd (cc none)
none_past (x ∷ xs) (suc i) none = let a = none_past xs i none in omega arith

module _ (p : Project) (script : Script) (counts : List ℕ) (es : List Event) (lane : ℕ) (h : IsServed p script counts es) (none : due_action p script es lane ≡ None) (spent : is_spent p script es ≡ true) where
  made : script.steps ≤ steps_of es
  made = leb-true script.steps (steps_of es) (and_parts (nat_le script.steps (steps_of es)) (not (is_held_after p es)) spent).0

  closed : is_held_after p es ≡ false
  closed = not-true (is_held_after p es) (and_parts (nat_le script.steps (steps_of es)) (not (is_held_after p es)) spent).1

  -- every action that is left is due
  all_due : (t : Timed) → next_of script es lane ≡ Some t → is_due p es lane t ≡ true
  all_due t next =
      let last = comes_by script lane (done_by lane es) t h.proper next in
      let ticks = h.ticks in
      let before = div_less script.steps (steps_of es) script.pace (proper_of script h.proper).pace made in
      and_from (nat_le t.at (ticks_of es)) (not (would_be_held p es lane t.action)) (le-leb t.at (ticks_of es) (omega arith))
      (not_from_false (would_be_held p es lane t.action) (holds_words_and_modes p es lane t.action ∙ none_held (is_holdable t.action) (is_held_after p es) closed))

  no_next : next_of script es lane ≡ None
  no_next = go (next_of script es lane) refl
    where
      go : (o : Option Timed) → next_of script es lane ≡ o → o ≡ None
      go None e = refl
      go (Some t) e =
          absurd
          (let due : Some t.action ≡ None =
          sym (ap (λ b. cond b (Some t.action) None) (all_due t e)) ∙ (sym (ap (if_due p es lane) e) ∙ none) in
          cc due)

  all_made : lane < length script.lanes → done_by lane es ≡ length (lane_of script lane)
  all_made lt =
      let few = (counts_tell p script counts es lane h lt).few in
      let past = none_past (lane_of script lane) (done_by lane es) no_next in
      omega arith

pub none_is_left : NoneIsLeft
none_is_left p script counts es lane h none spent = record { none_left = no_next p script counts es lane h none spent; all_made = all_made p script counts es lane h none spent }

-- ---- complete

pub all_is_complete : AllIsComplete
all_is_complete p script counts es h all spent =
    let parts = and_parts (nat_le script.steps (steps_of es)) (not (is_held_after p es)) spent in
    record {
      partial = subst (λ (ns : List ℕ). IsPartial p script ns es) (whole_counts es 0 counts script.lanes h.partial.lanes all) h.partial;
      enough = leb-true script.steps (steps_of es) parts.0;
      closed = not-true (is_held_after p es) parts.1;
    }
