-- The text of a whole link script, line by line.
use Rattle.std.proofs.Common.{◌≡◌, ℕ, zero, suc, ◌+◌, ◌≤◌, List, [], ◌∷◌, ◌++◌, length, drop, append_assoc, refl, sym, ap, ◌∙◌, arith}
use Rattle.std.specs.Prelude.{flat_map, sum_by}
use Rattle.std.proofs.lemmas.Grind.{flat_map-append}
use Rattle.std.proofs.lemmas.List.Sums.{sum_by-cons}
use Rattle.spec_base.specs.declared.limits.TheConstants.{MAX_EVENTS}
use Rattle.spec_machine.specs.Project.{Project}
use Rattle.spec_link.specs.declared.script.LinkScript.{LinkScript}
use Rattle.spec_link.specs.declared.script.LinkStep.{LinkStep}
use Rattle.spec_link.specs.Links.{Link, opened, link_step, link_run}
use Rattle.spec_link.specs.LinkOutput.{pair_of, step_lines, lines_along, link_output, linked_journals, written}
use Rattle.lgx_link.specs.declared.running.Running.{Running}
use Rattle.lgx_link.specs.Running.{IsLink, Follows, HasRoom, events_of_a, events_of_b}

-- The controllers stand for the state after some lines, and these lines are left. What they bring, after the text so far, is the
-- whole.
pub record IsUnderWay (v : Running) (text : List ℕ) (a b : Project) (script : LinkScript) (left : List LinkStep) : Type 0 where
  pub state : Link
  pub link : IsLink v (pair_of a b script) state
  pub text_is : text ++ flat_map written (lines_along (pair_of a b script) state left) ≡ link_output a b script
  pub state_is : link_run (pair_of a b script) state left ≡ linked_journals a b script
  pub room : HasRoom v.a.controller.spent v.b.controller.spent v.producer left

-- before the first line
pub started : (v : Running) (text : List ℕ) (a b : Project) (script : LinkScript) → IsLink v (pair_of a b script) opened → text ≡ [] → HasRoom 0 0 0 script.steps → IsUnderWay v text a b script script.steps
started v text a b script h none room =
    let none_of_a : v.a.controller.spent ≡ 0 = h.a.controller.counted in
    let none_of_b : v.b.controller.spent ≡ 0 = h.b.controller.counted in
    let none_sent : v.producer ≡ 0 = h.count in
    let room_of_a = room.of_a in
    let room_of_b = room.of_b in
    let room_of_sends = room.of_sends in
    record {
      state = opened;
      link = h;
      text_is = ap (λ t. t ++ flat_map written (lines_along (pair_of a b script) opened script.steps)) none;
      state_is = refl;
      room = record { of_a = omega arith; of_b = omega arith; of_sends = omega arith };
    }

pub none_left : {A : Type 0} (xs : List A) (i : ℕ) → length xs ≤ i → drop i xs ≡ []
none_left [] zero h = refl
none_left [] (suc i) h = refl
none_left (x ∷ xs) zero h = absurd (omega arith)
none_left (x ∷ xs) (suc i) h = none_left xs i (omega arith)

-- there is room for a line's events
pub record HasRoomFor (a b sends : ℕ) (x : LinkStep) : Type 0 where
  pub of_a : a + events_of_a x ≤ MAX_EVENTS
  pub of_b : b + events_of_b x ≤ MAX_EVENTS
  pub of_sends : sends + events_of_a x ≤ MAX_EVENTS

pub room_for : (a b sends : ℕ) (x : LinkStep) (left : List LinkStep) → HasRoom a b sends (x ∷ left) → HasRoomFor a b sends x
room_for a b sends x left h =
    let of_a : sum_by events_of_a (x ∷ left) ≡ events_of_a x + sum_by events_of_a left = sum_by-cons events_of_a x left in
    let of_b : sum_by events_of_b (x ∷ left) ≡ events_of_b x + sum_by events_of_b left = sum_by-cons events_of_b x left in
    let room_of_a = h.of_a in
    let room_of_b = h.of_b in
    let room_of_sends = h.of_sends in
    record { of_a = omega arith; of_b = omega arith; of_sends = omega arith }

room_left : (a b sends a' b' sends' : ℕ) (x : LinkStep) (left : List LinkStep) → HasRoom a b sends (x ∷ left) → a' ≤ a + events_of_a x → b' ≤ b + events_of_b x → sends' ≤ sends + events_of_a x → HasRoom a' b' sends' left
room_left a b sends a' b' sends' x left h more_a more_b more_sends =
    let of_a : sum_by events_of_a (x ∷ left) ≡ events_of_a x + sum_by events_of_a left = sum_by-cons events_of_a x left in
    let of_b : sum_by events_of_b (x ∷ left) ≡ events_of_b x + sum_by events_of_b left = sum_by-cons events_of_b x left in
    let room_of_a = h.of_a in
    let room_of_b = h.of_b in
    let room_of_sends = h.of_sends in
    record { of_a = omega arith; of_b = omega arith; of_sends = omega arith }

-- after one line more
pub followed : (v w : Running) (text new : List ℕ) (a b : Project) (script : LinkScript) (x : LinkStep) (left : List LinkStep) → (h : IsUnderWay v text a b script (x ∷ left))
    → Follows w text new (pair_of a b script) h.state (link_step (pair_of a b script) h.state x)
    → w.a.controller.spent ≤ v.a.controller.spent + events_of_a x → w.b.controller.spent ≤ v.b.controller.spent + events_of_b x → w.producer ≤ v.producer + events_of_a x
    → IsUnderWay w new a b script left
followed v w text new a b script x left h g more_a more_b more_sends =
    let l = pair_of a b script in
    let y = link_step l h.state x in
    let now = step_lines l h.state y in
    let later = lines_along l y.link left in
    record {
      state = y.link;
      link = g.link;
      text_is =
          ap (λ t. t ++ flat_map written later) g.text ∙ append_assoc text (flat_map written now) (flat_map written later)
          ∙ ap (λ t. text ++ t) (sym (flat_map-append written now later)) ∙ h.text_is;
      state_is = h.state_is;
      room = room_left v.a.controller.spent v.b.controller.spent v.producer w.a.controller.spent w.b.controller.spent w.producer x left h.room more_a more_b more_sends;
    }
