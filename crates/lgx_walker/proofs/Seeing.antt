-- What the numbers at the watched places tell of an event.
use Rattle.std.proofs.Common.{◌≡◌, Bool, true, false, ℕ, List, [], ◌∷◌, ◌++◌, ℤ, length, map, get_or, take, ◌+◌, ◌<◌, Option, Some, None, refl, sym, ◌∙◌, ap, subst}
use Rattle.std.specs.Prelude.{position}
use Rattle.std.specs.List.{AllByRecursion as Each}
use Rattle.spec_base.proofs.Lists.{each_get}
use Rattle.lgx_num.specs.declared.place.Place.{Place}
use Rattle.std.proofs.lemmas.List.{append_assoc, take_more, map-append}
use Rattle.std.proofs.lemmas.Simd.{map-map}
use Rattle.lgx_num.specs.Image.{number, InBounds}
use Rattle.spec_machine.specs.declared.answer.Moment.{Moment}
use Rattle.spec_machine.specs.declared.event.Event.{Event}
use Rattle.spec_machine.specs.declared.event.Event.TheVariants.{Cpu, Tick}
use Rattle.spec_machine.specs.Machine.{TraceEntry, OfStep, step, run}
use Rattle.spec_machine.specs.Project.{Project, Watch}
use Rattle.spec_machine.specs.State.{State, Answered}
use Rattle.spec_machine.specs.ValidProject.{IsWatchable}
use Rattle.spec_reach.proofs.Images.{images_keep_length}
use Rattle.spec_reach.proofs.Reached.{run_more}
use Rattle.spec_explore.specs.declared.question.Question.{Question}
use Rattle.spec_explore.specs.Questions.{ends_scan, holds_some}
use Rattle.spec_explore.specs.Layers.{AreClear}
use Rattle.lgx_edit.specs.declared.plant.PlantParts.TheInside.{Inside}
use Rattle.lgx_edit.specs.Plants.{watch_of, project_of}
use Rattle.lgx_question.specs.Seen.{is_program, holds_in, IsSeen}
use Rattle.lgx_question.proofs.SeenLines.{first_lines_are_seen, no_line_is_seen}
use Rattle.lgx_core.specs.ControllerView.{ControllerView}
use Rattle.lgx_core.specs.Represents.{RepresentsController, StandsFor}
use Rattle.lgx_walker.specs.declared.valued.ValuedController.{ValuedController}
use Rattle.lgx_walker.specs.Lines.{IsLineOf, step_events}
use Rattle.lgx_walker.specs.Places.{AreInside}
use Rattle.lgx_walker.specs.Walks.{places_of, Watches}

-- ---- the watched places of the parts are those of the project

pub same_places : (p : Inside) → map (λ w. w.place) p.watches ≡ map (λ w. w.place) (project_of p).watches
same_places p = sym (map-map (λ (w : Watch). w.place) watch_of p.watches)

-- ---- the watched places lie in the image

watched_inside : (len : ℕ) (watches : List Watch) → Each (IsWatchable len) watches → Each (λ p. InBounds p len) (map (λ w. w.place) watches)
watched_inside len [] h = tt
watched_inside len (w ∷ ws) h = (h.0.inside, watched_inside len ws h.1)

inside_now : (p : Project) (events : List Event) (c : ControllerView) → StandsFor p events c → AreInside (places_of p) (length c.parts.image.bytes)
inside_now p events c stands n place here =
    let many : length c.parts.image.bytes ≡ length p.image = ap length stands.represents.parts.image ∙ images_keep_length p events in
    subst (λ k. InBounds place k) (sym many)
    (each_get (λ q. InBounds q (length p.image)) (map (λ w. w.place) p.watches) n place (watched_inside (length p.image) p.watches stands.valid.watches) here)

-- one number more
pub number_more : (f : Place → ℤ) (ps : List Place) (i : ℕ) (p : Place) (old new : List ℤ) (n : ℤ) → i < length ps → get_or ps i p ≡ p → old ≡ map f (take i ps) → new ≡ old ++ n ∷ [] → n ≡ f p → new ≡ map f (take (i + 1) ps)
number_more f ps i p old new n lt here before pushed is =
    pushed
    ∙ ap (λ (ns : List ℤ). ns ++ n ∷ []) before
    ∙ ap (λ (x : ℤ). map f (take i ps) ++ x ∷ []) is
    ∙ sym (map-append f (take i ps) (p ∷ []))
    ∙ ap (map f) (sym (take_more ps i p lt ∙ ap (λ (x : Place). take i ps ++ x ∷ []) here))

-- those of a watcher
pub places_inside : (w : ValuedController) (p : Project) (events : List Event) → Watches w p events → AreInside w.places (length w.controller.parts.image.bytes)
places_inside w p events h =
    subst (λ (ps : List Place). AreInside ps (length w.controller.parts.image.bytes)) (sym h.places_are) (inside_now p events w.controller h.stands_for)

-- ---- lines

numbers_in : (image : List ℕ) (ws : List Watch) → map (number image) (map (λ w. w.place) ws) ≡ map (λ (w : Watch). number image w.place) ws
numbers_in image [] = refl
numbers_in image (w ∷ ws) = ap (λ (ns : List ℤ). number image w.place ∷ ns) (numbers_in image ws)

seen_after : (p : Project) (journal : List Event) (e : Event) (w : ValuedController) (values : List ℤ) (ended : Option ℕ) → Watches w p (journal ++ e ∷ []) → values ≡ map (number (run p (journal ++ e ∷ [])).image) w.places → ((q : ℕ) → ends_scan q (step (run p journal) e).answer ≡ is_program q ended) → IsSeen p (step (run p journal) e) values ended
seen_after p journal e w values ended h are ends = record {
  values_are = are
      ∙ (ap (map (number (run p (journal ++ e ∷ [])).image)) h.places_are
      ∙ (numbers_in (run p (journal ++ e ∷ [])).image p.watches
      ∙ ap (λ (s : State). map (λ (w : Watch). number s.image w.place) p.watches) (run_more p journal e)));
  ended_is = ends;
}

line_seen : (p : Project) (x : Answered TraceEntry) (values : List ℤ) (ended : Option ℕ) (q : Question) (o : Option ℕ) → IsSeen p x values ended → position (holds_in values ended) q.lines ≡ o → IsLineOf p q x o
line_seen p x values ended q None seen at = no_line_is_seen p x values ended q seen at
line_seen p x values ended q (Some line) seen at = first_lines_are_seen p x values ended q line seen at

-- the first line by the numbers that were read after the event
pub line_after : (p : Project) (journal : List Event) (e : Event) (w : ValuedController) (values : List ℤ) (ended : Option ℕ) (q : Question) (o : Option ℕ) → Watches w p (journal ++ e ∷ []) → ((s : State) → RepresentsController w.controller s → AreInside w.places (length w.controller.parts.image.bytes) → values ≡ map (number s.image) w.places) → ((n : ℕ) → ends_scan n (step (run p journal) e).answer ≡ is_program n ended) → position (holds_in values ended) q.lines ≡ o → IsLineOf p q (step (run p journal) e) o
line_after p journal e w values ended q o h read ends at =
    line_seen p (step (run p journal) e) values ended q o
    (seen_after p journal e w values ended h (read (run p (journal ++ e ∷ [])) h.stands_for.represents (places_inside w p (journal ++ e ∷ []) h)) ends) at

-- the program whose scan a step ended, by the step's answer
pub ended_after : (p : Project) (journal : List Event) (m : Moment) (ended : Option ℕ) → OfStep m ≡ (step (run p journal) Cpu).answer → ((n : ℕ) → ends_scan n (OfStep m) ≡ is_program n ended) → (n : ℕ) → ends_scan n (step (run p journal) Cpu).answer ≡ is_program n ended
ended_after p journal m ended same ends n = sym (ap (ends_scan n) same) ∙ ends n

-- ---- without an event

-- a watcher whose controller represents what it did
pub still_watches : (p : Project) (journal : List Event) (old new : ValuedController) → new.places ≡ old.places → ((s : State) → RepresentsController old.controller s → RepresentsController new.controller s) → new.controller.spent ≡ old.controller.spent → Watches old p journal → Watches new p journal
still_watches p journal old new places represents spent h = record {
  places_are = places ∙ h.places_are;
  stands_for = record {
    valid = h.stands_for.valid;
    counted = spent ∙ h.stands_for.counted;
    represents = represents (run p journal) h.stands_for.represents;
  };
}

-- a watcher that is the same as another
pub copy_watches : (p : Project) (journal : List Event) (watcher copy : ValuedController) → copy.controller ≡ watcher.controller → copy.places ≡ watcher.places → Watches watcher p journal → Watches copy p journal
copy_watches p journal watcher copy controller places h = record {
  places_are = places ∙ h.places_are;
  stands_for = subst (StandsFor p journal) (sym controller) h.stands_for;
}

-- ---- after an event

pub event_watched : (p : Project) (journal : List Event) (e : Event) (old new : ValuedController) → new.places ≡ old.places → StandsFor p (journal ++ e ∷ []) new.controller → Watches old p journal → Watches new p (journal ++ e ∷ [])
event_watched p journal e old new places stands h = record { places_are = places ∙ h.places_are; stands_for = stands }

-- after a step and its tick
module _ (p : Project) (q : Question) (journal : List Event) (has_tick : Bool) (ticks : has_tick ≡ true) where
  pub ticked_watches : (w : ValuedController) → Watches w p ((journal ++ Cpu ∷ []) ++ Tick ∷ []) → Watches w p (journal ++ step_events has_tick)
  ticked_watches w h =
      subst (λ (b : Bool). Watches w p (journal ++ step_events b)) (sym ticks) (subst (Watches w p) (append_assoc journal (Cpu ∷ []) (Tick ∷ [])) h)

  pub ticked_clear : (a b : Option ℕ) → a ≡ None → b ≡ None → IsLineOf p q (step (run p journal) Cpu) a → IsLineOf p q (step (run p (journal ++ Cpu ∷ [])) Tick) b → AreClear p q (run p journal) (step_events has_tick)
  ticked_clear a b none none_too first then =
      subst (λ (b : Bool). AreClear p q (run p journal) (step_events b)) (sym ticks) (
        subst (IsLineOf p q (step (run p journal) Cpu)) none first,
        (
          subst (λ (s : State). holds_some p q (step s Tick) ≡ false) (run_more p journal Cpu) (subst (IsLineOf p q (step (run p (journal ++ Cpu ∷ [])) Tick)) none_too then),
          tt,
        ),
      )
