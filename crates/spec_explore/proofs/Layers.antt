-- Nodes that are closed cover a layer.
use Rattle.std.proofs.Common.{◌≡◌, ℕ, zero, suc, ◌+◌, ◌%◌, ◌<◌, ◌≤◌, inl, inr, Bool, true, false, cond, List, [], ◌∷◌, ◌++◌, length, Option, refl, sym, ◌∙◌, ap, subst, arith, length-append}
use Rattle.std.specs.Prelude.{nat_eq, IsTrue}
use Rattle.std.proofs.lemmas.Bool.{cases_lt}
use Rattle.std.proofs.lemmas.List.{append_assoc}
use Rattle.spec_machine.specs.declared.event.Action.{Action}
use Rattle.spec_machine.specs.declared.event.Event.{Event}
use Rattle.spec_machine.specs.declared.event.Event.TheVariants.{Cpu, Tick, Act}
use Rattle.spec_machine.specs.Events.{steps_of}
use Rattle.spec_machine.specs.Machine.{step, run}
use Rattle.spec_machine.specs.Project.{Project}
use Rattle.spec_machine.specs.ValidProject.{IsValidProject}
use Rattle.spec_text.specs.Scripts.{Script, is_script}
use Rattle.spec_schedule.specs.Partial.{IsPartial}
use Rattle.spec_lanes.specs.Turns.{is_spent, paced_step, most_steps}
use Rattle.spec_lanes.specs.Laws.{opening}
use Rattle.spec_lanes.proofs.Appended.{steps_on, steps_first}
use Rattle.spec_explore.specs.declared.question.Question.{Question}
use Rattle.spec_explore.specs.Growth.{Last, Opened, Acted, Stepped}
use Rattle.spec_explore.specs.Questions.{holds_some, InWindow, IsNeverBefore}
use Rattle.spec_explore.specs.Layers.{AreClear, Standing, Has, IsOfLayer, Covers, Goes, Opens, Steps, Acts, IsDone, LeadsTo, LayersBegin, LayersGoOn, LayersEnd, LayersAreFew}
use Rattle.spec_explore.proofs.Growth.{partial_journals_grow}
use Rattle.spec_explore.proofs.Partials.{paced_some, partial_journals_are_served}
use Rattle.spec_explore.proofs.Splits.{Stands, InFirst, InSecond, stands_in, clear_at}

-- ---- windows and steps

-- the first events of a journal within the window are within it
pub window_off : (script : Script) (within : Option ℕ) (es ds : List Event) → InWindow within script (es ++ ds) → InWindow within script es
window_off script within es ds h before after lane e =
    h before (after ++ ds) lane (ap (λ (xs : List Event). xs ++ ds) e ∙ append_assoc before after ds)

-- a step is one
pub paced_one : (pace n : ℕ) → steps_of (paced_step pace n) ≡ 1
paced_one pace n = go (nat_eq (n % pace) 0)
  where
    go : (b : Bool) → steps_of (cond b (Cpu ∷ Tick ∷ []) (Cpu ∷ [])) ≡ 1
    go true = refl
    go false = refl

steps_at : (first : List Event) (e : Event) (after : List Event) → steps_of (first ++ e ∷ after) ≡ steps_of (first ++ e ∷ []) + steps_of after
steps_at first e after = ap (λ (xs : List Event). steps_of xs) (sym (append_assoc first (e ∷ []) after)) ∙ steps_on (first ++ e ∷ []) after

-- and its first event is the processor step
begins_with_step : (ds : List Event) (e : Event) (after xs : List Event) → Cpu ∷ xs ≡ ds ++ e ∷ after → 1 ≤ steps_of (ds ++ e ∷ [])
begins_with_step [] e after xs h = let same : Cpu ≡ e = cc h in subst (λ (x : Event). 1 ≤ steps_of (x ∷ [])) same (omega arith)
begins_with_step (d ∷ ds) e after xs h =
    let same : Cpu ≡ d = cc h in
    subst (λ (x : Event). 1 ≤ steps_of (x ∷ (ds ++ e ∷ []))) same (let a = steps_first Cpu (ds ++ e ∷ []) in omega arith)

paced_begins : (pace n : ℕ) (ds : List Event) (e : Event) (after : List Event) → paced_step pace n ≡ ds ++ e ∷ after → 1 ≤ steps_of (ds ++ e ∷ [])
paced_begins pace n ds e after h = go (nat_eq (n % pace) 0) h
  where
    go : (b : Bool) → cond b (Cpu ∷ Tick ∷ []) (Cpu ∷ []) ≡ ds ++ e ∷ after → 1 ≤ steps_of (ds ++ e ∷ [])
    go true k = begins_with_step ds e after (Tick ∷ []) k
    go false k = begins_with_step ds e after [] k

module _ (p : Project) (script : Script) (q : Question) {Node : Type 0} (Is : Standing Node) (valid : IsValidProject p) (proper : IsTrue (is_script script)) where
  -- What has led to a layer: the opening or a step of the layer before.
  abbrev pub Starts : ℕ → List Node → Type 0
  Starts k nodes =
      (counts : List ℕ) (es : List Event) → IsPartial p script counts es → steps_of es + 1 ≡ k → is_spent p script es ≡ false → InWindow q.within script (es ++ paced_step script.pace (steps_of es + 1)) → Goes p script q Is nodes counts es (paced_step script.pace (steps_of es + 1))

  module _ (k : ℕ) (nodes : List Node) (opens : k ≡ 0 → Opens p script q Is nodes) (starts : Starts k nodes) (acts : Acts p script q Is k nodes) (before : IsNeverBefore p script q k) where
    -- ---- each journal has a node

    same_steps : (es : List Event) (lane : ℕ) (a : Action) → steps_of (es ++ Act lane a ∷ []) ≡ steps_of es
    same_steps es lane a = steps_on es (Act lane a ∷ []) ∙ (let e : steps_of es + 0 ≡ steps_of es = omega arith in e)

    more_steps : (es : List Event) → steps_of (es ++ paced_step script.pace (steps_of es + 1)) ≡ steps_of es + 1
    more_steps es = steps_on es (paced_step script.pace (steps_of es + 1)) ∙ ap (λ n. steps_of es + n) (paced_one script.pace (steps_of es + 1))

    covered : (n : ℕ) (counts : List ℕ) (es : List Event) → length es ≤ n → Last p script (IsPartial p script) counts es → InWindow q.within script es → steps_of es ≡ k → Has Is nodes counts es
    covered n _ _ le Opened window steps = (opens (sym steps) window).has
    covered zero _ _ le (Acted counts es lane a h due) window steps = absurd (let l = length-append es (Act lane a ∷ []) in omega arith)
    covered (suc n) _ _ le (Acted counts es lane a h due) window steps =
        let l = length-append es (Act lane a ∷ []) in
        let inner = window_off script q.within es (Act lane a ∷ []) window in
        let at : steps_of es ≡ k = sym (same_steps es lane a) ∙ steps in
        let node = covered n counts es (omega arith) (partial_journals_grow p script counts es valid proper h) inner at in
        (acts node.node counts es lane a node.among node.is (record { partial = h; window = inner; steps = at }) due window).has
    covered n _ _ le (Stepped counts es h unspent) window steps = (starts counts es h (sym (more_steps es) ∙ steps) unspent window).has

    covers : Covers p script q Is k nodes
    covers counts es h = covered (length es) counts es (omega arith) (partial_journals_grow p script counts es valid proper h.partial) h.window h.steps

    -- ---- no line holds at a moment of the layer

    abbrev IsFree : List Event → Event → Type 0
    IsFree first e = holds_some p q (step (run p first) e) ≡ false

    -- what was made after a journal is clear, and so is what was made before
    free_in : (first : List Event) (e : Event) (after es made : List Event) → Stands first e after es made → ((ds : List Event) → first ≡ es ++ ds → made ≡ ds ++ e ∷ after → AreClear p q (run p es) made) → ((rest : List Event) → es ≡ first ++ e ∷ rest → IsFree first e) → IsFree first e
    free_in first e after es made (InFirst rest h) clear inner = inner rest h
    free_in first e after es made (InSecond ds b d) clear inner =
        subst (λ (xs : List Event). IsFree xs e) (sym b) (clear_at p q es ds e after (subst (λ (xs : List Event). AreClear p q (run p es) xs) d (clear ds b d)))

    -- the steps up to an event of what was made
    up_to : (first : List Event) (e : Event) (es ds : List Event) → first ≡ es ++ ds → steps_of (first ++ e ∷ []) ≡ steps_of es + steps_of (ds ++ e ∷ [])
    up_to first e es ds b = ap (λ (xs : List Event). steps_of xs) (ap (λ (xs : List Event). xs ++ e ∷ []) b ∙ append_assoc es ds (e ∷ [])) ∙ steps_on es (ds ++ e ∷ [])

    free : (n : ℕ) (counts : List ℕ) (es first : List Event) (e : Event) (after : List Event) → length es ≤ n → Last p script (IsPartial p script) counts es → InWindow q.within script es → es ≡ first ++ e ∷ after → steps_of (first ++ e ∷ []) ≡ k → IsFree first e
    free n _ _ first e after le Opened window is steps =
        free_in first e after [] opening (stands_in first e after [] opening is)
        (λ ds b d.
        let all : steps_of opening ≡ steps_of (first ++ e ∷ after) = ap (λ (xs : List Event). steps_of xs) is in
        let here = steps_at first e after in
        (opens (omega arith) window).clear)
        (λ rest h. absurd (no_events first e rest h))
      where
        no_events : (first : List Event) (e : Event) (rest : List Event) → [] ≡ first ++ e ∷ rest → ⊥
        no_events [] e rest h = cc h
        no_events (x ∷ first) e rest h = cc h
    free zero _ _ first e after le (Acted counts es lane a h due) window is steps = absurd (let l = length-append es (Act lane a ∷ []) in omega arith)
    free (suc n) _ _ first e after le (Acted counts es lane a h due) window is steps =
        let l = length-append es (Act lane a ∷ []) in
        let inner = window_off script q.within es (Act lane a ∷ []) window in
        free_in first e after es (Act lane a ∷ []) (stands_in first e after es (Act lane a ∷ []) is)
        (λ ds b d.
        let here = up_to first e es ds b in
        let made = steps_at ds e after in
        let none : steps_of (Act lane a ∷ []) ≡ steps_of (ds ++ e ∷ after) = ap (λ (xs : List Event). steps_of xs) d in
        let at : steps_of es ≡ k = omega arith in
        let layer : IsOfLayer p script q k counts es = record { partial = h; window = inner; steps = at } in
        let node = covers counts es layer in
        (acts node.node counts es lane a node.among node.is layer due window).clear)
        (λ rest r. free n counts es first e rest (omega arith) (partial_journals_grow p script counts es valid proper h) inner r steps)
    free zero _ _ first e after le (Stepped counts es h unspent) window is steps =
        absurd (let l = length-append es (paced_step script.pace (steps_of es + 1)) in let s = paced_some script.pace (steps_of es + 1) in omega arith)
    free (suc n) _ _ first e after le (Stepped counts es h unspent) window is steps =
        let made : List Event = paced_step script.pace (steps_of es + 1) in
        let l = length-append es made in
        let s = paced_some script.pace (steps_of es + 1) in
        let inner = window_off script q.within es made window in
        free_in first e after es made (stands_in first e after es made is)
        (λ ds b d.
        let here = up_to first e es ds b in
        let all = steps_at ds e after in
        let one : steps_of made ≡ 1 = paced_one script.pace (steps_of es + 1) in
        let same : steps_of made ≡ steps_of (ds ++ e ∷ after) = ap (λ (xs : List Event). steps_of xs) d in
        let some = paced_begins script.pace (steps_of es + 1) ds e after d in
        let at : steps_of es + 1 ≡ k = omega arith in
        (starts counts es h at unspent window).clear)
        (λ rest r. free n counts es first e rest (omega arith) (partial_journals_grow p script counts es valid proper h) inner r steps)

    pub layer_done : IsDone p script q Is k nodes
    layer_done = record {
      covers = covers;
      clear = λ first e m lt.
          elim (cases_lt (steps_of (first ++ e ∷ [])) k) [
            | inl earlier ↦ before first e m earlier
            | inr here ↦
                (let journal : List Event = first ++ e ∷ m.after in
                let at : steps_of (first ++ e ∷ []) ≡ k = omega arith in
                free (length journal) m.counts journal first e m.after (omega arith) (partial_journals_grow p script m.counts journal valid proper m.partial) m.window refl at)
          ];
    }

  -- ---- the layers

  pub layers_begin : (nodes : List Node) → Opens p script q Is nodes → Acts p script q Is 0 nodes → IsDone p script q Is 0 nodes
  layers_begin nodes opens acts =
      layer_done 0 nodes (λ e. opens) (λ counts es h e. absurd (omega arith)) acts (λ first e m lt. absurd (omega arith))

  pub layers_go_on : (k : ℕ) (nodes next : List Node) → IsDone p script q Is k nodes → Steps p script q Is k nodes next → Acts p script q Is (k + 1) next → IsDone p script q Is (k + 1) next
  layers_go_on k nodes next done steps acts =
      layer_done (k + 1) next (λ e. absurd (omega arith))
      (λ counts es h e unspent window.
      let at : steps_of es ≡ k = omega arith in
      let layer : IsOfLayer p script q k counts es = record { partial = h; window = window_off script q.within es (paced_step script.pace (steps_of es + 1)) window; steps = at } in
      let node = done.covers counts es layer in
      steps node.node counts es node.among node.is layer unspent window)
      acts done.clear

  -- of a layer without nodes there is no journal
  none_has : (counts : List ℕ) (es : List Event) → Has Is [] counts es → ⊥
  none_has counts es h = let within = h.among.1 in omega arith

  -- no partial journal within the window has so many steps, or more
  few_steps : (k : ℕ) → Covers p script q Is k [] → (n : ℕ) (counts : List ℕ) (es : List Event) → length es ≤ n → IsPartial p script counts es → Last p script (IsPartial p script) counts es → InWindow q.within script es → k ≤ steps_of es → ⊥
  few_steps k none n _ _ le h Opened window ge = none_has _ _ (none _ _ (record { partial = h; window = window; steps = omega arith }))
  few_steps k none zero _ _ le h (Acted counts es lane a before due) window ge = let l = length-append es (Act lane a ∷ []) in omega arith
  few_steps k none (suc n) _ _ le h (Acted counts es lane a before due) window ge =
      let l = length-append es (Act lane a ∷ []) in
      let s = steps_on es (Act lane a ∷ []) in
      few_steps k none n counts es (omega arith) before (partial_journals_grow p script counts es valid proper before) (window_off script q.within es (Act lane a ∷ []) window) (omega arith)
  few_steps k none zero _ _ le h (Stepped counts es before unspent) window ge =
      let l = length-append es (paced_step script.pace (steps_of es + 1)) in
      let s = paced_some script.pace (steps_of es + 1) in
      omega arith
  few_steps k none (suc n) _ _ le h (Stepped counts es before unspent) window ge =
      let made : List Event = paced_step script.pace (steps_of es + 1) in
      let l = length-append es made in
      let s = paced_some script.pace (steps_of es + 1) in
      let all = steps_on es made in
      let one = paced_one script.pace (steps_of es + 1) in
      elim (cases_lt k (steps_of (es ++ made))) [
        | inl more ↦ few_steps k none n counts es (omega arith) before (partial_journals_grow p script counts es valid proper before) (window_off script q.within es made window) (omega arith)
        | inr same ↦ none_has counts (es ++ made) (none counts (es ++ made) (record { partial = h; window = window; steps = omega arith }))
      ]

  pub layers_end : (k : ℕ) → IsDone p script q Is k [] → (n : ℕ) → IsNeverBefore p script q n
  layers_end k done n first e m lt =
      elim (cases_lt (steps_of (first ++ e ∷ [])) (k + 1)) [
        | inl early ↦ done.clear first e m early
        | inr late ↦
            (let journal : List Event = first ++ e ∷ m.after in
            let all = steps_at first e m.after in
            absurd (few_steps k done.covers (length journal) m.counts journal (omega arith) m.partial (partial_journals_grow p script m.counts journal valid proper m.partial) m.window (omega arith)))
      ]

  pub layers_are_few : (k : ℕ) (nodes : List Node) → most_steps script < k → IsDone p script q Is k nodes → IsDone p script q Is k []
  layers_are_few k nodes gt done = record {
    covers = λ counts es h. absurd (let few = (partial_journals_are_served p script counts es valid proper h.partial).few in let at = h.steps in omega arith);
    clear = done.clear;
  }

pub layers_begin_by_states : LayersBegin
layers_begin_by_states p script q nodes valid proper = layers_begin p script q (LeadsTo p) valid proper nodes

pub layers_go_on_by_states : LayersGoOn
layers_go_on_by_states p script q k nodes next valid proper = layers_go_on p script q (LeadsTo p) valid proper k nodes next

pub layers_end_by_states : LayersEnd
layers_end_by_states p script q k valid proper = layers_end p script q (LeadsTo p) valid proper k

pub layers_are_few_by_states : LayersAreFew
layers_are_few_by_states p script q k nodes valid proper = layers_are_few p script q (LeadsTo p) valid proper k nodes
