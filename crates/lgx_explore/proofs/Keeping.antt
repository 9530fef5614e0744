-- What nodes keep, and that what one shows is a witness.
use Rattle.std.proofs.Common.{◌≡◌, ℕ, ◌+◌, ◌<◌, inl, inr, List, [], ◌∷◌, ◌++◌, length, replicate, get_or, Option, Some, Result, Ok, Err, Vec, IsPermutation, refl, sym, ◌∙◌, ap, subst, arith}
use Rattle.std.specs.Prelude.{IfSome, IfOk, IfErr, IsTrue}
use Rattle.std.proofs.lemmas.List.Sorted.{Contains-permutation, IsPermutation-sym}
use Rattle.std.specs.List.{Contains}
use Rattle.spec_machine.specs.declared.event.Event.{Event}
use Rattle.spec_machine.specs.declared.event.Event.TheVariants.{Act, Cpu}
use Rattle.spec_machine.specs.Events.{steps_of}
use Rattle.spec_machine.specs.Machine.{step, run}
use Rattle.spec_machine.specs.Project.{Project}
use Rattle.spec_machine.specs.ValidProject.{IsValidProject}
use Rattle.spec_text.specs.Scripts.{Script, is_script}
use Rattle.spec_lanes.specs.Turns.{paced_step}
use Rattle.spec_lanes.specs.Served.{IsServed}
use Rattle.spec_lanes.specs.Laws.{opening, with_one_more}
use Rattle.spec_lanes.proofs.Acting.{due_actions_serve}
use Rattle.spec_lanes.proofs.Appended.{steps_on}
use Rattle.spec_lanes.proofs.Serving.{opening_is_served}
use Rattle.spec_lanes.proofs.Stepping.{steps_serve}
use Rattle.spec_explore.specs.declared.question.Question.{Question}
use Rattle.spec_explore.specs.Questions.{IsFirstLine, IsNeverBefore}
use Rattle.spec_explore.specs.Layers.{IsOfLayer}
use Rattle.spec_explore.proofs.Layers.{paced_one}
use Rattle.spec_explore.proofs.Partials.{partial_journals_are_served}
use Rattle.spec_explore.proofs.Witnesses.{openings_are_in_time, actions_witness, steps_witness, ticks_witness}
use Rattle.lgx_explore.specs.declared.node.Next.{Next}
use Rattle.lgx_explore.specs.declared.node.Next.TheVariants as next
use Rattle.lgx_explore.specs.declared.halt.Over.{Over}
use Rattle.lgx_explore.specs.declared.halt.Over.TheVariants as over
use Rattle.lgx_explore.specs.Found.{IfOver}
use Rattle.lgx_explore.specs.Shown.{MayBeMade, AnAction, AStep, ATick, IsShown, IsAction}
use Rattle.lgx_explore.specs.Nodes.{Stands, Keeps, AddsOnly, NodeShows, IsActed, IsStepped, IsOpened, KeepsOne, AllKeep, StillKeep, StepKeeps, NextKeep, NodeStepped, ShownAmong}

module _ {Node : Type 0} (stands : Stands Node) (keeps : Keeps Node) (script : Script) (q : Question) where
  -- the pair is a journal of the layer that the node stands for
  abbrev pub IsOne : Project → ℕ → Node → List ℕ × List Event → Type 0
  IsOne p k node x = IsOfLayer p script q k x.0 x.1 × stands node p x.0 x.1

  -- so the node keeps one, if it keeps the pair
  keeps_it : (p : Project) (k : ℕ) (node : Node) (x : List ℕ × List Event) → keeps node script ≡ x → IsOne p k node x → KeepsOne stands keeps p script q k node
  keeps_it p k node x same one =
      let here : IsOne p k node (keeps node script) = subst (λ y. IsOne p k node y) (sym same) one in
      record { layer = here.0; stands_for = here.1 }

  module _ (p : Project) (valid : IsValidProject p) (proper : IsTrue (is_script script)) where
    pub acted_keeps : (k : ℕ) (before node : Node) (lane : ℕ) → IsActed stands keeps script q node before lane → KeepsOne stands keeps p script q k before → KeepsOne stands keeps p script q k node
    acted_keeps k before node lane acted one =
        let counts : List ℕ = (keeps before script).0 in
        let journal : List Event = (keeps before script).1 in
        let h = acted p k counts journal one.layer one.stands_for in
        let m = h.made in
        let served = partial_journals_are_served p script counts journal valid proper one.layer.partial in
        let same : steps_of (journal ++ Act lane h.action ∷ []) ≡ steps_of journal = steps_on journal (Act lane h.action ∷ []) ∙ (let e : steps_of journal + 0 ≡ steps_of journal = omega arith in e) in
        keeps_it p k node (with_one_more counts lane, journal ++ Act lane h.action ∷ []) (m.kept refl)
        (record { partial = (due_actions_serve p script counts journal lane h.action served h.due).served.partial; window = m.window; steps = same ∙ one.layer.steps }, m.stands_for)

    pub stepped_keeps : (k : ℕ) (before node : Node) → IsStepped stands keeps script q node before → KeepsOne stands keeps p script q k before → KeepsOne stands keeps p script q (k + 1) node
    stepped_keeps k before node stepped one =
        let counts : List ℕ = (keeps before script).0 in
        let journal : List Event = (keeps before script).1 in
        let h = stepped p k counts journal one.layer one.stands_for in
        let m = h.made in
        let made : List Event = paced_step script.pace (steps_of journal + 1) in
        let served = partial_journals_are_served p script counts journal valid proper one.layer.partial in
        let more : steps_of (journal ++ made) ≡ steps_of journal + 1 = steps_on journal made ∙ ap (λ n. steps_of journal + n) (paced_one script.pace (steps_of journal + 1)) in
        keeps_it p (k + 1) node (counts, journal ++ made) (m.kept refl)
        (record { partial = (steps_serve p script counts journal served h.unspent).partial; window = m.window; steps = more ∙ ap (λ n. n + 1) one.layer.steps }, m.stands_for)

    pub opened_keeps : (node : Node) → IsOpened stands keeps script q p node → KeepsOne stands keeps p script q 0 node
    opened_keeps node opened =
        keeps_it p 0 node (replicate (length script.lanes) 0, opening) opened.kept
        (record { partial = (opening_is_served p script valid proper).partial; window = openings_are_in_time script q.within; steps = refl }, opened.stands_for)

    -- ---- lists of nodes

    pub keeps_at : (k : ℕ) (nodes : List Node) (i : ℕ) (node : Node) → i < length nodes → get_or nodes i node ≡ node → AllKeep stands keeps script q p k nodes → KeepsOne stands keeps p script q k node
    keeps_at k nodes i node lt at all = all node (i, lt, at)

    only_keeps : (k : ℕ) (old new : List Node) (node : Node) → AddsOnly old node new → AllKeep stands keeps script q p k old → KeepsOne stands keeps p script q k node → AllKeep stands keeps script q p k new
    only_keeps k old new node only all one other among =
        elim (only other among) [
          | inl before ↦ all other before
          | inr same ↦ subst (λ n. KeepsOne stands keeps p script q k n) same one
        ]

    -- a lane's due action of the i-th node was added
    pub add_acted : (k : ℕ) (old new : List Node) (i lane : ℕ) (before made : Node) (o : Option Node) → i < length old → get_or old i before ≡ before → IfSome o (λ n. IsActed stands keeps script q n before lane) → o ≡ Some made → AddsOnly old made new → AllKeep stands keeps script q p k old → AllKeep stands keeps script q p k new
    add_acted k old new i lane before made o lt at acted is only all =
        only_keeps k old new made only all (acted_keeps k before made lane (subst (λ (x : Option Node). IfSome x (λ n. IsActed stands keeps script q n before lane)) is acted) (keeps_at k old i before lt at all))

    -- the step of a node was added
    pub add_stepped : (k : ℕ) (old new : List Node) (before made : Node) → IsStepped stands keeps script q made before → AddsOnly old made new → KeepsOne stands keeps p script q k before → AllKeep stands keeps script q p (k + 1) old → AllKeep stands keeps script q p (k + 1) new
    add_stepped k old new before made stepped only one all = only_keeps (k + 1) old new made only all (stepped_keeps k before made stepped one)

    pub none_keeps : (k : ℕ) → AllKeep stands keeps script q p k []
    none_keeps k node among = let within = among.1 in absurd (omega arith)

    -- ---- witnesses

    -- no line held before the event
    abbrev IsFirst : List Event → Next → Type 0
    IsFirst journal (next.Action lane) = IsNeverBefore p script q (steps_of journal)
    IsFirst journal _ = IsNeverBefore p script q (steps_of journal + 1)

    shown_by : (counts : List ℕ) (journal : List Event) (made : Next) (before : List Event) (e : Event) (line : ℕ) → IsServed p script counts journal → IsFirst journal made → MayBeMade p script q journal made before e → IsFirstLine p q (step (run p before) e) line → IsShown p script q journal made line
    shown_by counts journal _ _ _ line served never (AnAction lane action due window) first =
        record { before = journal; event = _; may = AnAction lane action due window; witness = actions_witness p script q counts journal lane action line served due window never first }
    shown_by counts journal _ _ _ line served never (AStep unspent window) first =
        record { before = journal; event = _; may = AStep unspent window; witness = steps_witness p script q counts journal line served unspent window never first }
    shown_by counts journal _ _ _ line served never (ATick unspent two window) first =
        record { before = journal ++ Cpu ∷ []; event = _; may = ATick unspent two window; witness = ticks_witness p script q counts journal line served unspent two window never first }

    never_less : (k n : ℕ) → k < n + 1 → IsNeverBefore p script q n → IsNeverBefore p script q k
    never_less k n le never before e m lt = never before e m (omega arith)

    first_action : (journal : List Event) (made : Next) (k : ℕ) → IsAction made → steps_of journal ≡ k → IsNeverBefore p script q k → IsFirst journal made
    first_action journal (next.Action lane) k is at never = subst (λ n. IsNeverBefore p script q n) (sym at) never
    first_action journal next.Step k is at never = absurd is
    first_action journal next.Tick k is at never = absurd is

    first_any : (journal : List Event) (made : Next) (k : ℕ) → steps_of journal ≡ k → IsNeverBefore p script q (k + 1) → IsFirst journal made
    first_any journal (next.Action lane) k at never = never_less (steps_of journal) (k + 1) (omega arith) never
    first_any journal next.Step k at never = never_less (steps_of journal + 1) (k + 1) (omega arith) never
    first_any journal next.Tick k at never = never_less (steps_of journal + 1) (k + 1) (omega arith) never

    -- an action of the layer before whose end no line holds
    pub action_shown : (k : ℕ) (node : Node) (made : Next) (line : ℕ) → IsNeverBefore p script q k → KeepsOne stands keeps p script q k node → IsAction made → NodeShows stands script q node made line → IsShown p script q (keeps node script).1 made line
    action_shown k node made line never one is shows =
        let counts : List ℕ = (keeps node script).0 in
        let journal : List Event = (keeps node script).1 in
        let s = shows p k counts journal one.layer one.stands_for in
        shown_by counts journal made s.before s.event line (partial_journals_are_served p script counts journal valid proper one.layer.partial)
        (first_action journal made k is one.layer.steps never) s.may s.first

    -- a step of the layer at which no line holds, or its tick
    pub step_shown : (k : ℕ) (node : Node) (made : Next) (line : ℕ) → IsNeverBefore p script q (k + 1) → KeepsOne stands keeps p script q k node → NodeShows stands script q node made line → IsShown p script q (keeps node script).1 made line
    step_shown k node made line never one shows =
        let counts : List ℕ = (keeps node script).0 in
        let journal : List Event = (keeps node script).1 in
        let s = shows p k counts journal one.layer one.stands_for in
        shown_by counts journal made s.before s.event line (partial_journals_are_served p script counts journal valid proper one.layer.partial)
        (first_any journal made k one.layer.steps never) s.may s.first

  -- ---- the clauses of layers

  pub none_added : (nodes : List Node) → StillKeep stands keeps script q nodes nodes
  none_added nodes p k valid proper all = all

  pub both_added : (xs ys zs : List Node) → StillKeep stands keeps script q xs ys → StillKeep stands keeps script q ys zs → StillKeep stands keeps script q xs zs
  both_added xs ys zs a b p k valid proper all = b p k valid proper (a p k valid proper all)

  pub act_added : (old new : List Node) (i lane : ℕ) (before made : Node) (o : Option Node) → i < length old → get_or old i before ≡ before → IfSome o (λ n. IsActed stands keeps script q n before lane) → o ≡ Some made → AddsOnly old made new → StillKeep stands keeps script q old new
  act_added old new i lane before made o lt at acted is only p k valid proper all = add_acted p valid proper k old new i lane before made o lt at acted is only all

  pub step_added : (old new : List Node) (before made : Node) → IsStepped stands keeps script q made before → AddsOnly old made new → StepKeeps stands keeps script q before old new
  step_added old new before made stepped only p k valid proper one all = add_stepped p valid proper k old new before made stepped only one all

  pub step_idle : (nodes : List Node) (before : Node) → StepKeeps stands keeps script q before nodes nodes
  step_idle nodes before p k valid proper one all = all

  pub none_so_far : (nodes next : List Node) → next ≡ [] → NextKeep stands keeps script q nodes next
  none_so_far nodes next none p k valid proper all = subst (λ (ns : List Node). AllKeep stands keeps script q p (k + 1) ns) (sym none) (none_keeps p valid proper (k + 1))

  pub one_more : (nodes old new : List Node) (before : Node) → Contains nodes before → StepKeeps stands keeps script q before old new → NextKeep stands keeps script q nodes old → NextKeep stands keeps script q nodes new
  one_more nodes old new before among added next p k valid proper all = added p k valid proper (all before among) (next p k valid proper all)

  -- ---- the same nodes in another order

  module _ (nodes others : List Node) (same : IsPermutation nodes others) where
    among_others : (node : Node) → Contains nodes node → Contains others node
    among_others node among = Contains-permutation nodes others node same among

    among_these : (node : Node) → Contains others node → Contains nodes node
    among_these node among = Contains-permutation others nodes node (IsPermutation-sym nodes others same) among

    pub others_keep : {A : Type 0} (o : Result (Vec Node A) (Over Node)) → IfOk o (λ next. NextKeep stands keeps script q others next.items) → IfOk o (λ next. NextKeep stands keeps script q nodes next.items)
    others_keep (Err stop) h = tt
    others_keep (Ok next) h = λ p k valid proper all. h p k valid proper (λ node among. all node (among_these node among))

    pub others_stepped : {A : Type 0} (o : Result (Vec Node A) (Over Node)) → IfOk o (λ next. (node : Node) → Contains others node → NodeStepped stands script q next.items node) → IfOk o (λ next. (node : Node) → Contains nodes node → NodeStepped stands script q next.items node)
    others_stepped (Err stop) h = tt
    others_stepped (Ok next) h = λ node among. h node (among_others node among)

    pub others_shown : {A : Type 0} (o : Result (Vec Node A) (Over Node)) → IfErr o (λ stop. IfOver stop (ShownAmong stands keeps script q others)) → IfErr o (λ stop. IfOver stop (ShownAmong stands keeps script q nodes))
    others_shown (Ok next) h = tt
    others_shown (Err over.Limit) h = tt
    others_shown (Err over.Memory) h = tt
    others_shown (Err (over.Shown node made line)) h = record { before = h.before; among = among_these h.before h.among; shown = h.shown }
