-- Nodes that stand for journals, and what it takes that they stand for all of a layer: for all partial journals within the
-- window that have a given number of processor steps.
use Rattle.std.specs.Prelude.{◌≡◌, ℕ, ◌+◌, ◌<◌, List, [], ◌∷◌, ◌++◌, length, replicate, false, Some, IsTrue, ⊤}
use Rattle.std.specs.List.{Contains}
use Rattle.spec_machine.specs.declared.event.Action.{Action}
use Rattle.spec_machine.specs.declared.event.Event.{Event}
use Rattle.spec_machine.specs.declared.event.Event.TheVariants.{Act}
use Rattle.spec_machine.specs.Events.{steps_of}
use Rattle.spec_machine.specs.Machine.{step, run}
use Rattle.spec_machine.specs.Project.{Project}
use Rattle.spec_machine.specs.State.{State}
use Rattle.spec_machine.specs.ValidProject.{IsValidProject}
use Rattle.spec_text.specs.Scripts.{Script, is_script}
use Rattle.spec_schedule.specs.Partial.{IsPartial}
use Rattle.spec_lanes.specs.Turns.{due_action, is_spent, paced_step, most_steps}
use Rattle.spec_lanes.specs.Laws.{opening, with_one_more}
use Rattle.spec_explore.specs.declared.question.Question.{Question}
use Rattle.spec_explore.specs.Questions.{holds_some, InWindow, IsNever, IsNeverBefore}

-- after none of these events does a line hold
abbrev pub AreClear : Project → Question → State → List Event → Type 0
AreClear p q s [] = ⊤
AreClear p q s (e ∷ es) = (holds_some p q (step s e) ≡ false) × AreClear p q (step s e).state es

-- what a node stands for: counts and a journal
abbrev pub Standing : Type 0 → Type 1
Standing Node = Node → List ℕ → List Event → Type 0

-- a partial journal within the window that has k processor steps
pub record IsOfLayer (p : Project) (script : Script) (q : Question) (k : ℕ) (counts : List ℕ) (journal : List Event) : Type 0 where
  pub partial : IsPartial p script counts journal
  pub window : InWindow q.within script journal
  pub steps : steps_of journal ≡ k

-- one of the nodes stands for them
pub record Has {Node : Type 0} (Is : Standing Node) (nodes : List Node) (counts : List ℕ) (journal : List Event) : Type 0 where
  pub node : Node
  pub among : Contains nodes node
  pub is : Is node counts journal

module _ (p : Project) (script : Script) (q : Question) {Node : Type 0} (Is : Standing Node) where
  -- for each of them there is a node
  abbrev pub Covers : ℕ → List Node → Type 0
  Covers k nodes = (counts : List ℕ) (journal : List Event) → IsOfLayer p script q k counts journal → Has Is nodes counts journal

  -- these events were made after the journal, and no line held; a node stands for what they lead to
  pub record Goes (nodes : List Node) (counts : List ℕ) (journal made : List Event) : Type 0 where
    pub clear : AreClear p q (run p journal) made
    pub has : Has Is nodes counts (journal ++ made)

  -- the opening was made
  abbrev pub Opens : List Node → Type 0
  Opens nodes = InWindow q.within script opening → Goes nodes (replicate (length script.lanes) 0) [] opening

  -- each node of the layer before whose steps aren't spent was stepped
  abbrev pub Steps : ℕ → List Node → List Node → Type 0
  Steps k nodes next =
      (node : Node) (counts : List ℕ) (journal : List Event) → Contains nodes node → Is node counts journal → IsOfLayer p script q k counts journal → is_spent p script journal ≡ false → InWindow q.within script (journal ++ paced_step script.pace (steps_of journal + 1)) → Goes next counts journal (paced_step script.pace (steps_of journal + 1))

  -- each due action of each node of the layer was made
  abbrev pub Acts : ℕ → List Node → Type 0
  Acts k nodes =
      (node : Node) (counts : List ℕ) (journal : List Event) (lane : ℕ) (action : Action) → Contains nodes node → Is node counts journal → IsOfLayer p script q k counts journal → due_action p script journal lane ≡ Some action → InWindow q.within script (journal ++ Act lane action ∷ []) → Goes nodes (with_one_more counts lane) journal (Act lane action ∷ [])

-- a layer is covered, and no line held up to its end
pub record IsDone (p : Project) (script : Script) (q : Question) {Node : Type 0} (Is : Standing Node) (k : ℕ) (nodes : List Node) : Type 0 where
  pub covers : Covers p script q Is k nodes
  pub clear : IsNeverBefore p script q (k + 1)

-- ---- with states as nodes

-- Counts, and the state that a journal leads to. Journals that lead to the same state with the same counts have one node.
pub record Node : Type 0 where
  pub counts : List ℕ
  pub state : State

abbrev pub LeadsTo : Project → Node → List ℕ → List Event → Type 0
LeadsTo p node counts journal = (node.counts ≡ counts) × (run p journal ≡ node.state)

abbrev pub LayersBegin : Type 0
LayersBegin =
    (p : Project) (script : Script) (q : Question) (nodes : List Node) → IsValidProject p → IsTrue (is_script script) → Opens p script q (LeadsTo p) nodes → Acts p script q (LeadsTo p) 0 nodes → IsDone p script q (LeadsTo p) 0 nodes

abbrev pub LayersGoOn : Type 0
LayersGoOn =
    (p : Project) (script : Script) (q : Question) (k : ℕ) (nodes next : List Node) → IsValidProject p → IsTrue (is_script script) → IsDone p script q (LeadsTo p) k nodes → Steps p script q (LeadsTo p) k nodes next → Acts p script q (LeadsTo p) (k + 1) next → IsDone p script q (LeadsTo p) (k + 1) next

-- at an empty layer all is known
abbrev pub LayersEnd : Type 0
LayersEnd =
    (p : Project) (script : Script) (q : Question) (k : ℕ) → IsValidProject p → IsTrue (is_script script) → IsDone p script q (LeadsTo p) k [] → (n : ℕ) → IsNeverBefore p script q n

-- no partial journal has more steps than `most_steps`, so layers end
abbrev pub LayersAreFew : Type 0
LayersAreFew =
    (p : Project) (script : Script) (q : Question) (k : ℕ) (nodes : List Node) → IsValidProject p → IsTrue (is_script script) → most_steps script < k → IsDone p script q (LeadsTo p) k nodes → IsDone p script q (LeadsTo p) k []

-- and what never holds at a moment never holds in a complete journal
abbrev pub NoMomentIsNever : Type 0
NoMomentIsNever = (p : Project) (script : Script) (q : Question) → ((n : ℕ) → IsNeverBefore p script q n) → IsNever p script q
