-- What nodes stand for, and what was made of them.
use Rattle.std.specs.Prelude.{◌≡◌, ◌⊎◌, ℕ, ◌+◌, ◌<◌, List, [], ◌∷◌, ◌++◌, length, replicate, slice_index_or, Some, false, IsTrue}
use Rattle.std.specs.List.{Contains}
use Rattle.spec_machine.specs.declared.event.Action.{Action}
use Rattle.spec_machine.specs.declared.event.Event.{Event}
use Rattle.spec_machine.specs.declared.event.Event.TheVariants.{Act}
use Rattle.spec_machine.specs.Events.{steps_of}
use Rattle.spec_machine.specs.Machine.{run}
use Rattle.spec_machine.specs.Project.{Project}
use Rattle.spec_machine.specs.ValidProject.{IsValidProject}
use Rattle.spec_text.specs.Scripts.{Script, is_script}
use Rattle.spec_lanes.specs.Turns.{due_action, is_spent, paced_step}
use Rattle.spec_lanes.specs.Laws.{opening, with_one_more}
use Rattle.spec_explore.specs.declared.question.Question.{Question}
use Rattle.spec_explore.specs.Questions.{InWindow}
use Rattle.spec_explore.specs.Layers.{AreClear, IsOfLayer, Goes}
use Rattle.lgx_explore.specs.declared.node.Next.{Next}
use Rattle.lgx_explore.specs.Shown.{Shows}

-- which journals of which projects a node stands for, with which counts of the lanes' actions
abbrev pub Stands : Type 0 → Type 1
Stands Node = Node → Project → List ℕ → List Event → Type 0

-- the counts and the journal of a script that a node keeps, one pair of all that it stands for
abbrev pub Keeps : Type 0 → Type 0
Keeps Node = Node → Script → List ℕ × List Event

-- ---- nodes

-- the new nodes are the old ones, and perhaps this one
abbrev pub AddsOnly : {Node : Type 0} → List Node → Node → List Node → Type 0
AddsOnly old node new = (other : _) → Contains new other → Contains old other ⊎ (node ≡ other)

module _ {Node : Type 0} (stands : Stands Node) where
  -- it stands for all that the other stands for
  abbrev pub StandsAlso : Node → Node → Type 0
  StandsAlso node other = (p : Project) (counts : List ℕ) (journal : List Event) → stands other p counts journal → stands node p counts journal

  -- one of the nodes does
  pub record HasSame (nodes : List Node) (other : Node) : Type 0 where
    pub node : Node
    pub among : Contains nodes node
    pub also : StandsAlso node other

  -- for each journal of a layer that the node stands for
  abbrev pub ForEach : Script → Question → Node → (Project → List ℕ → List Event → Type 0) → Type 0
  ForEach script q node P =
      (p : Project) (k : ℕ) (counts : List ℕ) (journal : List Event) → IsOfLayer p script q k counts journal → stands node p counts journal → P p counts journal

  -- after the event a line holds
  abbrev pub NodeShows : Script → Question → Node → Next → ℕ → Type 0
  NodeShows script q node made line = ForEach script q node (λ p counts journal. Shows p script q journal made line)

  -- no action of the lane is due, or it would leave the window
  abbrev pub NoneIsDue : Script → Question → Node → ℕ → Type 0
  NoneIsDue script q node lane =
      ForEach script q node (λ p counts journal. (action : Action) → due_action p script journal lane ≡ Some action → InWindow q.within script (journal ++ Act lane action ∷ []) → ⊥)

  -- its steps are spent, or the step's tick would leave the window
  abbrev pub NoneIsStepped : Script → Question → Node → Type 0
  NoneIsStepped script q node =
      ForEach script q node (λ p counts journal. is_spent p script journal ≡ false → InWindow q.within script (journal ++ paced_step script.pace (steps_of journal + 1)) → ⊥)

  -- ---- what closed layers have

  -- nodes were added after the others
  pub record AddsTo (old new : List Node) : Type 0 where
    pub more : List Node
    pub is : new ≡ old ++ more

  -- the lane's due action was made of the node, if there is one, and so it is among these
  abbrev pub LaneActed : Script → Question → List Node → Node → ℕ → Type 0
  LaneActed script q nodes node lane =
      ForEach script q node (λ p counts journal. (action : Action) → due_action p script journal lane ≡ Some action → InWindow q.within script (journal ++ Act lane action ∷ []) → Goes p script q (λ n. stands n p) nodes (with_one_more counts lane) journal (Act lane action ∷ []))

  -- that of every lane
  abbrev pub NodeActed : Script → Question → List Node → Node → Type 0
  NodeActed script q nodes node = (lane : ℕ) → LaneActed script q nodes node lane

  -- the step was made of the node, if there is one, and so it is among these
  abbrev pub NodeStepped : Script → Question → List Node → Node → Type 0
  NodeStepped script q nodes node =
      ForEach script q node (λ p counts journal. is_spent p script journal ≡ false → InWindow q.within script (journal ++ paced_step script.pace (steps_of journal + 1)) → Goes p script q (λ n. stands n p) nodes counts journal (paced_step script.pace (steps_of journal + 1)))

  -- the node with this number shows a line after the event
  pub record ShowsAt (script : Script) (q : Question) (nodes : List Node) (at : ℕ) (made : Next) (line : ℕ) : Type 0 where
    pub within : at < length nodes
    pub shows : (node : Node) → slice_index_or nodes at node ≡ node → NodeShows script q node made line

  -- ---- a node and what it keeps

  module _ (keeps : Keeps Node) where
    -- These events were made and no line held after one of them; the node stands for what they lead to. It keeps that, if
    -- the node before kept the journal.
    pub record HasMade (p : Project) (script : Script) (q : Question) (node before : Node) (counts now : List ℕ) (journal made : List Event) : Type 0 where
      pub window : InWindow q.within script (journal ++ made)
      pub clear : AreClear p q (run p journal) made
      pub stands_for : stands node p now (journal ++ made)
      pub kept : keeps before script ≡ (counts, journal) → keeps node script ≡ (now, journal ++ made)

    -- the lane has a due action, and it was made
    pub record HasActed (p : Project) (script : Script) (q : Question) (node before : Node) (lane : ℕ) (counts : List ℕ) (journal : List Event) : Type 0 where
      pub action : Action
      pub due : due_action p script journal lane ≡ Some action
      pub made : HasMade p script q node before counts (with_one_more counts lane) journal (Act lane action ∷ [])

    -- the node is the other after the lane's due action
    abbrev pub IsActed : Script → Question → Node → Node → ℕ → Type 0
    IsActed script q node before lane = ForEach script q before (λ p counts journal. HasActed p script q node before lane counts journal)

    -- steps aren't spent, and one was made with its tick
    pub record HasStepped (p : Project) (script : Script) (q : Question) (node before : Node) (counts : List ℕ) (journal : List Event) : Type 0 where
      pub unspent : is_spent p script journal ≡ false
      pub made : HasMade p script q node before counts counts journal (paced_step script.pace (steps_of journal + 1))

    -- the node is the other after a processor step with its tick
    abbrev pub IsStepped : Script → Question → Node → Node → Type 0
    IsStepped script q node before = ForEach script q before (λ p counts journal. HasStepped p script q node before counts journal)

    -- the opening was made of the project, and no line held; the node keeps it
    pub record IsOpened (script : Script) (q : Question) (p : Project) (node : Node) : Type 0 where
      pub clear : AreClear p q (run p []) opening
      pub stands_for : stands node p (replicate (length script.lanes) 0) opening
      pub kept : keeps node script ≡ (replicate (length script.lanes) 0, opening)

    -- the node keeps what one before kept, which shows a line after the event
    pub record ShownOf (script : Script) (q : Question) (before node : Node) (made : Next) (line : ℕ) : Type 0 where
      pub shows : NodeShows script q before made line
      pub kept : keeps node ≡ keeps before

    -- that of one of these
    pub record ShownAmong (script : Script) (q : Question) (nodes : List Node) (node : Node) (made : Next) (line : ℕ) : Type 0 where
      pub before : Node
      pub among : Contains nodes before
      pub shown : ShownOf script q before node made line

    -- what it keeps is a journal of the layer that it stands for
    pub record KeepsOne (p : Project) (script : Script) (q : Question) (k : ℕ) (node : Node) : Type 0 where
      pub layer : IsOfLayer p script q k (keeps node script).0 (keeps node script).1
      pub stands_for : stands node p (keeps node script).0 (keeps node script).1

    -- each of the nodes keeps one
    abbrev pub AllKeep : Script → Question → Project → ℕ → List Node → Type 0
    AllKeep script q p k nodes = (node : Node) → Contains nodes node → KeepsOne p script q k node

    -- if each of the old nodes keeps one, each of the new ones does
    abbrev pub StillKeep : Script → Question → List Node → List Node → Type 0
    StillKeep script q old new =
        (p : Project) (k : ℕ) → IsValidProject p → IsTrue (is_script script) → AllKeep script q p k old → AllKeep script q p k new

    -- if the node keeps one, and each of the old nodes one of the next layer, each of the new ones does
    abbrev pub StepKeeps : Script → Question → Node → List Node → List Node → Type 0
    StepKeeps script q node old new =
        (p : Project) (k : ℕ) → IsValidProject p → IsTrue (is_script script) → KeepsOne p script q k node → AllKeep script q p (k + 1) old → AllKeep script q p (k + 1) new

    -- if each of the nodes keeps one, each of the next keeps one of the next layer
    abbrev pub NextKeep : Script → Question → List Node → List Node → Type 0
    NextKeep script q nodes next =
        (p : Project) (k : ℕ) → IsValidProject p → IsTrue (is_script script) → AllKeep script q p k nodes → AllKeep script q p (k + 1) next
