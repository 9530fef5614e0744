-- What is answered for all journals of a script.
use Rattle.std.specs.Prelude.{◌≡◌, ℕ, List, slice_index_or, ⊤}
use Rattle.spec_machine.specs.declared.event.Event.{Event}
use Rattle.spec_machine.specs.Project.{Project}
use Rattle.spec_text.specs.Scripts.{Script}
use Rattle.spec_schedule.specs.Partial.{IsPartial}
use Rattle.spec_explore.specs.declared.question.Question.{Question}
use Rattle.spec_explore.specs.Questions.{IsNeverBefore}
use Rattle.lgx_explore.specs.declared.node.Next.{Next}
use Rattle.lgx_explore.specs.declared.node.Stop.{Stop}
use Rattle.lgx_explore.specs.declared.node.Stop.TheVariants as stops
use Rattle.lgx_explore.specs.declared.found.Found.{Found}
use Rattle.lgx_explore.specs.declared.found.Found.TheVariants as found
use Rattle.lgx_explore.specs.declared.halt.Over.{Over}
use Rattle.lgx_explore.specs.declared.halt.Over.TheVariants as over
use Rattle.lgx_explore.specs.Shown.{IsShown}
use Rattle.lgx_explore.specs.Nodes.{Keeps}

-- a partial journal with its counts goes on to a witness by the event
pub record GoesOnTo (p : Project) (script : Script) (q : Question) (counts : List ℕ) (journal : List Event) (made : Next) (line : ℕ) : Type 0 where
  pub partial : IsPartial p script counts journal
  pub shown : IsShown p script q journal made line

-- No line holds at any moment; or what the node keeps goes on to a witness by the event; or at a moment of fewer processor
-- steps no line holds.
abbrev pub Tells : {Node : Type 0} → Keeps Node → Project → Script → Question → Found Node → Type 0
Tells keeps p script q found.Never = (k : ℕ) → IsNeverBefore p script q k
Tells keeps p script q (found.Shown node made line) = GoesOnTo p script q (keeps node script).0 (keeps node script).1 made line
Tells keeps p script q (found.Unknown k) = IsNeverBefore p script q k

-- the node with this number is reported with the event and the line
pub record IsToldAt {Node : Type 0} (nodes : List Node) (at : ℕ) (made : Next) (line : ℕ) (f : Found Node) : Type 0 where
  pub node : Node
  pub here : slice_index_or nodes at node ≡ node
  pub is : f ≡ found.Shown node made line

-- what is answered at a stop at the node with this number, in the layer of `steps` steps
abbrev pub IsToldBy : {Node : Type 0} → List Node → ℕ → ℕ → Stop → Found Node → Type 0
IsToldBy nodes at steps (stops.Shown made line) f = IsToldAt nodes at made line f
IsToldBy nodes at steps stops.Limit f = f ≡ found.Unknown steps
IsToldBy nodes at steps stops.Memory f = ⊥

-- of a node that is handed back with the event and the line; other reasons say nothing
abbrev pub IfOver : {Node : Type 0} → Over Node → (Node → Next → ℕ → Type 0) → Type 0
IfOver (over.Shown node made line) P = P node made line
IfOver _ P = ⊤

-- what is answered where the layer of `steps` steps isn't made
abbrev pub IsToldOf : {Node : Type 0} → ℕ → Over Node → Found Node → Type 0
IsToldOf steps (over.Shown node made line) f = f ≡ found.Shown node made line
IsToldOf steps over.Limit f = f ≡ found.Unknown steps
IsToldOf steps over.Memory f = ⊥
