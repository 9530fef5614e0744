-- The layer is covered and no line held up to its end; each of its nodes keeps a journal of the layer.
use Rattle.std.proofs.Common.{◌≤◌, length}
use Rattle.spec_machine.specs.Project.{Project}
use Rattle.spec_machine.specs.ValidProject.{IsValidProject}
use Rattle.spec_explore.specs.Layers.{IsDone}
use Rattle.lgx_explore.specs.Nodes.{IsOpened, AllKeep}
use Rattle.lgx_explore.proofs.layers.explore.Given as goal

abbrev pub invariant-loop-steps : goal.invariant-loop-steps
invariant-loop-steps g l =
    (length l.nodes.items ≤ l.most)
    × ((p : Project) → IsValidProject p → IsOpened g.N.Node.stands g.N.Node.keeps l.script l.question p l.fn.opening → IsDone p l.script l.question (λ n. g.N.Node.stands n p) l.steps l.nodes.items × AllKeep g.N.Node.stands g.N.Node.keeps l.script l.question p l.steps l.nodes.items)
