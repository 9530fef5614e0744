-- Which tasks rungs name: what an EVENT triggers is one of a given number of tasks.
use Rattle.std.specs.Prelude.{ℕ, ◌<◌}
use Rattle.std.specs.List.{AllByRecursion as Each}
use Rattle.lgx_num.specs.declared.place.Operand.{Operand}
use Rattle.lgx_num.specs.declared.place.Operand.TheVariants as operand
use Rattle.lgx_rung.specs.declared.ins.Ins.{Ins}
use Rattle.lgx_rung.specs.Tree.{instructions}
use Rattle.spec_scan.specs.declared.bound.Effect.{Effect}
use Rattle.spec_scan.specs.declared.bound.Effect.TheVariants.{Trigger}
use Rattle.spec_scan.specs.Position.{ProgramRungs, Rungs}

-- an operand that names a task names one of `count` tasks
abbrev pub KnowsTask : ℕ → Operand → Type 0
KnowsTask count (operand.Task t) = t < count
KnowsTask count _ = Unit {0}

-- so does each operand of an instruction
abbrev pub NamesKnownTasks : ℕ → Ins → Type 0
NamesKnownTasks count i = Each (KnowsTask count) i.args

-- each instruction of these rungs
abbrev pub KnowsTasks : ℕ → Rungs → Type 0
KnowsTasks count rungs = Each (λ r. Each (NamesKnownTasks count) (instructions r)) rungs

-- and each of the program's routines
abbrev pub ProgramKnowsTasks : ℕ → ProgramRungs → Type 0
ProgramKnowsTasks count program = Each (KnowsTasks count) program.routines

-- what a step triggers is one of `count` tasks
abbrev pub TriggersKnownTask : ℕ → Effect → Type 0
TriggersKnownTask count (Trigger t) = t < count
TriggersKnownTask count _ = Unit {0}
