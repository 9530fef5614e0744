use Rattle.std.proofs.Common.{◌≡◌, ℕ, ◌<◌, None}
use Rattle.spec_machine.specs.Project.{Project}
use Rattle.spec_text.specs.Scripts.{Script}
use Rattle.spec_lanes.specs.Turns.{next_of}
use Rattle.lgx_shared.specs.ScriptRun.{as_recorder}
use Rattle.lgx_shared.specs.Follows.{journal_of, Follows, GoesOn}
use Rattle.lgx_shared.proofs.script_run.ScriptRun.finish.Given as goal

abbrev pub invariant-loop-lane : goal.invariant-loop-lane
invariant-loop-lane l = ((project : Project) (script : Script) → Follows project script (as_recorder l.fn.self) → Follows project script (as_recorder l.self)) × GoesOn (as_recorder l.fn.self) (as_recorder l.self)
    × ((project : Project) (script : Script) → Follows project script (as_recorder l.fn.self) → (i : ℕ) → i < l.lane → next_of script (journal_of (as_recorder l.self)) i ≡ None)
