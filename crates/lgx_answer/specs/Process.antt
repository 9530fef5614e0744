-- All that a process does with its words.
use Rattle.std.specs.Prelude.{ℕ}
use Rattle.lgx_io.specs.Gathered.{GatheredState, held_by}
use Rattle.lgx_answer.specs.declared.status.Status.{Status}
use Rattle.lgx_answer.specs.Endings.{ending_of}
use Rattle.lgx_answer.specs.Plan.{Plan}
use Rattle.lgx_answer.specs.Answered.{Told, Failures, Change}
use Rattle.lgx_answer.specs.Laws.{FollowsPlan}
use Rattle.lgx_answer.specs.Exit.{Exits}

-- One call followed the plan, and then its output was written to the end. The process ends with the number of the call's status, or
-- with that of a write fault if the output couldn't be written.
pub record IsProcess (plan : Plan) (told : Told) (failures : Change Failures) (old new : GatheredState) (ends : ℕ) : Type 0 where
  pub status : Status
  -- the output after the call
  pub after : GatheredState
  pub follows : FollowsPlan plan (record {
    told = told;
    failures = failures;
    held = record { old = held_by old; new = held_by after };
    faults = record { old = old.faults; new = after.faults };
    answer = ending_of status;
  })
  pub exits : Exits status after new ends
