-- The command `replay P J` under way.
use Rattle.std.specs.Prelude.{ℕ, List}
use Rattle.lgx_answer.specs.Plan.{Plan}
use Rattle.cmd_replay.specs.declared.replay.Replay.{Replay}
use Rattle.cmd_replay.specs.declared.replay.Replay.TheVariants.{Both, OnProject}
use Rattle.cmd_replay.specs.ReplayPlan.{project_read, journal_read}

-- the file that is read next
abbrev pub replay_file : Replay → List ℕ
replay_file (Both project journal) = project.now
replay_file (OnProject project journal) = journal.now

-- what its bytes lead to
abbrev pub replay_next : Replay → List ℕ → Plan
replay_next (Both project journal) bytes = project_read journal.now bytes
replay_next (OnProject project journal) bytes = journal_read project bytes

-- how many files are read after it
abbrev pub replay_left : Replay → ℕ
replay_left (Both project journal) = 1
replay_left (OnProject project journal) = 0
