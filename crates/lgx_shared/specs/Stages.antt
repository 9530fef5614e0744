-- The recorder that contracts see at each stage.
use Rattle.std.specs.Prelude.{[], false, Some, None}
use Rattle.lgx_shared.specs.declared.recorder.Stage.{Stage}
use Rattle.lgx_shared.specs.declared.recorder.Stage.TheVariants.{Unshared, Closed, Given}
use Rattle.lgx_shared.specs.RecorderView.{RecorderView, view_of}
use Rattle.lgx_shared.specs.ScriptRun.{recorder_with}

abbrev pub recorder_at : Stage → RecorderView
recorder_at (Unshared run history) = recorder_with false (Some history) run
recorder_at (Closed run ran) = recorder_with ran None run
recorder_at (Given recording) = view_of recording None [] false None
