-- Parts that represent a state have a program if they have a task.
use Rattle.lgx_steps.specs.PartsView.{view_of}
use Rattle.lgx_steps.proofs.Programs.{some-program}
use Rattle.lgx_steps.proofs.parts.ControllerParts.again.Goals as goal

pub running_again-requires : goal.running_again-requires
running_again-requires c = λ some. some-program c.requires.events (view_of c.args.self.now) c.requires.state c.requires.represents some
