-- The controller represents what it did.
use Rattle.std.proofs.Common.{refl}
use Rattle.lgx_walker.proofs.Seeing.{still_watches}
use Rattle.lgx_walker.proofs.valued.ValuedController.forget_marks.Goals as goal

pub returns : goal.returns
returns c = λ p journal w. still_watches p journal c.args.self.now _ refl c.clear_marks.ensures.represents c.clear_marks.ensures.spent w
