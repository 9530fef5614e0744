use Rattle.lgx_history.proofs.Beginnings.{begins}
use Rattle.lgx_history.proofs.history.History.open.Goals as goal

pub of_words-requires : goal.of_words-requires
of_words-requires c = begins
