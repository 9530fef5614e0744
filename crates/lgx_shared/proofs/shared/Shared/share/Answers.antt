-- The recorder is new.
use Rattle.lgx_shared.proofs.shared.Shared.share.Goals as goal

pub share-requires-clause-under_way : goal.share-requires-clause-under_way
share-requires-clause-under_way g c = c.begun-named.ensures.new.follows.served

pub share-requires-clause-opened : goal.share-requires-clause-opened
share-requires-clause-opened g c = c.begun-named.ensures.new.opened
