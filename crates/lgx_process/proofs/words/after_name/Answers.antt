use Rattle.std.proofs.Common.{refl}
use Rattle.std.specs.Vec.Iter.{into_iter_items}
use Rattle.std.proofs.lemmas.Iterator.{items_from_collect}
use Rattle.std.proofs.lemmas.Iterator.Consumers.{YieldsList-at}
use Rattle.std.proofs.lemmas.Iterator.Adapters.{YieldsList-from_vec, YieldsList-from_skip}
use Rattle.std.specs.Prelude.{Ok, ⊤}
use Rattle.lgx_process.proofs.words.after_name.Goals as goal

pub returns : goal.returns
returns c =
    let given = YieldsList-from_vec (into_iter_items c.args.arguments) refl c.args.arguments.rest.ok.0 in
    items_from_collect {E = ⊤} (Ok c.in_ok-words.words) c.in_ok-words.ensures.ran (YieldsList-from_skip 1 (YieldsList-at c.skip.ensures.source given) c.skip.ensures.count)
