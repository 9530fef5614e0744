use Rattle.std.proofs.Common.{◌∙◌, ap, true, false, Some}
use Rattle.std.proofs.lemmas.Option.{slice_get-get_or}
use Rattle.lgx_types.proofs.Seen.{search_set, keeps_set, less_set, get_set_same}
use Rattle.lgx_types.proofs.cycle.see_structure.Goals as goal

pub returns-then-seen-x-clause-own : goal.returns-then-seen-x-clause-own
returns-then-seen-x-clause-own c = slice_get-get_or c.args.seen.now c.args.x false c.requires ∙ ap Some c.if-seen-x.true

pub returns-clause-search : goal.returns-clause-search
returns-clause-search c = λ types i j s r. rw c.in_ok-push.ensures.items (search_set types i j c.args.seen.now c.args.waiting.now.items c.args.x c.requires s r)

pub returns-clause-own : goal.returns-clause-own
returns-clause-own c = get_set_same c.args.seen.now c.args.x true c.requires

pub returns-clause-kept : goal.returns-clause-kept
returns-clause-kept c = keeps_set c.args.seen.now c.args.x c.requires

pub returns-clause-less : goal.returns-clause-less
returns-clause-less c = rw c.in_ok-push.ensures.items (less_set c.args.seen.now c.args.waiting.now.items c.args.x c.requires c.if-seen-x.false)
