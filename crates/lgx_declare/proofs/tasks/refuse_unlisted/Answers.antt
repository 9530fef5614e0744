use Rattle.lgx_declare.proofs.Listings.{first_unlisted}
use Rattle.lgx_declare.proofs.tasks.refuse_unlisted.Goals as goal

pub returns : goal.returns
returns c = rw (← first_unlisted c.args.file.now c.args.list.now c.requires.listed, ← c.as_slice.ensures) c.judge_in.ensures
