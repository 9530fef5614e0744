use Rattle.lgx_declare.proofs.Listings.{lists_fault}
use Rattle.lgx_declare.proofs.tasks.refuse_lists.Goals as goal

pub returns : goal.returns
returns c = rw (← lists_fault c.args.file.now c.args.programs.now c.requires.index, ← c.as_slice-tasks.ensures) c.judge_in.ensures
