-- No word has a force.
use Rattle.std.proofs.Common.{refl}
use Rattle.spec_tables.proofs.StateLists.{none_alone}
use Rattle.lgx_force.proofs.Words.{new_seen}
use Rattle.lgx_force.proofs.table.ForceTable.new.Goals as goal

pub returns-clause-exact : goal.returns-clause-exact
returns-clause-exact c = new_seen c.in_ok-words.words.items c.args.words c.args.words (c.in_ok-words.ensures.items_if_clones_equal (none_alone _ (λ x h. h))) refl
