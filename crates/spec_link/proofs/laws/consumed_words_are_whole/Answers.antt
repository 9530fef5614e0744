-- The theorem of the consumed tag, and that there is one.
use Rattle.spec_link.proofs.Scripts.{scripts_keep_whole}
use Rattle.spec_link.proofs.Tags.{connections_have_tags}
use Rattle.spec_link.proofs.Theorem.{consumes_whole}
use Rattle.spec_link.proofs.laws.consumed_words_are_whole.Goals as goal

pub returns-clause-whole : goal.returns-clause-whole
returns-clause-whole c = consumes_whole

pub returns-clause-scripts : goal.returns-clause-scripts
returns-clause-scripts c = scripts_keep_whole

pub returns-clause-tags : goal.returns-clause-tags
returns-clause-tags c = connections_have_tags
