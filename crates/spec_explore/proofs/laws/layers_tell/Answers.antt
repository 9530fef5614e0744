-- By induction on journals of a layer.
use Rattle.spec_explore.proofs.Layers.{layers_begin_by_states, layers_go_on_by_states, layers_end_by_states, layers_are_few_by_states}
use Rattle.spec_explore.proofs.laws.layers_tell.Goals as goal

pub returns-clause-begin : goal.returns-clause-begin
returns-clause-begin c = layers_begin_by_states

pub returns-clause-go_on : goal.returns-clause-go_on
returns-clause-go_on c = layers_go_on_by_states

pub returns-clause-end : goal.returns-clause-end
returns-clause-end c = layers_end_by_states

pub returns-clause-few : goal.returns-clause-few
returns-clause-few c = layers_are_few_by_states
