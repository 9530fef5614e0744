-- The recorder is the run that the lanes took turns at, and whether it has run is told.
use Rattle.lgx_shared.proofs.shared.Shared.close.Goals as goal

pub returns-clause-sees : goal.returns-clause-sees
returns-clause-sees g c = rw c.into_recorder.ensures.is c.close-named.ensures.sees

pub returns-clause-actions : goal.returns-clause-actions
returns-clause-actions g c = rw c.into_recorder.ensures.is c.close-named.ensures.actions

pub returns-clause-steps : goal.returns-clause-steps
returns-clause-steps g c = rw c.into_recorder.ensures.is c.close-named.ensures.steps

pub returns-clause-spent : goal.returns-clause-spent
returns-clause-spent g c = rw c.into_recorder.ensures.is c.close-named.ensures.spent

pub returns-clause-complete : goal.returns-clause-complete
returns-clause-complete g c = rw c.into_recorder.ensures.is c.close-named.ensures.complete

pub returns-clause-ran : goal.returns-clause-ran
returns-clause-ran g c = rw c.into_recorder.ensures.is c.close-named.ensures.ran
