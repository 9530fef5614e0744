-- Commands on forces.
use Rattle.std.proofs.Common.{◌≡◌, ℕ, length, Result, Ok, Err, sym, ap, subst}
use Rattle.spec_tables.specs.declared.force.ForceFault.{ForceFault}
use Rattle.spec_tables.specs.Forces.{Forces}
use Rattle.spec_machine.specs.State.{State}
use Rattle.spec_machine.specs.Actions.{force_replied}
use Rattle.lgx_force.specs.Seen.{AnswersForce}
use Rattle.lgx_steps.specs.PartsView.{PartsView}
use Rattle.lgx_steps.specs.Represents.{RepresentsState}
use Rattle.lgx_steps.specs.Gives.{ViewGives, force_outcome}
use Rattle.lgx_steps.proofs.States.{with-forces}

pub gives-forced : (n : ℕ) (v : PartsView) (s : State) → RepresentsState n v s → (r : Result Forces ForceFault) (new : Forces) (answer : Result (Unit {0}) ForceFault) → AnswersForce r v.forces new answer → length new.words ≡ length v.forces.words → ViewGives n (record v { forces = new }) (force_outcome answer) (force_replied s r)
gives-forced n v s h (Ok after) new answer a same = record { answers = ap force_outcome a.0; represents = with-forces n v s h new after a.1 same }
gives-forced n v s h (Err fault) new answer a same = record { answers = ap force_outcome a.0; represents = subst (λ (f : Forces). RepresentsState n (record v { forces = f }) s) (sym a.1) h }
