-- Both begin a partial journal whose parts compute.
use Rattle.std.proofs.Common.{[], ◌∷◌, refl}
use Rattle.spec_machine.specs.declared.event.Event.TheVariants.{Tick}
use Rattle.test_cases.proofs.question_cases.windows_and_moments.Goals as goal

pub returns-clause-between : goal.returns-clause-between
returns-clause-between c = record {
  after = Tick ∷ [];
  counts = [];
  partial = record { opening = refl; rest = refl; lanes = tt; answers = refl; ticks = refl; steps = refl };
  window = λ before after lane e. refl;
}

pub returns-clause-tick : goal.returns-clause-tick
returns-clause-tick c = record {
  after = [];
  counts = [];
  partial = record { opening = refl; rest = refl; lanes = tt; answers = refl; ticks = refl; steps = refl };
  window = λ before after lane e. refl;
}
