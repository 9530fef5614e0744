-- What differs is computed.
use Rattle.std.proofs.Common.{refl}
use Rattle.test_cases.proofs.duty_stages.duties_of_stages_are_broken.Goals as goal

pub returns-clause-ignores_trigger : goal.returns-clause-ignores_trigger
returns-clause-ignores_trigger c = (refl, λ h. cc (h.released), record { mode = refl; down = refl }, tt)

pub returns-clause-only_tells : goal.returns-clause-only_tells
returns-clause-only_tells c = (refl, λ h. cc (h.up), record { mode = refl; down = refl }, tt)

pub returns-clause-hides_overlap : goal.returns-clause-hides_overlap
returns-clause-hides_overlap c = (refl, λ h. cc (h.fault), record { mode = refl; down = refl }, tt)

pub returns-clause-releases_inhibited : goal.returns-clause-releases_inhibited
returns-clause-releases_inhibited c = (refl, λ h. cc (h.released), record { mode = refl; down = refl }, tt)

pub returns-clause-runs_without_release : goal.returns-clause-runs_without_release
returns-clause-runs_without_release c = (refl, λ h. cc (h.released), record { mode = refl; down = refl }, record { image = refl; progress = refl; firsts = refl; books = refl; forces = refl })

pub returns-clause-runs_without_prescan : goal.returns-clause-runs_without_prescan
returns-clause-runs_without_prescan c = (refl, record { released = refl; fault = refl; up = refl }, record { mode = refl; down = refl }, λ h. cc (h.image))

pub returns-clause-goes_on : goal.returns-clause-goes_on
returns-clause-goes_on c = (tt, tt, λ h. cc (h.mode), tt)

pub returns-clause-stays_up : goal.returns-clause-stays_up
returns-clause-stays_up c = (tt, tt, λ h. cc (h.down), tt)

pub returns-clause-clears : goal.returns-clause-clears
returns-clause-clears c = (λ h. cc h, record { released = refl; fault = refl; up = refl }, record { mode = refl; down = refl }, tt)

pub returns-clause-takes_any_word : goal.returns-clause-takes_any_word
returns-clause-takes_any_word c = (λ h. cc h, record { released = refl; fault = refl; up = refl }, record { mode = refl; down = refl }, tt)

pub returns-clause-tests_nothing : goal.returns-clause-tests_nothing
returns-clause-tests_nothing c = (λ h. cc h, record { released = refl; fault = refl; up = refl }, record { mode = refl; down = refl }, tt)

pub returns-clause-takes_any_client : goal.returns-clause-takes_any_client
returns-clause-takes_any_client c = (λ h. cc h, record { released = refl; fault = refl; up = refl }, record { mode = refl; down = refl }, tt)
