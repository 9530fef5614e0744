-- How recordings and runs are told apart: each is stored as its fields.
use Rattle.std.specs.Prelude.{ℕ, List, ℤ, refl}
use Rattle.std.specs.Coded.{Coded, code_by, coded×}
use Rattle.lgx_num.specs.declared.place.Place.{Place}
use Rattle.spec_text.specs.ReportText.{Names}
use Rattle.lgx_journal.specs.Journals.{JournalView}
use Rattle.lgx_watch.specs.Kept.{KeptLines}
use Rattle.lgx_core.specs.ControllerView.{ControllerView}
use Rattle.lgx_record.specs.RunView.{RunView}
use Rattle.lgx_record.specs.RecordingView.{RecordingView}

-- the parts but for the controller
abbrev pub Rest : Type 0
Rest = ((JournalView × KeptLines) × (Names × ℕ)) × (List Place × List ℤ)

abbrev pub recording_code : Coded ControllerView → Coded Rest → Coded RecordingView
recording_code controller rest =
    code_by (ControllerView × Rest) (coded× controller rest)
    (λ r. (r.controller, (((r.journal, r.log), (r.names, r.steps)), (r.places, r.values))))
    (λ p. record {
      controller = p.0;
      journal = p.1.0.0.0;
      log = p.1.0.0.1;
      names = p.1.0.1.0;
      steps = p.1.0.1.1;
      places = p.1.1.0;
      values = p.1.1.1;
    })
    (λ _. refl)

-- a run's parts but for the controller
abbrev pub RunRest : Type 0
RunRest = (Names × ℕ) × (List Place × List ℤ)

abbrev pub run_code : Coded ControllerView → Coded RunRest → Coded RunView
run_code controller rest =
    code_by (ControllerView × RunRest) (coded× controller rest)
    (λ f. (f.controller, ((f.names, f.steps), (f.places, f.values))))
    (λ p. record {
      controller = p.0;
      names = p.1.0.0;
      steps = p.1.0.1;
      places = p.1.1.0;
      values = p.1.1.1;
    })
    (λ _. refl)
