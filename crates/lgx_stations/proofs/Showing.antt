-- What a run shows of its events.
use Rattle.std.proofs.Common.{◌≡◌, ◌≤◌, ℕ, List, length, map, ap, ◌∙◌, arith}
use Rattle.std.specs.Prelude.{ℤ}
use Rattle.std.proofs.lemmas.Simd.{map-map}
use Rattle.std.proofs.lemmas.List.{length-map}
use Rattle.lgx_num.specs.Image.{number}
use Rattle.lgx_num.specs.declared.place.Place.{Place}
use Rattle.spec_machine.specs.declared.event.Event.{Event}
use Rattle.spec_machine.specs.Machine.{run}
use Rattle.spec_machine.specs.Project.{Project, Watch}
use Rattle.lgx_record.specs.RunView.{RunView}
use Rattle.lgx_record.specs.IsRunOf.{IsRunOf, IsRun}
use Rattle.lgx_record.proofs.FewLines.{few_watches}
use Rattle.spec_board.specs.declared.snapshot.TheConstants.{MAX_VALUES}
use Rattle.spec_board.specs.declared.snapshot.Snapshot.{Snapshot}
use Rattle.spec_story.specs.Snapshots.{snapshot}

-- a snapshot has room for the values
pub few_values : (v : RunView) → IsRun v → length v.values ≤ MAX_VALUES
few_values v i =
    let image = (run i.project i.events).image in
    let values = ap length i.run.values in
    let many = length-map v.places (number image) in
    let places = ap length i.run.places in
    let watches = length-map i.project.watches (λ (w : Watch). w.place) in
    let few = few_watches i.project i.run.controller.valid in
    omega arith

-- the tick and the values are the run's snapshot
pub shows_snapshot : (v : RunView) (p : Project) (events : List Event) (tick : ℕ) (values : List ℤ) → IsRunOf v p events → tick ≡ (run p events).tick → values ≡ v.values
    → (let x : Snapshot = record { tick = tick; values = values } in x) ≡ snapshot p (run p events)
shows_snapshot v p events tick values h ticks shown =
    let image = (run p events).image in
    let told : ℕ → List ℤ → Snapshot = λ t vs. record { tick = t; values = vs } in
    let are : values ≡ map (λ (w : Watch). number image w.place) p.watches =
    shown ∙ (h.values ∙ (ap (λ (places : List Place). map (number image) places) h.places ∙ map-map (number image) (λ (w : Watch). w.place) p.watches)) in
    ap (λ t. told t values) ticks ∙ ap (λ vs. told (run p events).tick vs) are
