-- A run that was just made.
use Rattle.std.proofs.Common.{◌≡◌, ℕ, List, [], map, sym, ap, ◌∙◌}
use Rattle.std.proofs.lemmas.Simd.{map-map}
use Rattle.lgx_image.specs.Grains.{NoneIsHit}
use Rattle.spec_machine.specs.Project.{Project, ProgramText as MachineProgram, Watch as MachineWatch}
use Rattle.spec_machine.specs.declared.event.Event.{Event}
use Rattle.spec_machine.specs.State.{State, start}
use Rattle.spec_machine.specs.Machine.{run}
use Rattle.spec_text.specs.ReportText.{Names, names_of as project_names}
use Rattle.lgx_edit.specs.declared.plant.PlantParts.TheInside.{Inside}
use Rattle.lgx_edit.specs.Texts.{program_of}
use Rattle.lgx_edit.specs.Plants.{project_of, watch_of}
use Rattle.lgx_core.specs.ControllerView.{ControllerView}
use Rattle.lgx_core.specs.Represents.{RepresentsController, StandsFor}
use Rattle.lgx_record.specs.RunView.{RunView}
use Rattle.lgx_record.specs.Changes.{numbers_at, AreWatched}
use Rattle.lgx_record.specs.IsRunOf.{IsRunOf}

-- the names of a project's parts are those of the project
pub same_names : (p : Inside) → (let names : Names = record { tasks = map (λ t. t.name) p.names; programs = map (λ q. q.name) p.texts; watches = map (λ w. w.text) p.watches } in names) ≡ project_names (project_of p)
same_names p =
    ap (λ (programs : List (List ℕ)). let names : Names = record { tasks = map (λ t. t.name) p.names; programs = programs; watches = map (λ w. w.text) p.watches } in names)
    (sym (map-map (λ (q : MachineProgram). q.name) program_of p.texts))
    ∙ ap (λ (watches : List (List ℕ)). let names : Names = record { tasks = map (λ t. t.name) p.names; programs = map (λ q. q.name) (map program_of p.texts); watches = watches } in names)
    (sym (map-map (λ (w : MachineWatch). w.text) watch_of p.watches))

pub made_names : (p : Inside) (project : Project) (tasks programs watches : List (List ℕ)) → tasks ≡ map (λ t. t.name) p.names → programs ≡ map (λ q. q.name) p.texts → watches ≡ map (λ w. w.text) p.watches → project_of p ≡ project → (let names : Names = record { tasks = tasks; programs = programs; watches = watches } in names) ≡ project_names project
made_names p project tasks programs watches a b d is =
    ap (λ (ts : List (List ℕ)). let names : Names = record { tasks = ts; programs = programs; watches = watches } in names) a
    ∙ ap (λ (qs : List (List ℕ)). let names : Names = record { tasks = map (λ t. t.name) p.names; programs = qs; watches = watches } in names) b
    ∙ ap (λ (ws : List (List ℕ)). let names : Names = record { tasks = map (λ t. t.name) p.names; programs = map (λ q. q.name) p.texts; watches = ws } in names) d
    ∙ same_names p
    ∙ ap project_names is

-- so are its watched places
pub same_places : (p : Inside) → map (λ w. w.place) p.watches ≡ map (λ w. w.place) (project_of p).watches
same_places p = sym (map-map (λ (w : MachineWatch). w.place) watch_of p.watches)

-- a controller without its hits
pub still-stands : (project : Project) (events : List Event) (old new : ControllerView) → StandsFor project events old → ((s : State) → RepresentsController old s → RepresentsController new s) → new.spent ≡ old.spent → StandsFor project events new
still-stands project events old new h represents spent = record {
  valid = h.valid;
  counted = spent ∙ h.counted;
  represents = represents (run project events) h.represents;
}

-- without an event
pub just-made : (v : RunView) (project : Project) → StandsFor project [] v.controller → v.names ≡ project_names project → v.steps ≡ 0 → v.places ≡ map (λ w. w.place) project.watches → v.values ≡ numbers_at (start project).image v.places → AreWatched v.places v.controller.parts.image.watched → NoneIsHit v.controller.parts.image → IsRunOf v project []
just-made v project stands names steps places values watched none = record {
  controller = stands;
  names = names;
  steps = steps;
  places = places;
  values = values;
  watched = watched;
  none_hit = none;
}
