-- The names of a project's programs.
use Rattle.std.proofs.Common.{◌≡◌, ℕ, List, map, sym, ap, ◌∙◌}
use Rattle.std.proofs.lemmas.Simd.{map-map}
use Rattle.spec_machine.specs.Project.{Project, ProgramText as MachineProgram}
use Rattle.lgx_edit.specs.declared.plant.PlantParts.TheInside.{Inside}
use Rattle.lgx_edit.specs.Texts.{program_of}
use Rattle.lgx_edit.specs.Plants.{project_of}

pub names_are : (p : Inside) (project : Project) (names : List (List ℕ)) → names ≡ map (λ q. q.name) p.texts → project_of p ≡ project → names ≡ map (λ q. q.name) project.programs
names_are p project names made is =
    made
    ∙ sym (map-map (λ (q : MachineProgram). q.name) program_of p.texts)
    ∙ ap (λ (x : Project). map (λ (q : MachineProgram). q.name) x.programs) is
