-- A project of which nothing is refused is valid.
use Rattle.std.specs.Prelude.{◌≡◌, ℕ, ◌≤◌, nat_le, length, map, filter_map, None, IsTrue}
use Rattle.std.specs.List.{AllByRecursion as Each}
use Rattle.std.proofs.Common.{sym, arith}
use Rattle.std.proofs.lemmas.Bool.{le-leb}
use Rattle.std.proofs.lemmas.List.{length-map}
use Rattle.spec_base.specs.declared.limits.TheConstants.{MAX_CONNECTIONS, MAX_IMAGE_BYTES, MAX_TASKS}
use Rattle.spec_language.specs.Declarations.{bytes}
use Rattle.spec_language.specs.ResolutionLaws.{Sound}
use Rattle.spec_machine.specs.ValidProject.{HasSealedTags, IsValidProject, is_within}
use Rattle.spec_machine.specs.ValidProject.{IsWithinLimits as IsSmallProject}
use Rattle.spec_machine.specs.declared.limits.TheConstants.{MAX_PROGRAMS, MAX_PROJECT_INSTRUCTIONS, MAX_WATCHES}
use Rattle.spec_project.proofs.Lists.{kept_few}
use Rattle.spec_project.specs.Limits.{IsWithinLimits}
use Rattle.spec_project.specs.Names.{names_fault}
use Rattle.spec_project.specs.Places.{connection_fault, connection_of, connections_fault, place_fault, places_fault, watch_of}
use Rattle.spec_project.specs.Projects.{project_made, refusal}
use Rattle.spec_project.specs.Routines.{instructions_in, program_texts, routines_fault}
use Rattle.spec_project.specs.Schedules.{tasks_fault}
use Rattle.spec_project.specs.Tags.{aliases_fault, declarations, tags_fault, types_fault}
use Rattle.spec_project.specs.declared.described.Described.{Described}
use Rattle.spec_valid.specs.Accepted.{AcceptedIsValid}
use Rattle.spec_base.proofs.Lists.{each_map}
use Rattle.spec_valid.proofs.AliasesAccepted.{sealed_tags}
use Rattle.spec_valid.proofs.ConnectionsAccepted.{IsConnected, connected, connections_of_tags, known_triggers, small_connections}
use Rattle.spec_valid.proofs.EntriesAccepted.{few_entries, small_arrays}
use Rattle.spec_valid.proofs.FoundAccepted.{image_length, valid_watches}
use Rattle.spec_valid.proofs.NamesDiffer.{AreNamed, different_names, named_of}
use Rattle.spec_valid.proofs.Passes.{neither, none_at, not_mapped}
use Rattle.spec_valid.proofs.RoutinesAccepted.{AreProgrammed, checked_rungs, executable_operands, known_targets, programmed_of, small_programs}
use Rattle.spec_valid.proofs.SchedulesAccepted.{AreScheduled, one_continuous, programs_made, proper_tasks, scheduled_of, task_lists, valid_lists, valid_once}
use Rattle.spec_valid.proofs.TagsAccepted.{AreDeclared, declarations_sound, declared_tags, small_image}
use Rattle.spec_valid.proofs.TypesAccepted.{faultless_types, have_members, small_types, within_of}

-- ---- each pass refuses nothing

record RefusesNothing (p : Described) : Type 0 where
  names : names_fault p ≡ None
  types : types_fault p ≡ None
  tags : tags_fault p ≡ None
  aliases : aliases_fault p ≡ None
  tasks : tasks_fault p ≡ None
  connections : connections_fault p ≡ None
  places : places_fault p ≡ None
  routines : routines_fault p ≡ None

passes_of : (p : Described) → refusal p ≡ None → RefusesNothing p
unfolding refusal
passes_of p h =
    let a = neither (names_fault p) _ h in
    let b = neither (types_fault p) _ a.1 in
    let c = neither (tags_fault p) _ b.1 in
    let d = neither (aliases_fault p) _ c.1 in
    let e = neither (tasks_fault p) _ d.1 in
    let f = neither (connections_fault p) _ e.1 in
    let g = neither (places_fault p) (routines_fault p) f.1 in
    record { names = a.0; types = b.0; tags = c.0; aliases = d.0; tasks = e.0; connections = f.0; places = g.0; routines = g.1 }

-- what each of them says
record IsAccepted (p : Described) : Type 0 where
  named : AreNamed p
  sound : Sound (declarations p)
  image : bytes (declarations p) ≤ MAX_IMAGE_BYTES
  sealed : HasSealedTags (project_made p)
  scheduled : AreScheduled p
  connections : Each (IsConnected p) p.connections
  watches : Each (λ text. place_fault p text ≡ None) p.watch
  programmed : AreProgrammed p

connected_of : (p : Described) → connections_fault p ≡ None → Each (IsConnected p) p.connections
unfolding connections_fault
connected_of p h = each_map (λ c. connection_fault p c ≡ None) (IsConnected p) p.connections (connected p) (none_at (connection_fault p) p.connections (not_mapped _ _ h))

watched_of : (p : Described) → places_fault p ≡ None → Each (λ text. place_fault p text ≡ None) p.watch
unfolding places_fault
watched_of p h = none_at (place_fault p) p.watch (not_mapped _ _ (neither _ _ h).1)

has_sealed_tags : (p : Described) → Sound (declarations p) → aliases_fault p ≡ None → HasSealedTags (project_made p)
unfolding project_made
has_sealed_tags p sound aliases = record { sound = sound; sealed = sealed_tags p aliases; image = image_length p }

accepted_of : (p : Described) → IsWithinLimits p → RefusesNothing p → IsAccepted p
accepted_of p within h =
    let declared : AreDeclared p = declared_tags p h.tags in
    let sound = declarations_sound p (have_members p.types within.types.each) (faultless_types p h.types) declared in
    record {
      named = named_of p h.names;
      sound = sound;
      image = small_image p declared;
      sealed = has_sealed_tags p sound h.aliases;
      scheduled = scheduled_of p h.tasks;
      connections = connected_of p h.connections;
      watches = watched_of p h.places;
      programmed = programmed_of p h.routines;
    }

-- ---- the limits

-- a number that is as another one is within its limit
within_as : (n m limit : ℕ) → n ≡ m → 1 ≤ m → m ≤ limit → IsTrue (is_within n limit)
within_as n m limit e enough few = within_of n limit (omega arith) (omega arith)

few_as : (n m limit : ℕ) → n ≤ m → m ≤ limit → IsTrue (nat_le n limit)
few_as n m limit h few = le-leb n limit (omega arith)

small_project : (p : Described) → IsWithinLimits p → RefusesNothing p → IsAccepted p → IsSmallProject (project_made p)
unfolding project_made
small_project p within h known = record {
  tasks = within_as (length (map (λ t. t.def) p.tasks)) (length p.tasks) MAX_TASKS (length-map p.tasks (λ t. t.def)) within.tasks.enough within.tasks.few;
  programs = within_as (length (program_texts p)) (length p.programs) MAX_PROGRAMS (programs_made p) within.programs.enough within.programs.few;
  each_program = small_programs p within;
  instructions = le-leb (instructions_in p) MAX_PROJECT_INSTRUCTIONS known.programmed.few;
  entries = few_entries p within;
  arrays = small_arrays p within;
  types = small_types p.types within.types (faultless_types p h.types);
  image = le-leb (bytes (declarations p)) MAX_IMAGE_BYTES known.image;
  connections = few_as (length (map (connection_of p) p.connections)) (length p.connections) MAX_CONNECTIONS (omega (arith, length-map p.connections (connection_of p))) within.connections.few;
  words = small_connections p known.sound known.image known.connections;
  watches = few_as (length (filter_map (watch_of p) p.watch)) (length p.watch) MAX_WATCHES (kept_few (watch_of p) p.watch) within.watch.few;
}

-- ---- the project

valid_project : (p : Described) → IsWithinLimits p → RefusesNothing p → IsAccepted p → IsValidProject (project_made p)
unfolding project_made
valid_project p within h known = record {
  tags = known.sealed;
  scopes = sym (programs_made p);
  rungs = checked_rungs p known.programmed;
  operands = executable_operands p known.sealed known.programmed;
  targets = known_targets p known.programmed known.named.mains;
  connections = connections_of_tags p known.sound known.image known.connections;
  triggers = known_triggers p known.connections;
  watches = valid_watches p known.sound known.watches;
  task_lists = task_lists p;
  names = different_names p known.named;
  lists = valid_lists p within known.scheduled;
  once = valid_once p known.scheduled;
  tasks = proper_tasks p within;
  continuous = one_continuous p known.scheduled;
  limits = small_project p within h known;
}

pub accepted_is_valid : AcceptedIsValid
accepted_is_valid p within accepted =
    let passes = passes_of p accepted in
    valid_project p within passes (accepted_of p within passes)
