-- What a described project keeps of the limits of its file.
use Rattle.std.specs.Prelude.{ℕ, ◌≤◌, List, length, IsTrue, ⊤}
use Rattle.std.specs.List.{AllByRecursion as Each}
use Rattle.spec_base.specs.declared.limits.TheConstants.{MAX_CONNECTIONS, MAX_ELEMENTS, MAX_TASKS}
use Rattle.spec_language.specs.declared.types.TypeDecl.{TypeDecl}
use Rattle.spec_language.specs.declared.types.MemberDecl.{MemberDecl}
use Rattle.spec_machine.specs.declared.limits.TheConstants.{MAX_MEMBERS, MAX_PROGRAMS, MAX_ROUTINES, MAX_RUNGS, MAX_SCOPE_TAGS, MAX_TYPES, MAX_WATCHES}
use Rattle.spec_machine.specs.ValidProject.{is_proper_task}
use Rattle.spec_project.specs.declared.limits.TheConstants.{MAX_INITIAL_VALUES, MAX_RUNG_BYTES}
use Rattle.spec_project.specs.declared.described.Described.{Described}
use Rattle.spec_project.specs.declared.described.DescribedMeaning.{DescribedMeaning}
use Rattle.spec_project.specs.declared.described.DescribedMeaning.TheVariants.{OfType, AliasOf}
use Rattle.spec_project.specs.declared.described.DescribedProgram.{DescribedProgram}
use Rattle.spec_project.specs.declared.described.DescribedRoutine.{DescribedRoutine}
use Rattle.spec_project.specs.declared.described.DescribedTag.{DescribedTag}
use Rattle.spec_project.specs.declared.described.DescribedTask.{DescribedTask}

-- at least `least` elements, at most `most`, and of each a fact
pub record IsListOf {A : Type 0} (least most : ℕ) (P : A → Type 0) (xs : List A) : Type 0 where
  pub enough : least ≤ length xs
  pub few : length xs ≤ most
  pub each : Each P xs

abbrev pub HasSmallDim : MemberDecl → Type 0
HasSmallDim m = m.dim ≤ MAX_ELEMENTS

abbrev pub HasFewMembers : TypeDecl → Type 0
HasFewMembers t = IsListOf 1 MAX_MEMBERS HasSmallDim t.members

abbrev pub IsSmallMeaning : DescribedMeaning → Type 0
IsSmallMeaning (OfType of dim) = dim ≤ MAX_ELEMENTS
IsSmallMeaning (AliasOf target) = ⊤

abbrev pub IsSmallTag : DescribedTag → Type 0
IsSmallTag t = IsSmallMeaning t.meaning

abbrev pub IsShortText : List ℕ → Type 0
IsShortText text = length text ≤ MAX_RUNG_BYTES

abbrev pub HasFewRungs : DescribedRoutine → Type 0
HasFewRungs r = IsListOf 0 MAX_RUNGS IsShortText r.rungs

pub record IsSmallProgram (q : DescribedProgram) : Type 0 where
  pub tags : IsListOf 0 MAX_SCOPE_TAGS IsSmallTag q.tags
  pub routines : IsListOf 1 MAX_ROUTINES HasFewRungs q.routines

-- and a priority, a period and a watchdog of its kind
pub record IsSmallTask (t : DescribedTask) : Type 0 where
  pub programs : IsListOf 1 MAX_PROGRAMS (λ name. ⊤) t.programs
  pub proper : IsTrue (is_proper_task t.def)

pub record IsWithinLimits (p : Described) : Type 0 where
  pub types : IsListOf 0 MAX_TYPES HasFewMembers p.types
  pub tags : IsListOf 0 MAX_SCOPE_TAGS IsSmallTag p.tags
  pub programs : IsListOf 1 MAX_PROGRAMS IsSmallProgram p.programs
  pub tasks : IsListOf 1 MAX_TASKS IsSmallTask p.tasks
  pub connections : IsListOf 0 MAX_CONNECTIONS (λ c. ⊤) p.connections
  pub initial : IsListOf 0 MAX_INITIAL_VALUES (λ v. ⊤) p.initial
  pub watch : IsListOf 0 MAX_WATCHES (λ text. ⊤) p.watch
