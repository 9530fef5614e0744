-- Each field computes; the operands are in the image by the law of checked rungs.
use Rattle.std.proofs.Common.{length, refl, arith}
use Rattle.std.specs.List.{AllByRecursion as Each, enumerate_from}
use Rattle.spec_language.specs.ResolutionLaws.{Sound}
use Rattle.spec_machine.specs.ValidProject.{IsChecked, IsWatchable, HasSealedTags, HasTaskLists, HasDifferentNames, IsWithinLimits}
use Rattle.spec_machine.proofs.ValidProjects.{operands_of}
use Rattle.test_cases.specs.TaskRuns.{inhibited_event}
use Rattle.test_cases.proofs.project_cases.project_is_valid.Goals as goal

sound_tags : Sound inhibited_event.tags
sound_tags = record { types = record { settled = refl; members = tt }; tags = ((tt, omega arith), ((refl, omega arith), ((refl, omega arith), tt))) }

sealed : HasSealedTags inhibited_event
sealed = record { sound = sound_tags; sealed = refl; image = refl }

lists : HasTaskLists inhibited_event
lists = record { names = refl; lists = refl; events = refl }

names : HasDifferentNames inhibited_event
names = record { programs = refl; routines = refl; tasks = refl; connections = refl }

limits : IsWithinLimits inhibited_event
limits = record { tasks = refl; programs = refl; each_program = refl; instructions = refl; entries = refl; arrays = refl; types = refl; image = refl; connections = refl; words = refl; watches = refl }

rungs : Each (IsChecked inhibited_event) (enumerate_from 0 inhibited_event.programs)
rungs = ((refl, tt), ((refl, tt), tt))

watches : Each (IsWatchable (length inhibited_event.image)) inhibited_event.watches
watches = (record { inside = (tt, omega arith); aligned = refl }, (record { inside = (tt, omega arith); aligned = refl }, tt))

pub returns : goal.returns
returns c = record {
  tags = sealed;
  scopes = refl;
  rungs = rungs;
  operands = operands_of c.checked_rungs_are_executable.ensures inhibited_event sealed rungs;
  targets = refl;
  connections = refl;
  triggers = refl;
  watches = watches;
  task_lists = lists;
  names = names;
  lists = refl;
  once = refl;
  tasks = refl;
  continuous = refl;
  limits = limits;
}
