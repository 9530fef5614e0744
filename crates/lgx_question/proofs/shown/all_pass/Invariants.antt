-- The tests before pass.
use Rattle.std.proofs.Common.{◌≡◌, true, take}
use Rattle.std.specs.List.{list_all}
use Rattle.lgx_question.specs.Seen.{passes_in}
use Rattle.lgx_question.proofs.shown.all_pass.Given as goal

abbrev pub invariant-loop-test : goal.invariant-loop-test
invariant-loop-test l = list_all (passes_in l.values) (take l.test-index l.tests) ≡ true
