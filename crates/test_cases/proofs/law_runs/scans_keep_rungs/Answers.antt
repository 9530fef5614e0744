-- The runs compute. The rungs after the edit are told, so that each side computes to them by itself.
use Rattle.std.proofs.Common.{◌≡◌, [], ◌∷◌, Option, Some, refl, sym, ◌∙◌}
use Rattle.lgx_rung.specs.Tree.{end}
use Rattle.spec_scan.specs.Position.{ProgramRungs}
use Rattle.test_cases.specs.LawRuns.{one_nop, emptied, rungs_at, begun_at}
use Rattle.test_cases.proofs.law_runs.scans_keep_rungs.Goals as goal

-- one routine with one rung that has no instruction
abbrev empty_rung : Option ProgramRungs
empty_rung = Some (record { routines = (end ∷ []) ∷ []; main = 0 })

run_rungs : rungs_at one_nop emptied ≡ empty_rung
run_rungs = refl

begun_rungs : begun_at one_nop emptied ≡ empty_rung
begun_rungs = refl

pub returns-clause-kept : goal.returns-clause-kept
returns-clause-kept c = refl

pub returns-clause-taken : goal.returns-clause-taken
returns-clause-taken c = run_rungs ∙ sym begun_rungs
