-- What the lists of uses gain, one list for each tag.
use Rattle.std.specs.Prelude.{◌≡◌, ℕ, ◌<◌, Bool, List, [], ◌++◌, length, map, filter, slice_index_or}
use Rattle.spec_machine.specs.Project.{ProgramText}
use Rattle.spec_uses.specs.declared.uses.Use.{Use}
use Rattle.spec_uses.specs.Uses.{Site, sites_of_program}

abbrev pub uses_at : List (List Use) → ℕ → List Use
uses_at lists k = slice_index_or lists k []

-- each list has these uses after those that it had
pub record Gains (old new : List (List Use)) (more : ℕ → List Use) : Type 0 where
  pub size : length new ≡ length old
  pub each : (k : ℕ) → k < length old → uses_at new k ≡ uses_at old k ++ more k

-- the places of those that pass a test
abbrev pub uses_among : (Site → Bool) → List Site → List Use
uses_among test sites = map (λ s. s.at) (filter test sites)

-- the same of all instructions of a program
abbrev pub program_uses : (ProgramText → Site → Bool) → ℕ × ProgramText → List Use
program_uses test g = uses_among (test g.1) (sites_of_program g)
