-- The two texts that a number makes.
use Rattle.std.specs.Prelude.{ℕ, List}
use Rattle.lgx_gen.specs.JournalText as JournalText
use Rattle.lgx_gen.specs.ProjectText as ProjectText

-- a project, and a journal that runs on it
pub record Generated : Type 0 where
  pub project : List ℕ
  pub journal : List ℕ

-- what a number makes
abbrev pub generated : ℕ → Generated
generated n = record { project = ProjectText.project n; journal = JournalText.journal n }
