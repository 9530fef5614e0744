-- What a log keeps of all lines: the first ones, as many as there is room for, and the number of the others.
use Rattle.std.specs.Prelude.{◌≡◌, ℕ, ◌+◌, ◌-◌, ◌<◌, ◌≤◌, List, [], ◌∷◌, ◌++◌, length, take, nat_lt, if◌then◌else◌}
use Rattle.spec_base.specs.declared.limits.TheConstants.{MAX_REPORT_LINES}
use Rattle.spec_machine.specs.Report.{Stamped}

pub record KeptLines : Type 0 where
  pub lines : List Stamped
  pub lost : ℕ

abbrev pub no_lines : KeptLines
no_lines = record { lines = []; lost = 0 }

-- the log that stands for all these lines
abbrev pub kept_of : List Stamped → KeptLines
kept_of all = record { lines = take MAX_REPORT_LINES all; lost = length all - MAX_REPORT_LINES }

-- a log with one line more
abbrev pub with_line : KeptLines → Stamped → KeptLines
with_line kept line =
    if nat_lt (length kept.lines) MAX_REPORT_LINES then record { lines = kept.lines ++ line ∷ []; lost = kept.lost } else record { lines = kept.lines; lost = kept.lost + 1 }

abbrev pub with_lines : KeptLines → List Stamped → KeptLines
with_lines kept [] = kept
with_lines kept (line ∷ lines) = with_lines (with_line kept line) lines

-- whatever is pushed in turn into an empty log, it stands for all of it
abbrev pub KeepsTheFirst : Type 0
KeepsTheFirst = (all : List Stamped) → with_lines no_lines all ≡ kept_of all

-- there is room for all lines that will be kept, and none is lost before the room is full
pub record KeepsRoom (kept room lost : ℕ) : Type 0 where
  pub has_room : MAX_REPORT_LINES ≤ room
  pub within : kept ≤ MAX_REPORT_LINES
  pub full : 0 < lost → kept ≡ MAX_REPORT_LINES
