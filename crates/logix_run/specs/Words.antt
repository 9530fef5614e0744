-- What the words of the command line ask for, and the plan of that.
use Rattle.std.specs.Prelude.{ℕ, List, [], ◌∷◌, ◌++◌, codes, ◌-◌, nat_lt, ◌&&◌, if◌then◌else◌, Option, Some, None}
use Rattle.std.specs.Str.{bytes_eq}
use Rattle.spec_text.specs.TextLines.{unsigned_of}
use Rattle.lgx_answer.specs.declared.status.Verdict.TheVariants as verdict
use Rattle.lgx_answer.specs.Plan.{Plan, Say, only}
use Rattle.cmd_project.specs.CheckPlan.{check_plan}
use Rattle.cmd_project.specs.TextPlan.{text_plan}
use Rattle.cmd_project.specs.MigratePlan.{migrate_plan}
use Rattle.cmd_replay.specs.ReplayPlan.{replay_plan}
use Rattle.cmd_replay.specs.GenPlan.{gen_plan}
use Rattle.cmd_run.specs.RunPlan.{run_plan}
use Rattle.cmd_stations.specs.StationsPlan.{stations_plan}
use Rattle.cmd_trace.specs.TracePlan.{trace_plan}
use Rattle.cmd_trace.specs.AuditPlan.{audit_plan}
use Rattle.cmd_xref.specs.XrefPlan.{xref_plan}
use Rattle.cmd_link.specs.LinkPlan.{link_plan}

-- a command with the names of its files, its number, or its count of stations
pub data Command : Type 0 where
  Check : List ℕ → Command
  Text : List ℕ → Command
  Migrate : List ℕ → Command
  Xref : List ℕ → Command
  Gen : ℕ → Command
  Replay : List ℕ → List ℕ → Command
  Trace : List ℕ → List ℕ → Command
  Audit : List ℕ → List ℕ → Command
  Run : List ℕ → List ℕ → Command
  Link : List ℕ → List ℕ → List ℕ → Command
  Stations : List ℕ → List ℕ → ℕ → Command
  Usage : Command

-- how many stations it asks for, if it asks for any
abbrev pub stations_of : Command → Option ℕ
stations_of (Stations p j c) = Some c
stations_of _ = None

-- ---- words

-- one digit from 1 to 8
abbrev pub station_count : List ℕ → Option ℕ
station_count [] = None
station_count (digit ∷ []) = if nat_lt 48 digit && nat_lt digit 57 then Some (digit - 48) else None
station_count (digit ∷ next ∷ more) = None

-- the command of a number, where it is one
abbrev pub counted : (ℕ → Command) → Option ℕ → Command
counted command None = Usage
counted command (Some n) = command n

-- The commands by their words, with one, two and three words behind them. The number of `gen` is 1 to 10 decimal digits up to
-- 4294967295, needless zeros among them or not.
abbrev pub with_one : List (List ℕ × (List ℕ → Command))
with_one =
    (codes "check", Check) ∷
    (codes "text", Text) ∷
    (codes "migrate", Migrate) ∷
    (codes "xref", Xref) ∷
    (codes "gen", λ n. counted Gen (unsigned_of n)) ∷ []

abbrev pub with_two : List (List ℕ × (List ℕ → List ℕ → Command))
with_two =
    (codes "replay", Replay) ∷
    (codes "trace", Trace) ∷
    (codes "audit", Audit) ∷
    (codes "run", Run) ∷ []

abbrev pub with_three : List (List ℕ × (List ℕ → List ℕ → List ℕ → Command))
with_three =
    (codes "link", Link) ∷
    (codes "stations", λ p j c. counted (Stations p j) (station_count c)) ∷ []

-- what the row of this word says; where it has none, the usage
abbrev pub row_of : (A : Type 0) → List (List ℕ × A) → List ℕ → (A → Command) → Command
row_of A [] word say = Usage
row_of A (row ∷ rows) word say = if bytes_eq word row.0 then say row.1 else row_of A rows word say

abbrev pub of_one : List ℕ → List ℕ → Command
of_one word a = row_of _ with_one word (λ c. c a)

abbrev pub of_two : List ℕ → List ℕ → List ℕ → Command
of_two word a b = row_of _ with_two word (λ c. c a b)

abbrev pub of_three : List ℕ → List ℕ → List ℕ → List ℕ → Command
of_three word a b d = row_of _ with_three word (λ c. c a b d)

unfoldable pub command_of : List (List ℕ) → Command
command_of [] = Usage
command_of (word ∷ []) = Usage
command_of (word ∷ a ∷ []) = of_one word a
command_of (word ∷ a ∷ b ∷ []) = of_two word a b
command_of (word ∷ a ∷ b ∷ c ∷ []) = of_three word a b c
command_of (word ∷ a ∷ b ∷ c ∷ next ∷ more) = Usage

-- ---- plans

abbrev pub usage_text : List ℕ
usage_text = codes "usage: logix check P, text P, replay P J, run P S, gen N, migrate P, trace P J, audit P T, xref P, stations P J C, link A B L" ++ 10 ∷ []

abbrev pub usage_plan : Plan
usage_plan = Say verdict.Usage (only usage_text)

abbrev pub command_plan : Command → Plan
command_plan (Check p) = check_plan p
command_plan (Text p) = text_plan p
command_plan (Migrate p) = migrate_plan p
command_plan (Xref p) = xref_plan p
command_plan (Gen n) = gen_plan n
command_plan (Replay p j) = replay_plan p j
command_plan (Trace p j) = trace_plan p j
command_plan (Audit p t) = audit_plan p t
command_plan (Run p s) = run_plan p s
command_plan (Link a b l) = link_plan a b l
command_plan (Stations p j c) = stations_plan p j c
command_plan Usage = usage_plan

-- a command that needs no thread of its own; the others are unknown
abbrev pub plain : Command → Command
plain (Run p s) = Usage
plain (Stations p j c) = Usage
plain c = c

-- ---- the plan of the words

abbrev pub plan_of : List (List ℕ) → Plan
plan_of words = command_plan (command_of words)

-- of those that need no thread of their own: all but `run P S` and `stations P J C`
abbrev pub plain_plan_of : List (List ℕ) → Plan
plain_plan_of words = command_plan (plain (command_of words))
