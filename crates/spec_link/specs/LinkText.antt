-- The text of a link script: how its lines are read, with the first line that is refused and its first cause.
use Rattle.std.specs.Prelude.{ℕ, ◌+◌, List, [], ◌∷◌, true, false, ◌&&◌, ◌==◌, nat_lt, if◌then◌else◌, Bool, Option, Some, None, slice_index_or, Result, Ok, Err, codes}
use Rattle.std.specs.Str.{bytes_eq}
use Rattle.spec_base.specs.FirstCause.{◌>>=◌, unless, some_or}
use Rattle.lgx_num.specs.Name.{is_name}
use Rattle.spec_tables.specs.declared.conn.ConnDef.{ConnDef}
use Rattle.spec_tables.specs.Connections.{conn_named, no_conn}
use Rattle.spec_machine.specs.Project.{Project}
use Rattle.spec_text.specs.declared.script.EventRun.{EventRun}
use Rattle.spec_text.specs.declared.script.JournalCode.{JournalCode}
use Rattle.spec_text.specs.declared.script.JournalCode.TheVariants as journal
use Rattle.spec_text.specs.TextLines.{lines, is_skipped, words, first_word, after_word, unsigned_of}
use Rattle.spec_text.specs.JournalText.{Tally, with_run, no_events, is_end, is_line, read_line}
use Rattle.spec_link.specs.declared.script.TheConstants.{MAX_SENDS, MAX_DELIVERS}
use Rattle.spec_link.specs.declared.script.LinkCode.{LinkCode}
use Rattle.spec_link.specs.declared.script.LinkCode.TheVariants.{J1, J2, J4, U1}
use Rattle.spec_link.specs.declared.script.LinkFault.{LinkFault}
use Rattle.spec_link.specs.declared.script.LinkScript.{LinkScript}
use Rattle.spec_link.specs.declared.script.LinkStep.{LinkStep}
use Rattle.spec_link.specs.declared.script.LinkStep.TheVariants.{OnA, OnB, Send, Deliver}

-- ---- the first line: `link OUT IN`

-- a project's connection of this name, if its direction is this one
abbrev pub in_direction : Bool → ConnDef → Option ConnDef
in_direction true c = if c.output then Some c else None
in_direction false c = if c.output then None else Some c

abbrev pub conn_at : List ConnDef → Bool → Option ℕ → Option ConnDef
conn_at conns output None = None
conn_at conns output (Some n) = in_direction output (slice_index_or conns n no_conn)

abbrev pub connection : Project → Bool → List ℕ → Option ConnDef
connection p output name = conn_at p.conns output (conn_named p.conns name)

abbrev pub are_alike : Option ConnDef → Option ConnDef → Bool
are_alike (Some c) (Some d) = c.words == d.words
are_alike _ _ = false

-- an output connection of the first, and an input connection of the second with as many words
abbrev pub are_joined : Project → Project → List ℕ → List ℕ → Bool
are_joined a b output input = are_alike (connection a true output) (connection b false input)

abbrev pub bare : List ℕ → List ℕ → LinkScript
bare output input = record { output = output; input = input; steps = [] }

abbrev pub header_of : List (List ℕ) → Option LinkScript
header_of (verb ∷ output ∷ input ∷ []) =
    if bytes_eq verb (codes "link") && is_name output && is_name input then Some (bare output input) else None
header_of _ = None

abbrev pub read_header : Project → Project → List ℕ → Result LinkScript LinkCode
read_header a b line = do
  _ ← unless (is_line line) J1
  s ← some_or (header_of (words line)) J1
  _ ← unless (are_joined a b s.output s.input) U1
  Ok s

-- ---- the other lines

-- what is in a text so far: the events of each controller, the sendings and the deliveries
pub record Counts : Type 0 where
  pub a : Tally
  pub b : Tally
  pub sends : ℕ
  pub delivers : ℕ

abbrev pub no_counts : Counts
no_counts = record { a = no_events; b = no_events; sends = 0; delivers = 0 }

abbrev pub with_step : Counts → LinkStep → Counts
with_step c (OnA e n) = record c { a = with_run c.a (record { event = e; count = n }) }
with_step c (OnB e n) = record c { b = with_run c.b (record { event = e; count = n }) }
with_step c Send = record c { sends = c.sends + 1 }
with_step c (Deliver k) = record c { delivers = c.delivers + 1 }

-- a journal's line has no other cause
abbrev pub code_of : JournalCode → LinkCode
code_of journal.J2 = J2
code_of journal.J4 = J4
code_of _ = J1

abbrev pub as_step : (EventRun → LinkStep) → Result EventRun JournalCode → Result LinkStep LinkCode
as_step make (Err code) = Err (code_of code)
as_step make (Ok run) = Ok (make run)

abbrev pub read_send : Counts → List (List ℕ) → Result LinkStep LinkCode
read_send c [] = if nat_lt c.sends MAX_SENDS then Ok Send else Err J4
read_send c _ = Err J1

abbrev pub read_number : Counts → Option ℕ → Result LinkStep LinkCode
read_number c None = Err J1
read_number c (Some k) = if nat_lt c.delivers MAX_DELIVERS then Ok (Deliver k) else Err J4

abbrev pub read_deliver : Counts → List (List ℕ) → Result LinkStep LinkCode
read_deliver c (k ∷ []) = read_number c (unsigned_of k)
read_deliver c _ = Err J1

-- what a line with this first word says after it, or its first cause
abbrev pub read_words : Counts → List ℕ → List ℕ → Result LinkStep LinkCode
read_words c verb rest =
    if bytes_eq verb (codes "a") then as_step (λ r. OnA r.event r.count) (read_line c.a rest) else
    (if bytes_eq verb (codes "b") then as_step (λ r. OnB r.event r.count) (read_line c.b rest) else
    (if bytes_eq verb (codes "send") then read_send c (words rest) else
    (if bytes_eq verb (codes "deliver") then read_deliver c (words rest) else
    Err J1)))

abbrev pub read_step : Counts → List ℕ → Result LinkStep LinkCode
read_step c line = do
  _ ← unless (is_line line) J1
  read_words c (first_word line) (after_word line)

-- ---- the first line that has a cause

abbrev pub refused : {A : Type 0} → ℕ → LinkCode → Result A LinkFault
refused n code = Err (record { code = code; line = n })

abbrev pub before_rest : LinkStep → Result (List LinkStep) LinkFault → Result (List LinkStep) LinkFault
before_rest s (Err e) = Err e
before_rest s (Ok ss) = Ok (s ∷ ss)

-- the lines from number n on; a text without `end` is refused at the line after its last
abbrev pub steps_from : ℕ → Counts → List (List ℕ) → Result (List LinkStep) LinkFault
steps_from n c [] = refused n J1
steps_from n c (l ∷ ls) =
    elim (is_skipped l) [
      | true ↦ steps_from (n + 1) c ls
      | false ↦ elim (is_end l && is_line l) [
        | true ↦ Ok []
        | false ↦ elim (read_step c l) [ Err code ↦ refused n code | Ok s ↦ before_rest s (steps_from (n + 1) (with_step c s) ls) ]
      ]
    ]

abbrev pub with_steps : LinkScript → Result (List LinkStep) LinkFault → Result LinkScript LinkFault
with_steps s (Err e) = Err e
with_steps s (Ok steps) = Ok (record s { steps = steps })

abbrev pub link_from : Project → Project → ℕ → List (List ℕ) → Result LinkScript LinkFault
link_from a b n [] = refused n J1
link_from a b n (l ∷ ls) =
    elim (is_skipped l) [
      | true ↦ link_from a b (n + 1) ls
      | false ↦ elim (read_header a b l) [ Err code ↦ refused n code | Ok s ↦ with_steps s (steps_from (n + 1) no_counts ls) ]
    ]

-- the link script that a text is for two projects, or the first line with a cause and its first cause
abbrev pub link_of : Project → Project → List ℕ → Result LinkScript LinkFault
link_of a b bytes = link_from a b 1 (lines bytes)
