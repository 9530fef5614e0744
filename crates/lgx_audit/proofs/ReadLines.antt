-- The lines of a trace, one by one.
use Rattle.std.proofs.Common.{◌≡◌, ℕ, zero, suc, ◌+◌, List, [], ◌∷◌, ◌++◌, Bool, true, false, Result, Ok, Err, Option, Some, None, refl, sym, ap, ◌∙◌, subst, append_assoc, arith}
use Rattle.std.specs.Prelude.{if◌then◌else◌}
use Rattle.spec_base.specs.Pieces.{pieces}
use Rattle.spec_base.proofs.Splits.{some_piece}
use Rattle.spec_schedule.specs.declared.trace.TraceEvent.{TraceEvent}
use Rattle.spec_schedule.specs.declared.trace.Table.{Table}
use Rattle.lgx_audit.specs.declared.error.TraceCode.{TraceCode}
use Rattle.lgx_audit.specs.declared.error.TraceCode.TheVariants.{K1, K2}
use Rattle.lgx_audit.specs.declared.error.TraceFault.{TraceFault}
use Rattle.lgx_audit.specs.TraceTable.{is_in_table, AreInTable}
use Rattle.lgx_audit.specs.TraceText.{has_form}
use Rattle.lgx_audit.specs.TraceReading.{event_of, words_of, read_line, refused, before_rest, is_end, trace_from}
use Rattle.lgx_audit.specs.Answers.{after_events}

-- ---- the words of a line

pub two_words : (w a : List ℕ) → event_of (w ∷ a ∷ []) ≡ None
two_words w a = refl

pub seven_words : (w a b c d e text : List ℕ) → event_of (w ∷ a ∷ b ∷ c ∷ d ∷ e ∷ pieces 32 text) ≡ None
seven_words w a b c d e text = let p = some_piece 32 text in rw p.2 refl

-- ---- the lines of a text

none_before : (r : Result (List TraceEvent) TraceFault) → after_events [] r ≡ r
none_before (Err fault) = refl
none_before (Ok es) = refl

pub at_start : (n : ℕ) (table : Table) (text : List ℕ) → n ≡ 1 → after_events [] (trace_from n table (pieces 10 text)) ≡ trace_from 1 table (pieces 10 text)
at_start n table text h = none_before (trace_from n table (pieces 10 text)) ∙ ap (λ k. trace_from k table (pieces 10 text)) h

-- what follows from a line, by what is read of the lines after it
abbrev goes_by : ℕ → Bool → Result TraceEvent TraceCode → Result (List TraceEvent) TraceFault → Result (List TraceEvent) TraceFault
goes_by n end read rest = elim end [ true ↦ Ok [] | false ↦ elim read [ Err code ↦ refused n code | Ok e ↦ before_rest e rest ] ]

abbrev goes_to : ℕ → Table → List ℕ → Result (List TraceEvent) TraceFault → Result (List TraceEvent) TraceFault
goes_to n table line rest = goes_by n (is_end line) (read_line table line) rest

ends_there : (n : ℕ) (table : Table) (line : List ℕ) (rest : Result (List TraceEvent) TraceFault) → is_end line ≡ true → goes_to n table line rest ≡ Ok []
ends_there n table line rest end = ap (λ b. goes_by n b (read_line table line) rest) end

refused_there : (n : ℕ) (table : Table) (line : List ℕ) (rest : Result (List TraceEvent) TraceFault) (code : TraceCode) → is_end line ≡ false → read_line table line ≡ Err code → goes_to n table line rest ≡ refused n code
refused_there n table line rest code more read = ap (λ b. goes_by n b (read_line table line) rest) more ∙ ap (λ r. goes_by n false r rest) read

read_there : (n : ℕ) (table : Table) (line : List ℕ) (rest : Result (List TraceEvent) TraceFault) (e : TraceEvent) → is_end line ≡ false → read_line table line ≡ Ok e → goes_to n table line rest ≡ before_rest e rest
read_there n table line rest e more read = ap (λ b. goes_by n b (read_line table line) rest) more ∙ ap (λ r. goes_by n false r rest) read

-- a line feed stands behind the line
from_line : (n : ℕ) (table : Table) (text line after : List ℕ) → pieces 10 text ≡ line ∷ pieces 10 after → trace_from n table (pieces 10 text) ≡ goes_to n table line (trace_from (n + 1) table (pieces 10 after))
from_line n table text line after is =
    let p = some_piece 10 after in
    ap (trace_from n table) is ∙ ap (λ ps. trace_from n table (line ∷ ps)) p.2 ∙ ap (λ ps. goes_to n table line (trace_from (n + 1) table ps)) (sym p.2)

append_nil : (xs : List TraceEvent) → xs ++ [] ≡ xs
append_nil [] = refl
append_nil (x ∷ xs) = ap (λ ys. x ∷ ys) (append_nil xs)

pub line_ends : (es : List TraceEvent) (n : ℕ) (table : Table) (text line after : List ℕ) → pieces 10 text ≡ line ∷ pieces 10 after → is_end line ≡ true → after_events es (trace_from n table (pieces 10 text)) ≡ Ok es
line_ends es n table text line after is end =
    ap (after_events es) (from_line n table text line after is ∙ ends_there n table line (trace_from (n + 1) table (pieces 10 after)) end) ∙ ap Ok (append_nil es)

pub line_refused : (es : List TraceEvent) (n : ℕ) (table : Table) (text line after : List ℕ) (code : TraceCode) → pieces 10 text ≡ line ∷ pieces 10 after → is_end line ≡ false → read_line table line ≡ Err code → after_events es (trace_from n table (pieces 10 text)) ≡ refused n code
line_refused es n table text line after code is more read =
    ap (after_events es) (from_line n table text line after is ∙ refused_there n table line (trace_from (n + 1) table (pieces 10 after)) code more read)

-- what is read of a line stands before what is read of the others
pub line_then : (n : ℕ) (table : Table) (text line after : List ℕ) (e : TraceEvent) → pieces 10 text ≡ line ∷ pieces 10 after → is_end line ≡ false → read_line table line ≡ Ok e → trace_from n table (pieces 10 text) ≡ before_rest e (trace_from (n + 1) table (pieces 10 after))
line_then n table text line after e is more read = from_line n table text line after is ∙ read_there n table line (trace_from (n + 1) table (pieces 10 after)) e more read

goes_on : (es : List TraceEvent) (e : TraceEvent) (r : Result (List TraceEvent) TraceFault) → after_events (es ++ e ∷ []) r ≡ after_events es (before_rest e r)
goes_on es e (Err fault) = refl
goes_on es e (Ok more) = ap Ok (append_assoc es (e ∷ []) more)

pub line_read : (es : List TraceEvent) (n : ℕ) (table : Table) (text line after : List ℕ) (e : TraceEvent) → pieces 10 text ≡ line ∷ pieces 10 after → is_end line ≡ false → read_line table line ≡ Ok e → after_events (es ++ e ∷ []) (trace_from (n + 1) table (pieces 10 after)) ≡ after_events es (trace_from n table (pieces 10 text))
line_read es n table text line after e is more read =
    goes_on es e (trace_from (n + 1) table (pieces 10 after)) ∙ sym (ap (after_events es) (line_then n table text line after e is more read))

-- no line feed is left
pub no_line : (es : List TraceEvent) (n : ℕ) (table : Table) (text : List ℕ) → pieces 10 text ≡ text ∷ [] → after_events es (trace_from n table (pieces 10 text)) ≡ refused n K1
no_line es n table text is = ap (λ ps. after_events es (trace_from n table ps)) is

-- ---- events of the table

abbrev pub judged_by : (form known : Bool) → TraceEvent → Result TraceEvent TraceCode
judged_by form known e = if form then (if known then Ok e else Err K2) else Err K1

abbrev pub judged : Table → Option TraceEvent → Result TraceEvent TraceCode
judged table o = elim o [ None ↦ Err K1 | Some e ↦ judged_by (has_form e) (is_in_table table e) e ]

some_known : (table : Table) (e x : TraceEvent) (form known : Bool) → is_in_table table x ≡ known → judged_by form known x ≡ Ok e → is_in_table table e ≡ true
some_known table e x true true k h = subst (λ y. is_in_table table y ≡ true) (let same : x ≡ e = cc in same) k
some_known table e x true false k h = absurd (cc h)
some_known table e x false b k h = absurd (cc h)

any_known : (table : Table) (e : TraceEvent) (o : Option TraceEvent) → judged table o ≡ Ok e → is_in_table table e ≡ true
any_known table e None h = absurd (cc h)
any_known table e (Some x) h = some_known table e x (has_form x) (is_in_table table x) refl h

pub read_known : (table : Table) (line : List ℕ) (e : TraceEvent) → read_line table line ≡ Ok e → is_in_table table e ≡ true
read_known table line e h = any_known table e (event_of (words_of line)) h

pub none_known : (table : Table) → AreInTable table []
none_known table k h = absurd (omega arith)

pub more_known : (table : Table) (es : List TraceEvent) (e : TraceEvent) → AreInTable table es → is_in_table table e ≡ true → AreInTable table (es ++ e ∷ [])
more_known table [] e known h zero l = h
more_known table [] e known h (suc k) l = absurd (omega arith)
more_known table (x ∷ xs) e known h zero l = known 0 (omega arith)
more_known table (x ∷ xs) e known h (suc k) l = more_known table xs e (λ i w. known (suc i) (omega arith)) h k (omega arith)
