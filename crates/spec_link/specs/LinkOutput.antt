-- What is written of a link script.
use Rattle.std.specs.Prelude.{◌≡◌, ℕ, List, [], ◌∷◌, ◌++◌, length, map, drop, take, flat_map, codes, decimal}
use Rattle.spec_base.specs.declared.limits.TheConstants.{MAX_REPORT_LINES}
use Rattle.spec_machine.specs.declared.event.Event.{Event}
use Rattle.spec_machine.specs.Machine.{run}
use Rattle.spec_machine.specs.Project.{Project}
use Rattle.spec_machine.specs.Report.{Stamped, Report, report_lines, report_of, steps_of}
use Rattle.spec_text.specs.TextLines.{line_of}
use Rattle.spec_text.specs.ReportText.{names_of, line_text, end_text, report}
use Rattle.spec_link.specs.declared.script.LinkAnswer.{LinkAnswer}
use Rattle.spec_link.specs.declared.script.LinkAnswer.TheVariants.{Events, SendHeld, Sent, NotSent, DeliverHeld, Stale, New}
use Rattle.spec_link.specs.declared.script.LinkScript.{LinkScript}
use Rattle.spec_link.specs.declared.script.LinkStep.{LinkStep}
use Rattle.spec_link.specs.Links.{Pair, Link, Linked, opened, link_step, link_run}

-- a line of the first controller's report, of the second's, or the answer of a sending or a delivery
pub data OutputLine : Type 0 where
  OfA : List ℕ → OutputLine
  OfB : List ℕ → OutputLine
  OfLink : List ℕ → OutputLine

-- a controller's lines have its letter before them
abbrev pub written : OutputLine → List ℕ
written (OfA line) = codes "a " ++ line
written (OfB line) = codes "b " ++ line
written (OfLink line) = line

-- ---- the lines of a controller

-- the lines that a report of these events keeps
abbrev pub kept : Project → List Event → List Stamped
kept p journal = take MAX_REPORT_LINES (report_lines p journal)

-- those that come where a journal goes on
abbrev pub new_lines : (List ℕ → OutputLine) → Project → List Event → List Event → List OutputLine
new_lines of p old new = map (λ s. of (line_text (names_of p) s)) (drop (length (kept p old)) (kept p new))

abbrev pub end_line : Project → List Event → List ℕ
end_line p journal = end_of (report_of (report_lines p journal) (run p journal) (steps_of journal))
  where
    end_of : Report → List ℕ
    end_of r = end_text r.tick r.step r.mode r.lost

-- ---- answers

abbrev pub delivered : ℕ → List ℕ → List OutputLine
delivered k how = OfLink (line_of (codes "deliver" ∷ decimal k ∷ how ∷ [])) ∷ []

abbrev pub answer_lines : LinkAnswer → List OutputLine
answer_lines Events = []
answer_lines SendHeld = OfLink (line_of (codes "send" ∷ codes "held" ∷ [])) ∷ []
answer_lines (Sent k) = OfLink (line_of (codes "send" ∷ decimal k ∷ [])) ∷ []
answer_lines (NotSent k) = delivered k (codes "none")
answer_lines (DeliverHeld k) = delivered k (codes "held")
answer_lines (Stale k) = delivered k (codes "stale")
answer_lines (New k) = delivered k (codes "new")

-- ---- the output

-- what one line of the script adds: the lines of its events, and then its answer
abbrev pub step_lines : Pair → Link → Linked → List OutputLine
step_lines l s x =
    new_lines OfA l.a s.a x.link.a ++ (new_lines OfB l.b s.b x.link.b ++ answer_lines x.answer)

abbrev pub lines_along : Pair → Link → List LinkStep → List OutputLine
lines_along l s [] = OfA (end_line l.a s.a) ∷ OfB (end_line l.b s.b) ∷ []
lines_along l s (x ∷ xs) = let y = link_step l s x in step_lines l s y ++ lines_along l y.link xs

abbrev pub pair_of : Project → Project → LinkScript → Pair
pair_of a b script = record { a = a; b = b; output = script.output; input = script.input }

abbrev pub output_lines : Project → Project → LinkScript → List OutputLine
output_lines a b script = lines_along (pair_of a b script) opened script.steps

-- the output of a link script on two projects
abbrev pub link_output : Project → Project → LinkScript → List ℕ
link_output a b script = flat_map written (output_lines a b script)

-- ---- each controller's lines

abbrev pub told_of_a : OutputLine → List ℕ
told_of_a (OfA line) = line
told_of_a _ = []

abbrev pub told_of_b : OutputLine → List ℕ
told_of_b (OfB line) = line
told_of_b _ = []

-- all events of each controller
abbrev pub linked_journals : Project → Project → LinkScript → Link
linked_journals a b script = link_run (pair_of a b script) opened script.steps

-- without their letters, a controller's lines are the report of its events
pub record HasReports (a b : Project) (script : LinkScript) : Type 0 where
  pub of_a : flat_map told_of_a (output_lines a b script) ≡ report a (linked_journals a b script).a
  pub of_b : flat_map told_of_b (output_lines a b script) ≡ report b (linked_journals a b script).b

abbrev pub LinesAreReports : Type 0
LinesAreReports = (a b : Project) (script : LinkScript) → HasReports a b script
