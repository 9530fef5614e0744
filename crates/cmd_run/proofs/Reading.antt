-- The one journal that the text of a run begins with.
use Rattle.std.proofs.Common.{◌≡◌, ℕ, ◌≤◌, List, [], ◌∷◌, ◌++◌, map, take, drop, true, not, nat_lt, nat_eq, Option, Some, None, codes, refl, sym, ap, ◌∙◌, append_assoc, subst, arith}
use Rattle.std.specs.List.{list_all}
use Rattle.std.proofs.lemmas.Bool.{and_from, and_parts, le-leb, ltb-true}
use Rattle.spec_base.specs.declared.limits.TheConstants.{OWN_LANE}
use Rattle.spec_machine.specs.declared.event.Action.TheVariants.{ModeRun}
use Rattle.spec_machine.specs.declared.event.Event.{Event}
use Rattle.spec_machine.specs.declared.event.Event.TheVariants.{Cpu, Tick, Act}
use Rattle.spec_text.specs.declared.script.EventRun.{EventRun}
use Rattle.spec_text.specs.TextLines.{lines, spaced}
use Rattle.spec_text.specs.JournalText.{event_words, events_of, joined, run_of, text}
use Rattle.spec_text.proofs.JoinedRuns.{runs_expand}
use Rattle.spec_schedule.specs.Partial.{is_of_lane}
use Rattle.lgx_journal.specs.Written.{has_lane, is_written, is_kept_run, AreWritten, runs_text}
use Rattle.lgx_journal.proofs.LineSplits.{lines_split, no_return}
use Rattle.lgx_journal.proofs.LinesBack.{line_back}
use Rattle.lgx_journal.proofs.SafeLines.{safe_line}
use Rattle.lgx_journal.proofs.Spelled.{piece_before}
use Rattle.lgx_journal.proofs.TextsBack.{journal_written}
use Rattle.cmd_run.specs.RunText.{BeginsWithOne}

-- ---- the lanes of a partial journal

lane_within : (lanes : ℕ) (e : Event) → lanes ≤ OWN_LANE → is_of_lane lanes e ≡ true → has_lane e ≡ true
lane_within lanes Cpu few h = refl
lane_within lanes Tick few h = refl
lane_within lanes (Act lane a) few h =
    let below = ltb-true lane lanes (and_parts (not (nat_eq lane OWN_LANE)) (nat_lt lane lanes) h).1 in
    le-leb lane OWN_LANE (omega arith)

lanes_within : (lanes : ℕ) (es : List Event) → lanes ≤ OWN_LANE → list_all (is_of_lane lanes) es ≡ true → list_all has_lane es ≡ true
lanes_within lanes [] few h = refl
lanes_within lanes (e ∷ es) few h =
    let two = and_parts (is_of_lane lanes e) (list_all (is_of_lane lanes) es) h in
    and_from _ _ (lane_within lanes e few two.0) (lanes_within lanes es few two.1)

pub journal_lanes : (lanes : ℕ) (es : List Event) → lanes ≤ OWN_LANE → take 1 es ≡ Act OWN_LANE ModeRun ∷ []
    → list_all (is_of_lane lanes) (drop 1 es) ≡ true → list_all has_lane es ≡ true
journal_lanes lanes [] few opening h = absurd (cc)
journal_lanes lanes (e ∷ es) few opening h =
    let first : e ≡ Act OWN_LANE ModeRun = cc in
    let own : has_lane (Act OWN_LANE ModeRun) ≡ true = le-leb OWN_LANE OWN_LANE (omega arith) in
    and_from _ _ (subst (λ (x : Event). has_lane x ≡ true) (sym first) own) (lanes_within lanes es few h)

-- ---- the runs that are read, up to the first line that is none

abbrev event_line : EventRun → List ℕ
event_line r = spaced (event_words r.event r.count)

abbrev until_none : List (Option EventRun) → List EventRun
until_none [] = []
until_none (None ∷ os) = []
until_none (Some r ∷ os) = r ∷ until_none os

text_more : (r : EventRun) (rs : List EventRun) (rest : List ℕ) → runs_text (r ∷ rs) ++ rest ≡ event_line r ++ 10 ∷ (runs_text rs ++ rest)
text_more r rs rest = simp append_assoc

read_on : (rs : List EventRun) (rest : List ℕ) → list_all is_written rs ≡ true → until_none (map run_of (lines (runs_text rs ++ rest))) ≡ rs
read_on [] rest h =
    ap (λ ls. until_none (map run_of ls)) (lines_split (codes "end" ++ 10 ∷ rest) (codes "end") rest (piece_before 10 (codes "end") rest refl))
read_on (r ∷ rs) rest h =
    let two = and_parts (is_written r) (list_all is_written rs) h in
    let safe = safe_line r two.0 in
    let after = runs_text rs ++ rest in
    ap (λ t. until_none (map run_of (lines t))) (text_more r rs rest)
    ∙ ap (λ ls. until_none (map run_of ls)) (lines_split (event_line r ++ 10 ∷ after) (event_line r) after (piece_before 10 (event_line r) after safe.feed))
    ∙ ap (λ l. until_none (run_of l ∷ map run_of (lines after))) (no_return (event_line r) safe.back)
    ∙ ap (λ o. until_none (o ∷ map run_of (lines after))) (line_back r two.0).run
    ∙ ap (λ qs. r ∷ qs) (read_on rs rest two.1)

-- with whatever behind it, the text of a journal is read as this journal's
pub begins_with_one : (journal : List Event) (after : List ℕ) → list_all is_kept_run (joined journal) ≡ true
    → list_all has_lane journal ≡ true → BeginsWithOne (text journal ++ after) journal
begins_with_one journal after kept lanes =
    let written : AreWritten (joined journal) = journal_written journal kept lanes in
    record {
      written = written;
      one = λ runs rest h e.
          ap events_of (sym (read_on runs rest h) ∙ ap (λ t. until_none (map run_of (lines t))) e ∙ read_on (joined journal) after written)
          ∙ runs_expand journal;
    }
