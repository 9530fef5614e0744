-- A text that is read as a journal is read as the same one with anything behind it: the line `end` ends it.
use Rattle.std.proofs.Common.{◌≡◌, ℕ, ◌+◌, List, [], ◌∷◌, ◌++◌, map, Bool, true, false, ◌&&◌, nat_eq, Result, Ok, Err, codes, refl, sym, ap, ◌∙◌, append_assoc, append-nil}
use Rattle.std.specs.List.{flat_map}
use Rattle.spec_base.specs.Pieces.{pieces, cut}
use Rattle.spec_base.proofs.Splits.{some_piece}
use Rattle.spec_machine.specs.declared.event.Event.{Event}
use Rattle.spec_text.specs.declared.script.EventRun.{EventRun}
use Rattle.spec_text.specs.declared.script.JournalCode.{JournalCode}
use Rattle.spec_text.specs.declared.script.JournalFault.{JournalFault}
use Rattle.spec_text.specs.TextLines.{lines, lines_of_pieces, without_return, is_skipped, line_of}
use Rattle.spec_text.specs.JournalText.{Tally, event_words, joined, is_end, is_line, with_run, no_events, read_line, before_rest, refused, runs_from, all_events, journal_of, text}
use Rattle.lgx_journal.specs.Written.{AreWritten, IsReadable}
use Rattle.lgx_journal.proofs.TextsBack.{journal_back}

-- ---- the lines of a text, and of what is behind its line feed

cut_more : (b : Bool) (c : ℕ) (p : List ℕ) (ps qs : List (List ℕ)) → cut b c ((p ∷ ps) ++ qs) ≡ cut b c (p ∷ ps) ++ qs
cut_more true c p ps qs = refl
cut_more false c p ps qs = refl

pieces_more : (before behind : List ℕ) → pieces 10 (before ++ 10 ∷ behind) ≡ pieces 10 before ++ pieces 10 behind
pieces_more [] behind = refl
pieces_more (c ∷ cs) behind =
    let some = some_piece 10 cs in
    ap (cut (nat_eq c 10) c) (pieces_more cs behind)
    ∙ ap (λ ps. cut (nat_eq c 10) c (ps ++ pieces 10 behind)) some.2
    ∙ cut_more (nat_eq c 10) c some.0 some.1 (pieces 10 behind)
    ∙ ap (λ ps. cut (nat_eq c 10) c ps ++ pieces 10 behind) (sym some.2)

lines_of_more : (ps : List (List ℕ)) (q : List ℕ) (qs : List (List ℕ)) → lines_of_pieces (ps ++ q ∷ qs) ≡ map without_return ps ++ lines_of_pieces (q ∷ qs)
lines_of_more [] q qs = refl
lines_of_more (p ∷ []) q qs = refl
lines_of_more (p ∷ r ∷ ps) q qs = ap (λ ls. without_return p ∷ ls) (lines_of_more (r ∷ ps) q qs)

lines_more : (before behind : List ℕ) → lines (before ++ 10 ∷ behind) ≡ map without_return (pieces 10 before) ++ lines behind
lines_more before behind =
    let some = some_piece 10 behind in
    let front = pieces 10 before in
    ap lines_of_pieces (pieces_more before behind)
    ∙ ap (λ ps. lines_of_pieces (front ++ ps)) some.2
    ∙ lines_of_more front some.0 some.1
    ∙ ap (λ ps. map without_return front ++ lines_of_pieces ps) (sym some.2)

-- ---- the runs that lines are read to, and more lines

abbrev Runs : Type 0
Runs = Result (List EventRun) JournalFault

abbrev on_read : ℕ → Tally → List (List ℕ) → Result EventRun JournalCode → Runs
on_read n t ls x = elim x [ Err code ↦ refused n code | Ok r ↦ before_rest r (runs_from (n + 1) (with_run t r) ls) ]

abbrev on_end : ℕ → Tally → List (List ℕ) → Bool → Result EventRun JournalCode → Runs
on_end n t ls b x = elim b [ true ↦ Ok [] | false ↦ on_read n t ls x ]

abbrev on_skip : ℕ → Tally → List (List ℕ) → Bool → Bool → Result EventRun JournalCode → Runs
on_skip n t ls a b x = elim a [ true ↦ runs_from (n + 1) t ls | false ↦ on_end n t ls b x ]

module _ (n : ℕ) (ls more : List (List ℕ)) (rs : List EventRun)
    (rest : (t : Tally) (qs : List EventRun) → runs_from (n + 1) t ls ≡ Ok qs → runs_from (n + 1) t (ls ++ more) ≡ Ok qs) where
  rest_more : (t : Tally) (r : EventRun) (x : Runs) → runs_from (n + 1) t ls ≡ x → before_rest r x ≡ Ok rs
      → before_rest r (runs_from (n + 1) t (ls ++ more)) ≡ Ok rs
  rest_more t r (Err e) is h = absurd (cc h)
  rest_more t r (Ok qs) is h = ap (before_rest r) (rest t qs is) ∙ h

  read_more : (t : Tally) (x : Result EventRun JournalCode) → on_read n t ls x ≡ Ok rs → on_read n t (ls ++ more) x ≡ Ok rs
  read_more t (Err code) h = h
  read_more t (Ok r) h = rest_more (with_run t r) r (runs_from (n + 1) (with_run t r) ls) refl h

  end_more : (t : Tally) (b : Bool) (x : Result EventRun JournalCode) → on_end n t ls b x ≡ Ok rs → on_end n t (ls ++ more) b x ≡ Ok rs
  end_more t true x h = h
  end_more t false x h = read_more t x h

  skip_more : (t : Tally) (a b : Bool) (x : Result EventRun JournalCode) → on_skip n t ls a b x ≡ Ok rs → on_skip n t (ls ++ more) a b x ≡ Ok rs
  skip_more t true b x h = rest t rs h
  skip_more t false b x h = end_more t b x h

runs_more : (n : ℕ) (t : Tally) (ls more : List (List ℕ)) (rs : List EventRun) → runs_from n t ls ≡ Ok rs → runs_from n t (ls ++ more) ≡ Ok rs
runs_more n t [] more rs h = absurd (cc h)
runs_more n t (l ∷ ls) more rs h =
    skip_more n ls more rs (λ t' qs is. runs_more (n + 1) t' ls more qs is) t (is_skipped l) (is_end l && is_line l) (read_line t l) h

-- ---- the journal

events_more : (x y : Runs) (es : List Event) → ((rs : List EventRun) → x ≡ Ok rs → y ≡ Ok rs) → all_events x ≡ Ok es → all_events y ≡ Ok es
events_more (Err e) y es more h = absurd (cc h)
events_more (Ok rs) y es more h = ap all_events (more rs refl) ∙ h

journal_more : (before behind : List ℕ) (es : List Event) → journal_of (before ++ 10 ∷ []) ≡ Ok es → journal_of (before ++ 10 ∷ behind) ≡ Ok es
journal_more before behind es h =
    let front = map without_return (pieces 10 before) in
    let alone : lines (before ++ 10 ∷ []) ≡ front = lines_more before [] ∙ append-nil front in
    ap (λ ls. all_events (runs_from 1 no_events ls)) (lines_more before behind)
    ∙ events_more (runs_from 1 no_events front) (runs_from 1 no_events (front ++ lines behind)) es (λ rs is. runs_more 1 no_events front (lines behind) rs is)
    (ap (λ ls. all_events (runs_from 1 no_events ls)) (sym alone) ∙ h)

-- within its limits a journal is read off its text, whatever stands behind it
pub journal_before : (es : List Event) (behind : List ℕ) → AreWritten (joined es) → IsReadable es → journal_of (text es ++ behind) ≡ Ok es
journal_before es behind written readable =
    let runs = flat_map (λ r. line_of (event_words r.event r.count)) (joined es) in
    let before = runs ++ codes "end" in
    ap journal_of (append_assoc before (10 ∷ []) behind) ∙ journal_more before behind es (journal_back es written readable)
