-- A comment before the text of a journal does no harm.
use Rattle.std.proofs.Common.{◌≡◌, ℕ, ◌+◌, ◌<◌, ◌^◌, List, [], ◌∷◌, ◌++◌, Bool, true, false, ◌&&◌, nat_eq, Result, Ok, Err, codes, decimal, refl, ap, ◌∙◌, append_assoc}
use Rattle.std.proofs.lemmas.Bool.{or_from}
use Rattle.std.proofs.lemmas.List.Folds.{list_any-append}
use Rattle.spec_base.specs.Pieces.{has_byte}
use Rattle.spec_machine.specs.declared.event.Event.{Event}
use Rattle.spec_text.specs.declared.script.EventRun.{EventRun}
use Rattle.spec_text.specs.declared.script.JournalCode.{JournalCode}
use Rattle.spec_text.specs.declared.script.JournalFault.{JournalFault}
use Rattle.spec_text.specs.TextLines.{lines, is_skipped, spaced}
use Rattle.spec_text.specs.JournalText.{Tally, is_end, is_line, with_run, no_events, read_line, before_rest, refused, runs_from, all_events, journal_of}
use Rattle.lgx_journal.proofs.LineSplits.{lines_split, no_return}
use Rattle.lgx_journal.proofs.Numerals.{clean_decimal}
use Rattle.lgx_journal.proofs.SafeLines.{none_back}
use Rattle.lgx_journal.proofs.Spelled.{piece_before}
use Rattle.cmd_explore.specs.ToldTexts.{moment_words, comment_line}

-- ---- lines that are read to runs are read to these, whatever their numbers

abbrev Runs : Type 0
Runs = Result (List EventRun) JournalFault

abbrev on_read : ℕ → Tally → List (List ℕ) → Result EventRun JournalCode → Runs
on_read n t ls x = elim x [ Err code ↦ refused n code | Ok r ↦ before_rest r (runs_from (n + 1) (with_run t r) ls) ]

abbrev on_end : ℕ → Tally → List (List ℕ) → Bool → Result EventRun JournalCode → Runs
on_end n t ls b x = elim b [ true ↦ Ok [] | false ↦ on_read n t ls x ]

abbrev on_skip : ℕ → Tally → List (List ℕ) → Bool → Bool → Result EventRun JournalCode → Runs
on_skip n t ls a b x = elim a [ true ↦ runs_from (n + 1) t ls | false ↦ on_end n t ls b x ]

module _ (n m : ℕ) (ls : List (List ℕ)) (rs : List EventRun)
    (later : (t : Tally) (qs : List EventRun) → runs_from (n + 1) t ls ≡ Ok qs → runs_from (m + 1) t ls ≡ Ok qs) where
  rest_also : (t : Tally) (r : EventRun) (x : Runs) → runs_from (n + 1) t ls ≡ x → before_rest r x ≡ Ok rs
      → before_rest r (runs_from (m + 1) t ls) ≡ Ok rs
  rest_also t r (Err e) is h = absurd (cc h)
  rest_also t r (Ok qs) is h = ap (before_rest r) (later t qs is) ∙ h

  read_also : (t : Tally) (x : Result EventRun JournalCode) → on_read n t ls x ≡ Ok rs → on_read m t ls x ≡ Ok rs
  read_also t (Err code) h = absurd (cc h)
  read_also t (Ok r) h = rest_also (with_run t r) r (runs_from (n + 1) (with_run t r) ls) refl h

  end_also : (t : Tally) (b : Bool) (x : Result EventRun JournalCode) → on_end n t ls b x ≡ Ok rs → on_end m t ls b x ≡ Ok rs
  end_also t true x h = h
  end_also t false x h = read_also t x h

  skip_also : (t : Tally) (a b : Bool) (x : Result EventRun JournalCode) → on_skip n t ls a b x ≡ Ok rs → on_skip m t ls a b x ≡ Ok rs
  skip_also t true b x h = later t rs h
  skip_also t false b x h = end_also t b x h

runs_also : (n m : ℕ) (t : Tally) (ls : List (List ℕ)) (rs : List EventRun) → runs_from n t ls ≡ Ok rs → runs_from m t ls ≡ Ok rs
runs_also n m t [] rs h = absurd (cc h)
runs_also n m t (l ∷ ls) rs h =
    skip_also n m ls rs (λ t' qs is. runs_also (n + 1) (m + 1) t' ls qs is) t (is_skipped l) (is_end l && is_line l) (read_line t l) h

events_also : (x y : Runs) (es : List Event) → ((rs : List EventRun) → x ≡ Ok rs → y ≡ Ok rs) → all_events x ≡ Ok es → all_events y ≡ Ok es
events_also (Err e) y es also h = absurd (cc h)
events_also (Ok rs) y es also h = ap all_events (also rs refl) ∙ h

-- ---- a line that is skipped, before others

skipped_first : (line : List ℕ) (ls : List (List ℕ)) (es : List Event) → is_skipped line ≡ true → all_events (runs_from 1 no_events ls) ≡ Ok es
    → all_events (runs_from 1 no_events (line ∷ ls)) ≡ Ok es
skipped_first line ls es skipped h =
    let tail : Runs = on_end 1 no_events ls (is_end line && is_line line) (read_line no_events line) in
    ap (λ (b : Bool). all_events (elim b [ true ↦ runs_from (1 + 1) no_events ls | false ↦ tail ])) skipped
    ∙ events_also (runs_from 1 no_events ls) (runs_from (1 + 1) no_events ls) es (λ rs is. runs_also 1 (1 + 1) no_events ls rs is) h

pub skipped_before : (line text : List ℕ) (es : List Event) → has_byte 10 line ≡ false → has_byte 13 line ≡ false → is_skipped line ≡ true
    → journal_of text ≡ Ok es → journal_of (line ++ 10 ∷ text) ≡ Ok es
skipped_before line text es feed back skipped h =
    let split = lines_split (line ++ 10 ∷ text) line text (piece_before 10 line text feed) in
    let whole = no_return line (none_back 13 line back) in
    ap (λ ls. all_events (runs_from 1 no_events ls)) (split ∙ ap (λ l. l ∷ lines text) whole)
    ∙ skipped_first line (lines text) es skipped h

-- ---- the comment

-- a mark that stands in no word stands in no line of words
joined_none : (m : ℕ) (a b : List ℕ) → nat_eq 32 m ≡ false → has_byte m a ≡ false → has_byte m b ≡ false → has_byte m (a ++ 32 ∷ b) ≡ false
joined_none m a b space in_a in_b = list_any-append (λ c. nat_eq c m) a (32 ∷ b) ∙ or_from _ _ in_a (or_from _ _ space in_b)

behind_none : (m : ℕ) (a : List ℕ) (c : ℕ) → nat_eq c m ≡ false → has_byte m a ≡ false → has_byte m (a ++ c ∷ []) ≡ false
behind_none m a c other in_a = list_any-append (λ x. nat_eq x m) a (c ∷ []) ∙ or_from _ _ in_a (or_from _ _ other refl)

abbrev AllNone : ℕ → List (List ℕ) → Type 0
AllNone m [] = Unit {0}
AllNone m (w ∷ ws) = (has_byte m w ≡ false) × AllNone m ws

spaced_none : (m : ℕ) → nat_eq 32 m ≡ false → (ws : List (List ℕ)) → AllNone m ws → has_byte m (spaced ws) ≡ false
spaced_none m space [] h = refl
spaced_none m space (w ∷ []) h = h.0
spaced_none m space (w ∷ v ∷ ws) h = joined_none m w (spaced (v ∷ ws)) space h.0 (spaced_none m space (v ∷ ws) h.1)

abbrev comment_words : ℕ → ℕ → ℕ → List (List ℕ)
comment_words line steps ticks = codes "#" ∷ codes "line" ∷ decimal line ∷ moment_words steps ticks

feed_none : (line steps ticks : ℕ) → line < 2 ^ 64 → steps < 2 ^ 64 → ticks < 2 ^ 64 → has_byte 10 (spaced (comment_words line steps ticks)) ≡ false
feed_none line steps ticks l s t =
    let clean : (n : ℕ) → n < 2 ^ 64 → has_byte 10 (decimal n) ≡ false = λ n few. clean_decimal 10 n refl few in
    spaced_none 10 refl (comment_words line steps ticks) (refl, (refl, (clean line l, (refl, (refl, (behind_none 10 (decimal steps) 44 refl (clean steps s), (refl, (clean ticks t, tt))))))))

back_none : (line steps ticks : ℕ) → line < 2 ^ 64 → steps < 2 ^ 64 → ticks < 2 ^ 64 → has_byte 13 (spaced (comment_words line steps ticks)) ≡ false
back_none line steps ticks l s t =
    let clean : (n : ℕ) → n < 2 ^ 64 → has_byte 13 (decimal n) ≡ false = λ n few. clean_decimal 13 n refl few in
    spaced_none 13 refl (comment_words line steps ticks) (refl, (refl, (clean line l, (refl, (refl, (behind_none 13 (decimal steps) 44 refl (clean steps s), (refl, (clean ticks t, tt))))))))

-- a journal's text is read as before with the comment in front
pub read_behind : (line steps ticks : ℕ) (text : List ℕ) (es : List Event) → line < 2 ^ 64 → steps < 2 ^ 64 → ticks < 2 ^ 64
    → journal_of text ≡ Ok es → journal_of (comment_line line steps ticks ++ text) ≡ Ok es
unfolding comment_line
read_behind line steps ticks text es l s t h =
    let front = spaced (comment_words line steps ticks) in
    ap journal_of (append_assoc front (10 ∷ []) text)
    ∙ skipped_before front text es (feed_none line steps ticks l s t) (back_none line steps ticks l s t) refl h
