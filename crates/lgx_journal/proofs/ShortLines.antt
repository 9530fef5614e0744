-- Lines of processor steps and of ticks in their short form.
use Rattle.std.proofs.Common.{◌≡◌, ℕ, zero, suc, ◌+◌, ◌-◌, ◌*◌, ◌<◌, ◌≤◌, ◌^◌, List, [], ◌∷◌, ◌++◌, length, length-append, take, drop, get_or, Bool, true, false, cond, ◌&&◌, nat_le, nat_lt, Option, Some, None, codes, refl, sym, ap, subst, ◌∙◌, add-one, append_assoc, arith}
use Rattle.std.specs.Str.{all_ascii_digits}
use Rattle.std.specs.Char.{is_ascii_digit}
use Rattle.std.proofs.Math.Seq.{drop-cons}
use Rattle.std.proofs.lemmas.Bool.{and_from, and_parts, le-leb, lt-ltb, leb-true, not_from_false}
use Rattle.std.proofs.lemmas.List.{take-append-drop, take_more, length-take-le}
use Rattle.std.proofs.lemmas.List.Sums.{fold_more}
use Rattle.spec_base.specs.Pieces.{has_byte}
use Rattle.spec_base.specs.declared.limits.TheConstants.{MAX_LINE_BYTES}
use Rattle.spec_machine.specs.declared.event.Event.{Event}
use Rattle.spec_machine.specs.declared.event.Event.TheVariants.{Cpu, Tick}
use Rattle.spec_text.specs.TextLines.{lines, value_of, is_digits, unsigned_of}
use Rattle.spec_text.specs.JournalText.{times, counted_run, is_line}
use Rattle.lgx_journal.specs.Counts.{IsCount, IsFirstLine}
use Rattle.lgx_journal.specs.Written.{event_run}
use Rattle.lgx_journal.proofs.LineSplits.{lines_split, no_return}
use Rattle.lgx_journal.proofs.LinesBack.{IsReadLine, read_count}
use Rattle.lgx_journal.proofs.Numerals.{foreign_digit, some_text}
use Rattle.lgx_journal.proofs.SafeLines.{none_back}
use Rattle.lgx_journal.proofs.Spelled.{is_word, piece_before}
use Rattle.lgx_journal.proofs.TextsBack.{line_says}
use Rattle.lgx_journal.proofs.Verbs.{run_steps, run_ticks}

-- ---- the digits so far

digit_last : (ds : List ℕ) (c : ℕ) → all_ascii_digits ds ≡ true → is_ascii_digit c ≡ true → all_ascii_digits (ds ++ c ∷ []) ≡ true
digit_last [] c h k = and_from _ _ k refl
digit_last (d ∷ ds) c h k = let two = and_parts (is_ascii_digit d) (all_ascii_digits ds) h in and_from _ _ two.0 (digit_last ds c two.1 k)

pub digit_small : (c : ℕ) → is_ascii_digit c ≡ true → c - 48 < 10
digit_small c h = let two = and_parts (nat_le 48 c) (nat_le c 57) h in omega (arith, leb-true 48 c two.0, leb-true c 57 two.1)

pub digits_more : (text : List ℕ) (i : ℕ) → i < length text → all_ascii_digits (take i text) ≡ true → is_ascii_digit (get_or text i 0) ≡ true → all_ascii_digits (take (i + 1) text) ≡ true
digits_more text i h k d = ap all_ascii_digits (take_more text i 0 h) ∙ digit_last (take i text) (get_or text i 0) k d

pub value_more : (text : List ℕ) (i : ℕ) → i < length text → value_of (take (i + 1) text) ≡ value_of (take i text) * 10 + (get_or text i 0 - 48)
value_more text i h = fold_more (λ n c. n * 10 + (c - 48)) 0 text i 0 h

-- ---- digits up to a line feed

some_place : (text : List ℕ) (i count : ℕ) → count ≡ value_of (take i text) → 0 < count → 0 < i
some_place text zero count value some = let none : count ≡ 0 = value in absurd (omega (arith, none))
some_place text (suc i) count value some = omega arith

count_read : (ds : List ℕ) (count : ℕ) → 0 < length ds → length ds ≤ 9 → all_ascii_digits ds ≡ true → count ≡ value_of ds → count < 2 ^ 32 → unsigned_of ds ≡ Some count
count_read ds count some few digits value small =
    let is : is_digits ds ≡ true = and_from _ _ (and_from _ _ (le-leb 1 (length ds) (omega arith)) (le-leb (length ds) 10 (omega arith))) digits in
    let range : nat_lt (value_of ds) (2 ^ 32) ≡ true = lt-ltb (value_of ds) (2 ^ 32) (omega (arith, small, value)) in
    let both : (is_digits ds && nat_lt (value_of ds) (2 ^ 32)) ≡ true = and_from _ _ is range in
    ap (λ b. cond b (Some (value_of ds)) None) both ∙ ap Some (sym value)

pub count_ends : (text after : List ℕ) (i count : ℕ) → i < length text → get_or text i 0 ≡ 10 → i ≤ 9 → all_ascii_digits (take i text) ≡ true → count ≡ value_of (take i text) → count < 2 ^ 32 → 0 < count → after ≡ drop (i + 1) text
    → IsCount text after count
count_ends text after i count h feed few digits value small some rest =
    let size : length (take i text) ≡ i = length-take-le i text (omega arith) in
    record {
      digits = take i text;
      is = sym (take-append-drop i text) ∙ ap (λ t. take i text ++ t) (drop-cons text i 0 h ∙ ap (λ c. c ∷ drop (suc i) text) feed ∙ ap (λ k. 10 ∷ drop k text) (sym (add-one i)) ∙ ap (λ t. 10 ∷ t) (sym rest));
      number = count_read (take i text) count (omega (arith, size, some_place text i count value some)) (omega (arith, size, few)) digits value small;
      some = some;
    }

-- ---- the line of a count

-- what is known of digits that are a number
record AreDigits (ds : List ℕ) : Type 0 where
  pub all : all_ascii_digits ds ≡ true
  pub some : 0 < length ds
  pub few : length ds ≤ 10

no_digits : (ds : List ℕ) (n : ℕ) (o : Option ℕ) → o ≡ None → o ≡ Some n → AreDigits ds
no_digits ds n o e h = absurd (cc)

are_digits : (ds : List ℕ) (n : ℕ) → unsigned_of ds ≡ Some n → AreDigits ds
are_digits ds n h = by_case (is_digits ds && nat_lt (value_of ds) (2 ^ 32)) refl
  where
    by_case : (b : Bool) → (is_digits ds && nat_lt (value_of ds) (2 ^ 32)) ≡ b → AreDigits ds
    by_case false e = no_digits ds n (unsigned_of ds) (ap (λ b. cond b (Some (value_of ds)) None) e) h
    by_case true e =
        let one = and_parts (is_digits ds) (nat_lt (value_of ds) (2 ^ 32)) e in
        let two = and_parts (nat_le 1 (length ds) && nat_le (length ds) 10) (all_ascii_digits ds) one.0 in
        let sizes = and_parts (nat_le 1 (length ds)) (nat_le (length ds) 10) two.0 in
        record { all = two.1; some = omega (arith, leb-true 1 (length ds) sizes.0); few = leb-true (length ds) 10 sizes.1 }

digits_word : (ds : List ℕ) → AreDigits ds → is_word ds ≡ true
digits_word ds a = and_from _ _ (some_text ds a.some) (not_from_false _ (foreign_digit 32 refl ds a.all))

-- a line of two words, of which the second is a number in digits, with no line feed and no return
count_first : (verb text after : List ℕ) (e : Event) (n : ℕ) (c : IsCount text after n) → has_byte 10 (verb ++ 32 ∷ c.digits) ≡ false → has_byte 13 (verb ++ 32 ∷ c.digits) ≡ false → nat_le (length verb) 10 ≡ true
    → IsReadLine (verb ++ 32 ∷ c.digits) (event_run e n) → IsFirstLine (verb ++ 32 ∷ text) after (event_run e n)
count_first verb text after e n c feed back few read =
    let line = verb ++ 32 ∷ c.digits in
    let a = are_digits c.digits n c.number in
    let whole : verb ++ 32 ∷ text ≡ line ++ 10 ∷ after = ap (λ t. verb ++ 32 ∷ t) c.is ∙ sym (append_assoc verb (32 ∷ c.digits) (10 ∷ after)) in
    let short : is_line line ≡ true = le-leb (length line) MAX_LINE_BYTES (omega (arith, length-append verb (32 ∷ c.digits), leb-true (length verb) 10 few, a.few)) in
    record {
      line = line;
      lines = ap lines whole ∙ lines_split (line ++ 10 ∷ after) line after (piece_before 10 line after feed) ∙ ap (λ l. l ∷ lines after) (no_return line (none_back 13 line back));
      skipped = read.skipped;
      end = read.end;
      reads = λ t allowed. line_says t line (event_run e n) read short c.some allowed;
    }

pub steps_first : (text after : List ℕ) (n : ℕ) → IsCount text after n → IsFirstLine (99 ∷ 112 ∷ 117 ∷ 32 ∷ text) after (event_run Cpu n)
steps_first text after n c =
    let a = are_digits c.digits n c.number in
    let run : counted_run (codes "cpu" ∷ c.digits ∷ []) ≡ Some (event_run Cpu n) = run_steps (codes "cpu") c.digits refl ∙ ap (times Cpu) c.number in
    count_first (codes "cpu") text after Cpu n c (foreign_digit 10 refl c.digits a.all) (foreign_digit 13 refl c.digits a.all) refl (read_count Cpu (codes "cpu") c.digits n refl (digits_word c.digits a) run refl refl refl)

pub ticks_first : (text after : List ℕ) (n : ℕ) → IsCount text after n → IsFirstLine (116 ∷ 105 ∷ 99 ∷ 107 ∷ 32 ∷ text) after (event_run Tick n)
ticks_first text after n c =
    let a = are_digits c.digits n c.number in
    let run : counted_run (codes "tick" ∷ c.digits ∷ []) ≡ Some (event_run Tick n) = run_ticks (codes "tick") c.digits refl ∙ ap (times Tick) c.number in
    count_first (codes "tick") text after Tick n c (foreign_digit 10 refl c.digits a.all) (foreign_digit 13 refl c.digits a.all) refl (read_count Tick (codes "tick") c.digits n refl (digits_word c.digits a) run refl refl refl)

pub count_shorter : (text after : List ℕ) (n : ℕ) → IsCount text after n → length after < length text
count_shorter text after n c = omega (arith, ap length c.is, length-append c.digits (10 ∷ after))

pub steps_after : (text rest after : List ℕ) (n : ℕ) → text ≡ codes "cpu " ++ rest → IsCount rest after n → IsFirstLine text after (event_run Cpu n)
steps_after text rest after n is c = subst (λ (t : List ℕ). IsFirstLine t after (event_run Cpu n)) (sym is) (steps_first rest after n c)

pub ticks_after : (text rest after : List ℕ) (n : ℕ) → text ≡ codes "tick " ++ rest → IsCount rest after n → IsFirstLine text after (event_run Tick n)
ticks_after text rest after n is c = subst (λ (t : List ℕ). IsFirstLine t after (event_run Tick n)) (sym is) (ticks_first rest after n c)

-- ---- lines of one

-- the count is the digit 1
one_ends : (after : List ℕ) → IsCount (49 ∷ 10 ∷ after) after 1
one_ends after = record { digits = 49 ∷ []; is = refl; number = refl; some = omega arith }

pub step_first : (text after : List ℕ) → text ≡ codes "cpu 1" ++ 10 ∷ after → IsFirstLine text after (event_run Cpu 1)
step_first text after is = steps_after text (49 ∷ 10 ∷ after) after 1 is (one_ends after)

pub tick_first : (text after : List ℕ) → text ≡ codes "tick 1" ++ 10 ∷ after → IsFirstLine text after (event_run Tick 1)
tick_first text after is = ticks_after text (49 ∷ 10 ∷ after) after 1 is (one_ends after)
