-- The line of a run is read back as the run.
use Rattle.std.proofs.Common.{◌≡◌, ℕ, ◌<◌, ◌^◌, List, [], ◌∷◌, ◌++◌, length, Bool, true, false, ◌&&◌, eqb, nat_eq, nat_le, Some, None, codes, decimal, refl, sym, ap, subst, ◌∙◌, arith}
use Rattle.std.specs.Option.{option_or}
use Rattle.std.specs.Str.{bytes_eq}
use Rattle.std.proofs.lemmas.Bool.{and_from, and_parts, lt-ltb, ltb-true, eqb-true, not_from_false}
use Rattle.std.proofs.lemmas.Bool.Decides.{nat_tests}
use Rattle.spec_base.specs.declared.limits.TheConstants.{OWN_LANE}
use Rattle.spec_machine.specs.declared.event.Action.{Action}
use Rattle.spec_machine.specs.declared.event.Action.TheVariants.{WordIn, WordOut, Accept, Test, Untest, Assemble, Cancel, ForceInstall, ForceEnable, ForceDisable, ForceRemove, ModeRun, ModeProgram, Clear}
use Rattle.spec_machine.specs.declared.event.Event.{Event}
use Rattle.spec_machine.specs.declared.event.Event.TheVariants.{Cpu, Tick, Act}
use Rattle.spec_text.specs.declared.script.EventRun.{EventRun}
use Rattle.spec_text.specs.TextLines.{is_skipped, words, first_word, after_word, spaced}
use Rattle.spec_text.specs.ActionText.{action_of, action_words}
use Rattle.spec_text.specs.JournalText.{at_lane, lane_of, times, action_run, counted_run, lane_run, run_of, is_end, is_lane, lane_words, event_words}
use Rattle.lgx_journal.specs.Journals.{is_run}
use Rattle.lgx_journal.specs.Written.{is_u32, is_kept_action, is_kept_run, is_placed, is_written}
use Rattle.lgx_journal.proofs.ActionsBack.{action_back, action_indented}
use Rattle.lgx_journal.proofs.Numerals.{unsigned_back, decimal_word, clean_decimal}
use Rattle.lgx_journal.proofs.Spelled.{is_word, words_spaced, first_here, after_here}
use Rattle.lgx_journal.proofs.Verbs.{run_steps, run_ticks}
use Rattle.lgx_journal.proofs.WordSplits.{words_next}

-- ---- lines by their first word

-- it is no count's verb and not the word `end`
record NoCount (word : List ℕ) : Type 0 where
  pub some : eqb (length word) 0 ≡ false
  pub steps : bytes_eq word (codes "cpu") ≡ false
  pub ticks : bytes_eq word (codes "tick") ≡ false
  pub more : (ws : List (List ℕ)) → bytes_eq (spaced (word ∷ ws)) (codes "end") ≡ false

no_count : (word : List ℕ) (ws : List (List ℕ)) → NoCount word → counted_run (word ∷ ws) ≡ None
no_count word [] n = refl
no_count word (count ∷ []) n = rw (n.steps, n.ticks) refl
no_count word (count ∷ v ∷ vs) n = refl

no_count_line : (line : List ℕ) → NoCount (first_word line) → counted_run (words line) ≡ None
no_count_line line n = ap counted_run (words_next line n.some) ∙ no_count (first_word line) (words (after_word line)) n

no_end_line : (line : List ℕ) → NoCount (first_word line) → is_end line ≡ false
no_end_line line n = ap (λ ws. bytes_eq (spaced ws) (codes "end")) (words_next line n.some) ∙ n.more (words (after_word line))

-- ---- the lines of actions

abbrev verb_of : Action → List ℕ
verb_of (WordIn conn word value) = codes "in"
verb_of (WordOut conn word) = codes "out"
verb_of (Accept a) = codes "accept"
verb_of (Test program) = codes "test"
verb_of (Untest program) = codes "untest"
verb_of (Assemble program) = codes "assemble"
verb_of (Cancel program) = codes "cancel"
verb_of (ForceInstall conn word mask value) = codes "force"
verb_of ForceEnable = codes "force"
verb_of ForceDisable = codes "force"
verb_of ForceRemove = codes "force"
verb_of ModeRun = codes "mode"
verb_of ModeProgram = codes "mode"
verb_of Clear = codes "clear"

no_end_verb : (a : Action) (ws : List (List ℕ)) → bytes_eq (spaced (verb_of a ∷ ws)) (codes "end") ≡ false
no_end_verb Clear [] = refl
no_end_verb Clear (w ∷ ws) = refl
no_end_verb a [] = refl
no_end_verb a (w ∷ ws) = refl

no_count_verb : (a : Action) → NoCount (verb_of a)
no_count_verb Clear = record { some = refl; steps = refl; ticks = refl; more = no_end_verb Clear }
no_count_verb a = record { some = refl; steps = refl; ticks = refl; more = no_end_verb a }

-- what the line of an action is, alone and after a word
record Begins (a : Action) : Type 0 where
  pub first : first_word (spaced (action_words a)) ≡ verb_of a
  pub lane : lane_of (spaced (action_words a)) ≡ None
  pub skipped : is_skipped (spaced (action_words a)) ≡ false
  pub after : (w : List ℕ) → spaced (w ∷ action_words a) ≡ w ++ 32 ∷ spaced (action_words a)

begins : (a : Action) → Begins a
begins Clear = record { first = refl; lane = refl; skipped = refl; after = λ w. refl }
begins a = record { first = refl; lane = refl; skipped = refl; after = λ w. refl }

-- what is known of the line of a run that a text may have
pub record IsReadLine (line : List ℕ) (r : EventRun) : Type 0 where
  pub run : run_of line ≡ Some r
  pub skipped : is_skipped line ≡ false
  pub end : is_end line ≡ false
  pub lane : is_lane (lane_of line) ≡ true

read_own : (a : Action) → is_kept_action a ≡ true → IsReadLine (spaced (action_words a)) (record { event = Act OWN_LANE a; count = 1 })
read_own a h =
    let line = spaced (action_words a) in
    let b = begins a in
    let n : NoCount (first_word line) = rw b.first (no_count_verb a) in
    record {
      run = ap (λ o. option_or o (option_or (lane_run line (lane_of line)) (action_run OWN_LANE (action_of line)))) (no_count_line line n)
          ∙ ap (λ o. option_or (lane_run line o) (action_run OWN_LANE (action_of line))) b.lane
          ∙ ap (action_run OWN_LANE) (action_back a h);
      skipped = b.skipped;
      end = no_end_line line n;
      lane = ap is_lane b.lane;
    }

lane_word : (lane : ℕ) → lane < 2 ^ 32 → is_word (64 ∷ decimal lane) ≡ true
lane_word lane h = let small : lane < 2 ^ 64 = omega arith in not_from_false _ (clean_decimal 32 lane refl small)

no_count_lane : (lane : ℕ) → NoCount (64 ∷ decimal lane)
no_count_lane lane = record { some = grind arith; steps = refl; ticks = refl; more = more }
  where
    more : (ws : List (List ℕ)) → bytes_eq (spaced ((64 ∷ decimal lane) ∷ ws)) (codes "end") ≡ false
    more [] = refl
    more (w ∷ ws) = refl

read_lane : (lane : ℕ) (a : Action) → lane < OWN_LANE → is_kept_action a ≡ true → IsReadLine (spaced ((64 ∷ decimal lane) ∷ action_words a)) (record { event = Act lane a; count = 1 })
read_lane lane a h k =
    let word = 64 ∷ decimal lane in
    let rest = 32 ∷ spaced (action_words a) in
    let small : lane < 2 ^ 32 = omega arith in
    let is = (begins a).after word in
    let first : first_word (word ++ rest) ≡ word = first_here word rest (lane_word lane small) refl in
    let n : NoCount (first_word (word ++ rest)) = rw first (no_count_lane lane) in
    let at : lane_of (word ++ rest) ≡ Some lane = ap at_lane first ∙ unsigned_back lane small in
    let action : action_of (after_word (word ++ rest)) ≡ Some a = ap action_of (after_here word rest (lane_word lane small) refl) ∙ action_indented (spaced (action_words a)) ∙ action_back a k in
    let read : run_of (word ++ rest) ≡ Some (record { event = Act lane a; count = 1 }) =
    ap (λ o. option_or o (option_or (lane_run (word ++ rest) (lane_of (word ++ rest))) (action_run OWN_LANE (action_of (word ++ rest))))) (no_count_line (word ++ rest) n)
    ∙ ap (λ o. option_or (lane_run (word ++ rest) o) (action_run OWN_LANE (action_of (word ++ rest)))) at
    ∙ ap (λ o. option_or (action_run lane o) (action_run OWN_LANE (action_of (word ++ rest)))) action in
    rw is (record { run = read; skipped = refl; end = no_end_line (word ++ rest) n; lane = ap is_lane at ∙ lt-ltb lane OWN_LANE h })

-- ---- the lines of counts

pub read_count : (e : Event) (verb digits : List ℕ) (n : ℕ) → is_word verb ≡ true → is_word digits ≡ true → counted_run (verb ∷ digits ∷ []) ≡ Some (record { event = e; count = n })
    → is_skipped (verb ++ 32 ∷ digits) ≡ false → bytes_eq (verb ++ 32 ∷ digits) (codes "end") ≡ false → lane_of (verb ++ 32 ∷ digits) ≡ None
    → IsReadLine (spaced (verb ∷ digits ∷ [])) (record { event = e; count = n })
read_count e verb digits n v d run skipped more lane =
    let line = verb ++ 32 ∷ digits in
    let is : words line ≡ verb ∷ digits ∷ [] = words_spaced (verb ∷ digits ∷ []) (and_from _ _ v (and_from _ _ d refl)) in
    record {
      run = ap (λ ws. option_or (counted_run ws) (option_or (lane_run line (lane_of line)) (action_run OWN_LANE (action_of line)))) is
          ∙ ap (λ o. option_or o (option_or (lane_run line (lane_of line)) (action_run OWN_LANE (action_of line)))) run;
      skipped = skipped;
      end = ap (λ ws. bytes_eq (spaced ws) (codes "end")) is ∙ more;
      lane = ap is_lane lane;
    }

-- ---- the line of any run that a text may have

by_lane : (lane : ℕ) (a : Action) (b : Bool) → nat_eq lane OWN_LANE ≡ b → nat_le lane OWN_LANE ≡ true → is_kept_action a ≡ true → IsReadLine (spaced (lane_words lane ++ action_words a)) (record { event = Act lane a; count = 1 })
by_lane lane a true e h k =
    subst (λ (l : ℕ). IsReadLine (spaced (lane_words l ++ action_words a)) (record { event = Act l a; count = 1 })) (sym (eqb-true lane OWN_LANE e)) (read_own a k)
by_lane lane a false e h k = rw e (read_lane lane a (grind (arith, nat_tests)) k)

number_word : (n : ℕ) → n < 2 ^ 32 → is_word (decimal n) ≡ true
number_word n h = decimal_word n (omega arith)

by_event : (e : Event) (n : ℕ) → is_written (record { event = e; count = n }) ≡ true → IsReadLine (spaced (event_words e n)) (record { event = e; count = n })
by_event Cpu n h =
    let small = ltb-true n (2 ^ 32) (and_parts (is_u32 n) (nat_le 1 n && true) h).0 in
    read_count Cpu (codes "cpu") (decimal n) n refl (number_word n small) (run_steps (codes "cpu") (decimal n) refl ∙ ap (times Cpu) (unsigned_back n small)) refl refl refl
by_event Tick n h =
    let small = ltb-true n (2 ^ 32) (and_parts (is_u32 n) (nat_le 1 n && true) h).0 in
    read_count Tick (codes "tick") (decimal n) n refl (number_word n small) (run_ticks (codes "tick") (decimal n) refl ∙ ap (times Tick) (unsigned_back n small)) refl refl refl
by_event (Act lane a) n h =
    let r : EventRun = record { event = Act lane a; count = n } in
    let two = and_parts (is_kept_run r) (is_placed r) h in
    let place = and_parts (nat_le lane OWN_LANE) (is_run r) two.1 in
    let kept = (and_parts (is_kept_action a) (is_u32 n) two.0).0 in
    let once : n ≡ 1 = eqb-true n 1 (and_parts (nat_le 1 n) (nat_eq n 1) place.1).1 in
    subst (λ (k : ℕ). IsReadLine (spaced (lane_words lane ++ action_words a)) (record { event = Act lane a; count = k })) (sym once) (by_lane lane a (nat_eq lane OWN_LANE) refl place.0 kept)

pub line_back : (r : EventRun) → is_written r ≡ true → IsReadLine (spaced (event_words r.event r.count)) r
line_back r h = by_event r.event r.count h
