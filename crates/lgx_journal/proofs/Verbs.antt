-- What an edit or an action is, by its verb.
use Rattle.std.proofs.Common.{◌≡◌, ℕ, List, [], ◌∷◌, Bool, true, false, cond, IsTrue, IsSome, IfSome, ◌↔◌, true≢false, sym, Option, Some, None, option_map, codes, refl, ap, ◌∙◌, length, eqb, nat_eq, arith}
use Rattle.std.specs.Option.{option_or}
use Rattle.std.specs.Str.{bytes_eq}
use Rattle.std.proofs.lemmas.Slice.Eq.{bytes_eq-Decides}
use Rattle.spec_machine.specs.declared.event.RungEdit.{RungEdit}
use Rattle.spec_machine.specs.declared.event.Action.{Action}
use Rattle.spec_machine.specs.declared.event.Action.TheVariants.{Test, Untest, Assemble, Cancel}
use Rattle.spec_machine.specs.declared.event.Event.TheVariants.{Cpu, Tick}
use Rattle.spec_text.specs.declared.script.EventRun.{EventRun}
use Rattle.spec_text.specs.TextLines.{unsigned_of, words, first_word, after_word}
use Rattle.spec_text.specs.JournalText.{times, counted_run, at_lane, lane_of}
use Rattle.spec_text.specs.ActionText.{at_word, name_of, one_word_of}
use Rattle.spec_base.proofs.Options.{or_none}
use Rattle.std.proofs.lemmas.Bool.Decides.{nat_tests}
use Rattle.lgx_journal.proofs.WordSplits.{words_next}

is_verb : (verb wanted : List ℕ) → bytes_eq verb wanted ≡ true → verb ≡ wanted
is_verb verb wanted h = (bytes_eq-Decides verb wanted).0 h

-- ---- edits

abbrev by_verb : List ℕ → Option RungEdit → Option RungEdit → Option RungEdit → Option RungEdit
by_verb verb r i d = option_or (at_word verb (codes "r") r) (option_or (at_word verb (codes "i") i) (at_word verb (codes "d") d))

pub edit_replaces : (verb : List ℕ) (r i d : Option RungEdit) → bytes_eq verb (codes "r") ≡ true → by_verb verb r i d ≡ r
edit_replaces verb r i d h = ap (λ v. by_verb v r i d) (is_verb verb (codes "r") h) ∙ or_none r

pub edit_inserts : (verb : List ℕ) (r i d : Option RungEdit) → bytes_eq verb (codes "i") ≡ true → by_verb verb r i d ≡ i
edit_inserts verb r i d h = ap (λ v. by_verb v r i d) (is_verb verb (codes "i") h) ∙ or_none i

pub edit_deletes : (verb : List ℕ) (r i d : Option RungEdit) → bytes_eq verb (codes "d") ≡ true → by_verb verb r i d ≡ d
edit_deletes verb r i d h = ap (λ v. by_verb v r i d) (is_verb verb (codes "d") h)

-- ---- actions of one word

at_verb : (verb wanted word : List ℕ) (o : Option Action) → bytes_eq verb wanted ≡ true → one_word_of wanted word ≡ o → one_word_of verb word ≡ o
at_verb verb wanted word o h e = ap (λ v. one_word_of v word) (is_verb verb wanted h) ∙ e

pub action_tests : (verb word : List ℕ) → bytes_eq verb (codes "test") ≡ true → one_word_of verb word ≡ option_map (λ p. Test p) (name_of word)
action_tests verb word h = at_verb verb (codes "test") word _ h (or_none _)

pub action_untests : (verb word : List ℕ) → bytes_eq verb (codes "untest") ≡ true → one_word_of verb word ≡ option_map (λ p. Untest p) (name_of word)
action_untests verb word h = at_verb verb (codes "untest") word _ h (or_none _)

pub action_assembles : (verb word : List ℕ) → bytes_eq verb (codes "assemble") ≡ true → one_word_of verb word ≡ option_map (λ p. Assemble p) (name_of word)
action_assembles verb word h = at_verb verb (codes "assemble") word _ h (or_none _)

pub action_cancels : (verb word : List ℕ) → bytes_eq verb (codes "cancel") ≡ true → one_word_of verb word ≡ option_map (λ p. Cancel p) (name_of word)
action_cancels verb word h = at_verb verb (codes "cancel") word _ h (or_none _)

pub action_forces : (verb word : List ℕ) → bytes_eq verb (codes "force") ≡ true → one_word_of verb word ≡ one_word_of (codes "force") word
action_forces verb word h = at_verb verb (codes "force") word _ h refl

pub action_modes : (verb word : List ℕ) → bytes_eq verb (codes "mode") ≡ true → one_word_of verb word ≡ one_word_of (codes "mode") word
action_modes verb word h = at_verb verb (codes "mode") word _ h refl

-- ---- names

pub name_is : (o : Option (List ℕ)) (word : List ℕ) (b : Bool) → (IsSome o ↔ IsTrue b) → IfSome o (λ n. n ≡ word) → o ≡ cond b (Some word) None
name_is None word true h e = absurd (true≢false (sym (h.1 refl)))
name_is None word false h e = refl
name_is (Some n) word true h e = ap Some e
name_is (Some n) word false h e = absurd (true≢false (sym (h.0 refl)))

-- ---- counts

counts_at : (verb wanted count : List ℕ) (o : Option EventRun) → bytes_eq verb wanted ≡ true → counted_run (wanted ∷ count ∷ []) ≡ o → counted_run (verb ∷ count ∷ []) ≡ o
counts_at verb wanted count o h e = ap (λ v. counted_run (v ∷ count ∷ [])) (is_verb verb wanted h) ∙ e

pub run_steps : (verb count : List ℕ) → bytes_eq verb (codes "cpu") ≡ true → counted_run (verb ∷ count ∷ []) ≡ times Cpu (unsigned_of count)
run_steps verb count h = counts_at verb (codes "cpu") count _ h (or_none _)

pub run_ticks : (verb count : List ℕ) → bytes_eq verb (codes "tick") ≡ true → counted_run (verb ∷ count ∷ []) ≡ times Tick (unsigned_of count)
run_ticks verb count h = counts_at verb (codes "tick") count _ h refl

none_is_some : {A : Type 0} {x : A} → None ≡ Some x → ⊥
none_is_some e = cc

-- a line that names a lane counts no steps and no ticks
after_sign : (c : ℕ) (digits : List ℕ) (ws : List (List ℕ)) → c ≡ 64 → counted_run ((c ∷ digits) ∷ ws) ≡ None
after_sign c digits [] is = refl
after_sign c digits (count ∷ []) is = ap (λ d. counted_run ((d ∷ digits) ∷ count ∷ [])) is
after_sign c digits (count ∷ more ∷ ws) is = refl

at_sign : (c lane : ℕ) (digits : List ℕ) → at_lane (c ∷ digits) ≡ Some lane → c ≡ 64
at_sign c lane digits e = by_sign (nat_eq c 64) refl
  where
    by_sign : (b : Bool) → nat_eq c 64 ≡ b → c ≡ 64
    by_sign true h = grind (arith, nat_tests)
    by_sign false h = absurd (let none : at_lane (c ∷ digits) ≡ None = rw h refl in none_is_some (sym none ∙ e))

pub lane_counts_none : (line : List ℕ) (o : Option ℕ) (lane : ℕ) → o ≡ lane_of line → o ≡ Some lane → counted_run (words line) ≡ None
lane_counts_none line o lane e is = by_word (first_word line) refl
  where
    by_word : (word : List ℕ) → first_word line ≡ word → counted_run (words line) ≡ None
    by_word [] f = absurd (none_is_some (sym (ap at_lane f) ∙ (sym e ∙ is)))
    by_word (c ∷ digits) f =
        let some : eqb (length (c ∷ digits)) 0 ≡ false = grind (arith, nat_tests) in
        ap counted_run (words_next line (ap (λ w. eqb (length w) 0) f ∙ some) ∙ ap (λ w. w ∷ words (after_word line)) f)
        ∙ after_sign c digits (words (after_word line)) (at_sign c lane digits (sym (ap at_lane f) ∙ (sym e ∙ is)))
