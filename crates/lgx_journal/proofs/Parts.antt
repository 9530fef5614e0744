-- The parts of a text between marks, and the edits that they are.
use Rattle.std.proofs.Common.{◌≡◌, ℕ, ◌≤◌, ◌<◌, List, [], ◌∷◌, ◌++◌, length, length-append, length-drop, drop, map, Bool, true, false, cond, not, ◌||◌, nat_le, nat_eq, Option, Some, None, option_map, IsTrue, IfSome, refl, sym, ap, ◌∙◌, arith, true≢false}
use Rattle.std.specs.List.{list_any, prefix_len}
use Rattle.std.proofs.lemmas.Bool.{and_from, and_parts, leb-true, le-leb, not-true, not_from_false}
use Rattle.std.proofs.lemmas.List.{length-map}
use Rattle.std.proofs.lemmas.List.Folds.{list_any-append}
use Rattle.spec_base.specs.declared.limits.TheConstants.{MAX_LINE_BYTES, MAX_EDITS}
use Rattle.spec_base.specs.Pieces.{pieces, has_byte}
use Rattle.std.proofs.lemmas.Bool.Decides.{nat_tests}
use Rattle.spec_machine.specs.Commands.{is_edit_count}
use Rattle.spec_machine.specs.declared.event.RungEdit.{RungEdit}
use Rattle.spec_text.specs.ActionText.{each_some, edit_of, edits_of}
use Rattle.spec_text.specs.TextLines.{is_space, word_len, after_word}
use Rattle.lgx_journal.proofs.Trimmed.{none_in_drop}
use Rattle.lgx_journal.specs.Lines.{is_plain, is_part}
use Rattle.spec_base.proofs.Options.{front_more}
use Rattle.std.proofs.lemmas.Bool.{or_parts}

-- ---- the parts of a plain text

foreign_none : (text : List ℕ) → has_byte 10 text ≡ false → has_byte 124 text ≡ false → list_any (λ c. nat_eq c 10 || nat_eq c 124) text ≡ false
foreign_none [] h k = refl
foreign_none (c ∷ cs) h k = by_case (nat_eq c 10) (nat_eq c 124) (has_byte 10 cs) (has_byte 124 cs) _ h k (foreign_none cs)
  where
    by_case : (a b x y z : Bool) → (a || x) ≡ false → (b || y) ≡ false → (x ≡ false → y ≡ false → z ≡ false) → ((a || b) || z) ≡ false
    by_case true b x y z h k i = absurd (true≢false h)
    by_case false true x y z h k i = absurd (true≢false k)
    by_case false false x y z h k i = i h k

pub part_whole : (text : List ℕ) → IsTrue (is_plain text) → has_byte 124 text ≡ false → IsTrue (is_part text)
part_whole text is clean =
    let both = and_parts (nat_le (length text) MAX_LINE_BYTES) (not (has_byte 10 text)) is in
    and_from _ _ both.0 (not_from_false _ (foreign_none text (not-true _ both.1) clean))

-- what stands before a mark, and what after it
record Sides (front back : List ℕ) : Type 0 where
  pub before : IsTrue (is_plain front)
  pub after : IsTrue (is_plain back)

sides : (mark : ℕ) (text before after : List ℕ) → text ≡ before ++ mark ∷ after → IsTrue (is_plain text) → Sides before after
sides mark text before after e is =
    let both = and_parts (nat_le (length text) MAX_LINE_BYTES) (not (has_byte 10 text)) is in
    let fits = leb-true (length text) MAX_LINE_BYTES both.0 in
    let size = ap length e ∙ length-append before (mark ∷ after) in
    let none = sym (ap (has_byte 10) e ∙ list_any-append (λ c. nat_eq c 10) before (mark ∷ after)) ∙ not-true _ both.1 in
    let later = (or_parts (nat_eq mark 10) (has_byte 10 after) (or_parts (has_byte 10 before) (nat_eq mark 10 || has_byte 10 after) none).1).1 in
    record {
      before = and_from _ _ (le-leb (length before) MAX_LINE_BYTES (omega arith)) (not_from_false _ (or_parts (has_byte 10 before) (nat_eq mark 10 || has_byte 10 after) none).0);
      after = and_from _ _ (le-leb (length after) MAX_LINE_BYTES (omega arith)) (not_from_false _ later);
    }

pub plain_after : (mark : ℕ) (text before after : List ℕ) → text ≡ before ++ mark ∷ after → IsTrue (is_plain text) → IsTrue (is_plain after)
plain_after mark text before after e is = (sides mark text before after e is).after

pub part_before : (text before after : List ℕ) → text ≡ before ++ 124 ∷ after → has_byte 124 before ≡ false → IsTrue (is_plain text) → IsTrue (is_part before)
part_before text before after e clean is = part_whole before (sides 124 text before after e is).before clean

-- a line that isn't too long
pub line_is_plain : (line : List ℕ) → has_byte 10 line ≡ false → length line ≤ MAX_LINE_BYTES → IsTrue (is_plain line)
line_is_plain line clean h = and_from _ _ (le-leb (length line) MAX_LINE_BYTES h) (not_from_false _ clean)

-- what stands after a word
pub plain_after_word : (text : List ℕ) → IsTrue (is_plain text) → IsTrue (is_plain (after_word text))
plain_after_word text is =
    let both = and_parts (nat_le (length text) MAX_LINE_BYTES) (not (has_byte 10 text)) is in
    let fits = leb-true (length text) MAX_LINE_BYTES both.0 in
    let from = drop (prefix_len is_space text) text in
    let none = none_in_drop (λ c. nat_eq c 10) (word_len from) from (none_in_drop (λ c. nat_eq c 10) (prefix_len is_space text) text (not-true _ both.1)) in
    and_from _ _ (le-leb (length (after_word text)) MAX_LINE_BYTES (omega (arith, length-drop (word_len from) from, length-drop (prefix_len is_space text) text))) (not_from_false _ none)

-- ---- the edits of parts

each_length : {A : Type 0} (os : List (Option A)) → IfSome (each_some os) (λ xs. length xs ≡ length os)
each_length [] = refl
each_length (None ∷ os) = tt
each_length {A = A} (Some x ∷ os) = onto (each_some os) (each_length os)
  where
    onto : (o : Option (List A)) → IfSome o (λ xs. length xs ≡ length os) → IfSome (option_map (λ xs. x ∷ xs) o) (λ xs. length xs ≡ length (Some x ∷ os))
    onto None h = tt
    onto (Some xs) h = omega arith

some_is_none : {A : Type 0} {x : A} → Some x ≡ None → ⊥
some_is_none e = cc

-- a part that is an edit, and the edits of the parts after it
pub part_added : (done now : List RungEdit) (part : List ℕ) (parts : List (List ℕ)) → Some now ≡ option_map (λ e. done ++ e ∷ []) (edit_of part)
    → option_map (λ es. now ++ es) (each_some (map edit_of parts)) ≡ option_map (λ es. done ++ es) (each_some (map edit_of (part ∷ parts)))
part_added done now part parts = go (edit_of part)
  where
    go : (o : Option RungEdit) → Some now ≡ option_map (λ e. done ++ e ∷ []) o → option_map (λ es. now ++ es) (each_some (map edit_of parts)) ≡ option_map (λ es. done ++ es) (each_some (o ∷ map edit_of parts))
    go None h = absurd (some_is_none h)
    go (Some e) h = let same : now ≡ done ++ e ∷ [] = cc in rw same (front_more done e (each_some (map edit_of parts)))

-- a part that is none
pub part_missing : (done : List RungEdit) (part : List ℕ) (parts : List (List ℕ)) → None ≡ option_map (λ e. done ++ e ∷ []) (edit_of part) → None ≡ option_map (λ es. done ++ es) (each_some (map edit_of (part ∷ parts)))
part_missing done part parts = go (edit_of part)
  where
    go : (o : Option RungEdit) → None ≡ option_map (λ e. done ++ e ∷ []) o → None ≡ option_map (λ es. done ++ es) (each_some (o ∷ map edit_of parts))
    go None h = refl
    go (Some e) h = absurd (some_is_none (sym h))

-- the last part
pub part_last : (done : List RungEdit) (part : List ℕ) → option_map (λ e. done ++ e ∷ []) (edit_of part) ≡ option_map (λ es. done ++ es) (each_some (map edit_of (part ∷ [])))
part_last done part = go (edit_of part)
  where
    go : (o : Option RungEdit) → option_map (λ e. done ++ e ∷ []) o ≡ option_map (λ es. done ++ es) (each_some (o ∷ []))
    go None = refl
    go (Some e) = refl

-- ---- as many as an accept may have

parts_counted : (text : List ℕ) (es : List RungEdit) → Some es ≡ each_some (map edit_of (pieces 124 text)) → length es ≡ length (pieces 124 text)
parts_counted text es is =
    counted (each_some (map edit_of (pieces 124 text))) is (each_length (map edit_of (pieces 124 text))) ∙ length-map (pieces 124 text) edit_of
  where
    counted : (o : Option (List RungEdit)) → Some es ≡ o → IfSome o (λ xs. length xs ≡ length (map edit_of (pieces 124 text))) → length es ≡ length (map edit_of (pieces 124 text))
    counted None e h = absurd (some_is_none e)
    counted (Some xs) e h = (let same : es ≡ xs = cc in ap length same) ∙ h

edits_counted : (text : List ℕ) (es : List RungEdit) → Some es ≡ each_some (map edit_of (pieces 124 text)) → edits_of text ≡ cond (is_edit_count (length es)) (Some es) None
edits_counted text es is =
    ap (λ n. cond (is_edit_count n) (each_some (map edit_of (pieces 124 text))) None) (sym (parts_counted text es is)) ∙ ap (λ o. cond (is_edit_count (length es)) o None) (sym is)

pub edits_few : (text : List ℕ) (es : List RungEdit) → Some es ≡ each_some (map edit_of (pieces 124 text)) → 1 ≤ length es → length es ≤ MAX_EDITS → Some es ≡ edits_of text
edits_few text es is h k =
    let yes : is_edit_count (length es) ≡ true = and_from _ _ (le-leb 1 (length es) h) (le-leb (length es) MAX_EDITS k) in
    sym (edits_counted text es is ∙ rw yes refl)

pub edits_none : (text : List ℕ) (es : List RungEdit) → Some es ≡ each_some (map edit_of (pieces 124 text)) → length es ≡ 0 → None ≡ edits_of text
edits_none text es is h = sym (edits_counted text es is ∙ rw h refl)

pub edits_many : (text : List ℕ) (es : List RungEdit) → Some es ≡ each_some (map edit_of (pieces 124 text)) → MAX_EDITS < length es → None ≡ edits_of text
edits_many text es is h =
    let no : is_edit_count (length es) ≡ false = grind (arith, nat_tests) in
    sym (edits_counted text es is ∙ rw no refl)
