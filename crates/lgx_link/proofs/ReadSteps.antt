-- The lines of a link script after its first, one by one.
use Rattle.std.proofs.Common.{◌≡◌, ℕ, ◌+◌, List, [], ◌∷◌, ◌++◌, drop, Bool, true, false, ◌&&◌, nat_eq, Result, Ok, Err, append_assoc, refl, ap, sym, ◌∙◌}
use Rattle.std.specs.List.{prefix_len}
use Rattle.std.proofs.lemmas.List.{append-nil}
use Rattle.spec_base.specs.Pieces.{has_byte}
use Rattle.spec_text.specs.TextLines.{is_space, is_skipped, word_len, after_word}
use Rattle.spec_text.specs.JournalText.{is_end, is_line}
use Rattle.lgx_journal.proofs.Trimmed.{none_in_drop}
use Rattle.spec_link.specs.declared.script.LinkCode.{LinkCode}
use Rattle.spec_link.specs.declared.script.LinkFault.{LinkFault}
use Rattle.spec_link.specs.declared.script.LinkStep.{LinkStep}
use Rattle.spec_link.specs.LinkText.{Counts, with_step, read_step, before_rest, refused, steps_from}
use Rattle.lgx_link.specs.Reading.{after_steps}

-- what stands after a line's first word has no line feed either
pub after_word_clean : (line : List ℕ) → has_byte 10 line ≡ false → has_byte 10 (after_word line) ≡ false
after_word_clean line clean =
    let from = drop (prefix_len is_space line) line in
    none_in_drop (λ c. nat_eq c 10) (word_len from) from (none_in_drop (λ c. nat_eq c 10) (prefix_len is_space line) line clean)

-- ---- what is read of the lines from a line on, by what is known of it

abbrev by_line : Bool → Bool → Result LinkStep LinkCode → ℕ → Counts → List (List ℕ) → Result (List LinkStep) LinkFault
by_line skipped last read n c ls =
    elim skipped [
      | true ↦ steps_from (n + 1) c ls
      | false ↦ elim last [
        | true ↦ Ok []
        | false ↦ elim read [ Err code ↦ refused n code | Ok s ↦ before_rest s (steps_from (n + 1) (with_step c s) ls) ]
      ]
    ]

pub line_skipped : (n : ℕ) (c : Counts) (line : List ℕ) (ls text : List (List ℕ)) → text ≡ line ∷ ls → is_skipped line ≡ true → steps_from n c text ≡ steps_from (n + 1) c ls
line_skipped n c line ls text is h =
    ap (steps_from n c) is ∙ ap (λ b. by_line b (is_end line && is_line line) (read_step c line) n c ls) h

pub line_ends : (before : List LinkStep) (n : ℕ) (c : Counts) (line : List ℕ) (ls text : List (List ℕ)) → text ≡ line ∷ ls → is_skipped line ≡ false → (is_end line && is_line line) ≡ true
    → after_steps before (steps_from n c text) ≡ Ok before
line_ends before n c line ls text is h k =
    ap (λ ls. after_steps before (steps_from n c ls)) is
    ∙ ap (λ b. after_steps before (by_line b (is_end line && is_line line) (read_step c line) n c ls)) h
    ∙ ap (λ b. after_steps before (by_line false b (read_step c line) n c ls)) k ∙ ap Ok (append-nil before)

read_at : (n : ℕ) (c : Counts) (line : List ℕ) (ls text : List (List ℕ)) (read : Result LinkStep LinkCode) → text ≡ line ∷ ls → is_skipped line ≡ false → (is_end line && is_line line) ≡ false → read_step c line ≡ read
    → steps_from n c text ≡ by_line false false read n c ls
read_at n c line ls text read is h k e =
    ap (steps_from n c) is ∙ ap (λ b. by_line b (is_end line && is_line line) (read_step c line) n c ls) h
    ∙ ap (λ b. by_line false b (read_step c line) n c ls) k ∙ ap (λ r. by_line false false r n c ls) e

after_step : (before : List LinkStep) (s : LinkStep) (rest : Result (List LinkStep) LinkFault) → after_steps before (before_rest s rest) ≡ after_steps (before ++ s ∷ []) rest
after_step before s (Err fault) = refl
after_step before s (Ok steps) = ap Ok (sym (append_assoc before (s ∷ []) steps))

pub line_read : (before : List LinkStep) (n : ℕ) (c : Counts) (line : List ℕ) (ls text : List (List ℕ)) (s : LinkStep) → text ≡ line ∷ ls → is_skipped line ≡ false → (is_end line && is_line line) ≡ false → read_step c line ≡ Ok s
    → after_steps before (steps_from n c text) ≡ after_steps (before ++ s ∷ []) (steps_from (n + 1) (with_step c s) ls)
line_read before n c line ls text s is h k e =
    ap (after_steps before) (read_at n c line ls text (Ok s) is h k e) ∙ after_step before s (steps_from (n + 1) (with_step c s) ls)

pub line_refused : (before : List LinkStep) (n : ℕ) (c : Counts) (line : List ℕ) (ls text : List (List ℕ)) (code : LinkCode) → text ≡ line ∷ ls → is_skipped line ≡ false → (is_end line && is_line line) ≡ false → read_step c line ≡ Err code
    → after_steps before (steps_from n c text) ≡ refused n code
line_refused before n c line ls text code is h k e = ap (after_steps before) (read_at n c line ls text (Err code) is h k e)

-- before the first of these lines
pub none_before : (rest : Result (List LinkStep) LinkFault) → after_steps [] rest ≡ rest
none_before (Err fault) = refl
none_before (Ok steps) = refl
