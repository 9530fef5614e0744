-- The text of an action: how its words are read, and how they are written.
use Rattle.std.specs.Prelude.{ℕ, List, [], ◌∷◌, map, length, if◌then◌else◌, Option, Some, None, option_map, option_and_then, codes, decimal}
use Rattle.std.specs.Fmt.{signed_decimal}
use Rattle.std.specs.List.{join_by}
use Rattle.std.specs.Option.{option_or}
use Rattle.std.specs.Str.{bytes_eq}
use Rattle.lgx_num.specs.Name.{is_name}
use Rattle.spec_machine.specs.declared.event.RungEdit.{RungEdit}
use Rattle.spec_machine.specs.declared.event.RungEdit.TheVariants.{Replace, Insert, Delete}
use Rattle.spec_machine.specs.declared.event.Action.{Action}
use Rattle.spec_machine.specs.declared.event.Action.TheVariants.{WordIn, WordOut, Accept, Test, Untest, Assemble, Cancel, ForceInstall, ForceEnable, ForceDisable, ForceRemove, ModeRun, ModeProgram, Clear}
use Rattle.spec_machine.specs.Commands.{accept_command, is_edit_count}
use Rattle.spec_base.specs.Pieces.{pieces}
use Rattle.spec_text.specs.TextLines.{words, first_word, after_word, spaced, unsigned_of, signed_of}
use Rattle.spec_machine.specs.EditText.{trimmed}

infixl 10 ◌>>=◌
abbrev pub ◌>>=◌ : {A B : Type 0} → Option A → (A → Option B) → Option B
o >>= f = option_and_then f o

-- the answer if the word is this one
abbrev pub at_word : {A : Type 0} → List ℕ → List ℕ → Option A → Option A
at_word word wanted o = if bytes_eq word wanted then o else None

-- all of them, unless one is missing
abbrev pub each_some : {A : Type 0} → List (Option A) → Option (List A)
each_some [] = Some []
each_some (None ∷ os) = None
each_some (Some x ∷ os) = option_map (λ xs. x ∷ xs) (each_some os)

abbrev pub name_of : List ℕ → Option (List ℕ)
name_of word = if is_name word then Some word else None

-- ---- edits

-- `r INDEX TEXT` and `i INDEX TEXT`; TEXT is the rest without the blanks of neutral text at its ends, and may be empty
abbrev pub text_edit_of : (ℕ → List ℕ → RungEdit) → List ℕ → Option RungEdit
text_edit_of edit rest = option_map (λ index. edit index (trimmed (after_word rest))) (unsigned_of (first_word rest))

-- `d INDEX`
abbrev pub delete_of : List (List ℕ) → Option RungEdit
delete_of (index ∷ []) = option_map (λ n. Delete n) (unsigned_of index)
delete_of _ = None

abbrev pub edit_of : List ℕ → Option RungEdit
edit_of part =
    let verb = first_word part in
    let rest = after_word part in
    option_or (at_word verb (codes "r") (text_edit_of (λ n t. Replace n t) rest))
    (option_or (at_word verb (codes "i") (text_edit_of (λ n t. Insert n t) rest)) (at_word verb (codes "d") (delete_of (words rest))))

-- EDITS are parts, as many as an accept may have, separated by `|`
abbrev pub edits_of : List ℕ → Option (List RungEdit)
edits_of text = let parts = pieces 124 text in if is_edit_count (length parts) then each_some (map edit_of parts) else None

-- ---- actions

-- `accept PROGRAM ROUTINE EDITS`, after its first word
abbrev pub accept_of : List ℕ → Option Action
accept_of rest = do
  program ← name_of (first_word rest)
  routine ← name_of (first_word (after_word rest))
  edits ← edits_of (after_word (after_word rest))
  Some (Accept (accept_command program routine edits))

-- `test PROGRAM` and its kin, `force enable` and its kin, `mode run` and `mode program`
abbrev pub one_word_of : List ℕ → List ℕ → Option Action
one_word_of verb word =
    option_or (at_word verb (codes "test") (option_map (λ p. Test p) (name_of word)))
    (option_or (at_word verb (codes "untest") (option_map (λ p. Untest p) (name_of word)))
    (option_or (at_word verb (codes "assemble") (option_map (λ p. Assemble p) (name_of word)))
    (option_or (at_word verb (codes "cancel") (option_map (λ p. Cancel p) (name_of word)))
    (option_or (at_word verb (codes "force") (option_or (at_word word (codes "enable") (Some ForceEnable)) (option_or (at_word word (codes "disable") (Some ForceDisable)) (at_word word (codes "remove") (Some ForceRemove)))))
    (at_word verb (codes "mode") (option_or (at_word word (codes "run") (Some ModeRun)) (at_word word (codes "program") (Some ModeProgram))))))))

-- `out CONN WORD`
abbrev pub word_out_of : List ℕ → List ℕ → Option Action
word_out_of conn word = do
  c ← name_of conn
  w ← unsigned_of word
  Some (WordOut c w)

-- `in CONN WORD VALUE`
abbrev pub word_in_of : List ℕ → List ℕ → List ℕ → Option Action
word_in_of conn word value = do
  c ← name_of conn
  w ← unsigned_of word
  v ← signed_of value
  Some (WordIn c w v)

-- `force CONN WORD MASK VALUE`
abbrev pub install_of : List ℕ → List ℕ → List ℕ → List ℕ → Option Action
install_of conn word mask value = do
  c ← name_of conn
  w ← unsigned_of word
  m ← signed_of mask
  v ← signed_of value
  Some (ForceInstall c w m v)

-- the other actions, by their words
abbrev pub command_of : List (List ℕ) → Option Action
command_of (verb ∷ []) = at_word verb (codes "clear") (Some Clear)
command_of (verb ∷ a ∷ []) = one_word_of verb a
command_of (verb ∷ a ∷ b ∷ []) = at_word verb (codes "out") (word_out_of a b)
command_of (verb ∷ a ∷ b ∷ c ∷ []) = at_word verb (codes "in") (word_in_of a b c)
command_of (verb ∷ a ∷ b ∷ c ∷ d ∷ []) = at_word verb (codes "force") (install_of a b c d)
command_of _ = None

abbrev pub action_of : List ℕ → Option Action
action_of text = option_or (at_word (first_word text) (codes "accept") (accept_of (after_word text))) (command_of (words text))

-- ---- the canonical text

-- an empty TEXT leaves no space after INDEX
abbrev pub text_word : List ℕ → List (List ℕ)
text_word [] = []
text_word (c ∷ cs) = (c ∷ cs) ∷ []

abbrev pub edit_words : RungEdit → List (List ℕ)
edit_words (Replace index text) = codes "r" ∷ decimal index ∷ text_word text
edit_words (Insert index text) = codes "i" ∷ decimal index ∷ text_word text
edit_words (Delete index) = codes "d" ∷ decimal index ∷ []

-- parts of EDITS are separated by ` | `
abbrev pub edits_text : List RungEdit → List ℕ
edits_text edits = join_by (λ e. spaced (edit_words e)) (codes " | ") edits

abbrev pub action_words : Action → List (List ℕ)
action_words (WordIn conn word value) = codes "in" ∷ conn ∷ decimal word ∷ signed_decimal value ∷ []
action_words (WordOut conn word) = codes "out" ∷ conn ∷ decimal word ∷ []
action_words (Accept a) = codes "accept" ∷ a.program ∷ a.routine ∷ edits_text a.edits ∷ []
action_words (Test program) = codes "test" ∷ program ∷ []
action_words (Untest program) = codes "untest" ∷ program ∷ []
action_words (Assemble program) = codes "assemble" ∷ program ∷ []
action_words (Cancel program) = codes "cancel" ∷ program ∷ []
action_words (ForceInstall conn word mask value) = codes "force" ∷ conn ∷ decimal word ∷ signed_decimal mask ∷ signed_decimal value ∷ []
action_words ForceEnable = codes "force" ∷ codes "enable" ∷ []
action_words ForceDisable = codes "force" ∷ codes "disable" ∷ []
action_words ForceRemove = codes "force" ∷ codes "remove" ∷ []
action_words ModeRun = codes "mode" ∷ codes "run" ∷ []
action_words ModeProgram = codes "mode" ∷ codes "program" ∷ []
action_words Clear = codes "clear" ∷ []
