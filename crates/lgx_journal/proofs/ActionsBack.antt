-- Actions that are written are read back.
use Rattle.std.proofs.Common.{◌≡◌, ℕ, ◌<◌, ◌^◌, List, [], ◌∷◌, ◌++◌, length, true, cond, ◌&&◌, ℤ, Option, Some, None, option_map, codes, decimal, refl, ap, ◌∙◌, arith}
use Rattle.std.specs.Fmt.{signed_decimal}
use Rattle.std.specs.List.{list_all}
use Rattle.std.specs.Option.{option_or}
use Rattle.std.proofs.lemmas.Bool.{and_from, and_parts, ltb-true}
use Rattle.lgx_num.specs.Name.{is_name}
use Rattle.spec_machine.specs.Commands.{AcceptCommand, accept_command, is_edit_count}
use Rattle.spec_machine.specs.declared.event.RungEdit.{RungEdit}
use Rattle.spec_machine.specs.declared.event.Action.{Action}
use Rattle.spec_machine.specs.declared.event.Action.TheVariants.{WordIn, WordOut, Accept, Test, Untest, Assemble, Cancel, ForceInstall, ForceEnable, ForceDisable, ForceRemove, ModeRun, ModeProgram, Clear}
use Rattle.spec_text.specs.TextLines.{words, first_word, after_word, spaced, unsigned_of, signed_of}
use Rattle.spec_text.specs.ActionText.{◌>>=◌, at_word, name_of, edits_text, edits_of, accept_of, one_word_of, command_of, action_of, action_words}
use Rattle.lgx_journal.specs.Written.{is_u32, is_i32, is_kept_edit, is_kept_action}
use Rattle.lgx_journal.proofs.EditsBack.{edits_back}
use Rattle.lgx_journal.proofs.Numerals.{unsigned_back, signed_back, decimal_word, signed_word, name_word}
use Rattle.lgx_journal.proofs.Spelled.{is_word, words_spaced, first_here, after_here, first_indented, after_indented}
use Rattle.lgx_journal.proofs.Verbs.{action_tests, action_untests, action_assembles, action_cancels}

name_back : (w : List ℕ) → is_name w ≡ true → name_of w ≡ Some w
name_back w h = ap (λ b. cond b (Some w) None) h

-- ---- a space before an action

abbrev by_words : List ℕ → List ℕ → List (List ℕ) → Option Action
by_words first after ws = option_or (at_word first (codes "accept") (accept_of after)) (command_of ws)

pub action_indented : (text : List ℕ) → action_of (32 ∷ text) ≡ action_of text
action_indented text =
    ap (λ w. by_words w (after_word (32 ∷ text)) (words text)) (first_indented text) ∙ ap (λ t. by_words (first_word text) t (words text)) (after_indented text)

-- ---- accepts

abbrev accepts : Option (List ℕ) → Option (List ℕ) → Option (List RungEdit) → Option Action
accepts p r es = do
  program ← p
  routine ← r
  edits ← es
  Some (Accept (accept_command program routine edits))

accept_words : (p r : List ℕ) (es : List RungEdit) → is_name p ≡ true → is_name r ≡ true → edits_of (32 ∷ edits_text es) ≡ Some es → accept_of (32 ∷ p ++ (32 ∷ r ++ (32 ∷ edits_text es))) ≡ Some (Accept (accept_command p r es))
accept_words p r es h k e =
    let last = 32 ∷ edits_text es in
    let next = 32 ∷ r ++ last in
    let rest = 32 ∷ p ++ next in
    let first_p : first_word rest ≡ p = first_indented (p ++ next) ∙ first_here p next (name_word p h) refl in
    let after_p : after_word rest ≡ next = after_indented (p ++ next) ∙ after_here p next (name_word p h) refl in
    let first_r : first_word next ≡ r = first_indented (r ++ last) ∙ first_here r last (name_word r k) refl in
    let after_r : after_word next ≡ last = after_indented (r ++ last) ∙ after_here r last (name_word r k) refl in
    ap (λ w. accepts (name_of w) (name_of (first_word (after_word rest))) (edits_of (after_word (after_word rest)))) first_p
    ∙ ap (λ t. accepts (name_of p) (name_of (first_word t)) (edits_of (after_word t))) after_p
    ∙ ap (λ w. accepts (name_of p) (name_of w) (edits_of (after_word next))) first_r
    ∙ ap (λ t. accepts (name_of p) (name_of r) (edits_of t)) after_r
    ∙ ap (λ o. accepts o (name_of r) (edits_of last)) (name_back p h)
    ∙ ap (λ o. accepts (Some p) o (edits_of last)) (name_back r k)
    ∙ ap (λ o. accepts (Some p) (Some r) o) e

accept_back : (a : AcceptCommand) → is_kept_action (Accept a) ≡ true → action_of (spaced (action_words (Accept a))) ≡ Some (Accept a)
accept_back a h =
    let three = and_parts (is_name a.program && is_name a.routine && is_edit_count (length a.edits)) (list_all is_kept_edit a.edits) h in
    let two = and_parts (is_name a.program && is_name a.routine) (is_edit_count (length a.edits)) three.0 in
    let names = and_parts (is_name a.program) (is_name a.routine) two.0 in
    ap (λ o. option_or o (command_of (words (spaced (action_words (Accept a)))))) (accept_words a.program a.routine a.edits names.0 names.1 (edits_back a.edits three.1 two.1))

-- ---- the other actions

abbrev outs : Option (List ℕ) → Option ℕ → Option Action
outs conn word = do
  c ← conn
  w ← word
  Some (WordOut c w)

abbrev ins : Option (List ℕ) → Option ℕ → Option ℤ → Option Action
ins conn word value = do
  c ← conn
  w ← word
  v ← value
  Some (WordIn c w v)

abbrev installs : Option (List ℕ) → Option ℕ → Option ℤ → Option ℤ → Option Action
installs conn word mask value = do
  c ← conn
  w ← word
  m ← mask
  v ← value
  Some (ForceInstall c w m v)

out_back : (conn : List ℕ) (word : ℕ) → is_name conn ≡ true → word < 2 ^ 32 → action_of (spaced (action_words (WordOut conn word))) ≡ Some (WordOut conn word)
out_back conn word h k =
    let small : word < 2 ^ 64 = omega arith in
    ap command_of (words_spaced (action_words (WordOut conn word)) (and_from _ _ (name_word conn h) (and_from _ _ (decimal_word word small) refl)))
    ∙ ap (λ o. outs o (unsigned_of (decimal word))) (name_back conn h)
    ∙ ap (λ o. outs (Some conn) o) (unsigned_back word k)

in_back : (conn : List ℕ) (word : ℕ) (value : ℤ) → is_name conn ≡ true → word < 2 ^ 32 → is_i32 value ≡ true → action_of (spaced (action_words (WordIn conn word value))) ≡ Some (WordIn conn word value)
in_back conn word value h k r =
    let small : word < 2 ^ 64 = omega arith in
    ap command_of (words_spaced (action_words (WordIn conn word value)) (and_from _ _ (name_word conn h) (and_from _ _ (decimal_word word small) (and_from _ _ (signed_word value r) refl))))
    ∙ ap (λ o. ins o (unsigned_of (decimal word)) (signed_of (signed_decimal value))) (name_back conn h)
    ∙ ap (λ o. ins (Some conn) o (signed_of (signed_decimal value))) (unsigned_back word k)
    ∙ ap (λ o. ins (Some conn) (Some word) o) (signed_back value r)

install_back : (conn : List ℕ) (word : ℕ) (mask value : ℤ) → is_name conn ≡ true → word < 2 ^ 32 → is_i32 mask ≡ true → is_i32 value ≡ true → action_of (spaced (action_words (ForceInstall conn word mask value))) ≡ Some (ForceInstall conn word mask value)
install_back conn word mask value h k q r =
    let small : word < 2 ^ 64 = omega arith in
    ap command_of (words_spaced (action_words (ForceInstall conn word mask value)) (and_from _ _ (name_word conn h) (and_from _ _ (decimal_word word small) (and_from _ _ (signed_word mask q) (and_from _ _ (signed_word value r) refl)))))
    ∙ ap (λ o. installs o (unsigned_of (decimal word)) (signed_of (signed_decimal mask)) (signed_of (signed_decimal value))) (name_back conn h)
    ∙ ap (λ o. installs (Some conn) o (signed_of (signed_decimal mask)) (signed_of (signed_decimal value))) (unsigned_back word k)
    ∙ ap (λ o. installs (Some conn) (Some word) o (signed_of (signed_decimal value))) (signed_back mask q)
    ∙ ap (λ o. installs (Some conn) (Some word) (Some mask) o) (signed_back value r)

two_words : (verb p : List ℕ) → is_word verb ≡ true → is_name p ≡ true → command_of (words (spaced (verb ∷ p ∷ []))) ≡ one_word_of verb p
two_words verb p v h = ap command_of (words_spaced (verb ∷ p ∷ []) (and_from _ _ v (and_from _ _ (name_word p h) refl)))

named_back : (edit : List ℕ → Action) (p : List ℕ) → is_name p ≡ true → option_map (λ q. edit q) (name_of p) ≡ Some (edit p)
named_back edit p h = ap (λ o. option_map (λ q. edit q) o) (name_back p h)

pub action_back : (a : Action) → is_kept_action a ≡ true → action_of (spaced (action_words a)) ≡ Some a
action_back (WordIn conn word value) h =
    let two = and_parts (is_name conn && is_u32 word) (is_i32 value) h in
    let one = and_parts (is_name conn) (is_u32 word) two.0 in
    in_back conn word value one.0 (ltb-true word (2 ^ 32) one.1) two.1
action_back (WordOut conn word) h = let two = and_parts (is_name conn) (is_u32 word) h in out_back conn word two.0 (ltb-true word (2 ^ 32) two.1)
action_back (Accept a) h = accept_back a h
action_back (Test p) h = two_words (codes "test") p refl h ∙ action_tests (codes "test") p refl ∙ named_back (λ q. Test q) p h
action_back (Untest p) h = two_words (codes "untest") p refl h ∙ action_untests (codes "untest") p refl ∙ named_back (λ q. Untest q) p h
action_back (Assemble p) h = two_words (codes "assemble") p refl h ∙ action_assembles (codes "assemble") p refl ∙ named_back (λ q. Assemble q) p h
action_back (Cancel p) h = two_words (codes "cancel") p refl h ∙ action_cancels (codes "cancel") p refl ∙ named_back (λ q. Cancel q) p h
action_back (ForceInstall conn word mask value) h =
    let three = and_parts (is_name conn && is_u32 word && is_i32 mask) (is_i32 value) h in
    let two = and_parts (is_name conn && is_u32 word) (is_i32 mask) three.0 in
    let one = and_parts (is_name conn) (is_u32 word) two.0 in
    install_back conn word mask value one.0 (ltb-true word (2 ^ 32) one.1) two.1 three.1
action_back ForceEnable h = refl
action_back ForceDisable h = refl
action_back ForceRemove h = refl
action_back ModeRun h = refl
action_back ModeProgram h = refl
action_back Clear h = refl
