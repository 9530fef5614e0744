-- No line feed stands in the line of a run, and no carriage return at its end.
use Rattle.std.proofs.Common.{◌≡◌, ℕ, ◌+◌, ◌<◌, ◌^◌, List, [], ◌∷◌, ◌++◌, length, reverse, Bool, true, false, ◌&&◌, ◌||◌, nat_eq, nat_le, ℤ, codes, decimal, refl, sym, ap, subst, ◌∙◌, append_assoc, append-nil, cond, arith}
use Rattle.std.specs.Fmt.{signed_decimal}
use Rattle.std.specs.List.{list_all, prefix_len, suffix_len}
use Rattle.std.proofs.lemmas.Bool.{and_parts, or_from, or_parts, leb-true, ltb-true}
use Rattle.std.proofs.lemmas.List.{reverse-append}
use Rattle.std.proofs.lemmas.List.Folds.{list_any-append}
use Rattle.lgx_num.specs.Name.{is_name}
use Rattle.lgx_rung.specs.Tokens.{is_blank}
use Rattle.spec_base.specs.declared.limits.TheConstants.{OWN_LANE}
use Rattle.spec_machine.specs.Commands.{is_edit_count}
use Rattle.spec_machine.specs.EditText.{is_edit_text}
use Rattle.spec_machine.specs.declared.event.RungEdit.{RungEdit}
use Rattle.spec_machine.specs.declared.event.RungEdit.TheVariants.{Replace, Insert, Delete}
use Rattle.spec_machine.specs.declared.event.Action.{Action}
use Rattle.spec_machine.specs.declared.event.Action.TheVariants.{WordIn, WordOut, Accept, Test, Untest, Assemble, Cancel, ForceInstall, Clear}
use Rattle.spec_machine.specs.declared.event.Event.{Event}
use Rattle.spec_machine.specs.declared.event.Event.TheVariants.{Cpu, Tick, Act}
use Rattle.spec_text.specs.declared.script.EventRun.{EventRun}
use Rattle.spec_text.specs.TextLines.{spaced}
use Rattle.spec_text.specs.ActionText.{text_word, edit_words, edits_text, action_words}
use Rattle.spec_text.specs.JournalText.{lane_words, event_words}
use Rattle.lgx_journal.specs.Journals.{is_run}
use Rattle.spec_base.specs.Pieces.{has_byte}
use Rattle.lgx_journal.specs.Written.{is_u32, is_i32, is_kept_edit, is_kept_action, is_kept_run, is_placed, is_written}
use Rattle.lgx_journal.proofs.EditsBack.{is_trimmed, no_end, edit_text_clean}
use Rattle.lgx_journal.proofs.LineSplits.{is_return}
use Rattle.lgx_journal.proofs.Numerals.{clean_decimal, clean_signed, clean_name}
use Rattle.lgx_journal.proofs.Prefixes.{none_more, front_more}

pub record IsSafe (text : List ℕ) : Type 0 where
  pub feed : has_byte 10 text ≡ false
  pub back : suffix_len is_return text ≡ 0

-- ---- the end of a text

front_none : (p : ℕ → Bool) (front : List ℕ) (c : ℕ) (bs : List ℕ) → p c ≡ false → prefix_len p front ≡ 0 → prefix_len p (front ++ c ∷ bs) ≡ 0
front_none p [] c bs h k = none_more p c bs h
front_none p (a ∷ front) c bs h k = front_more p a front (front ++ c ∷ bs) (p a) refl k

back_none : (p : ℕ → Bool) (xs : List ℕ) (c : ℕ) (ys : List ℕ) → p c ≡ false → suffix_len p ys ≡ 0 → suffix_len p (xs ++ c ∷ ys) ≡ 0
back_none p xs c ys h k =
    ap (prefix_len p) (reverse-append xs (c ∷ ys) ∙ ap (λ zs. zs ++ reverse xs) (reverse-append (c ∷ []) ys))
    ∙ ap (prefix_len p) (append_assoc (reverse ys) (c ∷ []) (reverse xs))
    ∙ front_none p (reverse ys) c (reverse xs) h k

pub none_back : (m : ℕ) (text : List ℕ) → has_byte m text ≡ false → suffix_len (λ c. nat_eq c m) text ≡ 0
none_back m [] h = refl
none_back m (c ∷ cs) h = let two = or_parts (nat_eq c m) (has_byte m cs) h in back_none (λ c. nat_eq c m) [] c cs two.0 (none_back m cs two.1)

no_blank_first : (text : List ℕ) → prefix_len is_blank text ≡ 0 → prefix_len is_return text ≡ 0
no_blank_first [] h = refl
no_blank_first (c ∷ cs) h = by_case (is_blank c) refl
  where
    by_case : (b : Bool) → is_blank c ≡ b → prefix_len is_return (c ∷ cs) ≡ 0
    by_case true e = absurd (let k : 1 + prefix_len is_blank cs ≡ 0 = sym (ap (λ b. cond b (1 + prefix_len is_blank cs) 0) e) ∙ h in omega (arith, k))
    by_case false e = none_more is_return c cs (or_parts (nat_eq c 32 || nat_eq c 9) (nat_eq c 13) (or_parts (nat_eq c 32 || nat_eq c 9 || nat_eq c 13) (nat_eq c 10) e).0).1

-- ---- words with a space between each two

safe_none : (text : List ℕ) → has_byte 10 text ≡ false → has_byte 13 text ≡ false → IsSafe text
safe_none text h k = record { feed = h; back = none_back 13 text k }

safe_join : (a b : List ℕ) → IsSafe a → IsSafe b → IsSafe (a ++ 32 ∷ b)
safe_join a b s t = record {
  feed = list_any-append (λ c. nat_eq c 10) a (32 ∷ b) ∙ or_from _ _ s.feed t.feed;
  back = back_none is_return a 32 b refl t.back;
}

abbrev AllSafe : List (List ℕ) → Type 0
AllSafe [] = Unit {0}
AllSafe (w ∷ ws) = IsSafe w × AllSafe ws

safe_spaced : (ws : List (List ℕ)) → AllSafe ws → IsSafe (spaced ws)
safe_spaced [] s = safe_none [] refl refl
safe_spaced (w ∷ []) s = s.0
safe_spaced (w ∷ v ∷ ws) s = safe_join w (spaced (v ∷ ws)) s.0 (safe_spaced (v ∷ ws) s.1)

-- ---- the words of an event

safe_number : (n : ℕ) → is_u32 n ≡ true → IsSafe (decimal n)
safe_number n h =
    let small = ltb-true n (2 ^ 32) h in
    let few : n < 2 ^ 64 = omega arith in
    safe_none (decimal n) (clean_decimal 10 n refl few) (clean_decimal 13 n refl few)

safe_value : (v : ℤ) → is_i32 v ≡ true → IsSafe (signed_decimal v)
safe_value v h = safe_none (signed_decimal v) (clean_signed 10 v refl refl h) (clean_signed 13 v refl refl h)

safe_name : (w : List ℕ) → is_name w ≡ true → IsSafe w
safe_name w h = safe_none w (clean_name 10 w refl h) (clean_name 13 w refl h)

safe_text : (text : List ℕ) → is_edit_text text ≡ true → IsSafe text
safe_text text h = record { feed = (edit_text_clean text h).0; back = no_blank_first (reverse text) (no_end text (is_trimmed text h)) }

safe_numbered : (verb : List ℕ) (index : ℕ) (text : List ℕ) → IsSafe verb → is_u32 index ≡ true → is_edit_text text ≡ true → IsSafe (spaced (verb ∷ decimal index ∷ text_word text))
safe_numbered verb index [] s h k = safe_spaced (verb ∷ decimal index ∷ []) (s, (safe_number index h, tt))
safe_numbered verb index (c ∷ cs) s h k = safe_spaced (verb ∷ decimal index ∷ (c ∷ cs) ∷ []) (s, (safe_number index h, (safe_text (c ∷ cs) k, tt)))

safe_edit : (e : RungEdit) → is_kept_edit e ≡ true → IsSafe (spaced (edit_words e))
safe_edit (Replace index text) h = let two = and_parts (is_u32 index) (is_edit_text text) h in safe_numbered (codes "r") index text (safe_none _ refl refl) two.0 two.1
safe_edit (Insert index text) h = let two = and_parts (is_u32 index) (is_edit_text text) h in safe_numbered (codes "i") index text (safe_none _ refl refl) two.0 two.1
safe_edit (Delete index) h = safe_numbered (codes "d") index [] (safe_none _ refl refl) h refl

safe_edits : (es : List RungEdit) → list_all is_kept_edit es ≡ true → IsSafe (edits_text es)
safe_edits [] h = safe_none [] refl refl
safe_edits (e ∷ []) h = subst IsSafe (sym (append-nil (spaced (edit_words e)))) (safe_edit e (and_parts (is_kept_edit e) true h).0)
safe_edits (e ∷ f ∷ fs) h =
    let two = and_parts (is_kept_edit e) (list_all is_kept_edit (f ∷ fs)) h in
    safe_join (spaced (edit_words e)) (124 ∷ 32 ∷ edits_text (f ∷ fs)) (safe_edit e two.0) (safe_join (124 ∷ []) (edits_text (f ∷ fs)) (safe_none _ refl refl) (safe_edits (f ∷ fs) two.1))

safe_action : (a : Action) → is_kept_action a ≡ true → AllSafe (action_words a)
safe_action (WordIn conn word value) h =
    let two = and_parts (is_name conn && is_u32 word) (is_i32 value) h in
    let one = and_parts (is_name conn) (is_u32 word) two.0 in
    (safe_none _ refl refl, (safe_name conn one.0, (safe_number word one.1, (safe_value value two.1, tt))))
safe_action (WordOut conn word) h =
    let one = and_parts (is_name conn) (is_u32 word) h in
    (safe_none _ refl refl, (safe_name conn one.0, (safe_number word one.1, tt)))
safe_action (Accept a) h =
    let three = and_parts (is_name a.program && is_name a.routine && is_edit_count (length a.edits)) (list_all is_kept_edit a.edits) h in
    let two = and_parts (is_name a.program && is_name a.routine) (is_edit_count (length a.edits)) three.0 in
    let names = and_parts (is_name a.program) (is_name a.routine) two.0 in
    (safe_none _ refl refl, (safe_name a.program names.0, (safe_name a.routine names.1, (safe_edits a.edits three.1, tt))))
safe_action (Test p) h = (safe_none _ refl refl, (safe_name p h, tt))
safe_action (Untest p) h = (safe_none _ refl refl, (safe_name p h, tt))
safe_action (Assemble p) h = (safe_none _ refl refl, (safe_name p h, tt))
safe_action (Cancel p) h = (safe_none _ refl refl, (safe_name p h, tt))
safe_action (ForceInstall conn word mask value) h =
    let three = and_parts (is_name conn && is_u32 word && is_i32 mask) (is_i32 value) h in
    let two = and_parts (is_name conn && is_u32 word) (is_i32 mask) three.0 in
    let one = and_parts (is_name conn) (is_u32 word) two.0 in
    (safe_none _ refl refl, (safe_name conn one.0, (safe_number word one.1, (safe_value mask two.1, (safe_value value three.1, tt)))))
safe_action Clear h = (safe_none _ refl refl, tt)
safe_action a h = (safe_none _ refl refl, (safe_none _ refl refl, tt))

-- ---- the line of a run that a text may have

safe_lane : (lane : ℕ) (a : Action) (b : Bool) → nat_eq lane OWN_LANE ≡ b → nat_le lane OWN_LANE ≡ true → is_kept_action a ≡ true → IsSafe (spaced (lane_words lane ++ action_words a))
safe_lane lane a true e h k = rw e (safe_spaced (action_words a) (safe_action a k))
safe_lane lane a false e h k = rw e (safe_spaced ((64 ∷ decimal lane) ∷ action_words a) (safe_none _ (clean_decimal 10 lane refl few) (clean_decimal 13 lane refl few), safe_action a k))
  where
    few : lane < 2 ^ 64
    few = omega (arith, leb-true lane OWN_LANE h)

safe_event : (e : Event) (n : ℕ) → is_written (record { event = e; count = n }) ≡ true → IsSafe (spaced (event_words e n))
safe_event Cpu n h =
    safe_spaced (event_words Cpu n) (safe_none _ refl refl, (safe_number n (and_parts (is_u32 n) (nat_le 1 n && true) h).0, tt))
safe_event Tick n h =
    safe_spaced (event_words Tick n) (safe_none _ refl refl, (safe_number n (and_parts (is_u32 n) (nat_le 1 n && true) h).0, tt))
safe_event (Act lane a) n h =
    let r : EventRun = record { event = Act lane a; count = n } in
    let two = and_parts (is_kept_run r) (is_placed r) h in
    safe_lane lane a (nat_eq lane OWN_LANE) refl (and_parts (nat_le lane OWN_LANE) (is_run r) two.1).0 (and_parts (is_kept_action a) (is_u32 n) two.0).0

pub safe_line : (r : EventRun) → is_written r ≡ true → IsSafe (spaced (event_words r.event r.count))
safe_line r h = safe_event r.event r.count h
