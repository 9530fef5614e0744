-- A trace that is written is read back.
use Rattle.std.proofs.Common.{◌≡◌, ℕ, zero, suc, ◌+◌, ◌<◌, ◌^◌, List, [], ◌∷◌, ◌++◌, Bool, true, false, not, ◌&&◌, ◌||◌, cond, nat_eq, Ok, Option, Some, None, option_map, codes, decimal, refl, sym, ap, ◌∙◌, append_assoc, arith}
use Rattle.std.specs.Prelude.{get_or}
use Rattle.std.specs.List.{list_all}
use Rattle.std.specs.Str.{bytes_eq}
use Rattle.std.proofs.lemmas.Bool.{and_from, and_parts, or_parts, not-true, not_from_false, ne_eqb, ltb-true}
use Rattle.std.proofs.lemmas.Fmt.{decimal_digit, first_decimal}
use Rattle.std.proofs.lemmas.List.Folds.{list_any-append}
use Rattle.spec_base.specs.Pieces.{pieces, has_byte}
use Rattle.spec_text.specs.TextLines.{spaced, unsigned_of}
use Rattle.lgx_journal.proofs.Numerals.{unsigned_back, decimal_word, clean_decimal}
use Rattle.lgx_journal.proofs.Spelled.{piece_before, piece_alone, no_space}
use Rattle.lgx_journal.proofs.Spelled as spelled
use Rattle.spec_schedule.specs.declared.trace.TraceMark.{TraceMark}
use Rattle.spec_schedule.specs.declared.trace.TraceMark.TheVariants as mark
use Rattle.spec_schedule.specs.declared.trace.StepFault.{StepFault}
use Rattle.spec_schedule.specs.declared.trace.StepFault.TheVariants as fault
use Rattle.spec_schedule.specs.declared.trace.Verb.{Verb}
use Rattle.spec_schedule.specs.declared.trace.Verb.TheVariants.{Accept, Test, Untest, Assemble, Cancel, Run, Program, Clear, Other}
use Rattle.spec_schedule.specs.declared.trace.TraceAnswer.{TraceAnswer}
use Rattle.spec_schedule.specs.declared.trace.TraceAnswer.TheVariants.{Done, Number, No}
use Rattle.spec_schedule.specs.declared.trace.TraceEvent.{TraceEvent}
use Rattle.spec_schedule.specs.declared.trace.TraceEvent.TheVariants.{Idle, Began, Step, Left, Tick, Act}
use Rattle.spec_schedule.specs.declared.trace.Table.{Table}
use Rattle.lgx_audit.specs.TraceTable.{if_named, triggered, is_in_table}
use Rattle.lgx_audit.specs.TraceText.{mark_word, fault_word, verb_word, answer_word, ended_word, number_word, line_words, event_line, end_line, text_of, has_form}
use Rattle.lgx_audit.specs.Kept.{is_u32, is_kept_answer, is_kept}
use Rattle.lgx_audit.specs.TraceReading.{is_padded, number_of, named_of, mark_of, fault_of, verb_of, answer_of, ended_of, began_of, step_of, left_of, tick_of, act_of, event_of, words_of, read_line, before_rest, is_end, trace_from, trace_of}
use Rattle.lgx_audit.proofs.ReadLines.{line_then, judged_by, judged}

-- ---- numbers

no_zero : (ds : List ℕ) → 48 < get_or ds 0 0 → is_padded ds ≡ false
no_zero [] h = refl
no_zero (c ∷ []) h = refl
no_zero (c ∷ d ∷ ds) h = ne_eqb c 48 (λ e. omega arith)

unpadded : (n : ℕ) → n < 2 ^ 64 → is_padded (decimal n) ≡ false
unpadded zero h = ap is_padded (decimal_digit 0 (omega arith))
unpadded (suc n) h = no_zero (decimal (suc n)) (first_decimal (suc n) (omega arith) h)

pub number_back : (n : ℕ) → is_u32 n ≡ true → number_of (decimal n) ≡ Some n
number_back n h =
    let small = ltb-true n (2 ^ 32) h in
    ap (λ b. cond b None (unsigned_of (decimal n))) (unpadded n (omega arith)) ∙ unsigned_back n small

no_dash : (w : List ℕ) → has_byte 45 w ≡ false → bytes_eq w (codes "-") ≡ false
no_dash [] h = refl
no_dash (c ∷ cs) h = rw (or_parts (nat_eq c 45) (has_byte 45 cs) h).0 refl

wide : (n : ℕ) → is_u32 n ≡ true → n < 2 ^ 64
wide n h = let small = ltb-true n (2 ^ 32) h in omega arith

named_back : (o : Option ℕ) → if_named is_u32 o ≡ true → named_of (number_word o) ≡ Some o
named_back None h = refl
named_back (Some n) h =
    ap (λ b. cond b (Some None) (option_map (λ k. Some k) (number_of (decimal n)))) (no_dash (decimal n) (clean_decimal 45 n refl (wide n h)))
    ∙ ap (option_map (λ k. Some k)) (number_back n h)

-- ---- words

mark_back : (m : TraceMark) → if_named is_u32 (triggered m) ≡ true → mark_of (mark_word m) ≡ Some m
mark_back mark.Plain h = refl
mark_back mark.Up h = refl
mark_back mark.Down h = refl
mark_back (mark.Trigger t) h = ap (option_map (λ k. mark.Trigger k)) (number_back t h)
mark_back mark.Copy h = refl
mark_back mark.Sync h = refl
mark_back mark.CopyEnd h = refl
mark_back mark.SyncEnd h = refl

fault_back : (f : StepFault) → fault_of (fault_word f) ≡ Some f
fault_back fault.Plain = refl
fault_back fault.Minor = refl
fault_back fault.Major = refl

verb_back : (v : Verb) → verb_of (verb_word v) ≡ Some v
verb_back Accept = refl
verb_back Test = refl
verb_back Untest = refl
verb_back Assemble = refl
verb_back Cancel = refl
verb_back Run = refl
verb_back Program = refl
verb_back Clear = refl
verb_back Other = refl

answer_back : (a : TraceAnswer) → is_kept_answer a ≡ true → answer_of (answer_word a) ≡ Some a
answer_back Done h = refl
answer_back (Number n) h = ap (option_map (λ k. Number k)) (number_back n h)
answer_back No h = refl

ended_back : (b : Bool) → ended_of (ended_word b) ≡ Some b
ended_back true = refl
ended_back false = refl

-- ---- lines

pub event_back : (e : TraceEvent) → is_kept e ≡ true → event_of (line_words e) ≡ Some e
event_back Idle h = refl
event_back (Began t g v) h =
    let p = and_parts (is_u32 t) (is_u32 g && is_u32 v) h in
    let q = and_parts (is_u32 g) (is_u32 v) p.1 in
    began_back (decimal t) (decimal g) (decimal v) t g v (number_back t p.0) (number_back g q.0) (number_back v q.1)
  where
    began_back : (a b c : List ℕ) (t g v : ℕ) → number_of a ≡ Some t → number_of b ≡ Some g → number_of c ≡ Some v → began_of a b c ≡ Some (Began t g v)
    began_back a b c t g v i j k = rw (i, j, k) refl
event_back (Step t g m f) h =
    let p = and_parts (is_u32 t) (is_u32 g && if_named is_u32 (triggered m)) h in
    let q = and_parts (is_u32 g) (if_named is_u32 (triggered m)) p.1 in
    step_back (decimal t) (decimal g) (mark_word m) (fault_word f) t g m f (number_back t p.0) (number_back g q.0) (mark_back m q.1) (fault_back f)
  where
    step_back : (a b c d : List ℕ) (t g : ℕ) (m : TraceMark) (f : StepFault) → number_of a ≡ Some t → number_of b ≡ Some g → mark_of c ≡ Some m → fault_of d ≡ Some f → step_of a b c d ≡ Some (Step t g m f)
    step_back a b c d t g m f i j k l = rw (i, j, k, l) refl
event_back (Left t g b) h =
    let p = and_parts (is_u32 t) (is_u32 g) h in
    left_back (decimal t) (decimal g) (ended_word b) t g b (number_back t p.0) (number_back g p.1) (ended_back b)
  where
    left_back : (a b c : List ℕ) (t g : ℕ) (e : Bool) → number_of a ≡ Some t → number_of b ≡ Some g → ended_of c ≡ Some e → left_of a b c ≡ Some (Left t g e)
    left_back a b c t g e i j k = rw (i, j, k) refl
event_back (Tick r o w) h =
    let p = and_parts (is_u32 r) (is_u32 o && if_named is_u32 w) h in
    let q = and_parts (is_u32 o) (if_named is_u32 w) p.1 in
    tick_back (decimal r) (decimal o) (number_word w) r o w (number_back r p.0) (number_back o q.0) (named_back w q.1)
  where
    tick_back : (a b c : List ℕ) (r o : ℕ) (w : Option ℕ) → number_of a ≡ Some r → number_of b ≡ Some o → named_of c ≡ Some w → tick_of a b c ≡ Some (Tick r o w)
    tick_back a b c r o w i j k = rw (i, j, k) refl
event_back (Act lane v g a r) h =
    let p = and_parts (is_u32 lane) (if_named is_u32 g && (is_kept_answer a && is_u32 r)) h in
    let q = and_parts (if_named is_u32 g) (is_kept_answer a && is_u32 r) p.1 in
    let s = and_parts (is_kept_answer a) (is_u32 r) q.1 in
    act_back (decimal lane) (verb_word v) (number_word g) (answer_word a) (decimal r) lane v g a r (number_back lane p.0) (verb_back v) (named_back g q.0) (answer_back a s.0) (number_back r s.1)
  where
    act_back : (x y z w u : List ℕ) (lane : ℕ) (v : Verb) (g : Option ℕ) (a : TraceAnswer) (r : ℕ) → number_of x ≡ Some lane → verb_of y ≡ Some v → named_of z ≡ Some g → answer_of w ≡ Some a → number_of u ≡ Some r → act_of x y z w u ≡ Some (Act lane v g a r)
    act_back x y z w u lane v g a r i j k l m = rw (i, j, k, l, m) refl

-- ---- words have a byte, and neither a space nor a line feed

abbrev is_safe : List ℕ → Bool
is_safe w = spelled.is_word w && not (has_byte 10 w)

safe_decimal : (n : ℕ) → is_u32 n ≡ true → is_safe (decimal n) ≡ true
safe_decimal n h = and_from _ _ (decimal_word n (wide n h)) (not_from_false _ (clean_decimal 10 n refl (wide n h)))

safe_named : (o : Option ℕ) → if_named is_u32 o ≡ true → is_safe (number_word o) ≡ true
safe_named None h = refl
safe_named (Some n) h = safe_decimal n h

safe_mark : (m : TraceMark) → if_named is_u32 (triggered m) ≡ true → is_safe (mark_word m) ≡ true
safe_mark mark.Plain h = refl
safe_mark mark.Up h = refl
safe_mark mark.Down h = refl
safe_mark (mark.Trigger t) h = and_from (not (has_byte 32 (decimal t))) (not (has_byte 10 (decimal t))) (not_from_false _ (clean_decimal 32 t refl (wide t h))) (not_from_false _ (clean_decimal 10 t refl (wide t h)))
safe_mark mark.Copy h = refl
safe_mark mark.Sync h = refl
safe_mark mark.CopyEnd h = refl
safe_mark mark.SyncEnd h = refl

safe_fault : (f : StepFault) → is_safe (fault_word f) ≡ true
safe_fault fault.Plain = refl
safe_fault fault.Minor = refl
safe_fault fault.Major = refl

safe_verb : (v : Verb) → is_safe (verb_word v) ≡ true
safe_verb Accept = refl
safe_verb Test = refl
safe_verb Untest = refl
safe_verb Assemble = refl
safe_verb Cancel = refl
safe_verb Run = refl
safe_verb Program = refl
safe_verb Clear = refl
safe_verb Other = refl

safe_answer : (a : TraceAnswer) → is_kept_answer a ≡ true → is_safe (answer_word a) ≡ true
safe_answer Done h = refl
safe_answer (Number n) h = and_from (not (has_byte 32 (decimal n))) (not (has_byte 10 (decimal n))) (not_from_false _ (clean_decimal 32 n refl (wide n h))) (not_from_false _ (clean_decimal 10 n refl (wide n h)))
safe_answer No h = refl

safe_ended : (b : Bool) → is_safe (ended_word b) ≡ true
safe_ended true = refl
safe_ended false = refl

safe_words : (e : TraceEvent) → is_kept e ≡ true → list_all is_safe (line_words e) ≡ true
safe_words Idle h = refl
safe_words (Began t g v) h =
    let p = and_parts (is_u32 t) (is_u32 g && is_u32 v) h in
    let q = and_parts (is_u32 g) (is_u32 v) p.1 in
    and_from _ _ (safe_decimal t p.0) (and_from _ _ (safe_decimal g q.0) (and_from _ _ (safe_decimal v q.1) refl))
safe_words (Step t g m f) h =
    let p = and_parts (is_u32 t) (is_u32 g && if_named is_u32 (triggered m)) h in
    let q = and_parts (is_u32 g) (if_named is_u32 (triggered m)) p.1 in
    and_from _ _ (safe_decimal t p.0) (and_from _ _ (safe_decimal g q.0) (and_from _ _ (safe_mark m q.1) (and_from _ _ (safe_fault f) refl)))
safe_words (Left t g b) h =
    let p = and_parts (is_u32 t) (is_u32 g) h in
    and_from _ _ (safe_decimal t p.0) (and_from _ _ (safe_decimal g p.1) (and_from _ _ (safe_ended b) refl))
safe_words (Tick r o w) h =
    let p = and_parts (is_u32 r) (is_u32 o && if_named is_u32 w) h in
    let q = and_parts (is_u32 o) (if_named is_u32 w) p.1 in
    and_from _ _ (safe_decimal r p.0) (and_from _ _ (safe_decimal o q.0) (and_from _ _ (safe_named w q.1) refl))
safe_words (Act lane v g a r) h =
    let p = and_parts (is_u32 lane) (if_named is_u32 g && (is_kept_answer a && is_u32 r)) h in
    let q = and_parts (if_named is_u32 g) (is_kept_answer a && is_u32 r) p.1 in
    let s = and_parts (is_kept_answer a) (is_u32 r) q.1 in
    and_from _ _ (safe_decimal lane p.0) (and_from _ _ (safe_verb v) (and_from _ _ (safe_named g q.0) (and_from _ _ (safe_answer a s.0) (and_from _ _ (safe_decimal r s.1) refl))))

-- ---- such words are the pieces of their line

pieces_spaced : (w : List ℕ) (ws : List (List ℕ)) → is_safe w ≡ true → list_all is_safe ws ≡ true → pieces 32 (spaced (w ∷ ws)) ≡ w ∷ ws
pieces_spaced w [] h k = piece_alone 32 w (no_space w (and_parts (spelled.is_word w) (not (has_byte 10 w)) h).0)
pieces_spaced w (v ∷ vs) h k =
    let two = and_parts (is_safe v) (list_all is_safe vs) k in
    piece_before 32 w (spaced (v ∷ vs)) (no_space w (and_parts (spelled.is_word w) (not (has_byte 10 w)) h).0) ∙ ap (λ ps. w ∷ ps) (pieces_spaced v vs two.0 two.1)

clean : (w : List ℕ) → is_safe w ≡ true → has_byte 10 w ≡ false
clean w h = not-true (has_byte 10 w) (and_parts (spelled.is_word w) (not (has_byte 10 w)) h).1

clean_spaced : (w : List ℕ) (ws : List (List ℕ)) → is_safe w ≡ true → list_all is_safe ws ≡ true → has_byte 10 (spaced (w ∷ ws)) ≡ false
clean_spaced w [] h k = clean w h
clean_spaced w (v ∷ vs) h k =
    let two = and_parts (is_safe v) (list_all is_safe vs) k in
    list_any-append (λ c. nat_eq c 10) w (32 ∷ spaced (v ∷ vs)) ∙ ap (λ b. b || has_byte 10 (spaced (v ∷ vs))) (clean w h) ∙ clean_spaced v vs two.0 two.1

abbrev line : TraceEvent → List ℕ
line e = spaced (line_words e)

-- what is known of the line of an event
record IsLine (e : TraceEvent) : Type 0 where
  pub words : words_of (line e) ≡ line_words e
  pub clean : has_byte 10 (line e) ≡ false
  pub more : is_end (line e) ≡ false

some_line : (e : TraceEvent) (w : List ℕ) (ws : List (List ℕ)) → line_words e ≡ w ∷ ws → is_kept e ≡ true → is_end (spaced (w ∷ ws)) ≡ false → IsLine e
some_line e w ws is h end =
    let safe = sym (ap (list_all is_safe) is) ∙ safe_words e h in
    let two = and_parts (is_safe w) (list_all is_safe ws) safe in
    record {
      words = ap (λ vs. pieces 32 (spaced vs)) is ∙ pieces_spaced w ws two.0 two.1 ∙ sym is;
      clean = ap (λ vs. has_byte 10 (spaced vs)) is ∙ clean_spaced w ws two.0 two.1;
      more = ap (λ vs. is_end (spaced vs)) is ∙ end;
    }

is_line : (e : TraceEvent) → is_kept e ≡ true → IsLine e
is_line Idle h = some_line Idle _ _ refl h refl
is_line (Began t g v) h = some_line (Began t g v) _ _ refl h refl
is_line (Step t g m f) h = some_line (Step t g m f) _ _ refl h refl
is_line (Left t g b) h = some_line (Left t g b) _ _ refl h refl
is_line (Tick r o w) h = some_line (Tick r o w) _ _ refl h refl
is_line (Act lane v g a r) h = some_line (Act lane v g a r) _ _ refl h refl

line_judged : (table : Table) (ws : List (List ℕ)) (text : List ℕ) (e : TraceEvent) → words_of text ≡ ws → event_of ws ≡ Some e → has_form e ≡ true → is_in_table table e ≡ true → read_line table text ≡ Ok e
line_judged table ws text e is read form known =
    ap (λ vs. judged table (event_of vs)) is ∙ ap (judged table) read ∙ ap (λ b. judged_by b (is_in_table table e) e) form ∙ ap (λ b. judged_by true b e) known

-- ---- traces

-- an event that may stand in a trace of the table
abbrev pub may_stand : Table → TraceEvent → Bool
may_stand table e = has_form e && (is_kept e && is_in_table table e)

text_more : (e : TraceEvent) (es : List TraceEvent) → text_of (e ∷ es) ≡ line e ++ 10 ∷ text_of es
text_more e es = simp append_assoc

pub text_back : (table : Table) (n : ℕ) (es : List TraceEvent) → list_all (may_stand table) es ≡ true → trace_from n table (pieces 10 (text_of es)) ≡ Ok es
text_back table n [] h = refl
text_back table n (e ∷ es) h =
    let two = and_parts (may_stand table e) (list_all (may_stand table) es) h in
    let form = and_parts (has_form e) (is_kept e && is_in_table table e) two.0 in
    let kept = and_parts (is_kept e) (is_in_table table e) form.1 in
    let l = is_line e kept.0 in
    ap (λ text. trace_from n table (pieces 10 text)) (text_more e es)
    ∙ line_then n table (line e ++ 10 ∷ text_of es) (line e) (text_of es) e (piece_before 10 (line e) (text_of es) l.clean) l.more (line_judged table (line_words e) (line e) e l.words (event_back e kept.0) form.0 kept.1)
    ∙ ap (before_rest e) (text_back table (n + 1) es two.1)

pub one_back : (table : Table) (e : TraceEvent) (text : List ℕ) → text ≡ event_line e → has_form e ≡ true → is_kept e ≡ true → is_in_table table e ≡ true → trace_of table (text ++ end_line) ≡ Ok (e ∷ [])
one_back table e text is form kept known =
    ap (λ t. trace_of table (t ++ end_line)) (is ∙ sym (append_nil (event_line e)))
    ∙ text_back table 1 (e ∷ []) (and_from _ _ (and_from _ _ form (and_from _ _ kept known)) refl)
  where
    append_nil : (xs : List ℕ) → xs ++ [] ≡ xs
    append_nil [] = refl
    append_nil (x ∷ xs) = ap (λ ys. x ∷ ys) (append_nil xs)
