-- A link script that was read has few events: each controller's limits are those of a journal, and sendings and deliveries are few.
use Rattle.std.proofs.Common.{◌≡◌, ℕ, ◌+◌, ◌*◌, ◌≤◌, List, [], ◌∷◌, Bool, true, false, ◌&&◌, Option, Some, None, Result, Ok, Err, IfOk, sum_by, nat_lt, refl, subst, arith}
use Rattle.std.specs.Prelude.{if◌then◌else◌, codes}
use Rattle.std.specs.Str.{bytes_eq}
use Rattle.std.proofs.lemmas.Bool.{and_parts, ltb-true}
use Rattle.std.proofs.lemmas.List.Sums.{sum_by-cons}
use Rattle.spec_base.specs.FirstCause.{◌>>=◌, unless}
use Rattle.spec_machine.specs.Project.{Project}
use Rattle.spec_text.specs.declared.script.EventRun.{EventRun}
use Rattle.spec_text.specs.declared.script.JournalCode.{JournalCode}
use Rattle.spec_text.specs.declared.script.JournalCode.TheVariants as journal
use Rattle.spec_text.specs.TextLines.{lines, is_skipped, words, first_word, after_word, unsigned_of}
use Rattle.spec_text.specs.JournalText.{Tally, with_run, is_allowed, is_end, is_line, is_lane, lane_of, run_of, read_line}
use Rattle.spec_text.proofs.KeptScripts.{unless_keeps, some_keeps, some_plain}
use Rattle.lgx_journal.specs.Reading.{tally_events}
use Rattle.lgx_journal.proofs.ReadRuns.{allowed_few, run_counted}
use Rattle.spec_link.specs.declared.script.LinkCode.{LinkCode}
use Rattle.spec_link.specs.declared.script.LinkCode.TheVariants.{J1, J4}
use Rattle.spec_link.specs.declared.script.LinkFault.{LinkFault}
use Rattle.spec_link.specs.declared.script.LinkScript.{LinkScript}
use Rattle.spec_link.specs.declared.script.LinkStep.{LinkStep}
use Rattle.spec_link.specs.declared.script.LinkStep.TheVariants.{OnA, OnB, Send, Deliver}
use Rattle.spec_link.specs.declared.script.TheConstants.{MAX_SENDS, MAX_DELIVERS}
use Rattle.spec_link.specs.LinkText.{Counts, no_counts, with_step, as_step, read_send, read_number, read_deliver, read_words, read_step, read_header, refused, before_rest, steps_from, with_steps, link_from, link_of}
use Rattle.lgx_link.specs.declared.packet.TheConstants.{MAX_WORDS}
use Rattle.lgx_link.specs.Running.{HasRoom, events_of_a, events_of_b}

-- ---- what was read so far is within the limits

record IsCounted (c : Counts) : Type 0 where
  pub a : is_allowed c.a ≡ true
  pub b : is_allowed c.b ≡ true
  pub sends : c.sends ≤ MAX_SENDS
  pub delivers : c.delivers ≤ MAX_DELIVERS

abbrev Keeps : Counts → LinkStep → Type 0
Keeps c x = IsCounted (with_step c x)

line_within : (t : Tally) (line : List ℕ) → IfOk (read_line t line) (λ r. is_allowed (with_run t r) ≡ true)
line_within t line =
    let P : EventRun → Type 0 = λ r. is_allowed (with_run t r) ≡ true in
    unless_keeps (is_line line) journal.J1 _ P (λ l. some_keeps (run_of line) journal.J1 _ (λ r. Unit {0}) P (some_plain (run_of line)) (λ r u. unless_keeps (is_lane (lane_of line)) journal.J2 _ P (λ lane. unless_keeps (nat_lt 0 r.count && is_allowed (with_run t r)) journal.J4 (λ v. Ok r) P (λ h. (and_parts _ _ h).1))))

step_of_a : (c : Counts) (r : Result EventRun JournalCode) → IsCounted c → IfOk r (λ r. is_allowed (with_run c.a r) ≡ true) → IfOk (as_step (λ r. OnA r.event r.count) r) (Keeps c)
step_of_a c (Err code) h k = tt
step_of_a c (Ok r) h k = record { a = k; b = h.b; sends = h.sends; delivers = h.delivers }

step_of_b : (c : Counts) (r : Result EventRun JournalCode) → IsCounted c → IfOk r (λ r. is_allowed (with_run c.b r) ≡ true) → IfOk (as_step (λ r. OnB r.event r.count) r) (Keeps c)
step_of_b c (Err code) h k = tt
step_of_b c (Ok r) h k = record { a = h.a; b = k; sends = h.sends; delivers = h.delivers }

send_when : (c : Counts) (b : Bool) → nat_lt c.sends MAX_SENDS ≡ b → IsCounted c → let r : Result LinkStep LinkCode = (if b then Ok Send else Err J4) in IfOk r (Keeps c)
send_when c true few h = record { a = h.a; b = h.b; sends = (let less = ltb-true c.sends MAX_SENDS few in omega arith); delivers = h.delivers }
send_when c false few h = tt

send_keeps : (c : Counts) (ws : List (List ℕ)) → IsCounted c → IfOk (read_send c ws) (Keeps c)
send_keeps c [] h = send_when c (nat_lt c.sends MAX_SENDS) refl h
send_keeps c (w ∷ ws) h = tt

deliver_when : (c : Counts) (k : ℕ) (b : Bool) → nat_lt c.delivers MAX_DELIVERS ≡ b → IsCounted c → let r : Result LinkStep LinkCode = (if b then Ok (Deliver k) else Err J4) in IfOk r (Keeps c)
deliver_when c k true few h = record { a = h.a; b = h.b; sends = h.sends; delivers = (let less = ltb-true c.delivers MAX_DELIVERS few in omega arith) }
deliver_when c k false few h = tt

number_keeps : (c : Counts) (o : Option ℕ) → IsCounted c → IfOk (read_number c o) (Keeps c)
number_keeps c None h = tt
number_keeps c (Some k) h = deliver_when c k (nat_lt c.delivers MAX_DELIVERS) refl h

deliver_keeps : (c : Counts) (ws : List (List ℕ)) → IsCounted c → IfOk (read_deliver c ws) (Keeps c)
deliver_keeps c [] h = tt
deliver_keeps c (k ∷ []) h = number_keeps c (unsigned_of k) h
deliver_keeps c (k ∷ m ∷ ms) h = tt

either : (c : Counts) (b : Bool) (x y : Result LinkStep LinkCode) → IfOk x (Keeps c) → IfOk y (Keeps c) → IfOk (if b then x else y) (Keeps c)
either c true x y h k = h
either c false x y h k = k

words_keep : (c : Counts) (verb rest : List ℕ) → IsCounted c → IfOk (read_words c verb rest) (Keeps c)
words_keep c verb rest h =
    either c (bytes_eq verb (codes "a")) _ _ (step_of_a c (read_line c.a rest) h (line_within c.a rest))
    (either c (bytes_eq verb (codes "b")) _ _ (step_of_b c (read_line c.b rest) h (line_within c.b rest))
    (either c (bytes_eq verb (codes "send")) _ _ (send_keeps c (words rest) h)
    (either c (bytes_eq verb (codes "deliver")) _ _ (deliver_keeps c (words rest) h) tt)))

step_keeps : (c : Counts) (line : List ℕ) → IsCounted c → IfOk (read_step c line) (Keeps c)
step_keeps c line h = go (is_line line)
  where
    go : (b : Bool) → IfOk (unless b J1 >>= λ fits. read_words c (first_word line) (after_word line)) (Keeps c)
    go true = words_keep c (first_word line) (after_word line) h
    go false = tt

-- ---- how many events the lines bring

abbrev most_of_a : Counts → ℕ
most_of_a c = tally_events c.a + MAX_WORDS * c.sends

abbrev most_of_b : Counts → ℕ
most_of_b c = tally_events c.b + MAX_WORDS * c.delivers

counted_of_a : (c : Counts) (x : LinkStep) → most_of_a (with_step c x) ≡ most_of_a c + events_of_a x
counted_of_a c (OnA e n) = omega (arith, run_counted c.a (record { event = e; count = n }))
counted_of_a c (OnB e n) = omega arith
counted_of_a c Send = omega arith
counted_of_a c (Deliver k) = omega arith

counted_of_b : (c : Counts) (x : LinkStep) → most_of_b (with_step c x) ≡ most_of_b c + events_of_b x
counted_of_b c (OnA e n) = omega arith
counted_of_b c (OnB e n) = omega (arith, run_counted c.b (record { event = e; count = n }))
counted_of_b c Send = omega arith
counted_of_b c (Deliver k) = omega arith

-- after these counts the lines bring few events
record AreFew (c : Counts) (steps : List LinkStep) : Type 0 where
  pub a : most_of_a c + sum_by events_of_a steps ≤ 9380000
  pub b : most_of_b c + sum_by events_of_b steps ≤ 20900000

none_left : (c : Counts) → IsCounted c → AreFew c []
none_left c h =
    let of_a = allowed_few c.a h.a in
    let of_b = allowed_few c.b h.b in
    let sends = h.sends in
    let delivers = h.delivers in
    record { a = omega arith; b = omega arith }

few_before : (c : Counts) (x : LinkStep) (rest : Result (List LinkStep) LinkFault) → IfOk rest (AreFew (with_step c x)) → IfOk (before_rest x rest) (AreFew c)
few_before c x (Err fault) h = tt
few_before c x (Ok steps) h =
    let of_a : sum_by events_of_a (x ∷ steps) ≡ events_of_a x + sum_by events_of_a steps = sum_by-cons events_of_a x steps in
    let of_b : sum_by events_of_b (x ∷ steps) ≡ events_of_b x + sum_by events_of_b steps = sum_by-cons events_of_b x steps in
    let few_of_a = h.a in
    let few_of_b = h.b in
    record { a = omega (arith, counted_of_a c x); b = omega (arith, counted_of_b c x) }

module _ (n : ℕ) (c : Counts) (l : List ℕ) (ls : List (List ℕ)) (few : (d : Counts) → IsCounted d → IfOk (steps_from (n + 1) d ls) (AreFew d)) where
  few_by_read : (x : Result LinkStep LinkCode) → IfOk x (Keeps c)
      → let o : Result (List LinkStep) LinkFault = elim x [ Err code ↦ refused n code | Ok s ↦ before_rest s (steps_from (n + 1) (with_step c s) ls) ] in IfOk o (AreFew c)
  few_by_read (Err code) h = tt
  few_by_read (Ok s) h = few_before c s (steps_from (n + 1) (with_step c s) ls) (few (with_step c s) h)

  few_by_end : (b : Bool) → IsCounted c
      → let o : Result (List LinkStep) LinkFault = elim b [ true ↦ Ok [] | false ↦ elim (read_step c l) [ Err code ↦ refused n code | Ok s ↦ before_rest s (steps_from (n + 1) (with_step c s) ls) ] ] in IfOk o (AreFew c)
  few_by_end true h = none_left c h
  few_by_end false h = few_by_read (read_step c l) (step_keeps c l h)

  few_by_skip : (b : Bool) → IsCounted c
      → let o : Result (List LinkStep) LinkFault = elim b [ true ↦ steps_from (n + 1) c ls | false ↦ elim (is_end l && is_line l) [ true ↦ Ok [] | false ↦ elim (read_step c l) [ Err code ↦ refused n code | Ok s ↦ before_rest s (steps_from (n + 1) (with_step c s) ls) ] ] ] in IfOk o (AreFew c)
  few_by_skip true h = few c h
  few_by_skip false h = few_by_end (is_end l && is_line l) h

few_from : (n : ℕ) (c : Counts) (ls : List (List ℕ)) → IsCounted c → IfOk (steps_from n c ls) (AreFew c)
few_from n c [] h = tt
few_from n c (l ∷ ls) h = few_by_skip n c l ls (λ d k. few_from (n + 1) d ls k) (is_skipped l) h

-- ---- the whole

abbrev IsSmall : LinkScript → Type 0
IsSmall s = HasRoom 0 0 0 s.steps

small_with : (s : LinkScript) (rest : Result (List LinkStep) LinkFault) → IfOk rest (AreFew no_counts) → IfOk (with_steps s rest) IsSmall
small_with s (Err fault) h = tt
small_with s (Ok steps) h =
    let of_a = h.a in
    let of_b = h.b in
    record { of_a = omega arith; of_b = omega arith; of_sends = omega arith }

none_counted : IsCounted no_counts
none_counted = record { a = refl; b = refl; sends = omega arith; delivers = omega arith }

module _ (a b : Project) (n : ℕ) (l : List ℕ) (ls : List (List ℕ)) (small : IfOk (link_from a b (n + 1) ls) IsSmall) where
  small_by_header : (x : Result LinkScript LinkCode)
      → let o : Result LinkScript LinkFault = elim x [ Err code ↦ refused n code | Ok s ↦ with_steps s (steps_from (n + 1) no_counts ls) ] in IfOk o IsSmall
  small_by_header (Err code) = tt
  small_by_header (Ok s) = small_with s (steps_from (n + 1) no_counts ls) (few_from (n + 1) no_counts ls none_counted)

  small_by_skip : (skipped : Bool)
      → let o : Result LinkScript LinkFault = elim skipped [ true ↦ link_from a b (n + 1) ls | false ↦ elim (read_header a b l) [ Err code ↦ refused n code | Ok s ↦ with_steps s (steps_from (n + 1) no_counts ls) ] ] in IfOk o IsSmall
  small_by_skip true = small
  small_by_skip false = small_by_header (read_header a b l)

small_from : (a b : Project) (n : ℕ) (ls : List (List ℕ)) → IfOk (link_from a b n ls) IsSmall
small_from a b n [] = tt
small_from a b n (l ∷ ls) = small_by_skip a b n l ls (small_from a b (n + 1) ls) (is_skipped l)

pub read_has_room : (a b : Project) (bytes : List ℕ) (s : LinkScript) → link_of a b bytes ≡ Ok s → HasRoom 0 0 0 s.steps
read_has_room a b bytes s is = subst (λ (r : Result LinkScript LinkFault). IfOk r IsSmall) is (small_from a b 1 (lines bytes))
