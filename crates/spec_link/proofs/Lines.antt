-- What was sent, and the number that was taken last, line by line.
use Rattle.std.proofs.Common.{◌≡◌, ℕ, zero, suc, Bool, true, false, List, [], ◌∷◌, ◌++◌, length, refl, sym, ◌∙◌, ap, subst, le_refl, le_trans, inl, inr, ◌⊎◌, ⊎_elim, arith}
use Rattle.std.specs.Prelude.{ℤ, Option, Some, None, replicate, slice_get}
use Rattle.std.proofs.Math.Seq.{take-append_seam}
use Rattle.std.proofs.lemmas.Bool.{ltb-true}
use Rattle.std.proofs.lemmas.List.{take-append-le, length-append}
use Rattle.spec_machine.specs.declared.event.Event.{Event}
use Rattle.spec_link.specs.declared.script.LinkStep.{LinkStep}
use Rattle.spec_link.specs.declared.script.LinkStep.TheVariants.{OnA, OnB, Send, Deliver}
use Rattle.spec_link.specs.Links.{Pair, Link, opened, is_newer, is_held, send, take_packet, deliver_packet, deliver, link_step, link_run, words_out, words_answered}
use Rattle.spec_link.specs.Consumed.{NeverOlder, AreOfOneMoment}

-- ---- the number that was taken last

older_refl : (o : Option ℕ) → NeverOlder o o
older_refl None = tt
older_refl (Some k) = le_refl k

older_trans : (a b c : Option ℕ) → NeverOlder a b → NeverOlder b c → NeverOlder a c
older_trans None b c h i = tt
older_trans (Some k) None c h i = absurd h
older_trans (Some k) (Some m) None h i = absurd i
older_trans (Some k) (Some m) (Some n) h i = le_trans h i

newer_later : (o : Option ℕ) (k : ℕ) → is_newer o k ≡ true → NeverOlder o (Some k)
newer_later None k e = tt
newer_later (Some m) k e = let h = ltb-true m k e in omega arith

take_later : (l : Pair) (s : Link) (k : ℕ) (words : List ℤ) (b : Bool) → is_newer s.last k ≡ b → NeverOlder s.last (take_packet l s k words b).link.last
take_later l s k words false e = older_refl s.last
take_later l s k words true e = newer_later s.last k e

packet_later : (l : Pair) (s : Link) (k : ℕ) (words : List ℤ) (b : Bool) → NeverOlder s.last (deliver_packet l s k words b).link.last
packet_later l s k words true = older_refl s.last
packet_later l s k words false = take_later l s k words (is_newer s.last k) refl

deliver_later : (l : Pair) (s : Link) (k : ℕ) (o : Option (List ℤ)) → NeverOlder s.last (deliver l s k o).link.last
deliver_later l s k None = older_refl s.last
deliver_later l s k (Some words) = packet_later l s k words (is_held l.b s.b)

send_later : (l : Pair) (s : Link) (b : Bool) → NeverOlder s.last (send l s b).link.last
send_later l s true = older_refl s.last
send_later l s false = older_refl s.last

step_later : (l : Pair) (s : Link) (x : LinkStep) → NeverOlder s.last (link_step l s x).link.last
step_later l s (OnA e n) = older_refl s.last
step_later l s (OnB e n) = older_refl s.last
step_later l s Send = send_later l s (is_held l.a s.a)
step_later l s (Deliver k) = deliver_later l s k (slice_get s.sent k)

run_later : (l : Pair) (s : Link) (xs : List LinkStep) → NeverOlder s.last (link_run l s xs).last
run_later l s [] = older_refl s.last
run_later l s (x ∷ xs) = older_trans s.last (link_step l s x).link.last _ (step_later l s x) (run_later l (link_step l s x).link xs)

pub run_over : (l : Pair) (s : Link) (xs ys : List LinkStep) → link_run l s (xs ++ ys) ≡ link_run l (link_run l s xs) ys
run_over l s [] ys = refl
run_over l s (x ∷ xs) ys = run_over l (link_step l s x).link xs ys

pub later : (l : Pair) (xs ys : List LinkStep) → NeverOlder (link_run l opened xs).last (link_run l opened (xs ++ ys)).last
later l xs ys = subst (λ (s : Link). NeverOlder (link_run l opened xs).last s.last) (sym (run_over l opened xs ys)) (run_later l (link_run l opened xs) ys)

-- ---- what was sent

-- a packet of a longer list is one of the list, or the last
pub at_snoc : {A : Type 0} (xs : List A) (x y : A) (k : ℕ) → slice_get (xs ++ x ∷ []) k ≡ Some y → (slice_get xs k ≡ Some y) ⊎ (x ≡ y)
at_snoc [] x y zero h = inr cc
at_snoc [] x y (suc k) h = absurd (cc h)
at_snoc (z ∷ xs) x y zero h = inl h
at_snoc (z ∷ xs) x y (suc k) h = at_snoc xs x y k h

pub get_longer : {A : Type 0} (xs ys : List A) (k : ℕ) (y : A) → slice_get xs k ≡ Some y → slice_get (xs ++ ys) k ≡ Some y
get_longer [] ys k y h = absurd (cc h)
get_longer (z ∷ xs) ys zero y h = h
get_longer (z ∷ xs) ys (suc k) y h = get_longer xs ys k y h

moments_on : (l : Pair) (s : Link) (more : List Event) → AreOfOneMoment l s → AreOfOneMoment l (record s { a = s.a ++ more })
moments_on l s more h k words e =
    let m = h k words e in (
      m.0,
      (let n = length-append s.a more in let le = m.1 in omega arith),
      m.2 ∙ ap (λ (j : List Event). words_answered l.a j (words_out l)) (sym (take-append-le m.0 s.a more m.1)),
    )

moments_sent : (l : Pair) (s : Link) (b : Bool) → AreOfOneMoment l s → AreOfOneMoment l (send l s b).link
moments_sent l s true h k words e = h k words e
moments_sent l s false h k words e =
    ⊎_elim
    (λ (old : slice_get s.sent k ≡ Some words). moments_on l s (words_out l) h k words old)
    (λ (new : words_answered l.a s.a (words_out l) ≡ words). (
      length s.a,
      (let n = length-append s.a (words_out l) in omega arith),
      sym new ∙ ap (λ (j : List Event). words_answered l.a j (words_out l)) (sym (take-append_seam s.a (words_out l))),
    ))
    (at_snoc s.sent (words_answered l.a s.a (words_out l)) words k e)

moments_taken : (l : Pair) (s : Link) (k : ℕ) (words : List ℤ) (b : Bool) → AreOfOneMoment l s → AreOfOneMoment l (take_packet l s k words b).link
moments_taken l s k words true h = h
moments_taken l s k words false h = h

moments_held : (l : Pair) (s : Link) (k : ℕ) (words : List ℤ) (b : Bool) → AreOfOneMoment l s → AreOfOneMoment l (deliver_packet l s k words b).link
moments_held l s k words true h = h
moments_held l s k words false h = moments_taken l s k words (is_newer s.last k) h

moments_delivered : (l : Pair) (s : Link) (k : ℕ) (o : Option (List ℤ)) → AreOfOneMoment l s → AreOfOneMoment l (deliver l s k o).link
moments_delivered l s k None h = h
moments_delivered l s k (Some words) h = moments_held l s k words (is_held l.b s.b) h

moments_step : (l : Pair) (s : Link) (x : LinkStep) → AreOfOneMoment l s → AreOfOneMoment l (link_step l s x).link
moments_step l s (OnA e n) h = moments_on l s (replicate n e) h
moments_step l s (OnB e n) h = h
moments_step l s Send h = moments_sent l s (is_held l.a s.a) h
moments_step l s (Deliver k) h = moments_delivered l s k (slice_get s.sent k) h

pub moments : (l : Pair) (s : Link) (xs : List LinkStep) → AreOfOneMoment l s → AreOfOneMoment l (link_run l s xs)
moments l s [] h = h
moments l s (x ∷ xs) h = moments l (link_step l s x).link xs (moments_step l s x h)

pub no_moments : (l : Pair) → AreOfOneMoment l opened
no_moments l k words e = absurd (cc e)
