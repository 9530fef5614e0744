-- The consumed tag's words are those of one packet, line by line. What the words out are answered, and what the words in of a
-- packet leave, is asked of the caller of this file.
use Rattle.std.proofs.Common.{◌≡◌, ℕ, zero, suc, Bool, true, false, not, List, [], ◌∷◌, ◌++◌, length, refl, sym, ◌∙◌, ap, subst, ⊎_elim}
use Rattle.std.specs.Prelude.{ℤ, Option, Some, None, ◌&&◌, replicate, slice_get}
use Rattle.std.specs.List.{AllByRecursion as Each, list_all}
use Rattle.std.proofs.lemmas.List.{append-nil, append_assoc}
use Rattle.std.proofs.lemmas.List.Folds.{list_all-append}
use Rattle.lgx_num.specs.declared.number.Kind.TheVariants.{Dint}
use Rattle.lgx_num.specs.Number.{fits}
use Rattle.spec_tables.specs.declared.conn.ConnDef.{ConnDef}
use Rattle.spec_machine.specs.declared.event.Event.{Event}
use Rattle.spec_machine.specs.Machine.{TraceEntry, run, step, trace, trace_from, run_from}
use Rattle.spec_machine.specs.Project.{Project}
use Rattle.spec_machine.specs.State.{State, start}
use Rattle.spec_link.specs.declared.script.LinkStep.{LinkStep}
use Rattle.spec_link.specs.declared.script.LinkStep.TheVariants.{OnA, OnB, Send, Deliver}
use Rattle.spec_link.specs.Links.{Pair, Link, opened, is_newer, is_held, send, take_packet, deliver_packet, deliver, link_step, link_run, words_out, words_from, words_answered}
use Rattle.spec_uses.specs.Changes.{NoneAccepted, is_accepted, puts_into}
use Rattle.spec_link.specs.Consumed.{Holds, IsWhole, AreDints, LeavesTag, AreUnforced, words_after}
use Rattle.spec_link.proofs.Growth.{Goes}
use Rattle.spec_link.proofs.Journals.{run_goes}
use Rattle.spec_link.proofs.Lines.{at_snoc, get_longer}
use Rattle.spec_link.proofs.Unwritten.{IsUnwritten}

-- ---- journals that go on

trace_over : (s : State) (xs ys : List Event) → trace_from s (xs ++ ys) ≡ trace_from s xs ++ trace_from (run_from s xs) ys
trace_over s [] ys = refl
trace_over s (x ∷ xs) ys = ap (λ (es : List TraceEntry). (step s x).answer ∷ es) (trace_over (step s x).state xs ys)

all_first : {A : Type 0} (p : A → Bool) (xs ys : List A) → list_all p (xs ++ ys) ≡ true → list_all p xs ≡ true
all_first p xs ys h = and_left (list_all p xs) (list_all p ys) (sym (list_all-append p xs ys) ∙ h)
  where
    and_left : (a b : Bool) → (a && b) ≡ true → a ≡ true
    and_left true b h = refl
    and_left false b h = absurd (cc h)

-- what is asked of the second controller's journal
pub record IsQuiet (p : Project) (journal : List Event) : Type 0 where
  pub unaccepted : NoneAccepted p journal
  pub unforced : AreUnforced p journal

pub quiet_before : (p : Project) (xs ys : List Event) → IsQuiet p (xs ++ ys) → IsQuiet p xs
quiet_before p xs ys h =
    record {
      unaccepted = all_first (λ x. not (is_accepted x)) (trace p xs) (trace_from (run p xs) ys) (ap (list_all (λ x. not (is_accepted x))) (sym (trace_over (start p) xs ys)) ∙ h.unaccepted);
      unforced = λ events more e. h.unforced events (more ++ ys) (sym (append_assoc events more ys) ∙ ap (λ (j : List Event). j ++ ys) e);
    }

quiet_from : (p : Project) (old new : List Event) → Goes old new → IsQuiet p new → IsQuiet p old
quiet_from p old new g q = quiet_before p old g.0 (subst (IsQuiet p) g.1 q)

-- ---- what was sent stays

taken_sent : (l : Pair) (s : Link) (k : ℕ) (words : List ℤ) (b : Bool) → (take_packet l s k words b).link.sent ≡ s.sent
taken_sent l s k words true = refl
taken_sent l s k words false = refl

held_sent : (l : Pair) (s : Link) (k : ℕ) (words : List ℤ) (b : Bool) → (deliver_packet l s k words b).link.sent ≡ s.sent
held_sent l s k words true = refl
held_sent l s k words false = taken_sent l s k words (is_newer s.last k)

delivered_sent : (l : Pair) (s : Link) (k : ℕ) (o : Option (List ℤ)) → (deliver l s k o).link.sent ≡ s.sent
delivered_sent l s k None = refl
delivered_sent l s k (Some words) = held_sent l s k words (is_held l.b s.b)

sent_sent : (l : Pair) (s : Link) (b : Bool) (k : ℕ) (words : List ℤ) → slice_get s.sent k ≡ Some words → slice_get (send l s b).link.sent k ≡ Some words
sent_sent l s true k words h = h
sent_sent l s false k words h = get_longer s.sent _ k words h

step_sent : (l : Pair) (s : Link) (x : LinkStep) (k : ℕ) (words : List ℤ) → slice_get s.sent k ≡ Some words → slice_get (link_step l s x).link.sent k ≡ Some words
step_sent l s (OnA e n) k words h = h
step_sent l s (OnB e n) k words h = h
step_sent l s Send k words h = sent_sent l s (is_held l.a s.a) k words h
step_sent l s (Deliver m) k words h = ap (λ (sent : List (List ℤ)). slice_get sent k) (delivered_sent l s m (slice_get s.sent m)) ∙ h

pub sent_stays : (l : Pair) (s : Link) (xs : List LinkStep) (k : ℕ) (words : List ℤ) → slice_get s.sent k ≡ Some words → slice_get (link_run l s xs).sent k ≡ Some words
sent_stays l s [] k words h = h
sent_stays l s (x ∷ xs) k words h = sent_stays l (link_step l s x).link xs k words (step_sent l s x k words h)

-- ---- what the tag holds

-- so many words, each of 32 bits
pub record IsPacket (n : ℕ) (words : List ℤ) : Type 0 where
  pub many : length words ≡ n
  pub fit : Each (λ v. fits Dint v ≡ true) words

module _
    (l : Pair)
    (t : ℕ)
    (c : ConnDef)
    (unwritten : IsUnwritten l.b t c)
    (sends : (j : List Event) → is_held l.a j ≡ false → length (words_answered l.a j (words_out l)) ≡ c.words)
    (takes : (j : List Event) (words : List ℤ) → IsQuiet l.b (j ++ words_from l.input 0 words) → is_held l.b j ≡ false → IsPacket c.words words → words_after l.b c (j ++ words_from l.input 0 words) ≡ words)
  where
    -- so each line keeps it
    pub record Goods (s : Link) : Type 0 where
      pub packets : (k : ℕ) (words : List ℤ) → slice_get s.sent k ≡ Some words → length words ≡ c.words
      pub whole : IsWhole l c s

    stays : (j : List Event) (n : ℕ) (e : Event) → puts_into l.b t e ≡ false → IsQuiet l.b (j ++ replicate n e) → words_after l.b c (j ++ replicate n e) ≡ words_after l.b c j
    stays j zero e outside q = ap (words_after l.b c) (append-nil j)
    stays j (suc n) e outside q =
        let is = append_assoc j (e ∷ []) (replicate n e) in
        let q' = subst (IsQuiet l.b) (sym is) q in
        ap (words_after l.b c) (sym is) ∙ (stays (j ++ e ∷ []) n e outside q' ∙ unwritten j e (quiet_before l.b (j ++ e ∷ []) (replicate n e) q').unaccepted outside)

    holds_now : (sent : List (List ℤ)) (opening old new : List ℤ) (o : Option ℕ) → new ≡ old → Holds sent opening old o → Holds sent opening new o
    holds_now sent opening old new o e h = subst (λ (w : List ℤ). Holds sent opening w o) (sym e) h

    holds_more : (sent more : List (List ℤ)) (opening now : List ℤ) (o : Option ℕ) → Holds sent opening now o → Holds (sent ++ more) opening now o
    holds_more sent more opening now None h = h
    holds_more sent more opening now (Some k) h = get_longer sent more k now h

    good_sent : (s : Link) (b : Bool) → is_held l.a s.a ≡ b → Goods s → Goods (send l s b).link
    good_sent s true e g = record { packets = g.packets; whole = g.whole }
    good_sent s false e g =
        record {
          packets = λ k words h. ⊎_elim (λ (old : slice_get s.sent k ≡ Some words). g.packets k words old) (λ (new : words_answered l.a s.a (words_out l) ≡ words). ap (λ (w : List ℤ). length w) (sym new) ∙ sends s.a e)
              (at_snoc s.sent (words_answered l.a s.a (words_out l)) words k h);
          whole = holds_more s.sent _ _ _ s.last g.whole;
        }

    good_taken : (s : Link) (dints : AreDints s.sent) (k : ℕ) (words : List ℤ) (b : Bool) → slice_get s.sent k ≡ Some words → is_held l.b s.b ≡ false → IsQuiet l.b (take_packet l s k words b).link.b → Goods s → Goods (take_packet l s k words b).link
    good_taken s dints k words false at free q g = record { packets = g.packets; whole = g.whole }
    good_taken s dints k words true at free q g =
        record {
          packets = g.packets;
          whole = at ∙ ap Some (sym (takes s.b words q free (record { many = g.packets k words at; fit = dints k words at })));
        }

    good_held : (s : Link) (dints : AreDints s.sent) (k : ℕ) (words : List ℤ) (b : Bool) → slice_get s.sent k ≡ Some words → is_held l.b s.b ≡ b → IsQuiet l.b (deliver_packet l s k words b).link.b → Goods s → Goods (deliver_packet l s k words b).link
    good_held s dints k words true at e q g = record { packets = g.packets; whole = g.whole }
    good_held s dints k words false at e q g = good_taken s dints k words (is_newer s.last k) at e q g

    good_delivered : (s : Link) (dints : AreDints s.sent) (k : ℕ) (o : Option (List ℤ)) → slice_get s.sent k ≡ o → IsQuiet l.b (deliver l s k o).link.b → Goods s → Goods (deliver l s k o).link
    good_delivered s dints k None at q g = record { packets = g.packets; whole = g.whole }
    good_delivered s dints k (Some words) at q g = good_held s dints k words (is_held l.b s.b) at refl q g

    good_step : (s : Link) (dints : AreDints s.sent) (x : LinkStep) → LeavesTag l.b t x → IsQuiet l.b (link_step l s x).link.b → Goods s → Goods (link_step l s x).link
    good_step s dints (OnA e n) outside q g = record { packets = g.packets; whole = g.whole }
    good_step s dints (OnB e n) outside q g =
        record { packets = g.packets; whole = holds_now s.sent _ _ _ s.last (stays s.b n e outside q) g.whole }
    good_step s dints Send outside q g = good_sent s (is_held l.a s.a) refl g
    good_step s dints (Deliver k) outside q g = good_delivered s dints k (slice_get s.sent k) refl q g

    pub good_run : (s : Link) (xs : List LinkStep) → AreDints (link_run l s xs).sent → Each (LeavesTag l.b t) xs → IsQuiet l.b (link_run l s xs).b → Goods s → Goods (link_run l s xs)
    good_run s [] dints outside q g = g
    good_run s (x ∷ xs) dints outside q g =
        let next = (link_step l s x).link in
        let before : AreDints s.sent = λ k words h. dints k words (sent_stays l s (x ∷ xs) k words h) in
        good_run next xs dints outside.1 q (good_step s before x outside.0 (quiet_from l.b next.b (link_run l next xs).b (run_goes l next xs).b q) g)

    pub good_opened : Goods opened
    good_opened = record { packets = λ k words h. absurd (cc h); whole = refl }
