-- What lines do to the state that two controllers under way stand for.
use Rattle.std.proofs.Common.{◌≡◌, ℕ, zero, suc, ◌+◌, ◌≤◌, ⊎_elim, Bool, true, false, cond, List, [], ◌∷◌, ◌++◌, map, length, length-append, Option, Some, None, option_map, refl, sym, ap, ◌∙◌, subst, arith}
use Rattle.std.specs.Prelude.{ℤ, ◌*◌, nat_le, nat_lt, slice_get, slice_index_or, unwrap_or}
use Rattle.std.specs.List.{list_all}
use Rattle.std.proofs.lemmas.Bool.{and_parts, leb-true}
use Rattle.std.proofs.lemmas.List.{length-map, map-append}
use Rattle.std.proofs.lemmas.Option.{slice_get-map, same_Some}
use Rattle.spec_base.specs.declared.limits.TheConstants.{MAX_CONNECTION_WORDS, MAX_IMAGE_BYTES}
use Rattle.spec_tables.specs.declared.conn.ConnDef.{ConnDef}
use Rattle.spec_tables.specs.Connections.{conn_named, no_conn}
use Rattle.spec_machine.specs.declared.event.Event.{Event}
use Rattle.spec_machine.specs.Project.{Project}
use Rattle.spec_machine.specs.ValidProject.{IsValidProject, is_small_connection, is_within}
use Rattle.spec_link.specs.declared.script.LinkAnswer.TheVariants.{Stale, New}
use Rattle.spec_link.specs.declared.script.LinkScript.{LinkScript}
use Rattle.spec_link.specs.LinkText.{conn_at, connection, in_direction}
use Rattle.spec_link.specs.Links.{Pair, Link, opened, send, deliver, deliver_packet, take_packet, is_held, is_newer, words_in, words_out, words_answered, words_from}
use Rattle.spec_link.specs.LinkOutput.{pair_of}
use Rattle.spec_link.specs.Consumed.{AreDints}
use Rattle.spec_link.proofs.Lines.{at_snoc}
use Rattle.lgx_record.specs.Records.{Records}
use Rattle.lgx_link.specs.declared.consumer.Taken.TheVariants as packet
use Rattle.lgx_link.specs.declared.packet.Packet.{Packet}
use Rattle.lgx_link.specs.declared.packet.TheConstants.{MAX_WORDS}
use Rattle.lgx_link.specs.Taking.{taken, last_after}
use Rattle.lgx_link.specs.declared.running.Running.{Running}
use Rattle.lgx_link.specs.Running.{IsLink, IsAnswered, AreWords, AreNumbered, outs}

-- ---- packets

-- the words of a packet that was sent
pub found : (v : Running) (l : Pair) (s : Link) (k : ℕ) (p : Packet) → IsLink v l s → slice_get v.packets.items k ≡ Some p → slice_get s.sent k ≡ Some p.words
found v l s k p h is =
    ap (λ (xs : List (List ℤ)). slice_get xs k) (sym h.packets) ∙ slice_get-map (λ (p : Packet). p.words) v.packets.items k ∙ ap (option_map (λ (p : Packet). p.words)) is

pub missed : (v : Running) (l : Pair) (s : Link) (k : ℕ) → IsLink v l s → slice_get v.packets.items k ≡ None → slice_get s.sent k ≡ None
missed v l s k h is =
    ap (λ (xs : List (List ℤ)). slice_get xs k) (sym h.packets) ∙ slice_get-map (λ (p : Packet). p.words) v.packets.items k ∙ ap (option_map (λ (p : Packet). p.words)) is

-- one more packet, whose number is how many were before it
numbered_from : (n : ℕ) (packets : List Packet) (p : Packet) → ((k : ℕ) (q : Packet) → slice_get packets k ≡ Some q → q.number ≡ n + k) → p.number ≡ n + length packets
    → (k : ℕ) (q : Packet) → slice_get (packets ++ p ∷ []) k ≡ Some q → q.number ≡ n + k
numbered_from n [] p h is zero q at = ap (λ (x : Packet). x.number) (sym (same_Some _ _ at)) ∙ is
numbered_from n [] p h is (suc k) q at = absurd (cc at)
numbered_from n (x ∷ xs) p h is zero q at = h zero q at
numbered_from n (x ∷ xs) p h is (suc k) q at =
    let later : q.number ≡ suc n + k = numbered_from (suc n) xs p (λ j r e. let f = h (suc j) r e in omega arith) (omega arith) k q at in
    omega arith

numbered_more : (packets : List Packet) (p : Packet) → AreNumbered packets → p.number ≡ length packets → AreNumbered (packets ++ p ∷ [])
numbered_more packets p h is k q at =
    let all : q.number ≡ 0 + k = numbered_from 0 packets p (λ j r e. let f = h j r e in omega arith) (omega arith) k q at in
    omega arith

-- ---- a sending

-- the words out are those of the produced connection
pub outs_are : (v : Running) (l : Pair) (s : Link) → IsLink v l s → outs v.output v.words ≡ words_out l
outs_are v l s h = ap (λ (name : List ℕ). outs name v.words) h.output ∙ ap (λ n. outs l.output n) h.words

dints_more : (sent : List (List ℤ)) (words : List ℤ) → AreDints sent → AreWords words → AreDints (sent ++ words ∷ [])
dints_more sent words h g k ws at =
    ⊎_elim (λ (old : slice_get sent k ≡ Some ws). h k ws old) (λ (new : words ≡ ws). subst AreWords new g) (at_snoc sent words ws k at)

-- a packet was sent: the first controller's events, the producer and the packets went on
pub record HasSent (v w : Running) (words : List ℤ) (packet : Packet) : Type 0 where
  pub b : w.b ≡ v.b
  pub output : w.output ≡ v.output
  pub words_are : w.words ≡ v.words
  pub input : w.input ≡ v.input
  pub consumer : w.consumer ≡ v.consumer
  pub packet_is : packet ≡ record { number = v.producer; words = words }
  pub packets : w.packets.items ≡ v.packets.items ++ packet ∷ []
  pub count : w.producer ≡ v.producer + 1

pub sent : (v w : Running) (l : Pair) (s : Link) (words : List ℤ) (packet : Packet) → IsLink v l s → HasSent v w words packet
    → Records w.a l.a (s.a ++ outs v.output v.words) → words ≡ words_answered l.a s.a (outs v.output v.words) → AreWords words
    → IsLink w l (send l s false).link
sent v w l s words packet h g records told range =
    let outs_is = outs_are v l s h in
    let told_all : words ≡ words_answered l.a s.a (words_out l) = told ∙ ap (λ (es : List Event). words_answered l.a s.a es) outs_is in
    let many : v.producer ≡ length v.packets.items = h.count ∙ sym (ap length h.packets) ∙ length-map v.packets.items (λ (p : Packet). p.words) in
    let number : packet.number ≡ length v.packets.items = ap (λ (p : Packet). p.number) g.packet_is ∙ many in
    let all : map (λ (p : Packet). p.words) w.packets.items ≡ s.sent ++ words ∷ [] =
    ap (map (λ (p : Packet). p.words)) g.packets ∙ map-append (λ (p : Packet). p.words) v.packets.items (packet ∷ [])
    ∙ ap (λ (xs : List (List ℤ)). xs ++ packet.words ∷ []) h.packets ∙ ap (λ (p : Packet). s.sent ++ p.words ∷ []) g.packet_is
    in
    record {
      a = subst (λ (es : List Event). Records w.a l.a (s.a ++ es)) outs_is records;
      b = subst (λ x. Records x l.b s.b) (sym g.b) h.b;
      output = g.output ∙ h.output;
      words = g.words_are ∙ h.words;
      few = subst (λ n. n ≤ MAX_WORDS) (sym g.words_are) h.few;
      input = g.input ∙ h.input;
      count = g.count ∙ ap (λ n. n + 1) h.count ∙ sym (length-append s.sent (words_answered l.a s.a (words_out l) ∷ []));
      last = g.consumer ∙ h.last;
      packets = all ∙ ap (λ (ws : List ℤ). s.sent ++ ws ∷ []) told_all;
      numbers = subst AreNumbered (sym g.packets) (numbered_more v.packets.items packet h.numbers number);
      range = dints_more s.sent (words_answered l.a s.a (words_out l)) h.range (subst AreWords told_all range);
    }

-- ---- a delivery

-- a packet was taken: the second controller's events and the consumer went on
pub record HasTaken (v w : Running) : Type 0 where
  pub a : w.a ≡ v.a
  pub output : w.output ≡ v.output
  pub words_are : w.words ≡ v.words
  pub input : w.input ≡ v.input
  pub count : w.producer ≡ v.producer
  pub packets : w.packets.items ≡ v.packets.items

pub moved : (v w : Running) (l : Pair) (s : Link) (es : List Event) (last : Option ℕ) → IsLink v l s → HasTaken v w → Records w.b l.b es → w.consumer ≡ last → IsLink w l (record s { b = es; last = last })
moved v w l s es last h g records is = record {
  a = subst (λ x. Records x l.a s.a) (sym g.a) h.a;
  b = records;
  output = g.output ∙ h.output;
  words = g.words_are ∙ h.words;
  few = subst (λ n. n ≤ MAX_WORDS) (sym g.words_are) h.few;
  input = g.input ∙ h.input;
  count = g.count ∙ h.count;
  last = is;
  packets = ap (map (λ (p : Packet). p.words)) g.packets ∙ h.packets;
  numbers = subst AreNumbered (sym g.packets) h.numbers;
  range = h.range;
}

-- a consumer's answer tells whether the number was newer
newer_by : (b : Bool) → cond b packet.New packet.Stale ≡ packet.New → b ≡ true
newer_by true e = refl
newer_by false e = absurd (cc e)

stale_by : (b : Bool) → cond b packet.New packet.Stale ≡ packet.Stale → b ≡ false
stale_by true e = absurd (cc e)
stale_by false e = refl

pub is_new : (v : Running) (l : Pair) (s : Link) (k : ℕ) (p : Packet) → IsLink v l s → slice_get v.packets.items k ≡ Some p → packet.New ≡ taken v.consumer p.number → is_newer s.last k ≡ true
is_new v l s k p h at e =
    ap (λ (o : Option ℕ). is_newer o k) (sym h.last) ∙ ap (λ n. is_newer v.consumer n) (sym (h.numbers k p at)) ∙ newer_by (is_newer v.consumer p.number) (sym e)

pub is_stale : (v : Running) (l : Pair) (s : Link) (k : ℕ) (p : Packet) → IsLink v l s → slice_get v.packets.items k ≡ Some p → packet.Stale ≡ taken v.consumer p.number → is_newer s.last k ≡ false
is_stale v l s k p h at e =
    ap (λ (o : Option ℕ). is_newer o k) (sym h.last) ∙ ap (λ n. is_newer v.consumer n) (sym (h.numbers k p at)) ∙ stale_by (is_newer v.consumer p.number) (sym e)

-- the number of the packet that was taken last, after one that was taken and one that wasn't
pub last_new : (v : Running) (l : Pair) (s : Link) (k : ℕ) (p : Packet) (last : Option ℕ) → IsLink v l s → slice_get v.packets.items k ≡ Some p → is_newer s.last k ≡ true → last ≡ last_after v.consumer p.number → last ≡ Some k
last_new v l s k p last h at newer is =
    is ∙ ap (λ (o : Option ℕ). last_after o p.number) h.last ∙ ap (λ n. last_after s.last n) (h.numbers k p at) ∙ ap (λ b. cond b (Some k) s.last) newer

pub last_stale : (v : Running) (l : Pair) (s : Link) (k : ℕ) (p : Packet) (last : Option ℕ) → IsLink v l s → slice_get v.packets.items k ≡ Some p → is_newer s.last k ≡ false → last ≡ last_after v.consumer p.number → last ≡ s.last
last_stale v l s k p last h at newer is =
    is ∙ ap (λ (o : Option ℕ). last_after o p.number) h.last ∙ ap (λ n. last_after s.last n) (h.numbers k p at) ∙ ap (λ b. cond b (Some k) s.last) newer

-- what is answered of a packet that was sent
pub answered_stale : (v w : Running) (l : Pair) (s : Link) (k : ℕ) (p : Packet) → IsLink v l s → slice_get v.packets.items k ≡ Some p → is_held l.b s.b ≡ false → is_newer s.last k ≡ false → IsLink w l s
    → IsAnswered w (Stale k) l (deliver l s k (slice_get s.sent k))
answered_stale v w l s k p h at free stale g =
    let taken_is : IsAnswered w (Stale k) l (take_packet l s k p.words (is_newer s.last k)) = subst (λ b. IsAnswered w (Stale k) l (take_packet l s k p.words b)) (sym stale) (record { link = g; answer_is = refl }) in
    subst (λ (o : Option (List ℤ)). IsAnswered w (Stale k) l (deliver l s k o)) (sym (found v l s k p h at)) (subst (λ b. IsAnswered w (Stale k) l (deliver_packet l s k p.words b)) (sym free) taken_is)

pub answered_new : (v w : Running) (l : Pair) (s : Link) (k : ℕ) (p : Packet) → IsLink v l s → slice_get v.packets.items k ≡ Some p → is_held l.b s.b ≡ false → is_newer s.last k ≡ true
    → IsLink w l (record s { b = s.b ++ words_from l.input 0 p.words; last = Some k })
    → IsAnswered w (New k) l (deliver l s k (slice_get s.sent k))
answered_new v w l s k p h at free newer g =
    let taken_is : IsAnswered w (New k) l (take_packet l s k p.words (is_newer s.last k)) = subst (λ b. IsAnswered w (New k) l (take_packet l s k p.words b)) (sym newer) (record { link = g; answer_is = refl }) in
    subst (λ (o : Option (List ℤ)). IsAnswered w (New k) l (deliver l s k o)) (sym (found v l s k p h at)) (subst (λ b. IsAnswered w (New k) l (deliver_packet l s k p.words b)) (sym free) taken_is)

-- ---- the opening

pub words_known : (o : Option ConnDef) (n : ℕ) → n ≡ unwrap_or (option_map (λ (c : ConnDef). c.words) o) 0 → n ≡ words_in o
words_known None n e = e
words_known (Some c) n e = e

within_most : (n : ℕ) → is_within n MAX_CONNECTION_WORDS ≡ true → n ≤ MAX_WORDS
within_most n h =
    let most = leb-true n MAX_CONNECTION_WORDS (and_parts (nat_lt 0 n) (nat_le n MAX_CONNECTION_WORDS) h).1 in
    omega arith

few_at : (conns : List ConnDef) → list_all is_small_connection conns ≡ true → (n : ℕ) → (slice_index_or conns n no_conn).words ≤ MAX_WORDS
few_at [] h zero = omega arith
few_at [] h (suc n) = omega arith
few_at (c ∷ cs) h zero =
    let both = and_parts (is_small_connection c) (list_all is_small_connection cs) h in
    within_most c.words (and_parts (is_within c.words MAX_CONNECTION_WORDS) (nat_le (c.byte + 4 * c.words) MAX_IMAGE_BYTES) both.0).0
few_at (c ∷ cs) h (suc n) = few_at cs (and_parts (is_small_connection c) (list_all is_small_connection cs) h).1 n

few_in : (output : Bool) (c : ConnDef) → c.words ≤ MAX_WORDS → words_in (in_direction output c) ≤ MAX_WORDS
few_in output c few = go output c.output
  where
    of_output : (b : Bool) → words_in (cond b (Some c) None) ≤ MAX_WORDS
    of_output true = few
    of_output false = omega arith

    of_input : (b : Bool) → words_in (cond b None (Some c)) ≤ MAX_WORDS
    of_input true = omega arith
    of_input false = few

    go : (output b : Bool) → words_in (in_direction output c) ≤ MAX_WORDS
    go true b = of_output c.output
    go false b = of_input c.output

-- a connection of a valid project has few words
pub few_words : (p : Project) (output : Bool) (name : List ℕ) → IsValidProject p → words_in (connection p output name) ≤ MAX_WORDS
few_words p output name valid = go (conn_named p.conns name)
  where
    go : (o : Option ℕ) → words_in (conn_at p.conns output o) ≤ MAX_WORDS
    go None = omega arith
    go (Some n) = few_in output (slice_index_or p.conns n no_conn) (few_at p.conns valid.limits.words n)

-- nothing was sent, and nothing taken
pub opened_link : (v : Running) (a b : Project) (script : LinkScript) → Records v.a a [] → Records v.b b [] → v.output ≡ script.output → v.input ≡ script.input
    → v.words ≡ words_in (connection a true script.output) → v.producer ≡ 0 → v.consumer ≡ None → v.packets.items ≡ []
    → IsLink v (pair_of a b script) opened
opened_link v a b script of_a of_b is_output is_input is_words none_sent none_taken none =
    record {
      a = of_a;
      b = of_b;
      output = is_output;
      words = is_words;
      few = subst (λ n. n ≤ MAX_WORDS) (sym is_words) (few_words a true script.output of_a.controller.valid);
      input = is_input;
      count = none_sent;
      last = none_taken;
      packets = ap (map (λ (p : Packet). p.words)) none;
      numbers = subst AreNumbered (sym none) (λ k p at. absurd (cc at));
      range = λ k words at. absurd (cc at);
    }
