-- What a link script does to two controllers.
use Rattle.std.specs.Prelude.{ℕ, ◌+◌, List, [], ◌∷◌, ◌++◌, map, length, flat_map, replicate, slice_get, Bool, true, false, nat_lt, ℤ, Option, Some, None}
use Rattle.std.specs.List.{range_with_len}
use Rattle.spec_base.specs.declared.limits.TheConstants.{OWN_LANE}
use Rattle.spec_tables.specs.declared.conn.ConnDef.{ConnDef}
use Rattle.spec_tables.specs.Tasks.{held}
use Rattle.spec_machine.specs.declared.event.Event.{Event}
use Rattle.spec_machine.specs.declared.event.Event.TheVariants.{Act}
use Rattle.spec_machine.specs.declared.event.Action.TheVariants.{WordIn, WordOut}
use Rattle.spec_machine.specs.declared.reply.Reply.{Reply}
use Rattle.spec_machine.specs.declared.reply.Reply.TheVariants.{Word}
use Rattle.spec_machine.specs.Machine.{TraceEntry, OfStep, OfTick, OfAction, run, trace_from}
use Rattle.spec_machine.specs.Project.{Project}
use Rattle.spec_link.specs.declared.script.LinkAnswer.{LinkAnswer}
use Rattle.spec_link.specs.declared.script.LinkAnswer.TheVariants.{Events, SendHeld, Sent, NotSent, DeliverHeld, Stale, New}
use Rattle.spec_link.specs.declared.script.LinkStep.{LinkStep}
use Rattle.spec_link.specs.declared.script.LinkStep.TheVariants.{OnA, OnB, Send, Deliver}
use Rattle.spec_link.specs.LinkText.{connection}

-- the two controllers and the connections that the script joins
pub record Pair : Type 0 where
  pub a : Project
  pub b : Project
  pub output : List ℕ
  pub input : List ℕ

-- The events of each controller so far, the packets that were sent by their numbers, and the number of the last one taken.
pub record Link : Type 0 where
  pub a : List Event
  pub b : List Event
  pub sent : List (List ℤ)
  pub last : Option ℕ

abbrev pub opened : Link
opened = record { a = []; b = []; sent = []; last = None }

-- ---- the words of a connection, all at once

abbrev pub words_in : Option ConnDef → ℕ
words_in None = 0
words_in (Some c) = c.words

-- a word out for each word, in order
abbrev pub words_out : Pair → List Event
words_out l = map (λ k. Act OWN_LANE (WordOut l.output k)) (range_with_len 0 (words_in (connection l.a true l.output)))

abbrev pub word_of : Reply → List ℤ
word_of (Word v) = v ∷ []
word_of _ = []

abbrev pub answered : TraceEntry → List ℤ
answered (OfStep m) = []
answered (OfTick r) = []
answered (OfAction lane action o) = word_of o.reply

-- the words that these events are answered after a journal
abbrev pub words_answered : Project → List Event → List Event → List ℤ
words_answered p journal events = flat_map answered (trace_from (run p journal) events)

-- a word in for each of these words, in order, from number k on
abbrev pub words_from : List ℕ → ℕ → List ℤ → List Event
words_from input k [] = []
words_from input k (v ∷ vs) = Act OWN_LANE (WordIn input k v) ∷ words_from input (k + 1) vs

-- ---- the lines

-- nothing was taken yet, or this number is greater than that of the last packet taken
abbrev pub is_newer : Option ℕ → ℕ → Bool
is_newer None k = true
is_newer (Some last) k = nat_lt last k

pub record Linked : Type 0 where
  pub link : Link
  pub answer : LinkAnswer

abbrev pub linked : Link → LinkAnswer → Linked
linked s answer = record { link = s; answer = answer }

abbrev pub is_held : Project → List Event → Bool
is_held p journal = held (run p journal).table

abbrev pub send : Pair → Link → Bool → Linked
send l s true = linked s SendHeld
send l s false =
    linked (record s { a = s.a ++ words_out l; sent = s.sent ++ words_answered l.a s.a (words_out l) ∷ [] }) (Sent (length s.sent))

abbrev pub take_packet : Pair → Link → ℕ → List ℤ → Bool → Linked
take_packet l s k words false = linked s (Stale k)
take_packet l s k words true = linked (record s { b = s.b ++ words_from l.input 0 words; last = Some k }) (New k)

abbrev pub deliver_packet : Pair → Link → ℕ → List ℤ → Bool → Linked
deliver_packet l s k words true = linked s (DeliverHeld k)
deliver_packet l s k words false = take_packet l s k words (is_newer s.last k)

abbrev pub deliver : Pair → Link → ℕ → Option (List ℤ) → Linked
deliver l s k None = linked s (NotSent k)
deliver l s k (Some words) = deliver_packet l s k words (is_held l.b s.b)

abbrev pub link_step : Pair → Link → LinkStep → Linked
link_step l s (OnA e n) = linked (record s { a = s.a ++ replicate n e }) Events
link_step l s (OnB e n) = linked (record s { b = s.b ++ replicate n e }) Events
link_step l s Send = send l s (is_held l.a s.a)
link_step l s (Deliver k) = deliver l s k (slice_get s.sent k)

-- after these lines
abbrev pub link_run : Pair → Link → List LinkStep → Link
link_run l s [] = s
link_run l s (x ∷ xs) = link_run l (link_step l s x).link xs
