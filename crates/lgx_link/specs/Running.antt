-- How two controllers under way stand for the state of a link.
use Rattle.std.specs.Prelude.{◌≡◌, ℕ, ◌+◌, ◌≤◌, List, ◌++◌, map, flat_map, length, slice_get, sum_by, true, ℤ, Some}
use Rattle.std.specs.List.{AllByRecursion as Each, range_with_len}
use Rattle.spec_base.specs.declared.limits.TheConstants.{MAX_EVENTS, OWN_LANE}
use Rattle.lgx_num.specs.declared.number.Kind.TheVariants.{Dint}
use Rattle.lgx_num.specs.Number.{fits}
use Rattle.spec_machine.specs.declared.event.Event.{Event}
use Rattle.spec_machine.specs.declared.event.Event.TheVariants.{Act}
use Rattle.spec_machine.specs.declared.event.Action.TheVariants.{WordOut}
use Rattle.spec_link.specs.declared.script.LinkAnswer.{LinkAnswer}
use Rattle.spec_link.specs.declared.script.LinkStep.{LinkStep}
use Rattle.spec_link.specs.declared.script.LinkStep.TheVariants.{OnA, OnB, Send, Deliver}
use Rattle.spec_link.specs.LinkText.{connection}
use Rattle.spec_link.specs.Links.{Pair, Link, Linked, words_in}
use Rattle.spec_link.specs.LinkOutput.{step_lines, written}
use Rattle.spec_link.specs.Consumed.{AreDints}
use Rattle.lgx_record.specs.Records.{Records}
use Rattle.lgx_link.specs.declared.packet.TheConstants.{MAX_WORDS}
use Rattle.lgx_link.specs.declared.packet.Packet.{Packet}
use Rattle.lgx_link.specs.declared.running.Running.{Running}

-- ---- the words of a connection

-- a word out for each of the first n words of a connection, in order
abbrev pub outs : List ℕ → ℕ → List Event
outs output n = map (λ k. Act OWN_LANE (WordOut output k)) (range_with_len 0 n)

-- each is of 32 bits
abbrev pub AreWords : List ℤ → Type 0
AreWords words = Each (λ v. fits Dint v ≡ true) words

-- ---- the state

-- each packet's number is its place
abbrev pub AreNumbered : List Packet → Type 0
AreNumbered packets = (k : ℕ) (p : Packet) → slice_get packets k ≡ Some p → p.number ≡ k

-- Each controller records its events, and the packets are those that were sent. The producer has counted them, and the consumer
-- has the number of the last one taken.
pub record IsLink (v : Running) (l : Pair) (s : Link) : Type 0 where
  pub a : Records v.a l.a s.a
  pub b : Records v.b l.b s.b
  pub output : v.output ≡ l.output
  pub words : v.words ≡ words_in (connection l.a true l.output)
  pub few : v.words ≤ MAX_WORDS
  pub input : v.input ≡ l.input
  pub count : v.producer ≡ length s.sent
  pub last : v.consumer ≡ s.last
  pub packets : map (λ p. p.words) v.packets.items ≡ s.sent
  pub numbers : AreNumbered v.packets.items
  pub range : AreDints s.sent

-- it stands for the state after a line, whose answer this is
pub record IsAnswered (v : Running) (answer : LinkAnswer) (l : Pair) (after : Linked) : Type 0 where
  pub link : IsLink v l after.link
  pub answer_is : answer ≡ after.answer

-- it stands for the state after a line, whose lines were added to the text
pub record Follows (v : Running) (old new : List ℕ) (l : Pair) (s : Link) (after : Linked) : Type 0 where
  pub link : IsLink v l after.link
  pub text : new ≡ old ++ flat_map written (step_lines l s after)

-- ---- room

-- the events of each controller that a line may bring
abbrev pub events_of_a : LinkStep → ℕ
events_of_a (OnA e n) = n
events_of_a Send = MAX_WORDS
events_of_a _ = 0

abbrev pub events_of_b : LinkStep → ℕ
events_of_b (OnB e n) = n
events_of_b (Deliver k) = MAX_WORDS
events_of_b _ = 0

-- After `a` events of the first controller, `b` of the second and `sends` sendings there is room for those of these lines.
pub record HasRoom (a b sends : ℕ) (steps : List LinkStep) : Type 0 where
  pub of_a : a + sum_by events_of_a steps ≤ MAX_EVENTS
  pub of_b : b + sum_by events_of_b steps ≤ MAX_EVENTS
  pub of_sends : sends + sum_by events_of_a steps ≤ MAX_EVENTS
