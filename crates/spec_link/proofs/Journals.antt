-- How the two controllers' journals go on with the lines of a link script.
use Rattle.std.proofs.Common.{Bool, true, false, List, [], ◌∷◌}
use Rattle.std.specs.Prelude.{ℕ, ℤ, Option, Some, None, replicate, slice_get}
use Rattle.spec_link.specs.declared.script.LinkStep.{LinkStep}
use Rattle.spec_link.specs.declared.script.LinkStep.TheVariants.{OnA, OnB, Send, Deliver}
use Rattle.spec_link.specs.Links.{Pair, Link, is_newer, is_held, send, take_packet, deliver_packet, deliver, link_step, link_run, words_out, words_from}
use Rattle.spec_link.proofs.Growth.{Goes, goes_not, goes_by, goes_on}

-- both go on
pub record BothGo (old new : Link) : Type 0 where
  pub a : Goes old.a new.a
  pub b : Goes old.b new.b

pub both_stay : (s : Link) → BothGo s s
both_stay s = record { a = goes_not s.a; b = goes_not s.b }

taken_goes : (l : Pair) (s : Link) (k : ℕ) (words : List ℤ) (b : Bool) → BothGo s (take_packet l s k words b).link
taken_goes l s k words true = record { a = goes_not s.a; b = goes_by s.b (words_from l.input 0 words) }
taken_goes l s k words false = both_stay s

held_goes : (l : Pair) (s : Link) (k : ℕ) (words : List ℤ) (b : Bool) → BothGo s (deliver_packet l s k words b).link
held_goes l s k words true = both_stay s
held_goes l s k words false = taken_goes l s k words (is_newer s.last k)

delivered_goes : (l : Pair) (s : Link) (k : ℕ) (o : Option (List ℤ)) → BothGo s (deliver l s k o).link
delivered_goes l s k None = both_stay s
delivered_goes l s k (Some words) = held_goes l s k words (is_held l.b s.b)

sent_goes : (l : Pair) (s : Link) (b : Bool) → BothGo s (send l s b).link
sent_goes l s true = both_stay s
sent_goes l s false = record { a = goes_by s.a (words_out l); b = goes_not s.b }

pub step_goes : (l : Pair) (s : Link) (x : LinkStep) → BothGo s (link_step l s x).link
step_goes l s (OnA e n) = record { a = goes_by s.a (replicate n e); b = goes_not s.b }
step_goes l s (OnB e n) = record { a = goes_not s.a; b = goes_by s.b (replicate n e) }
step_goes l s Send = sent_goes l s (is_held l.a s.a)
step_goes l s (Deliver k) = delivered_goes l s k (slice_get s.sent k)

pub run_goes : (l : Pair) (s : Link) (xs : List LinkStep) → BothGo s (link_run l s xs)
run_goes l s [] = both_stay s
run_goes l s (x ∷ xs) =
    let next = (link_step l s x).link in
    let first = step_goes l s x in
    let rest = run_goes l next xs in
    record { a = goes_on s.a next.a _ first.a rest.a; b = goes_on s.b next.b _ first.b rest.b }
