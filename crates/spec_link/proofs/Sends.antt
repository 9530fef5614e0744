-- The words out of an output connection are answered with as many words as it has, and change nothing.
use Rattle.std.proofs.Common.{◌≡◌, ℕ, zero, suc, ◌+◌, ◌≤◌, ◌<◌, Bool, true, false, List, ◌∷◌, length, map, flat_map, refl, sym, ◌∙◌, ap, arith}
use Rattle.std.specs.Prelude.{ℤ, Option, Some, None, Ok, Err, nat_lt, slice_index_or, if◌then◌else◌}
use Rattle.std.specs.List.{range_with_len}
use Rattle.std.proofs.lemmas.Option.{same_Some}
use Rattle.std.proofs.lemmas.Bool.{lt-ltb}
use Rattle.std.specs.Int.{w32}
use Rattle.spec_base.specs.declared.limits.TheConstants.{OWN_LANE}
use Rattle.lgx_num.specs.Image.{signed_at}
use Rattle.spec_tables.specs.declared.conn.ConnDef.{ConnDef}
use Rattle.spec_tables.specs.declared.conn.Slot.{Slot}
use Rattle.spec_tables.specs.declared.conn.ConnFault.TheVariants.{N2}
use Rattle.spec_tables.specs.Connections.{conn_named, no_conn, slot, slot_of, slot_in, in_direction as in_slot}
use Rattle.spec_tables.specs.Forces.{forced}
use Rattle.spec_tables.specs.Tasks.{held}
use Rattle.spec_machine.specs.declared.answer.Outcome.{Outcome}
use Rattle.spec_machine.specs.declared.event.Event.{Event}
use Rattle.spec_machine.specs.declared.event.Event.TheVariants as events
use Rattle.spec_machine.specs.declared.event.Action.TheVariants.{WordOut}
use Rattle.spec_machine.specs.declared.reply.Reply.TheVariants as reply
use Rattle.spec_machine.specs.Actions.{held_or, take_out}
use Rattle.spec_machine.specs.Machine.{OfAction, after_action, run, step, trace_from, TraceEntry}
use Rattle.spec_machine.specs.State.{State, Plan, Answered}
use Rattle.spec_reach.proofs.Sizes.{runs_keep_sizes}
use Rattle.spec_link.specs.LinkText.{conn_at, connection}
use Rattle.spec_link.specs.Links.{Pair, answered, words_in, words_out, words_answered, is_held}

-- ---- the slots of an output

output_at : (conns : List ConnDef) (o : Option ℕ) (c : ConnDef) → conn_at conns true o ≡ Some c → (n : ℕ) × (o ≡ Some n) × (slice_index_or conns n no_conn ≡ c) × (c.output ≡ true)
output_at conns None c h = absurd (cc h)
output_at conns (Some n) c h = go (slice_index_or conns n no_conn).output refl h
  where
    go : (b : Bool) → (slice_index_or conns n no_conn).output ≡ b → (if b then Some (slice_index_or conns n no_conn) else None) ≡ Some c → (m : ℕ) × (Some n ≡ Some m) × (slice_index_or conns m no_conn ≡ c) × (c.output ≡ true)
    go false e h' = absurd (cc h')
    go true e h' = let is = same_Some _ _ h' in (n, refl, is, ap (λ (d : ConnDef). d.output) (sym is) ∙ e)

slot_at : (conns : List ConnDef) (name : List ℕ) (c : ConnDef) (k : ℕ) → conn_at conns true (conn_named conns name) ≡ Some c → k < c.words → (to : Slot) × (slot conns name k true ≡ Ok to)
slot_at conns name c k h less =
    let at = output_at conns (conn_named conns name) c h in
    let e : slice_index_or conns at.0 no_conn ≡ c = at.2 in (
      slot_of conns at.0 c k,
      ap (λ (o : Option ℕ). slot_in conns o k true) at.1
          ∙ (ap (λ (d : ConnDef). if nat_lt k d.words then in_slot true d.output (slot_of conns at.0 d k) else Err N2) e
          ∙ (ap (λ (b : Bool). if b then in_slot true c.output (slot_of conns at.0 c k) else Err N2) (lt-ltb k c.words less)
          ∙ ap (λ (b : Bool). in_slot true b (slot_of conns at.0 c k)) at.3)),
    )

-- ---- one word out

abbrev told : State → ℕ → List ℕ → ℤ → Answered TraceEntry
told s k name v = record { state = s; answer = OfAction OWN_LANE (WordOut name k) (record { reply = reply.Word v; fault = None; released = 0 }) }

word_answer : (s : State) (name : List ℕ) (k : ℕ) (to : Slot) → held s.table ≡ false → slot s.plan.conns name k true ≡ Ok to
    → step s (events.Act OWN_LANE (WordOut name k)) ≡ told s k name (forced s.forces to.io (signed_at w32 s.image to.byte))
word_answer s name k to free at =
    ap (λ (a : Answered Outcome). after_action OWN_LANE (WordOut name k) a)
    (ap (λ (b : Bool). held_or b s (take_out s (slot s.plan.conns name k true))) free ∙ ap (λ x. take_out s x) at)

-- ---- all words out

module _ (name : List ℕ) (c : ConnDef) (s : State) (free : held s.table ≡ false) (is : conn_at s.plan.conns true (conn_named s.plan.conns name) ≡ Some c) where
  answers : (n from : ℕ) → from + n ≤ c.words → length (flat_map answered (trace_from s (map (λ k. events.Act OWN_LANE (WordOut name k)) (range_with_len from n)))) ≡ n
  answers zero from few = refl
  answers (suc n) from few =
      let to = slot_at s.plan.conns name c from is (omega arith) in
      let e = word_answer s name from to.0 free to.1 in
      let rest = map (λ k. events.Act OWN_LANE (WordOut name k)) (range_with_len (from + 1) n) in
      ap (λ (x : Answered TraceEntry). length (flat_map answered (x.answer ∷ trace_from x.state rest))) e ∙ ap (λ m. suc m) (answers n (from + 1) (omega arith))

pub sends_all : (l : Pair) (d : ConnDef) (j : List Event) → connection l.a true l.output ≡ Some d → is_held l.a j ≡ false → length (words_answered l.a j (words_out l)) ≡ d.words
sends_all l d j is free =
    let conns : (run l.a j).plan.conns ≡ l.a.conns = ap (λ (q : Plan). q.conns) (runs_keep_sizes l.a j).same_plan in
    let is' = ap (λ (cs : List ConnDef). conn_at cs true (conn_named cs l.output)) conns ∙ is in
    let many : words_in (connection l.a true l.output) ≡ d.words = ap words_in is in
    ap (λ n. length (flat_map answered (trace_from (run l.a j) (map (λ k. events.Act OWN_LANE (WordOut l.output k)) (range_with_len 0 n))))) many
    ∙ answers l.output d (run l.a j) free is' d.words 0 (omega arith)
