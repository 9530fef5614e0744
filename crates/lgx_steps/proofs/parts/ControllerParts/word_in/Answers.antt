use Rattle.std.proofs.Common.{◌≡◌, ◌<◌, false, Ok, Err, sym, ap, ◌∙◌, subst}
use Rattle.lgx_steps.specs.PartsView.{view_of}
use Rattle.std.specs.Int.{w32}
use Rattle.std.proofs.lemmas.Int.{to_z-of_z}
use Rattle.std.proofs.Common.{ℤ, Result}
use Rattle.spec_tables.specs.declared.conn.Slot.{Slot}
use Rattle.spec_tables.specs.declared.conn.ConnFault.{ConnFault}
use Rattle.spec_tables.specs.Connections.{slot}
use Rattle.spec_machine.specs.State.{Plan}
use Rattle.spec_machine.specs.Actions.{put_in}
use Rattle.lgx_steps.specs.Gives.{ViewGives}
use Rattle.lgx_steps.proofs.IoWords.{word-fits, words-of}
use Rattle.lgx_steps.proofs.Running.{gives-free}
use Rattle.lgx_steps.proofs.parts.ControllerParts.word_in.Goals as goal

pub take_in-requires : goal.take_in-requires
take_in-requires c =
    let v = view_of c.args.self.now in
    let n = c.requires.events in
    let s = c.requires.state in
    let h = c.requires.represents in
    let f = word-fits n v s c.args.conn.now c.args.word false c.in-Ok.slot h c.in-Ok.ensures.slot in
    record { live = c.requires; small = f.small; inside = f.inside; trigger = f.trigger; word = subst (λ k. c.in-Ok.slot.io < k) (sym (words-of n v s h)) c.in-Ok.ensures.within }

pub returns-in-Ok-clause-gives : goal.returns-in-Ok-clause-gives
returns-in-Ok-clause-gives c = λ n s h.
    let v = view_of c.take_in.new.self in
    let k = c.in-Ok.slot in
    let e : Ok k ≡ slot s.plan.conns c.args.conn.now c.args.word false = c.in-Ok.ensures.slot ∙ ap (λ (p : Plan). slot p.conns c.args.conn.now c.args.word false) h.plan in
    let g₁ = subst (λ (z : ℤ). ViewGives n v c.take_in.result (put_in s z (Ok k))) (to_z-of_z w32 c.args.value c.ranges.value) (c.take_in.ensures.gives n s h) in
    gives-free n v s c.take_in.result c.held.result (put_in s c.args.value (slot s.plan.conns c.args.conn.now c.args.word false)) (c.held.ensures s.table h.table) c.if-held.false
    (subst (λ (r : Result Slot ConnFault). ViewGives n v c.take_in.result (put_in s c.args.value r)) e g₁)

pub returns-in-Err-clause-gives : goal.returns-in-Err-clause-gives
returns-in-Err-clause-gives c = λ n s h.
    let v = view_of c.args.self.now in
    let e : Err c.in-Err.fault ≡ slot s.plan.conns c.args.conn.now c.args.word false = c.in-Err.ensures.slot ∙ ap (λ (p : Plan). slot p.conns c.args.conn.now c.args.word false) h.plan in
    gives-free n v s c.replied-in-Err.result c.held.result (put_in s c.args.value (slot s.plan.conns c.args.conn.now c.args.word false)) (c.held.ensures s.table h.table) c.if-held.false
    (subst (λ (r : Result Slot ConnFault). ViewGives n v c.replied-in-Err.result (put_in s c.args.value r)) e (record { answers = c.replied-in-Err.ensures; represents = h }))
