use Rattle.std.proofs.Common.{◌≡◌, ◌<◌, ℕ, Bool, true, false, List, Ok, Err, sym, ap, ◌∙◌, subst}
use Rattle.lgx_steps.specs.PartsView.{view_of}
use Rattle.std.specs.Int.{w32}
use Rattle.std.proofs.lemmas.Int.{to_z-of_z}
use Rattle.std.proofs.Common.{ℤ, Result}
use Rattle.spec_tables.specs.declared.conn.Slot.{Slot}
use Rattle.spec_tables.specs.declared.conn.ConnFault.{ConnFault}
use Rattle.spec_tables.specs.Connections.{slot}
use Rattle.spec_tables.specs.Forces.{Forces, forced}
use Rattle.lgx_num.specs.Image.{signed_at}
use Rattle.spec_machine.specs.State.{Plan}
use Rattle.spec_machine.specs.Actions.{take_out, held_or}
use Rattle.spec_machine.specs.declared.reply.Reply.TheVariants as reply
use Rattle.lgx_steps.proofs.IoWords.{word-fits, words-of}
use Rattle.lgx_steps.proofs.parts.ControllerParts.word_out.Goals as goal

pub get_word-requires : goal.get_word-requires
get_word-requires c =
    let v = view_of c.args.self.now in
    let n = c.requires.events in
    let s = c.requires.state in
    let h = c.requires.represents in
    let f = word-fits n v s c.args.conn.now c.args.word true c.in-Ok.slot h c.in-Ok.ensures.slot in
    record { small = f.small; inside = f.inside; word = subst (λ k. c.in-Ok.slot.io < k) (sym (words-of n v s h)) c.in-Ok.ensures.within }

pub returns-in-Ok : goal.returns-in-Ok
returns-in-Ok c = λ n s h.
    let k = c.in-Ok.slot in
    let e : Ok k ≡ slot s.plan.conns c.args.conn.now c.args.word true = c.in-Ok.ensures.slot ∙ ap (λ (p : Plan). slot p.conns c.args.conn.now c.args.word true) h.plan in
    let free : false ≡ _ = sym c.if-held.false ∙ c.held.ensures s.table h.table in
    let value = to_z-of_z w32 c.get_word.result (record { sfits = c.get_word.type_inv }) ∙ (c.get_word.ensures ∙ (ap (λ (f : Forces). forced f k.io (signed_at w32 c.args.self.now.image.bytes k.byte)) h.forces ∙ ap (λ (b : List ℕ). forced s.forces k.io (signed_at w32 b k.byte)) h.image)) in
    ap (λ (z : ℤ). reply.Word z) value
    ∙ (ap (λ (r : Result Slot ConnFault). (take_out s r).answer.reply) e ∙ ap (λ (b : Bool). (held_or b s (take_out s (slot s.plan.conns c.args.conn.now c.args.word true))).answer.reply) free)

pub returns-in-Err : goal.returns-in-Err
returns-in-Err c = λ n s h.
    let e : Err c.in-Err.fault ≡ slot s.plan.conns c.args.conn.now c.args.word true = c.in-Err.ensures.slot ∙ ap (λ (p : Plan). slot p.conns c.args.conn.now c.args.word true) h.plan in
    let free : false ≡ _ = sym c.if-held.false ∙ c.held.ensures s.table h.table in
    ap (λ (r : Result Slot ConnFault). (take_out s r).answer.reply) e ∙ ap (λ (b : Bool). (held_or b s (take_out s (slot s.plan.conns c.args.conn.now c.args.word true))).answer.reply) free
