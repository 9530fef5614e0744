use Rattle.std.proofs.Common.{ap, ◌∙◌}
use Rattle.lgx_steps.specs.PartsView.{view_of}
use Rattle.std.specs.Int.{w32}
use Rattle.std.proofs.lemmas.Int.{to_z-of_z}
use Rattle.std.proofs.Common.{ℤ}
use Rattle.lgx_num.specs.Image.{write_signed}
use Rattle.spec_tables.specs.Forces.{forced}
use Rattle.spec_machine.specs.declared.reply.Mode.TheVariants as mode
use Rattle.lgx_steps.proofs.IoWords.{with-word, gives-triggers}
use Rattle.lgx_steps.proofs.parts.ControllerParts.take_in.Goals as goal

pub trigger_by_word-requires : goal.trigger_by_word-requires
trigger_by_word-requires c =
    let l = c.requires.live in
    let value = to_z-of_z w32 c.args.value c.ranges.value in
    let w = with-word l.events (view_of c.args.self.now) l.state l.represents c.put_word.new.image c.args.slot.byte c.args.slot.io c.args.value (c.put_word.ensures.bytes ∙ ap (λ (z : ℤ). write_signed w32 c.args.self.now.image.bytes c.args.slot.byte (forced c.args.self.now.forces c.args.slot.io z)) value) c.put_word.ensures.only_marked.same_length in
    record { live = record { events = l.events; state = _; room = l.room; represents = w }; known = c.requires.trigger }

pub returns-in-Run-clause-gives : goal.returns-in-Run-clause-gives
returns-in-Run-clause-gives c = λ n s h.
    let value = to_z-of_z w32 c.args.value c.ranges.value in
    let w = with-word n (view_of c.args.self.now) s h c.put_word.new.image c.args.slot.byte c.args.slot.io c.args.value (c.put_word.ensures.bytes ∙ ap (λ (z : ℤ). write_signed w32 c.args.self.now.image.bytes c.args.slot.byte (forced c.args.self.now.forces c.args.slot.io z)) value) c.put_word.ensures.only_marked.same_length in
    gives-triggers n (view_of c.trigger_by_word.new.self) _ c.trigger_by_word.result c.args.slot.trigger c.args.self.now.mode mode.Run h.mode c.in-Run.is (c.trigger_by_word.ensures.gives n _ w)
