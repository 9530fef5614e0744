use Rattle.std.proofs.Common.{subst}
use Rattle.spec_machine.specs.ValidProject.{IsValidProject}
use Rattle.lgx_link.proofs.Room.{read_has_room}
use Rattle.cmd_link.proofs.Texts.{is_link_text}
use Rattle.cmd_link.proofs.lines.linked.Goals as goal

pub link_text-requires : goal.link_text-requires
link_text-requires c = read_has_room c.args.a c.args.b c.requires.0 c.args.script.now c.requires.1

pub returns : goal.returns
returns c =
    let valid_a = subst IsValidProject c.parts.ensures c.law_of_validity.ensures in
    let valid_b = subst IsValidProject c.parts-2.ensures c.law_of_validity-2.ensures in
    is_link_text c.args.a c.args.b c.requires.0 c.args.script.now _ valid_a valid_b c.requires.1 c.in_ok-text.ensures.text c.in_ok-text.ensures.range
