use Rattle.std.proofs.Common.{◌≡◌, ◌∙◌, sym, true}
use Rattle.spec_language.specs.Declarations.{is_name_in}
use Rattle.lgx_tags.proofs.Declares.{taken, free_name, name_tag}
use Rattle.lgx_tags.proofs.declared.Declared.name_fault.Goals as goal

pub returns-in-Some-clause-fault : goal.returns-in-Some-clause-fault
returns-in-Some-clause-fault c =
    let named : is_name_in c.args.scope c.args.name.now ≡ true = sym c.is_name_in.ensures ∙ c.if-not-is_name_in.false in
    sym (taken c.args.self.now c.args.scope c.args.name.now c.in-Some.field-0 named (sym c.in-Some.ensures.number))

pub returns-in-None-clause-named : goal.returns-in-None-clause-named
returns-in-None-clause-named c none =
    name_tag c.args.scope c.args.name.now (sym c.is_name_in.ensures ∙ c.if-not-is_name_in.false)

pub returns-in-None-clause-fault : goal.returns-in-None-clause-fault
returns-in-None-clause-fault c =
    let named : is_name_in c.args.scope c.args.name.now ≡ true = sym c.is_name_in.ensures ∙ c.if-not-is_name_in.false in
    sym (free_name c.args.self.now c.args.scope c.args.name.now named (sym c.in-None.ensures.number))
