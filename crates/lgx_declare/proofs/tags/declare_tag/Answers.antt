use Rattle.lgx_declare.proofs.Declared.{alias_refused}
use Rattle.lgx_declare.proofs.tags.declare_tag.Goals as goal

pub returns-in-AliasOf-clause-fault : goal.returns-in-AliasOf-clause-fault
returns-in-AliasOf-clause-fault c =
    rw (alias_refused c.args.table.now.declarations c.args.scope c.args.tag.now c.in-AliasOf.target c.in-AliasOf.is, ← c.as_slice-name.ensures) c.declare_alias.ensures.fault
