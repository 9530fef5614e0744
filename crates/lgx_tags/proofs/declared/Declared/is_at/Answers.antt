use Rattle.std.proofs.Common.{◌≡◌, ap, subst, arith}
use Rattle.std.specs.Prelude.{ℕ, List, position, slice_get, Some, true}
use Rattle.spec_base.proofs.Lists.{each_get}
use Rattle.spec_language.specs.OperandForm.{is_tag_name}
use Rattle.lgx_tags.specs.Tables.{IsAdmitted}
use Rattle.spec_language.specs.Declarations.{Declarations, Entry, is_named}
use Rattle.lgx_tags.proofs.Declares.{entry_there}
use Rattle.lgx_tags.proofs.Firsts.{named_first}
use Rattle.lgx_tags.proofs.declared.Declared.is_at.Goals as goal

pub returns-clause-name : goal.returns-clause-name
returns-clause-name c h =
    let there : slice_get c.self.inside.entries.items c.args.i ≡ Some c.index.result.now = entry_there c.self.inside.entries.items c.args.i c.index.result.now (omega arith) c.index.ensures in
    subst (λ (n : List ℕ). is_tag_name n ≡ true) (c.is_spelled.ensures h).1
    (each_get (IsAdmitted c.self.inside.types c.self.inside.programs) c.self.inside.entries.items c.args.i c.index.result.now c.self.invariant.admitted there).named

pub returns-clause-first : goal.returns-clause-first
returns-clause-first c h =
    let view : c.self.inside.entries.items ≡ c.args.self.now.entries = ap (λ (d : Declarations). d.entries) c.self.view_is in
    let same = c.is_spelled.ensures h in
    subst (λ (es : List Entry). position (is_named c.args.scope c.args.name.now) es ≡ Some c.args.i) view
    (named_first c.self.inside.entries.items c.args.i c.index.result.now c.args.scope c.args.name.now c.self.invariant.firsts (entry_there c.self.inside.entries.items c.args.i c.index.result.now (omega arith) c.index.ensures) same.0 same.1)
