use Rattle.std.proofs.Common.{◌≡◌, ◌≤◌, false, length, arith, refl, sym, subst}
use Rattle.spec_language.specs.Declarations.{tag, declared_as}
use Rattle.spec_language.specs.Resolution.{aliases}
use Rattle.lgx_tags.specs.Tables.{Table}
use Rattle.lgx_tags.proofs.Declares.{tag_count_same}
use Rattle.test_rungs.proofs.Declaring.{by_answer}
use Rattle.test_rungs.proofs.declared.declare.Goals as goal

pub invariant_of-declared : goal.invariant_of-declared
invariant_of-declared c =
    let old : Table = c.deref_mut.result.now in
    let ok : Table = record { declarations = declared_as old.declarations c.args.scope c.as_bytes.result.now (tag c.args.of); sealed = false } in
    let known = c.args.declared.now in
    let unsealed : old.sealed ≡ false = subst (λ (t : Table). t.sealed ≡ false) (sym c.deref_mut.ensures.value) known.unsealed in
    let scopes : old.declarations.programs ≡ known.programs = subst (λ (t : Table). t.declarations.programs ≡ known.programs) (sym c.deref_mut.ensures.value) known.scopes in
    let few : length (aliases old.declarations) ≤ known.count = subst (λ (t : Table). length (aliases t.declarations) ≤ known.count) (sym c.deref_mut.ensures.value) known.few in
    record {
      unsealed = by_answer (λ (t : Table). t.sealed ≡ false) c.declare.result c.declare.new.self ok old c.declare.ensures.ok c.declare.ensures.err refl unsealed;
      scopes = by_answer (λ (t : Table). t.declarations.programs ≡ known.programs) c.declare.result c.declare.new.self ok old c.declare.ensures.ok c.declare.ensures.err scopes scopes;
      few = by_answer (λ (t : Table). length (aliases t.declarations) ≤ c.args.declared.now.count) c.declare.result c.declare.new.self ok old c.declare.ensures.ok c.declare.ensures.err (omega (arith, few, tag_count_same old.declarations c.args.scope c.as_bytes.result.now c.args.of)) (omega (arith, few));
    }
