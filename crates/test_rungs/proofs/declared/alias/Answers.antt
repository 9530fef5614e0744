use Rattle.std.proofs.Common.{◌≡◌, ◌≤◌, ◌+◌, false, length, arith, refl, sym, subst}
use Rattle.spec_language.specs.Declarations.{alias, declared_as}
use Rattle.spec_language.specs.Resolution.{aliases}
use Rattle.lgx_tags.specs.Tables.{Table}
use Rattle.lgx_tags.proofs.Declares.{alias_count_more}
use Rattle.test_rungs.proofs.Declaring.{by_answer}
use Rattle.test_rungs.proofs.declared.alias.Goals as goal

pub invariant_of-declared : goal.invariant_of-declared
invariant_of-declared c =
    let old : Table = c.deref_mut.result.now in
    let ok : Table = record { declarations = declared_as old.declarations c.args.scope c.as_bytes.result.now (alias c.as_bytes-2.result.now); sealed = false } in
    let known = c.args.declared.now in
    let unsealed : old.sealed ≡ false = subst (λ (t : Table). t.sealed ≡ false) (sym c.deref_mut.ensures.value) known.unsealed in
    let scopes : old.declarations.programs ≡ known.programs = subst (λ (t : Table). t.declarations.programs ≡ known.programs) (sym c.deref_mut.ensures.value) known.scopes in
    let few : length (aliases old.declarations) ≤ known.count = subst (λ (t : Table). length (aliases t.declarations) ≤ known.count) (sym c.deref_mut.ensures.value) known.few in
    record {
      unsealed = by_answer (λ (t : Table). t.sealed ≡ false) c.alias-answer.result c.alias-answer.new.self ok old c.alias-answer.ensures.ok c.alias-answer.ensures.err refl unsealed;
      scopes = by_answer (λ (t : Table). t.declarations.programs ≡ known.programs) c.alias-answer.result c.alias-answer.new.self ok old c.alias-answer.ensures.ok c.alias-answer.ensures.err scopes scopes;
      few = by_answer (λ (t : Table). length (aliases t.declarations) ≤ (c.args.declared.now.count + 1)) c.alias-answer.result c.alias-answer.new.self ok old c.alias-answer.ensures.ok c.alias-answer.ensures.err (omega (arith, few, alias_count_more old.declarations c.args.scope c.as_bytes.result.now c.as_bytes-2.result.now)) (omega (arith, few));
    }
