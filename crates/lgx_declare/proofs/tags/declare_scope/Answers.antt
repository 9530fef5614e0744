use Rattle.std.proofs.Common.{◌≡◌, ◌+◌, [], ◌∷◌, Option, false, drop, ◌∙◌, ap, sym, arith, rules}
use Rattle.lgx_tags.specs.Tables.{Table}
use Rattle.spec_project.specs.declared.fault.ProjectFault.{ProjectFault}
use Rattle.spec_project.specs.Faults.{or_else}
use Rattle.lgx_declare.specs.Declaring.{declaring_fault, tags_from, with_tags}
use Rattle.lgx_declare.proofs.TagSteps.{none_left, none_more, scope_end, scope_goes, scope_made, scoped, table_is, with_many, with_programs, with_types}
use Rattle.lgx_declare.proofs.tags.declare_scope.Goals as goal

pub returns-in_err-declare_at-clause-fault : goal.returns-in_err-declare_at-clause-fault
returns-in_err-declare_at-clause-fault c =
    let goes = sym c.loop-i.invariant.goes ∙ scope_goes c.loop-i.table.declarations c.args.scope c.args.tags.now c.loop-i.i c.index-tags-i.result (omega arith) c.index-tags-i.is in
    search rules

pub loop-i-preserved : goal.loop-i-preserved
loop-i-preserved c =
    let d = c.loop-i.table.declarations in
    let one = scoped c.args.scope c.loop-i.i c.index-tags-i.result ∷ [] in
    let rest = tags_from c.args.scope (c.loop-i.i + 1) (drop (c.loop-i.i + 1) c.args.tags.now) in
    let decl : c.declare_at.new.table.declarations ≡ with_tags d one = ap (λ (t : Table). t.declarations) c.in_ok-declare_at.ensures.ok in
    let seal : c.declare_at.new.table.sealed ≡ false = ap (λ (t : Table). t.sealed) c.in_ok-declare_at.ensures.ok in
    let goes = sym c.loop-i.invariant.goes ∙ scope_goes d c.args.scope c.args.tags.now c.loop-i.i c.index-tags-i.result (omega arith) c.index-tags-i.is in
    let made = scope_made d c.args.scope c.args.tags.now c.loop-i.i c.index-tags-i.result (omega arith) c.index-tags-i.is in
    record {
      goes = rw decl (sym (goes ∙ ap (λ (o : Option ProjectFault). or_else o (declaring_fault (with_tags d one) rest)) c.in_ok-declare_at.ensures.fault));
      made = rw decl (sym made ∙ c.loop-i.invariant.made);
      unsealed = seal;
      types = rw decl (with_types d one ∙ c.loop-i.invariant.types);
      programs = rw decl (with_programs d one ∙ c.loop-i.invariant.programs);
      many = rw decl (omega (arith, with_many d one, c.loop-i.invariant.many));
    }

pub returns-clause-fault : goal.returns-clause-fault
returns-clause-fault c =
    sym c.loop-i.invariant.goes ∙ none_left c.loop-i.table.declarations _ (scope_end c.args.scope c.args.tags.now c.loop-i.i (omega arith))

pub returns-clause-ok : goal.returns-clause-ok
returns-clause-ok c =
    table_is c.loop-i.table _ (sym (none_more c.loop-i.table.declarations _ (scope_end c.args.scope c.args.tags.now c.loop-i.i (omega arith))) ∙ c.loop-i.invariant.made) c.loop-i.invariant.unsealed
