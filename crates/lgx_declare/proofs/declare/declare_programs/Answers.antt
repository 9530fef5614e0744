use Rattle.std.proofs.Common.{◌≡◌, ◌+◌, Option, false, drop, ◌∙◌, ap, sym, arith, rules}
use Rattle.lgx_tags.specs.Tables.{Table}
use Rattle.spec_language.specs.declared.tag.Scope.TheVariants.{Program}
use Rattle.spec_project.specs.declared.fault.ProjectFault.{ProjectFault}
use Rattle.spec_project.specs.Faults.{or_else}
use Rattle.spec_project.specs.Limits.{IsSmallProgram}
use Rattle.spec_project.specs.Tags.{tags_in}
use Rattle.lgx_declare.specs.Declaring.{declaring_fault, program_tags_from, with_tags}
use Rattle.lgx_declare.proofs.TagSteps.{each_at, none_left, none_more, program_goes, program_made, programs_end, scope_many, table_is, with_many, with_programs, with_types}
use Rattle.lgx_declare.proofs.declare.declare_programs.Goals as goal

pub returns-in_err-declare_scope-clause-fault : goal.returns-in_err-declare_scope-clause-fault
returns-in_err-declare_scope-clause-fault c =
    let goes = sym c.loop-i.invariant.goes ∙ program_goes c.loop-i.table.declarations c.args.programs.now c.loop-i.i c.index-programs-i.result c.as_slice.result.now (omega arith) c.index-programs-i.is c.as_slice.ensures in
    search rules

pub loop-i-preserved : goal.loop-i-preserved
loop-i-preserved c =
    let d = c.loop-i.table.declarations in
    let q = c.index-programs-i.result in
    let own = tags_in (Program c.loop-i.i) c.as_slice.result.now in
    let rest = program_tags_from (c.loop-i.i + 1) (drop (c.loop-i.i + 1) c.args.programs.now) in
    let decl : c.declare_scope.new.table.declarations ≡ with_tags d own = ap (λ (t : Table). t.declarations) c.in_ok-declare_scope.ensures.ok in
    let seal : c.declare_scope.new.table.sealed ≡ false = ap (λ (t : Table). t.sealed) c.in_ok-declare_scope.ensures.ok in
    let goes = sym c.loop-i.invariant.goes ∙ program_goes d c.args.programs.now c.loop-i.i q c.as_slice.result.now (omega arith) c.index-programs-i.is c.as_slice.ensures in
    let made = program_made d c.args.programs.now c.loop-i.i q c.as_slice.result.now (omega arith) c.index-programs-i.is c.as_slice.ensures in
    let small = each_at IsSmallProgram c.args.programs.now c.loop-i.i q c.requires.small.each (omega arith) c.index-programs-i.is in
    record {
      goes = rw decl (sym (goes ∙ ap (λ (o : Option ProjectFault). or_else o (declaring_fault (with_tags d own) rest)) c.in_ok-declare_scope.ensures.fault));
      made = rw decl (sym made ∙ c.loop-i.invariant.made);
      unsealed = seal;
      types = rw decl (with_types d own ∙ c.loop-i.invariant.types);
      programs = rw decl (with_programs d own ∙ c.loop-i.invariant.programs);
      many = rw decl (omega (arith, with_many d own, scope_many (Program c.loop-i.i) c.as_slice.result.now q c.as_slice.ensures, small.tags.few, c.loop-i.invariant.many));
    }

pub returns-clause-fault : goal.returns-clause-fault
returns-clause-fault c =
    sym c.loop-i.invariant.goes ∙ none_left c.loop-i.table.declarations _ (programs_end c.args.programs.now c.loop-i.i (omega arith))

pub returns-clause-ok : goal.returns-clause-ok
returns-clause-ok c =
    table_is c.loop-i.table _ (sym (none_more c.loop-i.table.declarations _ (programs_end c.args.programs.now c.loop-i.i (omega arith))) ∙ c.loop-i.invariant.made) c.loop-i.invariant.unsealed
