use Rattle.std.proofs.Common.{◌≡◌, [], length, refl, false, ◌∙◌, ap, sym, arith, rules}
use Rattle.lgx_tags.specs.Tables.{Table}
use Rattle.spec_language.specs.declared.tag.Scope.TheVariants.{Controller}
use Rattle.spec_language.specs.Declarations.{Declarations}
use Rattle.spec_project.specs.Tags.{declarations_of, tags_in}
use Rattle.lgx_declare.specs.Declaring.{program_tags_from, with_tags}
use Rattle.lgx_declare.proofs.TagSteps.{programs_left, tags_many, whole_fault, whole_made, with_many, with_programs}
use Rattle.lgx_declare.proofs.declare.declare_all.Goals as goal

pub returns-in_err-declare_scope-clause-fault : goal.returns-in_err-declare_scope-clause-fault
returns-in_err-declare_scope-clause-fault c =
    let start : c.args.table.now.declarations ≡ declarations_of c.args.file.now [] = ap (λ (t : Table). t.declarations) c.requires.start in
    let whole = whole_fault c.args.file.now c.args.table.now.declarations c.as_slice.result.now c.args.file.now.programs start c.as_slice.ensures refl in
    search rules

pub declare_programs-requires-clause-counted : goal.declare_programs-requires-clause-counted
declare_programs-requires-clause-counted c =
    let start : c.args.table.now.declarations ≡ declarations_of c.args.file.now [] = ap (λ (t : Table). t.declarations) c.requires.start in
    let one = ap (λ (t : Table). t.declarations) c.in_ok-declare_scope.ensures.ok in
    ap (λ (d : Declarations). d.programs) one
    ∙ with_programs c.args.table.now.declarations (tags_in Controller c.as_slice.result.now)
    ∙ ap (λ (d : Declarations). d.programs) start
    ∙ ap length (sym c.as_slice-2.ensures)

pub declare_programs-requires-clause-few : goal.declare_programs-requires-clause-few
declare_programs-requires-clause-few c =
    let start : c.args.table.now.declarations ≡ declarations_of c.args.file.now [] = ap (λ (t : Table). t.declarations) c.requires.start in
    let one = ap (λ (t : Table). t.declarations) c.in_ok-declare_scope.ensures.ok in
    let none : length c.args.table.now.declarations.entries ≡ 0 = ap (λ (d : Declarations). length d.entries) start in
    rw one (omega (arith, none, with_many c.args.table.now.declarations (tags_in Controller c.as_slice.result.now), tags_many Controller c.as_slice.result.now, ap length c.as_slice.ensures, c.requires.limits.tags.few))

pub returns-in_err-declare_programs-clause-fault : goal.returns-in_err-declare_programs-clause-fault
returns-in_err-declare_programs-clause-fault c =
    let goes = programs_left c.args.file.now c.args.table.now.declarations c.declare_scope.new.table.declarations c.as_slice.result.now c.as_slice-2.result.now (ap (λ (t : Table). t.declarations) c.requires.start) c.as_slice.ensures c.as_slice-2.ensures c.in_ok-declare_scope.ensures.fault (ap (λ (t : Table). t.declarations) c.in_ok-declare_scope.ensures.ok) in
    search rules

pub returns-clause-fault : goal.returns-clause-fault
returns-clause-fault c =
    programs_left c.args.file.now c.args.table.now.declarations c.declare_scope.new.table.declarations c.as_slice.result.now c.as_slice-2.result.now (ap (λ (t : Table). t.declarations) c.requires.start) c.as_slice.ensures c.as_slice-2.ensures c.in_ok-declare_scope.ensures.fault (ap (λ (t : Table). t.declarations) c.in_ok-declare_scope.ensures.ok)
    ∙ c.in_ok-declare_programs.ensures.fault

pub returns-clause-ok : goal.returns-clause-ok
returns-clause-ok c =
    let start : c.args.table.now.declarations ≡ declarations_of c.args.file.now [] = ap (λ (t : Table). t.declarations) c.requires.start in
    let one = ap (λ (t : Table). t.declarations) c.in_ok-declare_scope.ensures.ok in
    let made =
    ap (λ (d : Declarations). with_tags d (program_tags_from 0 c.as_slice-2.result.now)) one
    ∙ whole_made c.args.file.now c.args.table.now.declarations c.as_slice.result.now c.as_slice-2.result.now start c.as_slice.ensures c.as_slice-2.ensures in
    c.in_ok-declare_programs.ensures.ok ∙ ap (λ (d : Declarations). record { declarations = d; sealed = false }) made
