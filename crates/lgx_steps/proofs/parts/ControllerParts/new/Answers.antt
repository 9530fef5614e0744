-- What is made of the project that was taken apart represents its start.
use Rattle.std.proofs.Common.{◌≡◌, List, length, refl, sym, subst}
use Rattle.spec_tables.specs.declared.conn.ConnDef.{ConnDef}
use Rattle.spec_tables.specs.declared.task.TaskDef.{TaskDef}
use Rattle.spec_machine.specs.State.{start}
use Rattle.lgx_steps.specs.declared.fresh.Tables.{Tables}
use Rattle.lgx_steps.specs.declared.fresh.Scans.{Scans}
use Rattle.lgx_steps.specs.declared.parts.ControllerParts.{ControllerParts}
use Rattle.lgx_steps.specs.PartsView.{view_of}
use Rattle.lgx_steps.specs.Represents.{RepresentsState}
use Rattle.lgx_steps.specs.Fresh.{AreProper, AreSmall, AreTablesOf, AreScansOf}
use Rattle.lgx_steps.proofs.Making.{opened-tasks, opened-conns, opened-mains, opened-some, opened-starts, opened-valid}
use Rattle.lgx_steps.proofs.parts.ControllerParts.new.Goals as goal

pub tables_of-requires-clause-tasks : goal.tables_of-requires-clause-tasks
tables_of-requires-clause-tasks c =
    subst AreProper (sym (rw c.deref.ensures at c.as_slice.ensures)) (opened-tasks c.args.project c.in_ok-texts.field-0 c.in_ok-texts.ensures)

pub tables_of-requires-clause-conns : goal.tables_of-requires-clause-conns
tables_of-requires-clause-conns c =
    subst AreSmall (sym (rw c.deref-2.ensures at c.as_slice-2.ensures)) (opened-conns c.args.project c.in_ok-texts.field-0 c.in_ok-texts.ensures)

pub scans_of-requires-clause-mains : goal.scans_of-requires-clause-mains
scans_of-requires-clause-mains c = opened-mains c.args.project c.in_ok-texts.field-0 c.in_ok-texts.ensures

pub scans_of-requires-clause-some : goal.scans_of-requires-clause-some
scans_of-requires-clause-some c = opened-some c.args.project c.in_ok-texts.field-0 c.in_ok-texts.ensures

pub returns-clause-represents : goal.returns-clause-represents
returns-clause-represents c =
    let p = c.args.project in
    let o = c.in_ok-texts.field-0 in
    let tables : Tables = c.in_ok-tables.tables in
    let scans : Scans = c.in_ok-scans.scans in
    let tasks : c.as_slice.result.now ≡ o.kept.value.tasks = rw c.deref.ensures at c.as_slice.ensures in
    let conns : c.as_slice-2.result.now ≡ o.kept.value.conns = rw c.deref-2.ensures at c.as_slice-2.ensures in
    let many : c.len.result ≡ length o.kept.value.schedule = rw c.deref-3.ensures at c.len.ensures in
    let of_tasks : AreTablesOf o.kept.value.tasks c.as_slice-2.result.now tables = subst (λ (ds : List TaskDef). AreTablesOf ds c.as_slice-2.result.now tables) tasks c.in_ok-tables.ensures in
    let made : AreTablesOf o.kept.value.tasks o.kept.value.conns tables = subst (λ (cs : List ConnDef). AreTablesOf o.kept.value.tasks cs tables) conns of_tasks in
    let told : AreScansOf o.texts.items (length o.kept.value.schedule) scans = subst (λ n. AreScansOf o.texts.items n scans) many c.in_ok-scans.ensures in
    let parts = rw (c.into_inner-kept.ensures, c.into_inner-tables.ensures, c.in_ok-boxed.ensures.ok) at c.parts_of.ensures in
    subst (λ (q : ControllerParts). RepresentsState 0 (view_of q) (start p)) (sym parts)
    (opened-starts p o tables scans _ c.in_ok-texts.ensures made told refl refl refl refl refl refl refl refl refl refl c.in_ok-faults.ensures)

pub returns-clause-valid : goal.returns-clause-valid
returns-clause-valid c = opened-valid c.args.project c.in_ok-texts.field-0 c.in_ok-texts.ensures
