use Rattle.spec_project.specs.Names.{names_fault}
use Rattle.spec_project.specs.Schedules.{tasks_fault}
use Rattle.spec_project.specs.Tags.{aliases_fault, tags_fault, types_fault}
use Rattle.lgx_declare.proofs.Passing.{table_judged}
use Rattle.lgx_declare.proofs.judged.judged_tags.Goals as goal

pub returns : goal.returns
returns c =
    let p = c.args.file.now in
    table_judged (names_fault p) (types_fault p) (tags_fault p) (aliases_fault p) (tasks_fault p) c.judge_table.new.table _ c.judge_table.result c.and.result c.in_ok-refuse_names.ensures c.in_ok-types.ensures.0 c.judge_table.ensures.fault c.judge_table.ensures.ok c.and.ensures
