use Rattle.cmd_live.proofs.Opening.{missing, whole}
use Rattle.cmd_live.proofs.open.open_file.Goals as goal

pub returns-in-Ok : goal.returns-in-Ok
returns-in-Ok g c =
    whole _ _ _ _ _ c.args.name.now c.in-Ok.bytes.items c.as_slice.result.now _ c.in-Ok.ensures.ok c.in-Ok.ensures.whole c.in-Ok.ensures.failures c.as_slice.ensures.value (c.on_project.ensures _ _)

pub returns-in-Err : goal.returns-in-Err
returns-in-Err g c = missing _ _ _ _ c.args.name.now c.in-Err.fault _ c.in-Err.ensures.cause c.in-Err.ensures.failures c.after_read.ensures
