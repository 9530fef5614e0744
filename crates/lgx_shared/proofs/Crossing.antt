-- The run of a script, and what stands with it under the lock, may go from one thread to another: so may each of its fields. The search goes
-- down by itself but where types are recursive, or have many fields: there the way is named.
use denote.Param.Send.{IsSend, sendable, struct_send, recorded_send as of_fields, view_send}
use denote.RattleType.{RattleType}
use denote.Struct.Declared.{shape}
use Rattle.lgx_lanes.specs.declared.input.Input as Input
use Rattle.lgx_shared.specs.contracts.recorder_of.RecorderOf as RecorderOf
use Rattle.lgx_shared.specs.contracts.recorder_of.RecorderOf.TheInside as named
use Rattle.std.proofs.Crossing.{crosses}
use Rattle.circular_buffer.proofs.Crosses.{Cells-send, Deed-send}
use Rattle.spec_tables.specs.contracts.fault.Fault as Fault
use Rattle.lgx_fault.specs.contracts.fault_log.FaultLog as FaultLog
use Rattle.lgx_steps.specs.contracts.parts.ControllerParts as ControllerParts
use Rattle.lgx_core.specs.contracts.controller.Controller as Controller
use Rattle.lgx_core.specs.contracts.controller.Controller.TheInside as controller
use Rattle.lgx_shared.specs.contracts.script_run.ScriptRun as ScriptRun
use Rattle.lgx_shared.specs.contracts.script_run.ScriptRun.TheInside as script_run
use Rattle.lgx_record.specs.contracts.recording.Recording as Recording
use Rattle.lgx_record.specs.contracts.recording.Recording.TheInside as recording
use Rattle.lgx_record.specs.contracts.run.Run as Run
use Rattle.lgx_record.specs.contracts.run.Run.TheInside as run
use Rattle.lgx_edit.proofs.Crossing.{book_send}

pub fault_send : IsSend Fault.the_row
fault_send = search (sendable, crosses) depth 40 fits 20000

pub faults_send : IsSend FaultLog.the_row
faults_send = search (sendable, crosses, fault_send, Cells-send, Deed-send) depth 60 fits 20000

-- the parts of a controller, field by field
pub parts_send : IsSend (ControllerParts.the_field).row
parts_send = struct_send (shape ControllerParts.the_type) (
  search (sendable, crosses) depth 200 fits 100000,
  (
    search (sendable, crosses) depth 200 fits 100000,
    (
      search (sendable, crosses) depth 200 fits 100000,
      (
        search (sendable, crosses) depth 200 fits 100000,
        (
          search (sendable, crosses) depth 200 fits 100000,
          (
            search (sendable, crosses) depth 200 fits 100000,
            (
              search (sendable, crosses) depth 200 fits 100000,
              (
                search (sendable, crosses) depth 200 fits 100000,
                (
                  search (sendable, crosses) depth 200 fits 100000,
                  (
                    search (sendable, crosses) depth 200 fits 100000,
                    (
                      search (sendable, crosses) depth 200 fits 100000,
                      (
                        book_send,
                        (
                          search (sendable, crosses) depth 200 fits 100000,
                          (
                            faults_send,
                            tt,
                          ),
                        ),
                      ),
                    ),
                  ),
                ),
              ),
            ),
          ),
        ),
      ),
    ),
  ),
)

-- as they lie in its box
pub boxed_parts_send : IsSend ControllerParts.the_row
boxed_parts_send = of_fields (ControllerParts.the_field).row _ _ (ControllerParts.the_type).to_one parts_send

controller_fields : IsSend controller.the_row
controller_fields =
    of_fields (controller.the_field).row _ _ (controller.the_type).to_one
    (struct_send (shape controller.the_type) (search (sendable, crosses, boxed_parts_send) depth 200 fits 20000, (search (sendable, crosses) depth 200 fits 100000, tt)))

pub controller_send : IsSend Controller.the_row
controller_send = view_send _ _ _ _ _ controller_fields

run_fields : IsSend run.the_row
run_fields =
    of_fields (run.the_field).row _ _ (run.the_type).to_one
    (struct_send (shape run.the_type) (
      controller_send,
      (
        search (sendable, crosses) depth 200 fits 100000,
        (
          search (sendable, crosses) depth 200 fits 100000,
          (
            search (sendable, crosses) depth 200 fits 100000,
            (
              search (sendable, crosses) depth 200 fits 100000,
              (
                search (sendable, crosses) depth 200 fits 100000,
                tt,
              ),
            ),
          ),
        ),
      ),
    ))

pub run_send : IsSend Run.the_row
run_send = view_send _ _ _ _ _ run_fields

recording_fields : IsSend recording.the_row
recording_fields =
    of_fields (recording.the_field).row _ _ (recording.the_type).to_one
    (struct_send (shape recording.the_type) (
      search (sendable, crosses) depth 200 fits 100000,
      (
        run_send,
        (
          search (sendable, crosses) depth 200 fits 100000,
          (
            search (sendable, crosses) depth 200 fits 100000,
            tt,
          ),
        ),
      ),
    ))

pub recording_send : IsSend Recording.the_row
recording_send = view_send _ _ _ _ _ recording_fields

script_run_fields : IsSend script_run.the_row
script_run_fields =
    of_fields (script_run.the_field).row _ _ (script_run.the_type).to_one
    (struct_send (shape script_run.the_type) (
      recording_send,
      (
        search (sendable, crosses) depth 200 fits 100000,
        (
          search (sendable, crosses) depth 200 fits 100000,
          tt,
        ),
      ),
    ))

pub script_run_send : IsSend ScriptRun.the_row
script_run_send = view_send _ _ _ _ _ script_run_fields

-- ---- what lanes take turns at, whatever input it names
module _ (I : RattleType) (i : Input.Ghosts I.Denot) where
  named_fields : IsSend I → IsSend (named.the_row I i)
  named_fields s =
      of_fields (named.the_field I i).row _ _ (named.the_type I i).to_one
      (struct_send (shape (named.the_type I i)) (script_run_send, (search (sendable, crosses) depth 40, tt)))

  pub named_send : IsSend I → IsSend (RecorderOf.the_row I i)
  named_send s = view_send _ _ _ _ _ (named_fields s)
