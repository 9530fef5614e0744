-- A book may go from one thread to another, with the rungs that it shares.
use denote.Param.Send.{IsSend, IsSync, sendable}
use Rattle.std.proofs.Crossing.{crosses}
use Rattle.lgx_rung.proofs.rung.Legs.TheLaws.TheKnot as source
use Rattle.lgx_prog.proofs.rung.Legs.TheLaws.TheKnot as checked
use Rattle.lgx_rung.proofs.ins.Ins.TheSendSync as ins
use Rattle.lgx_prog.proofs.joining.RungCode.TheSendSync as code
use Rattle.lgx_rung.specs.contracts.rung.SourceRung as SourceRung
use Rattle.lgx_prog.specs.contracts.rung.Rung as Rung
use Rattle.lgx_edit.specs.contracts.shared.RungParts as RungParts
use Rattle.lgx_edit.specs.contracts.shared.SharedRung as SharedRung
use Rattle.lgx_versions.proofs.versions.Versions.TheSendSync as versions
use Rattle.lgx_edit.specs.contracts.changes.KeptEdit as KeptEdit
use Rattle.lgx_edit.specs.contracts.changes.EditedRoutine as EditedRoutine
use Rattle.lgx_edit.specs.contracts.edits.ProgramEdits as ProgramEdits
use Rattle.lgx_edit.specs.contracts.book.EditBook as EditBook

pub source_send : IsSend SourceRung.the_row
source_send = source.send-SourceRung (λ h s. search (sendable, crosses)) (search (sendable, crosses) depth 60 fits 20000) (search (sendable, crosses) depth 60 fits 20000)

pub source_sync : IsSync SourceRung.the_row
source_sync = source.sync-SourceRung (λ h s. search (sendable, crosses)) (search (sendable, crosses) depth 60 fits 20000) (search (sendable, crosses) depth 60 fits 20000)

pub checked_send : IsSend Rung.the_row
checked_send = checked.send-Rung (λ h s. search (sendable, crosses)) (search (sendable, crosses, ins.the_field_send) depth 300 fits 50000)

pub checked_sync : IsSync Rung.the_row
checked_sync = checked.sync-Rung (λ h s. search (sendable, crosses)) (search (sendable, crosses, ins.the_field_sync) depth 300 fits 50000)

parts_send : IsSend RungParts.the_row
parts_send = search (sendable, crosses, source_send, checked_send, code.the_send) depth 200 fits 20000

parts_sync : IsSync RungParts.the_row
parts_sync = search (sendable, crosses, source_sync, checked_sync, code.the_sync) depth 200 fits 20000

pub shared_send : IsSend SharedRung.the_row
shared_send = search (sendable, crosses, parts_send, parts_sync) depth 200 fits 20000

kept_send : IsSend KeptEdit.the_row
kept_send = search (sendable, crosses, source_send) depth 200 fits 20000

edited_send : IsSend EditedRoutine.the_row
edited_send = search (sendable, crosses, shared_send) depth 200 fits 20000

program_send : IsSend ProgramEdits.the_row
program_send = search (sendable, crosses, versions.the_send, kept_send, edited_send) depth 200 fits 20000

pub book_send : IsSend EditBook.the_row
book_send = search (sendable, crosses, program_send) depth 200 fits 20000
