use Rattle.std.proofs.Common.{refl, ◌∙◌, subst}
use Rattle.std.specs.Prelude.{slice_index_or}
use Rattle.spec_machine.specs.declared.event.Event.{Event}
use Rattle.spec_text.specs.JournalText.{joined}
use Rattle.cmd_trace.specs.TraceLeft.{no_run, events_left}
use Rattle.cmd_trace.specs.Seen.{Makes}
use Rattle.cmd_trace.proofs.Going.{room, goes, told}
use Rattle.cmd_trace.proofs.Places.{next_left}
use Rattle.cmd_trace.proofs.next.next_event.Goals as goal

pub make-requires-clause-room : goal.make-requires-clause-room
make-requires-clause-room c =
    let h = c.requires.way.1 in
    let s = next_left c.args.journal.now.events c.args.run.now c.args.done.now c.requires.some h.next in
    room c.requires.way.0 c.args.names.now c.args.controller.now c.args.journal.now.events c.args.run.now c.args.done.now h (slice_index_or (joined c.args.journal.now.events) c.args.run.now no_run).event s.0 (h.left ∙ s.1)

pub returns-clause-way : goal.returns-clause-way
returns-clause-way c bytes h =
    let es = c.args.journal.now.events in
    let e = (slice_index_or (joined es) c.args.run.now no_run).event in
    let rest = events_left (joined es) c.pass.new.run c.pass.new.done in
    let made = subst (λ (y : Event). Makes c.args.controller.now c.make.new.controller c.args.names.now y c.in_ok-seen.seen) (c.event_at-event.ensures no_run) c.in_ok-seen.ensures.made in
    goes bytes c.args.names.now c.args.controller.now es c.args.run.now c.args.done.now h e rest (h.left ∙ c.pass.ensures.left) c.make.new.controller c.in_ok-seen.seen made c.in_ok-seen.ensures.spent
    c.pass.new.run c.pass.new.done refl c.pass.ensures.next c.pass.ensures.runs

pub returns-clause-text : goal.returns-clause-text
returns-clause-text c bytes h =
    let es = c.args.journal.now.events in
    let e = (slice_index_or (joined es) c.args.run.now no_run).event in
    let rest = events_left (joined es) c.pass.new.run c.pass.new.done in
    let made = subst (λ (y : Event). Makes c.args.controller.now c.make.new.controller c.args.names.now y c.in_ok-seen.seen) (c.event_at-event.ensures no_run) c.in_ok-seen.ensures.made in
    told bytes c.args.names.now c.args.controller.now es c.args.run.now c.args.done.now h e rest (h.left ∙ c.pass.ensures.left) c.make.new.controller c.in_ok-seen.seen made c.in_ok-seen.ensures.spent
