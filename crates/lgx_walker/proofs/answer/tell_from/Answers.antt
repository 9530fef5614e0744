-- From the opening on.
use Rattle.std.proofs.Common.{[]}
use Rattle.std.proofs.lemmas.Result.{IfOk-weaker}
use Rattle.lgx_walker.specs.declared.walker.Walker.{Walker}
use Rattle.lgx_walker.proofs.Telling.{opened, opening_shown}
use Rattle.lgx_walker.proofs.answer.tell_from.Goals as goal

pub told-requires : goal.told-requires
told-requires g c =
    let p = c.requires.start.0 in
    let w = c.requires.start.1 in
    let after : Walker = record { trail = c.args.walker.trail; watcher = c.act.new.self; mark = c.args.walker.mark } in
    record {
      project = p;
      question = c.args.question.now;
      valid = w.stands_for.valid;
      proper = c.requires.proper;
      tells = c.in_ok-found-in-Ok-None.ensures p w.stands_for.valid
          (opened p c.args.script.now c.args.question.now after c.in-Ok-None.field-0 c.in-Ok-None.field-0-is c.requires.trail (c.in-Ok-None.ensures.watches p [] w) (c.in-Ok-None.ensures.line p [] w));
    }

pub returns-in-Ok-None : goal.returns-in-Ok-None
returns-in-Ok-None g c =
    let after : Walker = record { trail = c.args.walker.trail; watcher = c.act.new.self; mark = c.args.walker.mark } in
    IfOk-weaker c.told.result _ _
    (λ told h p w. h p c.args.question.now w.stands_for.valid c.requires.proper (c.in_ok-found-in-Ok-None.ensures p w.stands_for.valid
    (opened p c.args.script.now c.args.question.now after c.in-Ok-None.field-0 c.in-Ok-None.field-0-is c.requires.trail (c.in-Ok-None.ensures.watches p [] w) (c.in-Ok-None.ensures.line p [] w))))
    c.told.ensures

pub returns-in-Ok-Some : goal.returns-in-Ok-Some
returns-in-Ok-Some g c = λ p w.
    opening_shown p c.args.script.now c.args.question.now c.args.walker c.in-Ok-Some.field-0 c.in-Ok-Some.line _ w.stands_for.valid c.requires.proper c.in-Ok-Some.field-0-is c.requires.trail
    (c.in-Ok-Some.ensures.line p [] w) c.in_ok-journal-in-Ok-Some.ensures
