use Rattle.std.proofs.Common.{rules, ◌≡◌, refl, None, Some, ap, sym, ◌∙◌}
use Rattle.std.specs.Prelude.{filter_map}
use Rattle.std.specs.Result.{result_ok}
use Rattle.spec_language.specs.Checked.{lesser, operands_of}
use Rattle.spec_language.specs.Operands.{paired}
use Rattle.lgx_check.specs.Checkers.{checked_scope}
use Rattle.lgx_check.specs.Spots.{spot_of}
use Rattle.lgx_check.proofs.Judging.{refused_code, settled_by}
use Rattle.lgx_check.proofs.checker.Checker.check_instruction.Goals as goal
use Rattle.lgx_check.proofs.checker.Checker.check_instruction.Goals.{in-Ok+in-Some, in-Err-Code}

pub returns-in-None-clause-answer : goal.returns-in-None-clause-answer
returns-in-None-clause-answer c =
    let spot = spot_of c.args.spot in
    let operands = operands_of (checked_scope c.args.self.now) c.args.self.now.labels spot (paired c.args.op c.args.texts.now) in
    settled_by c.args.self.now.labels spot (record { op = c.args.op; texts = c.args.texts.now }) operands c.in-Ok.args None c.other_fault-other.result None
    c.in-Ok.ensures.0 (sym c.in-Ok.ensures.1) c.other_fault-other.ensures.least (sym c.in-None.is)

pub returns-clause-answer : goal.returns-clause-answer
returns-clause-answer c =
    let spot = spot_of c.args.spot in
    let operands = operands_of (checked_scope c.args.self.now) c.args.self.now.labels spot (paired c.args.op c.args.texts.now) in
    elim c.match-judged.branch [
      | in-Ok+in-Some w ↦
          let chosen : Some c.match-judged.code ≡ c.other_fault-other.result = search rules in
          settled_by c.args.self.now.labels spot (record { op = c.args.op; texts = c.args.texts.now }) operands w.in-Ok.args None c.other_fault-other.result (Some c.match-judged.code)
          w.in-Ok.ensures.0 (sym w.in-Ok.ensures.1) c.other_fault-other.ensures.least chosen
      | in-Err-Code w ↦
          let chosen : Some c.match-judged.code ≡ lesser w.in-Err-Code.code c.other_fault-other.result = search rules in
          settled_by c.args.self.now.labels spot (record { op = c.args.op; texts = c.args.texts.now }) operands (filter_map result_ok operands) (Some w.in-Err-Code.code) c.other_fault-other.result (Some c.match-judged.code)
          refl (refused_code operands w.in-Err-Code.field-0 w.in-Err-Code.code w.in-Err-Code.ensures-1 (search rules)) c.other_fault-other.ensures.least chosen
    ]
