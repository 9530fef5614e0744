use Rattle.std.proofs.Common.{ℕ, List, Ok, ap, sym, subst}
use Rattle.lgx_answer.specs.Plan.{Says}
use Rattle.lgx_answer.proofs.Follow.{says_leads}
use Rattle.cmd_replay.specs.GenPlan.{gen_plan}
use Rattle.cmd_replay.proofs.generated.generate.Goals as goal

pub returns-in-Ok-Refused : goal.returns-in-Ok-Refused
returns-in-Ok-Refused g c =
    let verdict = c.in-Ok-Refused.verdict in
    let says = c.in-Ok-Refused.ensures.refused _ _ (ap (λ m. Ok m) c.in-Ok-Refused.field-0-is) in
    let P : List ℕ → Type 0 = λ t. Says (gen_plan c.args.number) verdict t in
    says_leads (gen_plan c.args.number) verdict c.as_slice.result.now _ (subst P (sym c.as_slice.ensures) says) c.say.ensures
