use Rattle.std.proofs.Common.{ℕ, List, [], ◌∷◌, ◌++◌, codes, decimal, ap, ◌∙◌}
use Rattle.cmd_explore.proofs.Texts.{moment_grouped}
use Rattle.cmd_explore.proofs.text_out.push_moment.Goals as goal

pub returns : goal.returns
returns c =
    let step = c.in_ok-push_word-2.ensures ∙ ap (λ (t : List ℕ). t ++ 32 ∷ codes "step") c.in_ok-push_word.ensures in
    let steps = c.in_ok-push_count.ensures ∙ ap (λ (t : List ℕ). t ++ 32 ∷ decimal c.args.counts.steps) step in
    let comma = c.in_ok-push.ensures.items ∙ ap (λ (t : List ℕ). t ++ 44 ∷ []) steps in
    let tick = c.in_ok-push_word-3.ensures ∙ ap (λ (t : List ℕ). t ++ 32 ∷ codes "tick") comma in
    c.in_ok-push_count-2.ensures ∙ ap (λ (t : List ℕ). t ++ 32 ∷ decimal c.args.counts.ticks) tick ∙ moment_grouped c.args.text.now.items (decimal c.args.counts.steps) (decimal c.args.counts.ticks)
