-- One set more.
use Rattle.std.proofs.Common.{◌∙◌, ℕ, List, ◌++◌, ◌∷◌, [], ap, replicate}
use Rattle.std.proofs.lemmas.List.{replicate-append-replicate}
use Rattle.lgx_xref.proofs.returns.no_tags.Goals as goal

pub loop-preserved : goal.loop-preserved
loop-preserved c =
    c.in_ok-push.ensures.items ∙ ap (λ (sets : List (List ℕ)). sets ++ c.new.result ∷ []) c.loop.invariant
    ∙ ap (λ (set : List ℕ). replicate c.loop.counter [] ++ set ∷ []) c.new.ensures ∙ replicate-append-replicate c.loop.counter 1 []
