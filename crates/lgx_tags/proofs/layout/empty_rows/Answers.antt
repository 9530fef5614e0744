use Rattle.std.proofs.Common.{◌∙◌, List, ◌++◌, ◌∷◌, [], ap, replicate}
use Rattle.std.proofs.lemmas.List.{replicate-append-replicate}
use Rattle.lgx_tags.specs.declared.layout.NumberedTag.{NumberedTag}
use Rattle.lgx_tags.proofs.layout.empty_rows.Goals as goal

pub loop-preserved : goal.loop-preserved
loop-preserved c =
    c.in_ok-push.ensures.items ∙ ap (λ (rows : List (List NumberedTag)). rows ++ c.new.result ∷ []) c.loop.invariant ∙ ap (λ (row : List NumberedTag). replicate c.loop.counter [] ++ row ∷ []) c.new.ensures ∙ replicate-append-replicate c.loop.counter 1 []
