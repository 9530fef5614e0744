-- One list more.
use Rattle.std.proofs.Common.{◌∙◌, List, ◌++◌, ◌∷◌, [], ap, replicate}
use Rattle.std.proofs.lemmas.List.{replicate-append-replicate}
use Rattle.spec_uses.specs.declared.uses.Use.{Use}
use Rattle.lgx_xref.proofs.note.no_uses.Goals as goal

pub loop-preserved : goal.loop-preserved
loop-preserved c =
    c.in_ok-push.ensures.items ∙ ap (λ (lists : List (List Use)). lists ++ c.new.result ∷ []) c.loop.invariant
    ∙ ap (λ (list : List Use). replicate c.loop.counter [] ++ list ∷ []) c.new.ensures ∙ replicate-append-replicate c.loop.counter 1 []
