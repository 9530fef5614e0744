-- The list of a tag is its writers.
use Rattle.std.proofs.Common.{◌<◌, [], length, sym, ap, ◌∙◌, subst}
use Rattle.std.specs.Prelude.{slice_index_or}
use Rattle.std.proofs.lemmas.Result.{IfOk-weaker}
use Rattle.lgx_xref.specs.Indexed.{Index}
use Rattle.lgx_xref.proofs.Indexed.{lists_long, writers_at}
use Rattle.lgx_xref.proofs.xref.writers.Goals as goal

pub writers-requires : goal.writers-requires
writers-requires c =
    subst (λ n. c.args.tag < n) (sym (ap (λ (x : Index). length x.writers) c.in_ok-xref.ensures ∙ lists_long c.args.project.now)) c.requires

pub returns : goal.returns
returns c =
    IfOk-weaker c.copied.result _ _
    (λ uses same.
    same ∙ c.writers.ensures ∙ ap (λ (x : Index). slice_index_or x.writers c.args.tag []) c.in_ok-xref.ensures
    ∙ writers_at c.args.project.now c.args.tag c.requires)
    c.copied.ensures
