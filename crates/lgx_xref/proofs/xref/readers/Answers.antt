-- The list of a tag is its readers.
use Rattle.std.proofs.Common.{◌<◌, [], length, sym, ap, ◌∙◌, subst}
use Rattle.std.specs.Prelude.{slice_index_or}
use Rattle.std.proofs.lemmas.Result.{IfOk-weaker}
use Rattle.lgx_xref.specs.Indexed.{Index}
use Rattle.lgx_xref.proofs.Indexed.{readers_long, readers_at}
use Rattle.lgx_xref.proofs.xref.readers.Goals as goal

pub readers-requires : goal.readers-requires
readers-requires c =
    subst (λ n. c.args.tag < n) (sym (ap (λ (x : Index). length x.readers) c.in_ok-xref.ensures ∙ readers_long c.args.project.now)) c.requires

pub returns : goal.returns
returns c =
    IfOk-weaker c.copied.result _ _
    (λ uses same.
    same ∙ c.readers.ensures ∙ ap (λ (x : Index). slice_index_or x.readers c.args.tag []) c.in_ok-xref.ensures
    ∙ readers_at c.args.project.now c.args.tag c.requires)
    c.copied.ensures
