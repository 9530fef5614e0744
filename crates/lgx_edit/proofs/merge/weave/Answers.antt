-- One place more is woven.
use Rattle.std.proofs.Common.{◌++◌, length, List, ap, sym, ◌∙◌, add-one}
use Rattle.std.proofs.lemmas.List.{length_push}
use Rattle.lgx_edit.specs.declared.pick.Pick.{Pick}
use Rattle.lgx_edit.specs.Merging.{put_around, rest_of}
use Rattle.lgx_edit.proofs.Picking.{rest_after, rest_more, woven_more}
use Rattle.lgx_edit.proofs.merge.weave.Goals as goal

pub loop-around-preserved : goal.loop-around-preserved
loop-around-preserved c =
    let base = c.args.base.now in
    let ys = c.loop-around.yielded in
    let a = c.in-Some.around in
    record {
      woven = c.in_ok-add_to.ensures
          ∙ (ap (λ (xs : List Pick). xs ++ put_around c.loop-around.rest.now a) c.loop-around.invariant.woven
          ∙ sym (woven_more base ys a c.loop-around.rest.now c.loop-around.invariant.rest));
      rest = c.others-rest.ensures
          ∙ (ap rest_of c.loop-around.invariant.rest
          ∙ (sym (rest_more (length ys) base)
          ∙ ap (λ n. rest_after n base) (sym (length_push ys a ∙ add-one (length ys)))));
    }
