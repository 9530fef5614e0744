use Rattle.std.proofs.Common.{◌+◌, false, filter, slice_index_or, length, sym, ap, subst, ◌∙◌, arith}
use Rattle.std.specs.List.{range_with_len}
use Rattle.std.proofs.lemmas.Result.{IfOk-weaker}
use Rattle.lgx_prog.specs.Search.{Found}
use Rattle.lgx_prog.proofs.Reaches.{Searched}
use Rattle.lgx_prog.proofs.Examined.{begins_as, examined_keeps, ends_as}
use Rattle.lgx_prog.proofs.reach.reached.Goals as goal

pub loop-i-init : goal.loop-i-init
loop-i-init c = λ program m are. begins_as program c.args.routines.now c.args.main c.in_ok-search.search c.mark_found.new.search m are c.requires c.in_ok-search.ensures c.in_ok-mark_found.ensures

pub loop-i-preserved : goal.loop-i-preserved
loop-i-preserved c = λ program m are. subst (λ s. Searched program (c.loop-i.i + 1) s) (sym c.in_ok-examine.ensures) (examined_keeps program c.args.routines.now c.loop-i.i c.loop-i.search are (c.loop-i.invariant program m are))

pub returns : goal.returns
returns c = IfOk-weaker c.marked.result _ _ (λ numbers e program m are. e ∙ ap (λ marks. filter (λ n. slice_index_or marks n false) (range_with_len 0 (length marks))) (c.deref.ensures.value ∙ ap (λ (s : Found). s.marks) c.search-2.view_is) ∙ ends_as program c.args.routines.now c.args.main c.loop-i.i c.loop-i.search m are c.requires (omega (arith, c.loop-i-test.false)) (omega (arith, c.loop-i.auto.i-end)) (c.loop-i.invariant program m are)) c.marked.ensures
