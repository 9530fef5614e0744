use Rattle.std.proofs.Common.{◌≡◌, ◌<◌, inl, inr, length, arith, sym, ap, subst, ◌∙◌, get_or-set_same, get_or-set_other}
use Rattle.std.specs.Prelude.{slice_index_or, slice_set, nat_eq}
use Rattle.std.proofs.lemmas.Bool.{cases_eq}
use Rattle.lgx_audit.specs.declared.watch.TurnState.{TurnState}
use Rattle.spec_schedule.specs.Counting.{counted, uncounted}
use Rattle.spec_schedule.specs.Legal.{no_task}
use Rattle.lgx_audit.specs.Along.{no_count, shown}
use Rattle.lgx_audit.specs.Watching.{unwatched, watch_at, watch_by}
use Rattle.lgx_audit.proofs.Watched.{watched_at}
use Rattle.lgx_audit.proofs.watch.watch_all.Goals as goal

pub loop-t-preserved : goal.loop-t-preserved
loop-t-preserved c =
    let t = c.loop-t.t in
    let ws = c.loop-t.watches in
    let same_length = c.loop-t.auto.watches in
    let l : t < length ws = (let e = c.loop-t-test.true in omega arith) in (
      (λ k below x is. elim (cases_eq k t) [
        | inl same ↦ subst (λ n. slice_index_or c.args.counts.now n no_count ≡ shown x → watch_at (slice_set ws t c.watch_one.result) n ≡ watch_by c.args.table.now c.args.e.now c.args.gives n (slice_index_or c.args.counts.now n no_count).up (nat_eq x.downs (counted (slice_index_or c.args.table.now.tasks n no_task) n c.args.e.now x).downs) (watch_at c.args.watches.now n)) (sym same)
            (λ is'. get_or-set_same ws t c.watch_one.result unwatched l ∙ (c.watch_one.ensures x is' ∙ ap (λ (w : TurnState). watch_by c.args.table.now c.args.e.now c.args.gives t (slice_index_or c.args.counts.now t no_count).up (nat_eq x.downs (counted (slice_index_or c.args.table.now.tasks t no_task) t c.args.e.now x).downs) w) (c.loop-t.invariant.1 t (omega arith)))) is
        | inr other ↦ get_or-set_other ws t k c.watch_one.result unwatched other ∙ c.loop-t.invariant.0 k (omega arith) x is
      ]),
      (λ k above. get_or-set_other ws t k c.watch_one.result unwatched (λ e. omega arith) ∙ c.loop-t.invariant.1 k (omega arith)),
    )

pub returns : goal.returns
returns c cs ns last t h given within =
    let m = c.requires.many in
    let w = c.requires.watches in
    let l = h.many in
    let e = c.loop-t-test.false in
    let is = h.each t (omega arith) in
    watched_at c.args.table.now c.args.e.now cs ns last c.args.gives t (slice_index_or c.args.counts.now t no_count) (watch_at c.loop-t.watches t) (watch_at c.args.watches.now t) (omega arith) (omega arith) is given
    (c.loop-t.invariant.0 t (omega arith) (slice_index_or cs t uncounted) is)
