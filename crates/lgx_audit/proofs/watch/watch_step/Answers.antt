use Rattle.std.proofs.Common.{◌≡◌, ◌<◌, Bool, inl, inr, length, arith, sym, ap, subst, ◌∙◌, get_or-set_same, get_or-set_other}
use Rattle.std.specs.Prelude.{slice_set, nat_eq, not, ◌||◌, Some}
use Rattle.std.proofs.lemmas.Bool.{cases_eq}
use Rattle.lgx_audit.specs.declared.watch.TurnState.{TurnState}
use Rattle.lgx_audit.specs.Watching.{unwatched, watch_at, watched_step}
use Rattle.lgx_audit.proofs.watch.watch_step.Goals as goal

pub loop-t-preserved : goal.loop-t-preserved
loop-t-preserved c =
    let t = c.loop-t.t in
    let ws = c.loop-t.watches in
    let same_length = c.loop-t.auto.watches in
    let l : t < length ws = (let e = c.loop-t-test.true in omega arith) in (
      (λ k below. elim (cases_eq k t) [
        | inl same ↦ subst (λ n. watch_at (slice_set ws t c.watched_step.result) n ≡ watched_step c.args.table.now n (Some c.args.u) (not (nat_eq n c.args.u) || c.args.stay) (watch_at c.args.watches.now n)) (sym same)
            (get_or-set_same ws t c.watched_step.result unwatched l
            ∙ (c.watched_step.ensures
            ∙ (ap (λ (b : Bool). watched_step c.args.table.now t (Some c.args.u) b (watch_at ws t)) c.stays_here-here.ensures
            ∙ ap (λ (w : TurnState). watched_step c.args.table.now t (Some c.args.u) (not (nat_eq t c.args.u) || c.args.stay) w) (c.loop-t.invariant.1 t (omega arith)))))
        | inr other ↦ get_or-set_other ws t k c.watched_step.result unwatched other ∙ c.loop-t.invariant.0 k (omega arith)
      ]),
      (λ k above. get_or-set_other ws t k c.watched_step.result unwatched (λ e. omega arith) ∙ c.loop-t.invariant.1 k (omega arith)),
    )
