use Rattle.std.proofs.Common.{sym, subst}
use Rattle.lgx_image.specs.Grains.{ChangesOnlyMarked}
use Rattle.lgx_image.proofs.Changes.{no_change_needs_marks, changes_follow_one_another}
use Rattle.lgx_time.proofs.counters.ctu.Goals.{then-not-on, else-not-on+then-not-status, else-not-on+else-not-status}
use Rattle.lgx_time.proofs.counters.ctu.Goals as goal

pub returns-clause-only_marked : goal.returns-clause-only_marked
returns-clause-only_marked c =
    let before : ChangesOnlyMarked c.args.image.now c.if-not-on.image =
    elim c.if-not-on.branch [
      | then-not-on w ↦ subst (ChangesOnlyMarked c.args.image.now) (sym w.image-is) w.put_status.ensures.only_marked
      | else-not-on+then-not-status w ↦ subst (ChangesOnlyMarked c.args.image.now) (sym w.image-is) (changes_follow_one_another _ _ _ w.put_status-then-not-status.ensures.only_marked w.one_up.ensures.only_marked)
      | else-not-on+else-not-status w ↦ subst (ChangesOnlyMarked c.args.image.now) (sym w.image-is) (no_change_needs_marks c.args.image.now)
    ] in
    changes_follow_one_another _ _ _ before c.update_done.ensures.only_marked
