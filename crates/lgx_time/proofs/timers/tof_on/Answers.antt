use Rattle.lgx_image.proofs.Changes.{changes_follow_one_another}
use Rattle.lgx_time.proofs.timers.tof_on.Goals as goal

pub returns-clause-only_marked : goal.returns-clause-only_marked
returns-clause-only_marked c =
    changes_follow_one_another _ _ _ c.put_status.ensures.only_marked
    (changes_follow_one_another _ _ _ c.put_status-2.ensures.only_marked
    (changes_follow_one_another _ _ _ c.put_status-3.ensures.only_marked
    (changes_follow_one_another _ _ _ c.put_accumulator.ensures.only_marked c.put_last_tick.ensures.only_marked)))
