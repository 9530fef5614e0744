use Rattle.lgx_image.proofs.Changes.{changes_follow_one_another}
use Rattle.lgx_time.proofs.timers.count_on.Goals as goal

pub returns-clause-only_marked : goal.returns-clause-only_marked
returns-clause-only_marked c =
    changes_follow_one_another _ _ _ (changes_follow_one_another _ _ _ c.advance_on.ensures.only_marked c.put_last_tick.ensures.only_marked) c.update_done_on.ensures.only_marked
