use Rattle.std.proofs.lemmas.Bool.{OnFalse_at}
use Rattle.std.proofs.KnownBytes.{Appends-nil}
use Rattle.lgx_io.proofs.gathered.GatheredSink.put.Goals as goal
use Rattle.lgx_io.proofs.gathered.GatheredSink.put.Goals.{else-self-eq0-via-then-self-eq0+else-write_all, else-self-eq0-via-else-self-eq0}

pub returns-clause-part : goal.returns-clause-part
returns-clause-part g c = rw (← c.self.view_is) (λ failed.
    elim c.else-self-eq0.branch [
      | else-self-eq0-via-then-self-eq0+else-write_all w ↦ rw w.self-inside-is (OnFalse_at w.if-write_all.false w.write_all.ensures.part)
      | else-self-eq0-via-else-self-eq0 w ↦ rw w.self-inside-is (0, Appends-nil _)
    ])
