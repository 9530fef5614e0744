use Rattle.std.proofs.Common.{refl, ne_eqb}
use Rattle.lgx_live.proofs.Lines.{so_far_more, so_far_end}
use Rattle.lgx_live.proofs.reading.read_line.Goals as goal

pub returns-in-End-clause-last : goal.returns-in-End-clause-last
returns-in-End-clause-last g c = λ e. so_far_end _ (g.R.Read.remaining c.loop.reader) _ c.loop.line.items c.loop.invariant (c.in-End.ensures.end refl) (c.in-End.ensures.at_end refl)

pub loop-preserved : goal.loop-preserved
loop-preserved g c =
    so_far_more _ (g.R.Read.remaining c.loop.reader) _ c.loop.line.items c.keep.new.line.items c.in-Byte.byte c.loop.invariant (c.in-Byte.ensures.byte c.in-Byte.byte refl) (ne_eqb c.in-Byte.byte 10 c.if-byte-eq10.false) c.in-Ok.ensures
