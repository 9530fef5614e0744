-- The use is added at as many tags as were passed.
use Rattle.std.proofs.Common.{take}
use Rattle.lgx_xref.specs.Gains.{Gains}
use Rattle.lgx_xref.proofs.Noted.{if_any}
use Rattle.lgx_xref.proofs.note.note.Given as goal

abbrev pub invariant-loop-tag : goal.invariant-loop-tag
invariant-loop-tag l = Gains l.fn.lists.items l.lists.items (if_any l.at (take l.tag-index l.tags))
