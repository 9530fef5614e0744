use Rattle.std.proofs.Common.{◌≡◌, map, take}
use Rattle.lgx_record.proofs.names.watch_texts.Given as goal

abbrev pub invariant-loop-watch : goal.invariant-loop-watch
invariant-loop-watch l = l.texts.items ≡ map (λ x. x.text) (take l.watch-index l.watches)
