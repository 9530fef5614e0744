use Rattle.std.proofs.Common.{◌≡◌, ◌<◌, length}
use Rattle.std.specs.Prelude.{IfSome}
use Rattle.std.specs.List.{AllByRecursion as Each}
use Rattle.lgx_tags.proofs.seal.open_chain.Given as goal

abbrev pub invariant-loop : goal.invariant-loop
invariant-loop l = Each (λ j. j < length l.declared.entries) l.chain.items × (length l.met.items ≡ length l.declared.entries) × IfSome l.next (λ j. j < length l.declared.entries)
