use Rattle.std.proofs.Common.{◌≡◌, ℕ, ◌<◌, ◌≤◌, false}
use Rattle.lgx_image.specs.Grains.{is_marked}
use Rattle.lgx_image.proofs.grain.Marks.next.Given as goal

abbrev pub invariant-loop-grain : goal.invariant-loop-grain
invariant-loop-grain l = (g : ℕ) → l.from ≤ g → g < l.grain → is_marked l.self g ≡ false
