use Rattle.std.proofs.Common.{◌≡◌, ℕ, ◌<◌, ◌≤◌, ◌⊎◌, true}
use Rattle.lgx_image.specs.Grains.{is_marked}
use Rattle.lgx_image.proofs.grain.Marks.mark_from.Given as goal

abbrev pub invariant-loop-grain : goal.invariant-loop-grain
invariant-loop-grain l = record {
  marked : (g : ℕ) → l.first ≤ g → g < l.grain → is_marked l.self g ≡ true;
  others : (g : ℕ) → (g < l.first) ⊎ (l.grain ≤ g) → is_marked l.self g ≡ is_marked l.initial.self g;
}
