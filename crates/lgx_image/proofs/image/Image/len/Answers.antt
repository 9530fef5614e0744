use Rattle.std.proofs.Common.{sym, ap, ◌∙◌, ◌≡◌, length, arith}
use Rattle.lgx_image.specs.Grains.{grains_in}
use Rattle.lgx_image.proofs.Words.{length-flags_of}
use Rattle.lgx_image.proofs.image.Image.len.Goals as goal

pub returns-clause-grains : goal.returns-clause-grains
returns-clause-grains c =
    let same : length c.self.inside.bytes.items ≡ c.len.result = omega (arith, c.len.ensures, c.self.inside.bytes.ok.0) in
    ap (λ m. length m.marks) (sym c.self.view_is) ∙ length-flags_of c.self.inside.marks _ ∙ ap grains_in same
