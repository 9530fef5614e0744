use Rattle.std.proofs.Common.{refl, arith, subst, ◌∙◌, true, ◌≡◌}
use Rattle.lgx_image.specs.Grains.{is_marked}
use Rattle.lgx_image.proofs.Marks.{grain_of-is}
use Rattle.lgx_image.proofs.Words.{flags_of-first}
use Rattle.lgx_image.proofs.grain.Marks.mark_inside.Goals as goal

pub mark-requires : goal.mark-requires
mark-requires c = omega (arith, grain_of-is c.args.at, c.grain_of.ensures)

pub returns : goal.returns
returns c = λ grains.
    let first = c.grain_of.ensures in
    let one = c.requires.one in
    flags_of-first c.args.self.now c.mark.new.self c.mark.new.self c.args.at c.args.size grains (omega (arith, c.requires.some))
    (subst (λ g. is_marked c.mark.new.self g ≡ true) first c.mark.ensures.set)
    (λ g other. c.mark.ensures.others g (λ same. other (same ∙ first)))
    (λ g above below. absurd (omega (arith, one)))
    (λ g apart. refl)
