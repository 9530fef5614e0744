use Rattle.std.proofs.Common.{◌≡◌, true, ◌+◌, ◌-◌, refl, subst, ◌∙◌, arith, inl, inr}
use Rattle.lgx_image.specs.Grains.{is_marked}
use Rattle.lgx_image.proofs.Marks.{grain_of-is}
use Rattle.lgx_image.proofs.Words.{flags_of-first}
use Rattle.lgx_image.proofs.grain.Marks.mark_range.Goals as goal

pub mark-requires : goal.mark-requires
mark-requires c = omega (arith, grain_of-is c.args.at, c.grain_of-first.ensures)

pub mark_from-requires : goal.mark_from-requires
mark_from-requires c =
    let first = grain_of-is c.args.at in
    let last = grain_of-is (c.args.at + c.args.size - 1) in
    record {
      order = omega (arith, first, last, c.grain_of-first.ensures, c.grain_of-last.ensures, c.if-first-last.true);
      within = omega (arith, last, c.grain_of-last.ensures);
    }

pub overflow_add-first : goal.overflow_add-first
overflow_add-first c =
    let first = grain_of-is c.args.at in
    let last = grain_of-is (c.args.at + c.args.size - 1) in
    record { fits = omega (arith, first, last, c.grain_of-first.ensures, c.grain_of-last.ensures, c.if-first-last.true) }

pub returns-then-first-last : goal.returns-then-first-last
returns-then-first-last c = λ grains.
    let first = c.grain_of-first.ensures in
    let last = c.grain_of-last.ensures in
    flags_of-first c.args.self.now c.mark.new.self c.mark_from.new.self c.args.at c.args.size grains (omega arith)
    (subst (λ g. is_marked c.mark.new.self g ≡ true) first c.mark.ensures.set)
    (λ g other. c.mark.ensures.others g (λ same. other (same ∙ first)))
    (λ g above below. c.mark_from.ensures.marked g (omega (arith, first)) (omega (arith, last)))
    (λ g apart. c.mark_from.ensures.others g (elim apart [ inl before ↦ inl (omega (arith, first)) | inr after ↦ inr (omega (arith, last)) ]))

pub returns-else-first-last : goal.returns-else-first-last
returns-else-first-last c = λ grains.
    let first = c.grain_of-first.ensures in
    let last = c.grain_of-last.ensures in
    flags_of-first c.args.self.now c.mark.new.self c.mark.new.self c.args.at c.args.size grains (omega arith)
    (subst (λ g. is_marked c.mark.new.self g ≡ true) first c.mark.ensures.set)
    (λ g other. c.mark.ensures.others g (λ same. other (same ∙ first)))
    (λ g above below. absurd (omega (arith, first, last, c.if-first-last.false)))
    (λ g apart. refl)
