-- By the numbers that were read.
use Rattle.std.proofs.Common.{◌≡◌, List, length, map, ◌∙◌, sym, subst}
use Rattle.lgx_num.specs.declared.place.Place.{Place}
use Rattle.lgx_num.specs.Image.{number}
use Rattle.lgx_walker.specs.Places.{AreInside}
use Rattle.lgx_walker.proofs.Seeing.{line_after}
use Rattle.lgx_walker.proofs.valued.ValuedController.line.Goals as goal

pub returns-clause-line : goal.returns-clause-line
returns-clause-line c = λ p journal e w ends.
    line_after p journal e c.args.self.now c.deref.result.now c.args.ended c.args.question.now c.first_line.result w
    (λ s stands inside. c.deref.ensures.value ∙ subst (λ (ps : List Place). AreInside ps (length c.args.self.now.controller.parts.image.bytes) → c.read_numbers.new.values.items ≡ map (number s.image) ps) c.as_slice.ensures (c.in_ok-read_numbers.ensures s stands) inside)
    ends (sym c.first_line.ensures)
