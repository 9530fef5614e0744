use Rattle.std.proofs.Common.{◌≡◌, ℕ, List, Some, ap, sym, ◌∙◌}
use Rattle.lgx_num.specs.Image.{bit_of}
use Rattle.lgx_num.proofs.Subscripts.{subscripts_stay_in_range}
use Rattle.lgx_image.specs.Grains.{ImageView}
use Rattle.lgx_image.proofs.image.Image.place.Goals as goal

pub returns-clause-lies : goal.returns-clause-lies
returns-clause-lies c =
    let bytes = ap (λ (m : ImageView). m.bytes) c.self.view_is in
    let to : bit_of c.args.self.now.bytes c.args.path.now ≡ Some c.in_ok-at.at =
    ap (λ (b : List ℕ). bit_of b c.args.path.now) (sym (c.deref.ensures.value ∙ bytes)) ∙ sym c.in_ok-at.ensures.value in
    c.requires.1 c.in_ok-at.at (subscripts_stay_in_range c.args.self.now.bytes c.args.path.now c.in_ok-at.at to)
