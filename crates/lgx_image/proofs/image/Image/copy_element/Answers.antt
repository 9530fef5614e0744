use Rattle.lgx_image.proofs.Changes.{copy_changes_only_marked}
use Rattle.lgx_image.proofs.image.Image.copy_element.Goals as goal

pub returns-clause-only_marked : goal.returns-clause-only_marked
returns-clause-only_marked c =
    copy_changes_only_marked c.args.self.now c.copy.new.self c.args.source c.args.target c.args.size c.copy.ensures.grains c.requires.target c.copy.ensures.bytes c.copy.ensures.marks c.copy.ensures.watched c.copy.ensures.hits
