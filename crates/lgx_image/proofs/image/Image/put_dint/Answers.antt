use Rattle.lgx_image.proofs.Changes.{dint_changes_only_marked}
use Rattle.lgx_image.proofs.image.Image.put_dint.Goals as goal

pub returns-clause-only_marked : goal.returns-clause-only_marked
returns-clause-only_marked c =
    dint_changes_only_marked c.args.self.now c.store_dint.new.self c.args.byte _ c.store_dint.ensures.grains c.requires c.store_dint.ensures.bytes c.store_dint.ensures.marks c.store_dint.ensures.watched c.store_dint.ensures.hits
