use Rattle.lgx_image.proofs.Changes.{write_changes_only_marked}
use Rattle.lgx_image.proofs.image.Image.put.Goals as goal

pub returns-clause-only_marked : goal.returns-clause-only_marked
returns-clause-only_marked c =
    write_changes_only_marked c.args.self.now c.store.new.self c.args.place _ c.store.ensures.grains c.requires c.store.ensures.bytes c.store.ensures.marks c.store.ensures.watched c.store.ensures.hits
