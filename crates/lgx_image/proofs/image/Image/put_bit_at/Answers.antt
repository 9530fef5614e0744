use Rattle.spec_scan.specs.Arguments.{bit_number}
use Rattle.lgx_image.proofs.Changes.{bit_changes_only_marked}
use Rattle.lgx_image.proofs.image.Image.put_bit_at.Goals as goal

pub returns-clause-only_marked : goal.returns-clause-only_marked
returns-clause-only_marked c =
    bit_changes_only_marked c.args.self.now c.store_bit.new.self c.args.bit (bit_number c.args.value) c.store_bit.ensures.grains c.requires c.store_bit.ensures.bytes c.store_bit.ensures.marks c.store_bit.ensures.watched c.store_bit.ensures.hits
