use Rattle.lgx_num.proofs.Images.{reads_what_was_written, other_places_stay, write_keeps_length}
use Rattle.lgx_num.proofs.laws.law_of_writes.Goals as goal

pub returns : goal.returns
returns c = record { read = reads_what_was_written; others = other_places_stay; length = write_keeps_length }
