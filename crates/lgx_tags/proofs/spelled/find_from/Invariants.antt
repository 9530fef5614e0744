use Rattle.std.proofs.Common.{◌≡◌, [], length}
use Rattle.spec_language.specs.OperandForm.{tokens}
use Rattle.lgx_tags.specs.TextReading.{subscripts_of, found_after, AllInImage}
use Rattle.lgx_tags.proofs.SpelledForms.{StillForms}
use Rattle.lgx_tags.proofs.spelled.find_from.Given as goal

abbrev pub invariant-loop-part : goal.invariant-loop-part
invariant-loop-part g l = record {
  reads : found_after (subscripts_of l.subscripts) l.types (g.N.Names.named l.names) (tokens l.text) (record { arrays = []; found = l.fn.found }) ≡ found_after (subscripts_of l.subscripts) l.types (g.N.Names.named l.names) (tokens l.rest) l.reading;
  placed : AllInImage l.types (g.N.Names.bytes l.names) l.reading;
  forms : StillForms (tokens l.text) (tokens l.rest) l.reading;
}

abbrev pub decreases-loop-part : goal.decreases-loop-part
decreases-loop-part g l = length l.rest
