use Rattle.std.proofs.Common.{◌∙◌, ap, length}
use Rattle.lgx_tags.proofs.TagSpans.{told_count}
use Rattle.lgx_tags.proofs.table.TagTable.tag_count.Goals as goal

pub returns : goal.returns
returns c = ap length (c.as_slice-laid.ensures.value ∙ c.seal_of.ensures.tags) ∙ told_count c.args.self.now.declarations
