use Rattle.spec_beside.proofs.InTags.{found_in_tag}
use Rattle.spec_beside.proofs.OperandTags.{checked_in_tags}
use Rattle.spec_beside.proofs.SiteTags.{sites_write_beside}
use Rattle.spec_beside.proofs.SubscriptTags.{subscripts_in_tags}
use Rattle.spec_beside.proofs.TagsApart.{bytes_are_of_one_tag}
use Rattle.spec_beside.proofs.laws.operands_lie_in_tags.Goals as goal

pub returns-clause-found : goal.returns-clause-found
returns-clause-found c = found_in_tag

pub returns-clause-subscripts : goal.returns-clause-subscripts
returns-clause-subscripts c = subscripts_in_tags

pub returns-clause-checked : goal.returns-clause-checked
returns-clause-checked c = checked_in_tags

pub returns-clause-sites : goal.returns-clause-sites
returns-clause-sites c = sites_write_beside

pub returns-clause-apart : goal.returns-clause-apart
returns-clause-apart c = bytes_are_of_one_tag
