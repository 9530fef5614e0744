use Rattle.std.proofs.Common.{◌∙◌, ap, option_map}
use Rattle.lgx_io.proofs.Entries.{contents_at-stored}
use Rattle.lgx_io.proofs.memory.find_contents.Goals as goal

pub returns-in-Some : goal.returns-in-Some
returns-in-Some c = ap (option_map (λ file. file.1.items)) c.in-Some.ensures ∙ contents_at-stored c.args.files.now c.args.name.now

pub returns-in-None : goal.returns-in-None
returns-in-None c = ap (option_map (λ file. file.1.items)) c.in-None.ensures ∙ contents_at-stored c.args.files.now c.args.name.now
