-- What is written of a link script, and what the consumed tag held meanwhile.
use Rattle.std.specs.Prelude.{◌≡◌, ℕ, List, Ok, drop}
use Rattle.spec_machine.specs.Project.{Project}
use Rattle.spec_link.specs.declared.script.LinkScript.{LinkScript}
use Rattle.spec_link.specs.LinkText.{link_of}
use Rattle.spec_link.specs.LinkOutput.{link_output}
use Rattle.spec_link.specs.Consumed.{KeepsWhole}
use Rattle.cmd_link.specs.declared.lines.LinkLines.{LinkLines}

-- some text is this link script for two projects
abbrev pub WasRead : Project → Project → LinkScript → Type 0
WasRead a b script = (bytes : List ℕ) × (link_of a b bytes ≡ Ok script)

-- It is the output of the script. And after each line the consumed tag holds whole and never older words, as long as the second
-- controller and the lines leave it.
pub record IsLinkText (a b : Project) (script : LinkScript) (text : List ℕ) : Type 0 where
  pub output : text ≡ link_output a b script
  pub whole : KeepsWhole a b script

-- the text from a byte on
abbrev pub link_rest : LinkLines → List ℕ
link_rest l = drop l.at l.text.items
