-- What is written of a link script that was read.
use Rattle.std.proofs.Common.{◌≡◌, ℕ, List, Ok}
use Rattle.spec_machine.specs.Project.{Project}
use Rattle.spec_machine.specs.ValidProject.{IsValidProject}
use Rattle.spec_link.specs.declared.script.LinkScript.{LinkScript}
use Rattle.spec_link.specs.LinkText.{link_of}
use Rattle.spec_link.specs.LinkOutput.{link_output, linked_journals}
use Rattle.spec_link.specs.Consumed.{AreDints}
use Rattle.spec_link.proofs.Scripts.{scripts_keep_whole}
use Rattle.spec_beside.proofs.Writers.{changes_have_writers}
use Rattle.cmd_link.specs.LinkTexts.{IsLinkText}

pub is_link_text : (a b : Project) (bytes : List ℕ) (script : LinkScript) (text : List ℕ) → IsValidProject a → IsValidProject b → link_of a b bytes ≡ Ok script
    → text ≡ link_output a b script → AreDints (linked_journals a b script).sent
    → IsLinkText a b script text
is_link_text a b bytes script text valid_a valid_b read is dints =
    record { output = is; whole = scripts_keep_whole a b bytes script valid_a valid_b (changes_have_writers b valid_b) read dints }
