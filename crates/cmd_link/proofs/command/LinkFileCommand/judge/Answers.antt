use Rattle.std.proofs.Common.{Ok, ap, sym, subst}
use Rattle.std.specs.Prelude.{codes}
use Rattle.spec_machine.specs.Project.{Project}
use Rattle.lgx_answer.specs.Plan.{Read, Says}
use Rattle.cmd_link.specs.declared.command.Link.{Link}
use Rattle.cmd_link.specs.LinkPlan.{b_read, script_read}
use Rattle.cmd_link.specs.LinkState.{link_next}
use Rattle.cmd_link.proofs.Judging.{says_no_controller, says_no_link}
use Rattle.cmd_link.proofs.command.LinkFileCommand.judge.Goals as goal

pub returns-in-All-clause-say : goal.returns-in-All-clause-say
returns-in-All-clause-say c = λ said line is.
    let bytes = c.args.bytes.items in
    let refusal = c.in-Refused.line in
    let is_none = c.in_ok-a-in-All.ensures.refused refusal (ap (λ s. Ok s) c.in-Refused.is) in
    let accepted = λ (a : Project). Read c.in-All.b.now (b_read c.in-All.script.now a) in
    let P : Link → Type 0 = λ w. Says (link_next w bytes) said line in
    let says = says_no_controller (codes "a ") accepted c.deref.result.now bytes refusal line said is_none c.deref.ensures.value (cc is) (cc is) in
    subst P (sym c.in-All.is) says

pub returns-in-OnA-clause-say : goal.returns-in-OnA-clause-say
returns-in-OnA-clause-say c = λ said line is.
    let bytes = c.args.bytes.items in
    let shown = c.deref-in-OnA in
    let refusal = c.in-Refused-2.line in
    let is_none = c.in_ok-b-in-OnA.ensures.refused refusal (ap (λ s. Ok s) c.in-Refused-2.is) in
    let accepted = λ (b : Project). Read c.in-OnA.script.now (script_read c.in-OnA.a b) in
    let P : Link → Type 0 = λ w. Says (link_next w bytes) said line in
    let says = says_no_controller (codes "b ") accepted shown.result.now bytes refusal line said is_none shown.ensures.value (cc is) (cc is) in
    subst P (sym c.in-OnA.is) says

pub returns-clause-say : goal.returns-clause-say
returns-clause-say c = λ said line is.
    let bytes = c.args.bytes.items in
    let shown = c.deref-in-OnBoth in
    let refusal = c.in-Refused-3.line in
    let is_none = c.in_ok-script-in-OnBoth.ensures.refused refusal (ap (λ s. Ok s) c.in-Refused-3.is) in
    let P : Link → Type 0 = λ w. Says (link_next w bytes) said line in
    let says = says_no_link c.in-OnBoth.a c.in-OnBoth.b shown.result.now bytes refusal line said is_none shown.ensures.value (cc is) (cc is) in
    subst P (sym c.in-OnBoth.is) says
