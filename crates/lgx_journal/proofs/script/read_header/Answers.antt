use Rattle.std.proofs.Common.{◌≡◌, true, length, sym, ◌∙◌, arith}
use Rattle.std.proofs.lemmas.Bool.{le-leb}
use Rattle.spec_base.specs.declared.limits.TheConstants.{MAX_LINE_BYTES}
use Rattle.spec_text.specs.JournalText.{is_line}
use Rattle.lgx_journal.proofs.ReadLanes.{header_beyond, header_within}
use Rattle.lgx_journal.proofs.script.read_header.Goals as goal

pub returns-then-not-is_within-clause-code : goal.returns-then-not-is_within-clause-code
returns-then-not-is_within-clause-code c =
    let fits : is_line c.args.line.now ≡ true = le-leb (length c.args.line.now) MAX_LINE_BYTES (omega arith) in
    header_beyond c.args.line.now c.in-Some.steps c.in-Some.pace c.in-Some.lanes fits c.in-Some.ensures (sym c.is_within.ensures ∙ c.if-not-is_within.true)

pub returns-clause-draft : goal.returns-clause-draft
returns-clause-draft c =
    let fits : is_line c.args.line.now ≡ true = le-leb (length c.args.line.now) MAX_LINE_BYTES (omega arith) in
    header_within c.args.line.now c.in-Some.steps c.in-Some.pace c.in-Some.lanes _ fits c.in-Some.ensures (sym c.is_within.ensures ∙ c.if-not-is_within.false) c.in_ok-empty_lanes.ensures
