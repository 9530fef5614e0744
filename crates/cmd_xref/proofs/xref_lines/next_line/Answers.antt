use Rattle.std.proofs.Common.{◌≡◌, ◌<◌, ◌≤◌, length, Ok, ap, ◌∙◌, arith}
use Rattle.spec_language.specs.TagSpans.{spans_of}
use Rattle.spec_machine.specs.Project.{Project}
use Rattle.cmd_xref.proofs.XrefLefts.{one_line, no_line, no_tag}
use Rattle.cmd_xref.proofs.xref_lines.next_line.Goals as goal

pub returns-then-branch-clause-more : goal.returns-then-branch-clause-more
returns-then-branch-clause-more c = λ done.
    let p = c.args.project.now in
    let count : c.tag_count.result ≡ length (spans_of p.tags) = c.tag_count.ensures ∙ ap (λ (q : Project). length (spans_of q.tags)) c.project.view_is in
    let within : c.loop-tag.tag < length (spans_of p.tags) = omega (arith, c.loop-tag-test.true, count) in
    c.loop-tag.invariant
    ∙ one_line p c.loop-tag.tag c.loop-tag.at c.tag_line.new.line.items within (c.in_ok-tag_line.ensures.more (ap (λ b. Ok b) c.if-branch.true))

pub loop-tag-preserved : goal.loop-tag-preserved
loop-tag-preserved c =
    let p = c.args.project.now in
    let count : c.tag_count.result ≡ length (spans_of p.tags) = c.tag_count.ensures ∙ ap (λ (q : Project). length (spans_of q.tags)) c.project.view_is in
    let within : c.loop-tag.tag < length (spans_of p.tags) = omega (arith, c.loop-tag-test.true, count) in
    c.loop-tag.invariant ∙ no_line p c.loop-tag.tag c.loop-tag.at within (c.in_ok-tag_line.ensures.none (ap (λ b. Ok b) c.if-branch.false))

pub returns-clause-none : goal.returns-clause-none
returns-clause-none c = λ done.
    let p = c.args.project.now in
    let count : c.tag_count.result ≡ length (spans_of p.tags) = c.tag_count.ensures ∙ ap (λ (q : Project). length (spans_of q.tags)) c.project.view_is in
    let past : length (spans_of p.tags) ≤ c.loop-tag.tag = omega (arith, c.loop-tag-test.false, count) in
    c.loop-tag.invariant ∙ no_tag p c.loop-tag.tag c.loop-tag.at past
