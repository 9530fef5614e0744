use Rattle.std.proofs.Common.{◌≡◌, ◌<◌, [], map, length, slice_index_or, sym, ap, ◌∙◌, subst, arith}
use Rattle.lgx_edit.specs.Texts.{program_of}
use Rattle.spec_machine.specs.Project.{Project}
use Rattle.spec_uses.specs.Uses.{writers, readers}
use Rattle.lgx_xref.specs.Indexed.{Index}
use Rattle.lgx_xref.proofs.Indexed.{lists_long, readers_long, writers_at, readers_at}
use Rattle.cmd_xref.specs.XrefText.{use_lines}
use Rattle.cmd_xref.proofs.UsesOf.{lines_are, line_after_name, none_after_name}
use Rattle.cmd_xref.proofs.xref_lines.tag_line.Goals as goal

pub writers-requires : goal.writers-requires
writers-requires c =
    let p = c.args.project.now in
    let within : c.args.tag < length _ = subst (λ n. c.args.tag < n) (sym (lists_long p)) c.requires.within in
    subst (λ (x : Index). c.args.tag < length x.writers) (sym c.requires.indexed) within

pub readers-requires : goal.readers-requires
readers-requires c =
    let p = c.args.project.now in
    let within : c.args.tag < length _ = subst (λ n. c.args.tag < n) (sym (readers_long p)) c.requires.within in
    subst (λ (x : Index). c.args.tag < length x.readers) (sym c.requires.indexed) within

-- the lines of the uses are those that the project tells of the tag
told : (c : goal.After-uses_line) → use_lines (map program_of c.as_slice-programs.result.now) c.writers.result.now c.readers.result.now
    ≡ use_lines c.args.project.now.programs (writers c.args.project.now c.args.tag) (readers c.args.project.now c.args.tag)
told c =
    let p = c.args.project.now in
    let k = c.args.tag in
    lines_are p k c.as_slice-programs.result.now c.writers.result.now c.readers.result.now
    (ap (map program_of) c.as_slice-programs.ensures ∙ ap (λ (q : Project). q.programs) c.project.view_is)
    (c.writers.ensures ∙ ap (λ (x : Index). slice_index_or x.writers k []) c.requires.indexed ∙ writers_at p k c.requires.within)
    (c.readers.ensures ∙ ap (λ (x : Index). slice_index_or x.readers k []) c.requires.indexed ∙ readers_at p k c.requires.within)

pub returns-clause-more : goal.returns-clause-more
returns-clause-more c = λ made.
    let some : 0 < c.args.at = omega (arith, c.if-at-eq0.false) in
    line_after_name c.args.project.now c.args.tag c.args.at _ c.uses_line.new.line.items some (told c) (c.uses_line.ensures.more made)

pub returns-clause-none : goal.returns-clause-none
returns-clause-none c = λ made.
    let some : 0 < c.args.at = omega (arith, c.if-at-eq0.false) in
    none_after_name c.args.project.now c.args.tag c.args.at _ some (told c) (c.uses_line.ensures.none made)
