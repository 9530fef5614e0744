-- The tags lie apart, and the lists are those of the whole project.
use Rattle.std.proofs.Common.{rules, ◌≡◌, [], length, map, replicate, sym, ap, ◌∙◌, subst}
use Rattle.lgx_edit.specs.Plants.{project_of}
use Rattle.lgx_edit.specs.Texts.{program_of}
use Rattle.spec_language.specs.TagSpans.{spans_of}
use Rattle.spec_machine.specs.Project.{Project}
use Rattle.lgx_xref.specs.Apart.{AreApart}
use Rattle.lgx_xref.proofs.Indexed.{index_is, readers_indexed, writers_indexed}
use Rattle.lgx_xref.proofs.TagsApart.{tags_apart}
use Rattle.lgx_xref.proofs.xref.indexed.Goals as goal

pub note_programs-requires-clause-apart : goal.note_programs-requires-clause-apart
note_programs-requires-clause-apart c =
    subst AreApart (sym (c.deref.ensures.value ∙ c.in_ok-spans.ensures)) (tags_apart c.project.inside.tags.declarations)

pub returns : goal.returns
returns c =
    let p : Project = project_of c.project.inside in
    let programs : p.programs ≡ map program_of c.as_slice.result.now = ap (map program_of) (sym c.as_slice.ensures) in
    let spans : c.deref.result.now ≡ spans_of p.tags = c.deref.ensures.value ∙ c.in_ok-spans.ensures in
    let first : c.len.result ≡ length c.in_ok-spans.spans.items = search rules in
    let second : c.len-2.result ≡ length c.in_ok-spans.spans.items = search rules in
    let all : length c.in_ok-spans.spans.items ≡ length (spans_of p.tags) = ap (λ l. length l) c.in_ok-spans.ensures in
    index_is c.note_programs.new.writers.items c.note_programs.new.readers.items p c.args.project.now
    (writers_indexed p c.as_slice.result.now c.deref.result.now c.in_ok-writers.writers.items _ programs spans
    (c.in_ok-writers.ensures ∙ ap (λ n. replicate n []) (first ∙ all)) c.in_ok-note_programs.ensures.writers)
    (readers_indexed p c.as_slice.result.now c.deref.result.now c.in_ok-readers.readers.items _ programs spans
    (c.in_ok-readers.ensures ∙ ap (λ n. replicate n []) (second ∙ all)) c.in_ok-note_programs.ensures.readers)
    c.project.view_is
