-- The instructions are those of the program, and each stands in one of its routines.
use Rattle.std.proofs.Common.{◌≡◌, ◌<◌, List, length, map, sym, ap, ◌∙◌, subst}
use Rattle.std.specs.List.{AllByRecursion as Each}
use Rattle.std.proofs.lemmas.List.{length-map}
use Rattle.lgx_edit.specs.Texts.{program_of, routine_of}
use Rattle.spec_machine.specs.Project.{ProgramText}
use Rattle.spec_uses.specs.Uses.{Site, program_instructions, reads_tag, sites_of_program, writes_tag}
use Rattle.lgx_xref.specs.Apart.{span_in}
use Rattle.lgx_xref.specs.Gains.{Gains, uses_among}
use Rattle.lgx_xref.specs.Returns.{AreReturnsIn}
use Rattle.lgx_xref.proofs.Sites.{sites_instructions, sites_known}
use Rattle.lgx_xref.proofs.note.note_program.Goals as goal

pub note_writers-requires-clause-known : goal.note_writers-requires-clause-known
note_writers-requires-clause-known c =
    let program : ProgramText = program_of c.args.program.now in
    let count = length c.as_slice.result.now in
    let same : length program.routines ≡ count =
    length-map c.args.program.now.routines routine_of ∙ sym c.len.ensures ∙ sym c.in_ok-returns.ensures.same ∙ ap (λ rs. length rs) (sym c.as_slice.ensures.value) in
    let sites : c.as_slice-sites.result.now ≡ sites_of_program (c.args.number, program) = c.as_slice-sites.ensures.value ∙ c.in_ok-placed.ensures in
    subst (λ (ss : List Site). Each (λ s. s.at.routine < count) ss) (sym sites) (sites_known c.args.number count program same)

pub returns-clause-writers : goal.returns-clause-writers
returns-clause-writers c =
    let program : ProgramText = program_of c.args.program.now in
    let spans = c.args.spans.now in
    let sites : c.as_slice-sites.result.now ≡ sites_of_program (c.args.number, program) = c.as_slice-sites.ensures.value ∙ c.in_ok-placed.ensures in
    let returns : AreReturnsIn spans (program_instructions program) c.as_slice.result.now =
    subst (AreReturnsIn spans (program_instructions program)) (sym c.as_slice.ensures.value)
    (subst (λ is. AreReturnsIn spans is c.in_ok-returns.returns.items)
    (ap (λ (ss : List Site). map (λ s. s.ins) ss) sites ∙ sites_instructions c.args.number program)
    c.in_ok-returns.ensures.returns) in
    subst (λ (ss : List Site). Gains c.args.writers.now.items c.note_writers.new.writers.items (λ k. uses_among (writes_tag (span_in spans k) program) ss)) sites
    (c.in_ok-note_writers.ensures program returns)

pub returns-clause-readers : goal.returns-clause-readers
returns-clause-readers c =
    let program : ProgramText = program_of c.args.program.now in
    let spans = c.args.spans.now in
    let sites : c.as_slice-sites.result.now ≡ sites_of_program (c.args.number, program) = c.as_slice-sites.ensures.value ∙ c.in_ok-placed.ensures in
    subst (λ (ss : List Site). Gains c.args.readers.now.items c.note_readers.new.readers.items (λ k. uses_among (reads_tag (span_in spans k) program) ss)) sites
    (c.in_ok-note_readers.ensures program)
