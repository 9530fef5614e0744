use Rattle.std.proofs.Common.{◌≡◌, ◌≤◌, false, Ok, Some, sym, ap, ◌∙◌, subst}
use Rattle.std.proofs.lemmas.Result.{IfOk-weaker}
use Rattle.serde_json.specs.Data.{depth}
use Rattle.serde_json.specs.Read.{max_depth}
use Rattle.serde_json.specs.View.{view}
use Rattle.serde_json.specs.Written.{has_float}
use Rattle.spec_project.specs.Projects.{project_of}
use Rattle.spec_project.specs.Reading.{value_of}
use Rattle.lgx_project.specs.Migrated.{line_of, migrated, with_newest_schema}
use Rattle.lgx_project.proofs.Lines.{shallow, whole_numbers, line_is, same_project}
use Rattle.lgx_project.proofs.newest.project_line.Goals as goal

pub line_of-requires : goal.line_of-requires
line_of-requires c =
    subst (λ d. depth d ≤ max_depth) (sym c.in_ok-changed.ensures.value) (shallow c.args.bytes.now (view c.in_ok-value.value) c.in_ok-value.ensures.value)

pub returns-clause-line : goal.returns-clause-line
returns-clause-line c =
    let bytes = c.args.bytes.now in
    let d = view c.in_ok-value.value in
    let changed : view c.in_ok-changed.changed ≡ with_newest_schema d = c.in_ok-changed.ensures.value in
    let whole : has_float (view c.in_ok-changed.changed) ≡ false = ap has_float changed ∙ whole_numbers bytes d c.requires c.in_ok-value.ensures.value in
    IfOk-weaker c.line_of.result
    (λ text. has_float (view c.in_ok-changed.changed) ≡ false → text.items ≡ line_of (view c.in_ok-changed.changed))
    (λ text. migrated bytes ≡ Ok text.items)
    (λ text written. line_is bytes d c.requires c.in_ok-value.ensures.value ∙ ap Ok (sym (written whole ∙ ap line_of changed)))
    c.line_of.ensures.text

pub returns-clause-same_project : goal.returns-clause-same_project
returns-clause-same_project c =
    let bytes = c.args.bytes.now in
    let d = view c.in_ok-value.value in
    let changed : view c.in_ok-changed.changed ≡ with_newest_schema d = c.in_ok-changed.ensures.value in
    IfOk-weaker c.line_of.result
    (λ text. value_of text.items ≡ Some (view c.in_ok-changed.changed))
    (λ text. project_of text.items ≡ project_of bytes)
    (λ text read. same_project bytes text.items d c.requires c.in_ok-value.ensures.value (read ∙ ap Some changed))
    c.line_of.ensures.reads_back
