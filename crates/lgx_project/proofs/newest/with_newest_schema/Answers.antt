use Rattle.std.proofs.Common.{sym, ap, ap₂, ◌∙◌}
use Rattle.serde_json.specs.Data.{object, put}
use Rattle.serde_json.specs.View.{view, members_view}
use Rattle.serde_json.proofs.Views.{view-Object, members_view-insert_entry}
use Rattle.lgx_project.specs.Migrated.{with_newest_schema}
use Rattle.lgx_project.proofs.newest.with_newest_schema.Goals as goal

pub returns-in_ok-insert-in-Object-clause-value : goal.returns-in_ok-insert-in-Object-clause-value
returns-in_ok-insert-in-Object-clause-value c =
    let ms = members_view c.in-Object.members.entries in
    let key = c.in_ok-key-in-Object.key in
    view-Object c.insert.new.self
    ∙ ap (λ es. object (members_view es)) c.in_ok-insert-in-Object.ensures.entries
    ∙ ap object (members_view-insert_entry c.in-Object.members.entries key c.from.result)
    ∙ ap₂ (λ k v. object (put k v ms)) c.in_ok-key-in-Object.ensures.ok c.from.ensures
    ∙ sym (ap with_newest_schema (ap view c.in-Object.is ∙ view-Object c.in-Object.members))
