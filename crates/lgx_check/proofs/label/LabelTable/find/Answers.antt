use Rattle.std.proofs.Common.{ap, ◌∙◌}
use Rattle.std.specs.Prelude.{option_and_then, option_map, slice_get}
use Rattle.spec_language.specs.Checked.{label_of}
use Rattle.lgx_check.specs.Labels.{label_place}
use Rattle.lgx_check.proofs.Labels.{find_place}
use Rattle.lgx_check.proofs.label.LabelTable.find.Goals as goal

pub returns : goal.returns
returns c =
    c.place_at.ensures
    ∙ ap (λ ps. option_and_then (slice_get ps) c.find.result) c.deref.ensures.value
    ∙ find_place c.args.text.now c.self.inside.names c.self.inside.places.items c.find.result c.self.invariant c.find.ensures.number
    ∙ ap (λ ls. option_map label_place (label_of ls c.args.text.now)) c.self.view_is
