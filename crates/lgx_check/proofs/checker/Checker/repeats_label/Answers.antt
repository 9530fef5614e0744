use Rattle.std.proofs.Common.{ap, ◌∙◌, option_map}
use Rattle.std.specs.Prelude.{option_and_then}
use Rattle.spec_language.specs.Checked.{label_of, stands_elsewhere}
use Rattle.lgx_check.specs.Labels.{elsewhere, label_place}
use Rattle.lgx_check.specs.Spots.{spot_of}
use Rattle.lgx_check.proofs.Labels.{elsewhere_same}
use Rattle.lgx_check.proofs.checker.Checker.repeats_label.Goals as goal

pub returns-in-Some : goal.returns-in-Some
returns-in-Some c =
    let spot = spot_of c.args.spot in
    let labels = c.args.self.now.labels in
    c.stands_elsewhere.ensures
    ∙ ap (elsewhere spot) (c.find.ensures ∙ ap (λ n. option_map label_place (label_of labels n)) c.bytes.ensures.bytes)
    ∙ elsewhere_same spot (label_of labels c.in-Some.name)
    ∙ ap (λ o. stands_elsewhere spot (option_and_then (label_of labels) o)) c.in-Some.ensures
