use Rattle.std.proofs.Common.{◌++◌, ◌*◌, sym, ap, ◌∙◌, append-nil}
use Rattle.std.specs.List.{flat_map}
use Rattle.std.proofs.lemmas.List.{flat_map_more}
use Rattle.lgx_picture.specs.Svg.{multiples, grid_line_after}
use Rattle.lgx_picture.proofs.Places.{no_multiple, multiples_more}
use Rattle.lgx_picture.proofs.svg.push_grid_by.Goals as goal

pub loop-number-init : goal.loop-number-init
loop-number-init c =
    let old = c.args.text.now.items in
    let lines = grid_line_after c.args.scale c.args.bottom c.first_multiple-first.result in
    sym (ap (λ ms. old ++ flat_map lines ms) (no_multiple c.from-spacing.result) ∙ append-nil old)

pub loop-number-preserved : goal.loop-number-preserved
loop-number-preserved c =
    let old = c.args.text.now.items in
    let lines = grid_line_after c.args.scale c.args.bottom c.first_multiple-first.result in
    let time = c.from-spacing.result in
    let count = c.loop-number.number in
    c.in_ok-push_grid_line.ensures
    ∙ ap (λ t. t ++ lines (count * time)) c.loop-number.invariant
    ∙ flat_map_more lines old (multiples time count) (count * time)
    ∙ ap (λ ms. old ++ flat_map lines ms) (sym (multiples_more time count))
