use Rattle.std.proofs.Common.{map, string_bytes, option_map}
use Rattle.lgx_answer.proofs.Follows.{follows_plan}
use Rattle.lgx_chart.specs.Asked.{asked_of}
use Rattle.lgx_picture.specs.Svg.{svg_text}
use Rattle.lgx_picture.proofs.timeline.draw_timeline.Goals as goal

pub returns : goal.returns
returns g c =
    follows_plan _ _ (c.draw.ensures (option_map svg_text (asked_of (map string_bytes c.args.words.now))) c.drawing_asked.ensures)
