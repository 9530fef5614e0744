use Rattle.std.proofs.Common.{map, string_bytes, option_map}
use Rattle.lgx_answer.proofs.Follows.{follows_plan}
use Rattle.lgx_chart.specs.Vcd.{vcd_text}
use Rattle.lgx_chart.specs.WavePlan.{wave_asked}
use Rattle.lgx_chart.proofs.wave_file.wave.Goals as goal

pub returns : goal.returns
returns g c =
    follows_plan _ _ (c.draw.ensures (option_map vcd_text (wave_asked (map string_bytes c.args.words.now))) c.wave_asked.ensures)
