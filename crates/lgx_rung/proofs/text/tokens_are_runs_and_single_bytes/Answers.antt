use Rattle.lgx_rung.proofs.Lexemes.{tokens_told}
use Rattle.lgx_rung.proofs.text.tokens_are_runs_and_single_bytes.Goals as goal

pub returns : goal.returns
returns c = tokens_told
