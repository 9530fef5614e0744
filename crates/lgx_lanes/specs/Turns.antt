-- A fact for each answer of a turn.
use Rattle.lgx_lanes.specs.declared.turn.Turn.{Turn}
use Rattle.lgx_lanes.specs.declared.turn.Turn.TheVariants.{Did, Helped, Done, Memory}

abbrev pub MatchTurn : Turn → Type 0 → Type 0 → Type 0 → Type 0 → Type 0
MatchTurn Did did helped done memory = did
MatchTurn Helped did helped done memory = helped
MatchTurn Done did helped done memory = done
MatchTurn Memory did helped done memory = memory
