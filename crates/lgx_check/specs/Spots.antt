-- Where instructions are, in the words of the definition.
use Rattle.std.specs.Prelude.{ℕ, ◌+◌, ◌≤◌, Bool, true}
use Rattle.spec_base.specs.declared.limits.TheConstants.{MAX_ROUTINE_INSTRUCTIONS}
use Rattle.spec_language.specs.Checked as checking
use Rattle.lgx_check.specs.declared.spot.InstructionPlace.{InstructionPlace}
use Rattle.lgx_check.specs.declared.spot.Spot.{Spot}

-- the spot of a rung's first instruction
abbrev pub start_of : (rung before : ℕ) → checking.Spot
start_of rung before = record { rung = rung; ins = 0; before = before; leads = true }

abbrev pub spot_at : Bool → InstructionPlace → checking.Spot
spot_at leads p = record { rung = p.rung; ins = p.ins; before = p.before; leads = leads }

abbrev pub spot_of : Spot → checking.Spot
spot_of s = spot_at s.leads s.place

-- the place n instructions of the rung later
abbrev pub place_after : ℕ → InstructionPlace → InstructionPlace
place_after n p = record { rung = p.rung; ins = p.ins + n; before = p.before + n }

-- no more instructions come before it than a routine may have
pub record IsWithin (p : InstructionPlace) : Type 0 where
  pub room : p.before ≤ MAX_ROUTINE_INSTRUCTIONS
  pub order : p.ins ≤ p.before
