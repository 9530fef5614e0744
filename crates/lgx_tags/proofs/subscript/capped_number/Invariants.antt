use Rattle.std.proofs.Common.{◌≡◌, drop}
use Rattle.lgx_tags.proofs.Digits.{capped}
use Rattle.lgx_tags.proofs.subscript.capped_number.Given as goal

abbrev pub invariant-loop-digit : goal.invariant-loop-digit
invariant-loop-digit l = capped l.number (drop l.digit-index l.digits) ≡ capped 0 l.digits
