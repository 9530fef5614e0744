-- The only packet has the words at the opening.
use Rattle.std.proofs.Common.{◌≡◌, ℕ, zero, suc, refl, sym, arith}
use Rattle.std.proofs.lemmas.Option.{same_Some}
use Rattle.test_cases.proofs.change_cases.packets_are_whole.Goals as goal

pub returns-clause-whole : goal.returns-clause-whole
returns-clause-whole c = refl

pub returns-clause-moments : goal.returns-clause-moments
returns-clause-moments c zero words at = (0, omega arith, sym (same_Some _ words at))
returns-clause-moments c (suc k) words at = cc at
