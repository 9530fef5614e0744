-- Each stage computes, and so does the scan.
use Rattle.std.proofs.Common.{[], Option, Some, None, refl}
use Rattle.lgx_rung.specs.declared.ins.Ins.{Ins}
use Rattle.lgx_rung.specs.declared.op.Op.TheVariants.{Nop, Uid, Uie}
use Rattle.spec_uses.specs.Changes.{next_of}
use Rattle.test_cases.specs.MarkStages.{copies}
use Rattle.test_cases.proofs.mark_stages.marks_and_order_are_kept.Goals as goal

abbrev ins_of : Option Ins → Ins
ins_of (Some i) = i
ins_of None = record { op = Nop; args = [] }

pub returns-clause-opens : goal.returns-clause-opens
returns-clause-opens c = record { ins = record { op = Uid; args = [] }; next = refl; shows = refl }

pub returns-clause-stays_open : goal.returns-clause-stays_open
returns-clause-stays_open c = record { ins = record { op = Uie; args = [] }; next = refl; shows = refl }

pub returns-clause-copies : goal.returns-clause-copies
returns-clause-copies c = record { ins = ins_of (next_of copies.before 0); next = refl; shows = refl }

pub returns-clause-in_order : goal.returns-clause-in_order
returns-clause-in_order c = record { begins = refl; ends = refl; straight = refl; executed = refl }
