-- What edits make of a base of three rungs, worked out.
use Rattle.std.specs.Prelude.{List, [], ◌∷◌}
use Rattle.lgx_rung.specs.Tree.{Source, end, one}
use Rattle.lgx_rung.specs.declared.op.Op.{Op}
use Rattle.lgx_rung.specs.declared.op.Op.TheVariants.{Mcr, Afi, Nop, Uid, Uie, Tnd}
use Rattle.spec_machine.specs.Edits.{Change, Replaced, Inserted, Deleted}

-- a rung of one instruction
abbrev pub alone : Op → Source
alone op = one (record { op = op; texts = [] }) end

abbrev pub three_rungs : List Source
three_rungs = alone Nop ∷ alone Afi ∷ alone Tnd ∷ []

-- Two inserts before the first rung keep their order, one past the last is at the end, and one before a deleted rung stays.
-- The second rung is replaced.
abbrev pub six_edits : List Change
six_edits = Inserted 0 (alone Uid) ∷ Replaced 1 (alone Mcr) ∷ Inserted 3 (alone Uie) ∷ Deleted 2 ∷ Inserted 0 (alone Mcr) ∷ Inserted 2 (alone Afi) ∷ []

abbrev pub six_edited : List Source
six_edited = alone Uid ∷ alone Mcr ∷ alone Nop ∷ alone Mcr ∷ alone Afi ∷ alone Uie ∷ []

-- A rung that was taken isn't taken again, and none is past the last.
abbrev pub late_edits : List Change
late_edits = Deleted 0 ∷ Replaced 0 (alone Uid) ∷ Replaced 3 (alone Uie) ∷ Deleted 3 ∷ Inserted 4 (alone Uid) ∷ []

abbrev pub late_edited : List Source
late_edited = alone Afi ∷ alone Tnd ∷ []
