use mir.Val.{of_z, to_z}
use Rattle.std.proofs.Common.{[], ◌∷◌, ◌++◌, ℕ, List, subst, arith}
use Rattle.std.specs.Prelude.{ℤ}
use Rattle.std.specs.Int.{w32}
use Rattle.std.proofs.lemmas.Int.{to_z-of_z}
use Rattle.spec_base.specs.declared.limits.TheConstants.{OWN_LANE}
use Rattle.spec_machine.specs.declared.event.Event.TheVariants.{Act}
use Rattle.spec_machine.specs.declared.event.Action.TheVariants.{WordIn}
use Rattle.lgx_record.specs.Records.{Records}
use Rattle.lgx_link.proofs.events.put_word.Goals as goal

pub apply-requires : goal.apply-requires
apply-requires c = let few = c.requires in omega arith

pub returns : goal.returns
returns c = λ project events h.
    let P : List ℕ → ℤ → Type 0 = λ conn value. Records c.apply.new.self project (events ++ Act OWN_LANE (WordIn conn c.args.word value) ∷ []) in
    subst (λ (v : ℤ). P c.args.input.now v) (to_z-of_z w32 c.args.value c.ranges.value) (subst (λ (name : List ℕ). P name (to_z w32 (of_z w32 c.args.value))) c.copied-conn.ensures (c.in_ok-apply.ensures.records project events h))
