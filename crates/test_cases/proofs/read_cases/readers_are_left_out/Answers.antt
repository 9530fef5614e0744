-- The instruction that is left out goes on with another condition.
use Rattle.std.proofs.Common.{◌≡◌, ℕ, zero, suc, true, false, [], ◌∷◌, Some, refl, ap, arith}
use Rattle.std.specs.Prelude.{slice_index, slice_get}
use Rattle.std.proofs.lemmas.Option.{same_Some}
use Rattle.spec_machine.specs.State.{no_flags}
use Rattle.spec_uses.specs.Changes.{IsByteOf}
use Rattle.spec_uses.specs.declared.uses.Use.{Use}
use Rattle.spec_readers.specs.Reads.{AreSameBut}
use Rattle.test_cases.specs.LadderRuns.{one_rung}
use Rattle.test_cases.specs.ReadCases.{a_is_one, a_is_zero, s_is_zero, s_is_one, xic, ote}
use Rattle.test_cases.specs.TaskRuns.{inhibited_event}
use Rattle.test_cases.proofs.read_cases.readers_are_left_out.Goals as goal

tag_bytes : (b : ℕ) → (IsByteOf one_rung 0 b → ⊥) → slice_index a_is_one b ≡ slice_index a_is_zero b
tag_bytes zero other = absurd (other (record { tag = omega arith; from = omega arith; upto = omega arith }))
tag_bytes (suc b) other = refl

one_tag : AreSameBut (IsByteOf one_rung 0) a_is_one a_is_zero
one_tag = record { lengths = refl; bytes = tag_bytes }

storage_bytes : (b : ℕ) → (IsByteOf inhibited_event 1 b → ⊥) → slice_index s_is_zero b ≡ slice_index s_is_one b
storage_bytes zero other = refl
storage_bytes (suc zero) other = refl
storage_bytes (suc (suc zero)) other = refl
storage_bytes (suc (suc (suc zero))) other = refl
storage_bytes (suc (suc (suc (suc zero)))) other = absurd (other (record { tag = omega arith; from = omega arith; upto = omega arith }))
storage_bytes (suc (suc (suc (suc (suc b))))) other = refl

one_storage : AreSameBut (IsByteOf inhibited_event 1) s_is_zero s_is_one
one_storage = record { lengths = refl; bytes = storage_bytes }

-- the list of the writer alone hasn't the XIC
is_writer : (i : ℕ) → slice_get (ote ∷ []) i ≡ Some xic → ⊥
is_writer zero at = (let e : ote.op ≡ xic.op = ap (λ (u : Use). u.op) (same_Some ote xic at) in cc e)
is_writer (suc i) at = cc at

pub returns-clause-one_tag : goal.returns-clause-one_tag
returns-clause-one_tag c = one_tag

pub returns-clause-one_storage : goal.returns-clause-one_storage
returns-clause-one_storage c = one_storage

pub returns-clause-none : goal.returns-clause-none
returns-clause-none c = λ h. (let e = (h 0 _ 0 _ refl refl (λ i at. cc at) true 0 false [] no_flags a_is_one a_is_zero one_tag).on in absurd (cc e))

pub returns-clause-writer_alone : goal.returns-clause-writer_alone
returns-clause-writer_alone c = λ h. (let e = (h 0 _ 0 _ refl refl is_writer true 0 false [] no_flags a_is_one a_is_zero one_tag).on in absurd (cc e))

pub returns-clause-no_ons : goal.returns-clause-no_ons
returns-clause-no_ons c = λ h. (let e = (h 1 _ 0 _ refl refl (λ i at. cc at) true 0 false [] no_flags s_is_zero s_is_one one_storage).on in absurd (cc e))
