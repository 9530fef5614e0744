-- What differs is computed.
use Rattle.std.proofs.Common.{◌≡◌, ℕ, zero, suc, ◌<◌, ◌≤◌, Bool, true, false, List, [], ◌∷◌, length, Some, None, refl, arith}
use Rattle.std.specs.Prelude.{Ok, if◌then◌else◌, nat_eq}
use Rattle.std.specs.List.{cons_option, count_by}
use Rattle.std.proofs.lemmas.List.Sums.{count_by-le-length}
use Rattle.lgx_rung.specs.Tree.{end}
use Rattle.spec_language.specs.Checked.{checked}
use Rattle.spec_machine.specs.Edits.{Change, Replaced, routine_at, changes_in, scope_of}
use Rattle.spec_legal.specs.EditByEdit.{with_edits}
use Rattle.spec_laws.specs.TakenRungs.{took_rung}
use Rattle.test_cases.specs.DutyStages.{book}
use Rattle.test_cases.specs.LawRuns.{one_nop}
use Rattle.test_cases.proofs.duty_stages.books_are_broken.Goals as goal

merged_ones : (r : ℕ) → r < length book.base → checked (scope_of one_nop.tags one_nop.names 0 book) (with_edits (routine_at book.base r).source (changes_in book r)) ≡ Ok (routine_at book.merged r).checked
merged_ones zero l = refl
merged_ones (suc r) l = absurd (omega arith)

-- the one change, which is of the first routine
changes_by : Bool → List Change
changes_by here = cons_option (if here then Some (Replaced 0 end) else None) []

one_change : (here : Bool) (i : ℕ) → count_by (took_rung i) (changes_by here) ≤ 1
unfolding changes_by
one_change true i = count_by-le-length (took_rung i) (Replaced 0 end ∷ [])
one_change false i = omega arith

taken_once : (r i : ℕ) → count_by (took_rung i) (changes_in book r) ≤ 1
unfolding changes_by
taken_once r i = one_change (nat_eq 0 r) i

pub returns-clause-checked : goal.returns-clause-checked
returns-clause-checked c = record { base = (refl, tt); many = refl; merged_ones = merged_ones; taken_once = taken_once }

-- where no routine is, nothing is made of a change
no_routine_merged : (here : Bool) → [] ≡ with_edits [] (changes_by here)
unfolding changes_by
no_routine_merged true = refl
no_routine_merged false = refl

merged_sources : (r : ℕ) → (routine_at book.merged r).source ≡ with_edits (routine_at book.base r).source (changes_in book r)
unfolding changes_by
merged_sources zero = refl
merged_sources (suc r) = no_routine_merged (nat_eq 0 (suc r))

pub returns-clause-merged : goal.returns-clause-merged
returns-clause-merged c = merged_sources

pub returns-clause-unmerged : goal.returns-clause-unmerged
returns-clause-unmerged c = λ h. cc (h.merged_ones 0 (omega arith))

pub returns-clause-unmerged_source : goal.returns-clause-unmerged_source
returns-clause-unmerged_source c = λ h. cc (h 0)

pub returns-clause-taken_twice : goal.returns-clause-taken_twice
returns-clause-taken_twice c = λ h. (let l = h.taken_once 0 0 in absurd (omega arith))
