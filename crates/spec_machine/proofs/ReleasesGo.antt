-- Releases by cases on the answer.
use Rattle.std.proofs.Common.{◌≡◌, ℕ, Bool, true, false, refl, sym, ap, subst}
use Rattle.std.specs.Prelude.{if◌then◌else◌}
use Rattle.spec_tables.specs.declared.task.Release.{Release}
use Rattle.spec_tables.specs.declared.task.Release.TheVariants.{Released, Overlap, Inhibited}
use Rattle.spec_tables.specs.Tasks.{task, is_up, put_up_if, release_answer}
use Rattle.spec_machine.specs.State.{State}
use Rattle.spec_machine.specs.Releases.{after_answer}
use Rattle.spec_machine.specs.ReleaseLaws.{ReleasesAreOfTheTable, InhibitedChangesNothing, OverlapsTellFaultsAlone}

same_answer : (a : Release) (t : ℕ) (s : State) → (after_answer a t s).answer ≡ a
same_answer Released t s = refl
same_answer Overlap t s = refl
same_answer Inhibited t s = refl

same_table : (a : Release) (t : ℕ) (s : State) → (after_answer a t s).state.table ≡ put_up_if a t s.tick s.table
same_table Released t s = refl
same_table Overlap t s = refl
same_table Inhibited t s = refl

pub releases_are_of_the_table : ReleasesAreOfTheTable
releases_are_of_the_table s t = (same_answer (release_answer s.table t) t s, same_table (release_answer s.table t) t s)

pub inhibited_changes_nothing : InhibitedChangesNothing
inhibited_changes_nothing s t h = ap (λ b. (after_answer (if b then Inhibited else (if is_up s.table t then Overlap else Released)) t s).state) h

pub overlaps_tell_faults_alone : OverlapsTellFaultsAlone
overlaps_tell_faults_alone s t h = go (task s.table t).inhibited (is_up s.table t) h
  where
    go : (b up : Bool) → up ≡ true → record (after_answer (if b then Inhibited else (if up then Overlap else Released)) t s).state { faults = s.faults } ≡ s
    go true up e = refl
    go false true e = refl
    go false false e = absurd (cc e)
