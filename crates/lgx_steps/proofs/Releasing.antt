-- Releases by the table's answer.
use Rattle.std.proofs.Common.{◌≡◌, ℕ, List, [], ◌∷◌, ◌++◌, set, Option, Some, None, refl, sym, ap, ◌∙◌, subst}
use Rattle.spec_tables.specs.declared.fault.Fault.{Fault}
use Rattle.spec_tables.specs.declared.task.Release.{Release}
use Rattle.spec_tables.specs.declared.task.Release.TheVariants.{Released, Overlap, Inhibited}
use Rattle.spec_tables.specs.Tasks.{Table, put_up, put_up_if, release, release_answer}
use Rattle.spec_machine.specs.State.{State, progress_of, dropped}
use Rattle.spec_machine.specs.Releases.{release_task, after_answer, overlap}
use Rattle.lgx_fault.specs.Kept.{last_faults}
use Rattle.lgx_sched.specs.TableView.{TableView}
use Rattle.lgx_sched.specs.Represents.{RepresentsTable as RepresentsTable}
use Rattle.lgx_steps.specs.PartsView.{PartsView}
use Rattle.lgx_steps.specs.Represents.{RepresentsState}
use Rattle.lgx_steps.specs.Gives.{ReleaseGives}
use Rattle.lgx_steps.proofs.States.{with-table, with-noted}

module _ (n : ℕ) (s : State) (t now : ℕ) (a : Release) (answers : a ≡ release_answer s.table t) where
  by-answer : (v : PartsView) (b : Release) (f : Option Fault) → a ≡ b → ReleaseGives n v (record { answer = a; fault = f }) (after_answer b t s) → ReleaseGives n v (record { answer = a; fault = f }) (release_task t s)
  by-answer v b f is g = subst (λ (x : Release). ReleaseGives n v (record { answer = a; fault = f }) (after_answer x t s)) (sym is ∙ answers) g

  pub released-up : (v : PartsView) → a ≡ Released → now ≡ s.tick → RepresentsState n v (record s { table = release t now s.table; progress = set s.progress t (dropped (progress_of s t)) }) → ReleaseGives n v (record { answer = a; fault = None }) (release_task t s)
  released-up v is now_is r =
      let e : release t now s.table ≡ put_up t s.tick s.table = ap (λ (x : Release). put_up_if x t now s.table) (sym answers ∙ is) ∙ ap (λ i. put_up t i s.table) now_is in
      by-answer v Released None is (record { answer = is; fault = refl; represents = subst (λ (T : Table). RepresentsState n v (record s { table = T; progress = set s.progress t (dropped (progress_of s t)) })) e r })

  module _ (v : PartsView) (h : RepresentsState n v s) (w : TableView) (r : RepresentsTable w (release t now s.table)) (defs : w.defs ≡ v.table.defs) where
    as-before : (b : Release) → a ≡ b → put_up_if b t now s.table ≡ s.table → RepresentsTable w s.table
    as-before b is same = subst (λ (T : Table). RepresentsTable w T) (ap (λ (x : Release). put_up_if x t now s.table) (sym answers ∙ is) ∙ same) r

    pub table-overlapped : a ≡ Overlap → RepresentsTable w s.table
    table-overlapped is = as-before Overlap is refl

    pub overlapped : (f : Fault) (fs : List Fault) → a ≡ Overlap → f ≡ overlap s t → fs ≡ last_faults (s.faults ++ f ∷ []) → ReleaseGives n (record v { table = w; faults = fs }) (record { answer = a; fault = Some f }) (release_task t s)
    overlapped f fs is f_is fs_is =
        let g = with-table n v s h w s.table (table-overlapped is) defs h.sane.regions in
        let fs_is' : fs ≡ last_faults (s.faults ++ overlap s t ∷ []) = fs_is ∙ ap (λ (x : Fault). last_faults (s.faults ++ x ∷ [])) f_is in
        by-answer (record v { table = w; faults = fs }) Overlap (Some f) is
        (record { answer = is; fault = ap (λ (x : Fault). Some x) f_is; represents = with-noted n (record v { table = w }) s g fs (overlap s t) fs_is' })

    pub inhibited : a ≡ Inhibited → ReleaseGives n (record v { table = w }) (record { answer = a; fault = None }) (release_task t s)
    inhibited is = by-answer (record v { table = w }) Inhibited None is (record { answer = is; fault = refl; represents = with-table n v s h w s.table (as-before Inhibited is refl) defs h.sane.regions })
