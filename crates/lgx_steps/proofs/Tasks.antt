-- How a task's progress goes on as that of the machine: what is held of other programs doesn't matter, and a task's programs are
-- its own.
use Rattle.std.proofs.Common.{◌≡◌, ◌≢◌, ℕ, zero, suc, ◌<◌, List, [], ◌∷◌, length, get_or, set, Option, Some, None, inl, inr, refl, sym, ap, ◌∙◌, subst}
use Rattle.std.specs.Prelude.{slice_index}
use Rattle.std.proofs.lemmas.Bool.{cases_eq}
use Rattle.std.proofs.lemmas.List.{get_or-set_same, get_or-set_other}
use Rattle.lgx_num.specs.declared.place.Flags.{Flags}
use Rattle.spec_machine.specs.State.{Scan, Progress, no_progress}
use Rattle.lgx_engine.specs.Views.{PositionView}
use Rattle.lgx_versions.specs.declared.slots.Version.{Version}
use Rattle.lgx_steps.specs.declared.parts.Scan.{Scan as KeptScan}
use Rattle.lgx_steps.specs.declared.parts.Progress.{Progress as KeptProgress}
use Rattle.lgx_steps.specs.PartsView.{idle}
use Rattle.lgx_steps.specs.Plans.{list_at, EachOnce}
use Rattle.lgx_steps.specs.Represents.{held_in, progress_at, ScanAs, RepresentsTask}

-- of the programs other than n the same is held
pub record HoldsElsewhere (n : ℕ) (old new : List (Option Version)) : Type 0 where
  pub same : (m : ℕ) → m ≢ n → held_in new m ≡ held_in old m

pub set_elsewhere : (held : List (Option Version)) (n : ℕ) (o : Option Version) → HoldsElsewhere n held (set held n o)
set_elsewhere held n o = record { same = λ m ne. get_or-set_other held n m o None ne }

pub same_elsewhere : (held : List (Option Version)) (n : ℕ) → HoldsElsewhere n held held
same_elsewhere held n = record { same = λ m ne. refl }

none_past : (held : List (Option Version)) (n : ℕ) → held_in (set held n None) n ≡ None
none_past [] n = refl
none_past (o ∷ held) zero = refl
none_past (o ∷ held) (suc n) = none_past held n

pub none_set : (held : List (Option Version)) (n : ℕ) → held_in (set held n None) n ≡ None
none_set = none_past

module _ (len tasks : ℕ) where
  scan-same : (H H' : List (Option Version)) (next : ℕ) → held_in H' next ≡ held_in H next → (v : Option KeptScan) (place : PositionView) (s : Option Scan) → ScanAs H len tasks next v place s → ScanAs H' len tasks next v place s
  scan-same H H' next e None place None h = e ∙ h
  scan-same H H' next e None place (Some s) h = absurd h
  scan-same H H' next e (Some v) place None h = absurd h
  scan-same H H' next e (Some v) place (Some s) h = record { program = h.program; is_next = h.is_next; first = h.first; version = h.version; held_is = e ∙ h.held_is; runs = h.runs; know = h.know }

  -- what is held of a task's own programs matters alone
  pub task-same : (H H' : List (Option Version)) (list : List ℕ) (v : KeptProgress) (p : Progress) → ((i : ℕ) → i < length list → held_in H' (slice_index list i) ≡ held_in H (slice_index list i)) → RepresentsTask H len tasks list v p → RepresentsTask H' len tasks list v p
  task-same H H' list v p e h = record {
    ended = h.ended;
    flags = h.flags;
    left = h.left;
    scan = scan-same H H' (slice_index list p.ended) (e p.ended h.left) v.scan v.position p.scan h.scan;
    others = λ i l ne. e i l ∙ h.others i l ne;
  }

  -- a task without a scan holds nothing of its programs
  abbrev pub HoldsNone : List (Option Version) → List ℕ → Type 0
  HoldsNone H list = (i : ℕ) → i < length list → held_in H (slice_index list i) ≡ None

  -- without a scan
  pub task-without : (H : List (Option Version)) (list : List ℕ) (ended : ℕ) (v : KeptProgress) (flags : Flags) → HoldsNone H list → ended < length list → v.ended ≡ ended → v.scan ≡ None → v.flags ≡ flags → RepresentsTask H len tasks list v (record { ended = ended; scan = None; flags = flags })
  task-without H list ended v flags none left e c f = record {
    ended = e;
    flags = f;
    left = left;
    scan = subst (λ (o : Option KeptScan). ScanAs H len tasks (slice_index list ended) o v.position None) (sym c) (none ended left);
    others = λ i l ne. none i l;
  }

  -- if its scan holds nothing any more, the task holds nothing
  pub none-held : (H H' : List (Option Version)) (list : List ℕ) (v : KeptProgress) (p : Progress) → RepresentsTask H len tasks list v p → HoldsElsewhere (slice_index list p.ended) H H' → held_in H' (slice_index list p.ended) ≡ None → HoldsNone H' list
  none-held H H' list v p h elsewhere none i l =
      elim (cases_eq (slice_index list i) (slice_index list p.ended)) [
        | inl e ↦ ap (λ n. held_in H' n) e ∙ none
        | inr ne ↦ elsewhere.same (slice_index list i) ne ∙ h.others i l (λ e. ne (ap (λ j. slice_index list j) e))
      ]

  -- without a scan nothing was held
  nothing-held : (H : List (Option Version)) (next : ℕ) (o : Option KeptScan) (place : PositionView) (s : Option Scan) → ScanAs H len tasks next o place s → o ≡ None → held_in H next ≡ None
  nothing-held H next None place None h e = h
  nothing-held H next None place (Some s) h e = absurd h
  nothing-held H next (Some v) place s h e = absurd (cc)

  pub without-scan : (H : List (Option Version)) (list : List ℕ) (v : KeptProgress) (p : Progress) → RepresentsTask H len tasks list v p → v.scan ≡ None → held_in H (slice_index list p.ended) ≡ None
  without-scan H list v p h e = nothing-held H (slice_index list p.ended) v.scan v.position p.scan h.scan e

  -- the program of a scan
  program-next : (H : List (Option Version)) (next : ℕ) (o : Option KeptScan) (v : KeptScan) (place : PositionView) (s : Option Scan) → ScanAs H len tasks next o place s → o ≡ Some v → v.program ≡ next
  program-next H next None v place s h e = absurd (cc)
  program-next H next (Some w) v place None h e = absurd h
  program-next H next (Some w) v place (Some s) h e = ap (λ (x : Option KeptScan). program_in x) (sym e) ∙ (h.program ∙ h.is_next)
    where
      program_in : Option KeptScan → ℕ
      program_in None = 0
      program_in (Some x) = x.program

  pub scan-program : (H : List (Option Version)) (list : List ℕ) (v : KeptProgress) (p : Progress) (k : KeptScan) → RepresentsTask H len tasks list v p → v.scan ≡ Some k → k.program ≡ slice_index list p.ended
  scan-program H list v p k h e = program-next H (slice_index list p.ended) v.scan k v.position p.scan h.scan e

-- ---- all tasks

-- each task with its progress
abbrev pub Tasks : List (Option Version) → ℕ → List (List ℕ) → List KeptProgress → List Progress → Type 0
Tasks H len schedule vs ps = (t : ℕ) → t < length schedule → RepresentsTask H len (length schedule) (list_at schedule t) (progress_at vs t) (get_or ps t no_progress)

-- one task's progress changed, and what is held of one of its programs
pub tasks-set : (H H' : List (Option Version)) (len : ℕ) (schedule : List (List ℕ)) (vs : List KeptProgress) (ps : List Progress) (t i : ℕ) (v : KeptProgress) (p : Progress) → Tasks H len schedule vs ps → EachOnce schedule → length vs ≡ length schedule → length ps ≡ length schedule → t < length schedule → i < length (list_at schedule t) → HoldsElsewhere (slice_index (list_at schedule t) i) H H' → RepresentsTask H' len (length schedule) (list_at schedule t) v p → Tasks H' len schedule (set vs t v) (set ps t p)
tasks-set H H' len schedule vs ps t i v p all once lv lp lt li elsewhere new u lu =
    elim (cases_eq u t) [
      | inl e ↦
          let a : progress_at (set vs t v) u ≡ v = ap (λ k. progress_at (set vs t v) k) e ∙ get_or-set_same vs t v idle (subst (λ k. t < k) (sym lv) lt) in
          let b : get_or (set ps t p) u no_progress ≡ p = ap (λ k. get_or (set ps t p) k no_progress) e ∙ get_or-set_same ps t p no_progress (subst (λ k. t < k) (sym lp) lt) in
          subst (λ (x : KeptProgress). RepresentsTask H' len (length schedule) (list_at schedule u) x (get_or (set ps t p) u no_progress)) (sym a)
          (subst (λ (x : Progress). RepresentsTask H' len (length schedule) (list_at schedule u) v x) (sym b)
          (subst (λ k. RepresentsTask H' len (length schedule) (list_at schedule k) v p) (sym e) new))
      | inr ne ↦
          let a : progress_at (set vs t v) u ≡ progress_at vs u = get_or-set_other vs t u v idle ne in
          let b : get_or (set ps t p) u no_progress ≡ get_or ps u no_progress = get_or-set_other ps t u p no_progress ne in
          subst (λ (x : KeptProgress). RepresentsTask H' len (length schedule) (list_at schedule u) x (get_or (set ps t p) u no_progress)) (sym a)
          (subst (λ (x : Progress). RepresentsTask H' len (length schedule) (list_at schedule u) (progress_at vs u) x) (sym b)
          (task-same len (length schedule) H H' (list_at schedule u) (progress_at vs u) (get_or ps u no_progress)
          (λ j lj. elsewhere.same (slice_index (list_at schedule u) j) (λ same. ne (once u t j i lj li same).0)) (all u lu)))
    ]
