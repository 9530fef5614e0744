-- How far a run comes with one event.
use Rattle.std.proofs.Common.{◌≡◌, ℕ, zero, suc, ◌+◌, ◌-◌, ◌≤◌, ◌<◌, replicate, Bool, false, List, [], ◌∷◌, ◌++◌, length, drop, refl, sym, ◌∙◌, ap, subst, inl, inr, ◌⊎◌, ⊎_elim, arith}
use Rattle.std.specs.Prelude.{if◌then◌else◌, slice_index_or}
use Rattle.std.proofs.lemmas.Bool.{cases_lt, lt-ltb}
use Rattle.std.proofs.lemmas.List.{append-nil, append_assoc, length-append, length-take}
use Rattle.std.proofs.Math.Seq.{drop-cons}
use Rattle.spec_base.specs.declared.limits.TheConstants.{MAX_EVENTS}
use Rattle.spec_text.specs.declared.script.EventRun.{EventRun}
use Rattle.spec_text.specs.JournalText.{events_of}
use Rattle.spec_machine.specs.declared.event.Event.{Event}
use Rattle.spec_machine.specs.declared.event.Event.TheVariants.{Cpu, Tick}
use Rattle.spec_machine.specs.Events.{is_tick}
use Rattle.spec_machine.specs.Machine.{run}
use Rattle.spec_machine.specs.Project.{Project}
use Rattle.spec_machine.specs.State.{start}
use Rattle.spec_board.specs.declared.snapshot.TheConstants.{MAX_SNAPSHOTS}
use Rattle.spec_board.specs.declared.snapshot.Snapshot.{Snapshot}
use Rattle.spec_board.specs.Stories.{IsPrefix, with_next}
use Rattle.spec_story.specs.Snapshots.{snapshot, snapshots_from, snapshots}
use Rattle.spec_story.proofs.Stories.{stories_go_on, ticks_add_one, others_add_none}
use Rattle.lgx_stations.specs.declared.reported.Reported.{Reported}
use Rattle.lgx_stations.specs.Reports.{Reports}
use Rattle.lgx_stations.specs.Telling.{IsAt}

short : (p : Project) (journal : List Event) → length (snapshots p journal) ≤ MAX_SNAPSHOTS
short p journal = let l = length-take MAX_SNAPSHOTS (snapshot p (start p) ∷ snapshots_from p (start p) journal) in omega arith

-- there is room for an event of the journal that is left
pub has_room : (p : Project) (journal : List Event) (r : Reported) (board : List Snapshot) (e : Event) (left : List Event)
    → (h : IsAt p journal r board (e ∷ left)) → length h.made < MAX_EVENTS
has_room p journal r board e left h =
    let all = ap (λ (l : List Event). length l) h.whole in
    let parts = length-append h.made (e ∷ left) in
    let few = h.few in
    omega arith

-- what may be published before the tick is made
module _ (p : Project) (journal : List Event) (old new : Reported) (board : List Snapshot) (left : List Event) where
  pub may_publish : (h : IsAt p journal old board (Tick ∷ left)) (x : Snapshot) → x ≡ snapshot p (run p (h.made ++ Tick ∷ [])) → (length board ≡ MAX_SNAPSHOTS) ⊎ IsPrefix (board ++ x ∷ []) (snapshots p journal)
  may_publish h x is =
      ⊎_elim
      (λ (less : length (snapshots p h.made) < MAX_SNAPSHOTS).
      let next : snapshots p (h.made ++ Tick ∷ []) ≡ snapshots p h.made ++ snapshot p (run p (h.made ++ Tick ∷ [])) ∷ [] =
      ticks_add_one p h.made ∙ ap (λ (b : Bool). if b then snapshots p h.made ++ snapshot p (run p (h.made ++ Tick ∷ [])) ∷ [] else snapshots p h.made) (lt-ltb (length (snapshots p h.made)) MAX_SNAPSHOTS less) in
      let all : (h.made ++ Tick ∷ []) ++ left ≡ journal = append_assoc h.made (Tick ∷ []) left ∙ h.whole in
      let list : snapshots p (h.made ++ Tick ∷ []) ≡ board ++ x ∷ [] = next ∙ (ap (λ (b : List Snapshot). b ++ snapshot p (run p (h.made ++ Tick ∷ [])) ∷ []) (sym h.told) ∙ ap (λ (y : Snapshot). board ++ y ∷ []) (sym is)) in
      inr (subst (λ (l : List Snapshot). IsPrefix l (snapshots p journal)) list (subst (λ (j : List Event). IsPrefix (snapshots p (h.made ++ Tick ∷ [])) (snapshots p j)) all (stories_go_on p (h.made ++ Tick ∷ []) left))))
      (λ (full : MAX_SNAPSHOTS ≤ length (snapshots p h.made)). inl (let e = ap (λ (b : List Snapshot). length b) h.told in let s = short p h.made in omega arith))
      (cases_lt (length (snapshots p h.made)) MAX_SNAPSHOTS)

  pub after_tick : (h : IsAt p journal old board (Tick ∷ left)) (x : Snapshot) (after : List Snapshot) → x ≡ snapshot p (run p (h.made ++ Tick ∷ [])) → after ≡ with_next board x → Reports new p (h.made ++ Tick ∷ []) → IsAt p journal new after left
  after_tick h x after is added recorded =
      record {
        made = h.made ++ Tick ∷ [];
        recorded = recorded;
        told = added ∙ (ap (λ (y : Snapshot). with_next board y) is ∙ (ap (λ (b : List Snapshot). with_next b (snapshot p (run p (h.made ++ Tick ∷ [])))) h.told ∙ sym (ticks_add_one p h.made)));
        whole = append_assoc h.made (Tick ∷ []) left ∙ h.whole;
        few = h.few;
      }

  pub after_other : (e : Event) (h : IsAt p journal old board (e ∷ left)) → is_tick e ≡ false → Reports new p (h.made ++ e ∷ []) → IsAt p journal new board left
  after_other e h other recorded =
      record {
        made = h.made ++ e ∷ [];
        recorded = recorded;
        told = h.told ∙ sym (others_add_none p h.made e other);
        whole = append_assoc h.made (e ∷ []) left ∙ h.whole;
        few = h.few;
      }

-- the run that is left, one event shorter
pub one_less : (n k : ℕ) (e : Event) (left : List Event) → k < n → replicate (n - k) e ++ left ≡ e ∷ (replicate (n - (k + 1)) e ++ left)
one_less n k e left less = let m : n - k ≡ suc (n - (k + 1)) = omega arith in ap (λ i. replicate i e ++ left) m

-- no run of equal events
pub no_run : EventRun
no_run = record { event = Cpu; count = 0 }

-- the runs that are left, one shorter
pub next_run : (runs : List EventRun) (i : ℕ) (event : Event) (count : ℕ) → i < length runs → event ≡ (slice_index_or runs i no_run).event → count ≡ (slice_index_or runs i no_run).count
    → events_of (drop i runs) ≡ replicate count event ++ events_of (drop (i + 1) runs)
next_run runs i event count less named counted =
    let n : suc i ≡ i + 1 = omega arith in
    let run = slice_index_or runs i no_run in
    ap events_of (drop-cons runs i no_run less)
    ∙ (ap (λ k. replicate run.count run.event ++ events_of (drop k runs)) n
    ∙ (ap (λ e. replicate run.count e ++ events_of (drop (i + 1) runs)) (sym named)
    ∙ ap (λ m. replicate m event ++ events_of (drop (i + 1) runs)) (sym counted)))

-- with nothing left all was made, and told
module _ (p : Project) (journal : List Event) (r : Reported) (board : List Snapshot) (h : IsAt p journal r board []) where
  pub all_made : Reports r p journal
  all_made = subst (Reports r p) (sym (append-nil h.made) ∙ h.whole) h.recorded

  pub all_told : board ≡ snapshots p journal
  all_told = h.told ∙ ap (snapshots p) (sym (append-nil h.made) ∙ h.whole)

-- past the last run nothing is left
pub none_left : (runs : List EventRun) (i : ℕ) → length runs ≤ i → events_of (drop i runs) ≡ []
none_left runs i le = ap events_of (past runs i le)
  where
    past : (xs : List EventRun) (k : ℕ) → length xs ≤ k → drop k xs ≡ []
    past [] zero h = refl
    past [] (suc k) h = refl
    past (x ∷ xs) zero h = absurd (omega arith)
    past (x ∷ xs) (suc k) h = past xs k (omega arith)
