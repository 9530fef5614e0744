-- The parts still represent the machine's state if each is changed as the state is.
use Rattle.std.proofs.Common.{◌≡◌, ℕ, ◌+◌, ◌<◌, List, [], ◌∷◌, ◌++◌, Bool, length, get_or, map, refl, sym, ap, ◌∙◌, subst, arith}
use Rattle.std.specs.List.{AllByRecursion as Each}
use Rattle.std.proofs.lemmas.List.{get_or-map, length-map}
use Rattle.spec_base.proofs.Lists.{each_map}
use Rattle.spec_language.specs.Declarations.{bytes}
use Rattle.spec_tables.specs.declared.fault.Fault.{Fault}
use Rattle.spec_tables.specs.declared.task.TaskDef.{TaskDef}
use Rattle.spec_tables.specs.Forces.{Forces}
use Rattle.spec_tables.specs.Tasks.{Table}
use Rattle.spec_machine.specs.declared.reply.Mode.{Mode}
use Rattle.spec_machine.specs.Edits.{Book}
use Rattle.spec_machine.specs.State.{State, Progress, progress_of, programs_of, no_progress, no_flags, with_fault}
use Rattle.lgx_fault.specs.Kept.{last_faults}
use Rattle.lgx_image.specs.Grains.{ImageView}
use Rattle.lgx_sched.specs.TableView.{TableView}
use Rattle.lgx_sched.specs.Represents.{RepresentsTable as RepresentsTable}
use Rattle.lgx_edit.specs.EditsView.{EditsView, books, holds}
use Rattle.lgx_edit.specs.CheckedBooks.{AreChecked}
use Rattle.lgx_steps.specs.declared.parts.Progress.{Progress as KeptProgress}
use Rattle.lgx_steps.specs.PartsView.{PartsView, idle, without_flags}
use Rattle.lgx_steps.specs.Plans.{IsReadyBook}
use Rattle.lgx_steps.specs.Represents.{RepresentsState, RepresentsTask, IsSane, progress_at}
use Rattle.lgx_steps.proofs.Regions.{AreAtMost, at_most-more}
use Rattle.lgx_steps.proofs.Tasks.{Tasks}

-- a task's progress with no flag set
abbrev pub cleared : Progress → Progress
cleared p = record p { flags = no_flags }

-- ---- one event more

book-later : (len tasks n : ℕ) (b : Book) → IsReadyBook len tasks n b → IsReadyBook len tasks (n + 1) b
book-later len tasks n b h = record { base = h.base; merged = h.merged; newest = omega (arith, h.newest) }

pub sane-later : (n : ℕ) (s : State) → IsSane n s → IsSane (n + 1) s
sane-later n s h = record {
  plan = h.plan;
  tasks = h.tasks;
  progresses = h.progresses;
  programs = h.programs;
  firsts = h.firsts;
  image = h.image;
  words = h.words;
  tick = omega (arith, h.tick);
  regions = at_most-more n s.table.states h.regions;
  books = each_map (IsReadyBook (bytes s.plan.tags) (length s.plan.schedule) n) (IsReadyBook (bytes s.plan.tags) (length s.plan.schedule) (n + 1)) s.books (λ b h'. book-later (bytes s.plan.tags) (length s.plan.schedule) n b h') h.books;
  checked = h.checked;
}

module _ (n : ℕ) (v : PartsView) (s : State) (h : RepresentsState n v s) where
  pub later : RepresentsState (n + 1) v s
  later = record {
    plan = h.plan;
    sealed = h.sealed;
    mode = h.mode;
    tick = h.tick;
    table = h.table;
    progresses = h.progresses;
    tasks = h.tasks;
    firsts = h.firsts;
    image = h.image;
    books = h.books;
    forces = h.forces;
    faults = h.faults;
    sane = sane-later n s h.sane;
  }

  -- ---- the table of tasks, their progress, and what is held

  same-tasks : (w : TableView) (T : Table) → RepresentsTable w T → w.defs ≡ v.table.defs → length T.defs ≡ length s.plan.schedule
  same-tasks w T r same = ap (λ (ds : List TaskDef). length ds) (sym r.defs ∙ (same ∙ h.table.defs)) ∙ h.sane.tasks

  pub with-tasks : (w : TableView) (T : Table) (vs : List KeptProgress) (ps : List Progress) (book : List EditsView)
      → RepresentsTable w T → w.defs ≡ v.table.defs → AreAtMost n T → length vs ≡ length v.progress → length ps ≡ length s.progress
      → books book ≡ books v.book → Tasks (holds book) (bytes s.plan.tags) s.plan.schedule vs ps
      → RepresentsState n (record v { table = w; progress = vs; book = book }) (record s { table = T; progress = ps })
  with-tasks w T vs ps book table defs regions lv lp same tasks = record {
    plan = h.plan;
    sealed = h.sealed;
    mode = h.mode;
    tick = h.tick;
    table = table;
    progresses = lv ∙ h.progresses;
    tasks = tasks;
    firsts = h.firsts;
    image = h.image;
    books = same ∙ h.books;
    forces = h.forces;
    faults = h.faults;
    sane = record {
      plan = h.sane.plan;
      tasks = same-tasks w T table defs;
      progresses = lp ∙ h.sane.progresses;
      programs = h.sane.programs;
      firsts = h.sane.firsts;
      image = h.sane.image;
      words = h.sane.words;
      tick = h.sane.tick;
      regions = regions;
      books = h.sane.books;
      checked = h.sane.checked;
    };
  }

  -- the table alone
  pub with-table : (w : TableView) (T : Table) → RepresentsTable w T → w.defs ≡ v.table.defs → AreAtMost n T → RepresentsState n (record v { table = w }) (record s { table = T })
  with-table w T table defs regions = with-tasks w T v.progress s.progress v.book table defs regions refl refl refl h.tasks

  -- the progress of tasks, and what is held
  pub with-progress : (vs : List KeptProgress) (ps : List Progress) (book : List EditsView) → length vs ≡ length v.progress → length ps ≡ length s.progress → books book ≡ books v.book → Tasks (holds book) (bytes s.plan.tags) s.plan.schedule vs ps
      → RepresentsState n (record v { progress = vs; book = book }) (record s { progress = ps })
  with-progress vs ps book lv lp same tasks = with-tasks v.table s.table vs ps book h.table refl h.sane.regions lv lp same tasks

  -- ---- the other parts

  pub with-image : (i : ImageView) (image : List ℕ) → i.bytes ≡ image → length image ≡ length s.image → RepresentsState n (record v { image = i }) (record s { image = image })
  with-image i image is same = record {
    plan = h.plan;
    sealed = h.sealed;
    mode = h.mode;
    tick = h.tick;
    table = h.table;
    progresses = h.progresses;
    tasks = h.tasks;
    firsts = h.firsts;
    image = is;
    books = h.books;
    forces = h.forces;
    faults = h.faults;
    sane = record {
      plan = h.sane.plan;
      tasks = h.sane.tasks;
      progresses = h.sane.progresses;
      programs = h.sane.programs;
      firsts = h.sane.firsts;
      image = same ∙ h.sane.image;
      words = h.sane.words;
      tick = h.sane.tick;
      regions = h.sane.regions;
      books = h.sane.books;
      checked = h.sane.checked;
    };
  }

  pub with-firsts : (fs gs : List Bool) → fs ≡ gs → length gs ≡ length s.firsts → RepresentsState n (record v { firsts = fs }) (record s { firsts = gs })
  with-firsts fs gs is same = record {
    plan = h.plan;
    sealed = h.sealed;
    mode = h.mode;
    tick = h.tick;
    table = h.table;
    progresses = h.progresses;
    tasks = h.tasks;
    firsts = is;
    image = h.image;
    books = h.books;
    forces = h.forces;
    faults = h.faults;
    sane = record {
      plan = h.sane.plan;
      tasks = h.sane.tasks;
      progresses = h.sane.progresses;
      programs = h.sane.programs;
      firsts = same ∙ h.sane.firsts;
      image = h.sane.image;
      words = h.sane.words;
      tick = h.sane.tick;
      regions = h.sane.regions;
      books = h.sane.books;
      checked = h.sane.checked;
    };
  }

  pub with-mode : (m : Mode) → RepresentsState n (record v { mode = m }) (record s { mode = m })
  with-mode m = record {
    plan = h.plan;
    sealed = h.sealed;
    mode = refl;
    tick = h.tick;
    table = h.table;
    progresses = h.progresses;
    tasks = h.tasks;
    firsts = h.firsts;
    image = h.image;
    books = h.books;
    forces = h.forces;
    faults = h.faults;
    sane = record {
      plan = h.sane.plan;
      tasks = h.sane.tasks;
      progresses = h.sane.progresses;
      programs = h.sane.programs;
      firsts = h.sane.firsts;
      image = h.sane.image;
      words = h.sane.words;
      tick = h.sane.tick;
      regions = h.sane.regions;
      books = h.sane.books;
      checked = h.sane.checked;
    };
  }

  -- another fault
  pub with-noted : (fs : List Fault) (f : Fault) → fs ≡ last_faults (s.faults ++ f ∷ []) → RepresentsState n (record v { faults = fs }) (with_fault f s)
  with-noted fs f is = record {
    plan = h.plan;
    sealed = h.sealed;
    mode = h.mode;
    tick = h.tick;
    table = h.table;
    progresses = h.progresses;
    tasks = h.tasks;
    firsts = h.firsts;
    image = h.image;
    books = h.books;
    forces = h.forces;
    faults = is;
    sane = record {
      plan = h.sane.plan;
      tasks = h.sane.tasks;
      progresses = h.sane.progresses;
      programs = h.sane.programs;
      firsts = h.sane.firsts;
      image = h.sane.image;
      words = h.sane.words;
      tick = h.sane.tick;
      regions = h.sane.regions;
      books = h.sane.books;
      checked = h.sane.checked;
    };
  }

  pub with-forces : (f g : Forces) → f ≡ g → length f.words ≡ length v.forces.words → RepresentsState n (record v { forces = f }) (record s { forces = g })
  with-forces f g is same = record {
    plan = h.plan;
    sealed = h.sealed;
    mode = h.mode;
    tick = h.tick;
    table = h.table;
    progresses = h.progresses;
    tasks = h.tasks;
    firsts = h.firsts;
    image = h.image;
    books = h.books;
    forces = is;
    faults = h.faults;
    sane = record {
      plan = h.sane.plan;
      tasks = h.sane.tasks;
      progresses = h.sane.progresses;
      programs = h.sane.programs;
      firsts = h.sane.firsts;
      image = h.sane.image;
      words = ap (λ (x : Forces). length x.words) (sym is) ∙ (same ∙ (ap (λ (x : Forces). length x.words) h.forces ∙ h.sane.words));
      tick = h.sane.tick;
      regions = h.sane.regions;
      books = h.sane.books;
      checked = h.sane.checked;
    };
  }

  -- other books, of which the same is held
  pub with-books : (book : List EditsView) (bs : List Book) → books book ≡ bs → holds book ≡ holds v.book → length bs ≡ length s.books → Each (IsReadyBook (bytes s.plan.tags) (length s.plan.schedule) n) bs → AreChecked s.plan.tags s.plan.names bs
      → RepresentsState n (record v { book = book }) (record s { books = bs })
  with-books book bs is held same ready kept = record {
    plan = h.plan;
    sealed = h.sealed;
    mode = h.mode;
    tick = h.tick;
    table = h.table;
    progresses = h.progresses;
    tasks = subst (λ H. Tasks H (bytes s.plan.tags) s.plan.schedule v.progress s.progress) (sym held) h.tasks;
    firsts = h.firsts;
    image = h.image;
    books = is;
    forces = h.forces;
    faults = h.faults;
    sane = record {
      plan = h.sane.plan;
      tasks = h.sane.tasks;
      progresses = h.sane.progresses;
      programs = same ∙ h.sane.programs;
      firsts = h.sane.firsts;
      image = h.sane.image;
      words = h.sane.words;
      tick = h.sane.tick;
      regions = h.sane.regions;
      books = ready;
      checked = kept;
    };
  }

  -- the next tick
  pub next-tick : RepresentsState (n + 1) (record v { tick = v.tick + 1 }) (record s { tick = s.tick + 1 })
  next-tick = record {
    plan = h.plan;
    sealed = h.sealed;
    mode = h.mode;
    tick = ap (λ i. i + 1) h.tick;
    table = h.table;
    progresses = h.progresses;
    tasks = h.tasks;
    firsts = h.firsts;
    image = h.image;
    books = h.books;
    forces = h.forces;
    faults = h.faults;
    sane = record {
      plan = h.sane.plan;
      tasks = h.sane.tasks;
      progresses = h.sane.progresses;
      programs = h.sane.programs;
      firsts = h.sane.firsts;
      image = h.sane.image;
      words = h.sane.words;
      tick = omega (arith, h.sane.tick);
      regions = (sane-later n s h.sane).regions;
      books = (sane-later n s h.sane).books;
      checked = h.sane.checked;
    };
  }

  -- ---- flags

  pub with-no_flags : (vs : List KeptProgress) → vs ≡ map without_flags v.progress → RepresentsState n (record v { progress = vs }) (record s { progress = map cleared s.progress })
  with-no_flags vs is = with-progress vs (map cleared s.progress) v.book (ap length is ∙ length-map v.progress without_flags) (length-map s.progress cleared) refl
      (subst (λ (xs : List KeptProgress). Tasks (holds v.book) (bytes s.plan.tags) s.plan.schedule xs (map cleared s.progress)) (sym is) each)
    where
      each : Tasks (holds v.book) (bytes s.plan.tags) s.plan.schedule (map without_flags v.progress) (map cleared s.progress)
      each t l =
          let a : progress_at (map without_flags v.progress) t ≡ without_flags (progress_at v.progress t) = get_or-map without_flags v.progress t idle idle (subst (λ k. t < k) (sym h.progresses) l) in
          let b : get_or (map cleared s.progress) t no_progress ≡ cleared (progress_of s t) = get_or-map cleared s.progress t no_progress no_progress (subst (λ k. t < k) (sym h.sane.progresses) l) in
          let r = h.tasks t l in
          subst (λ (x : KeptProgress). RepresentsTask (holds v.book) (bytes s.plan.tags) (length s.plan.schedule) (programs_of s t) x (get_or (map cleared s.progress) t no_progress)) (sym a)
          (subst (λ (x : Progress). RepresentsTask (holds v.book) (bytes s.plan.tags) (length s.plan.schedule) (programs_of s t) (without_flags (progress_at v.progress t)) x) (sym b)
          (record { ended = r.ended; flags = refl; left = r.left; scan = r.scan; others = r.others }))
