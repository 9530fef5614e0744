-- The parts of a controller that was just made represent the start of its project.
use Rattle.std.proofs.Common.{◌≡◌, ℕ, zero, suc, ◌+◌, ◌*◌, ◌<◌, ◌≤◌, true, false, List, [], ◌∷◌, length, get_or, map, replicate, Option, None, refl, sym, ap, ◌∙◌, subst, arith}
use Rattle.std.specs.Prelude.{nat_lt, nat_le, ◌&&◌, slice_index}
use Rattle.std.specs.List.{All, AllByRecursion as Each, list_all}
use Rattle.std.proofs.lemmas.Bool.{and_parts, ltb-true, leb-true, eqb-true}
use Rattle.std.proofs.lemmas.List.{length-map, length-replicate, get_or-map}
use Rattle.std.proofs.lemmas.List.Sums.{AllPass-from_list_all}
use Rattle.spec_base.specs.declared.limits.TheConstants.{MAX_TASKS, LEAST_PRIORITY, MAX_CONNECTIONS, MAX_CONNECTION_WORDS, MAX_IMAGE_BYTES}
use Rattle.spec_machine.specs.declared.limits.TheConstants.{MAX_PERIOD, MAX_PROGRAMS}
use Rattle.spec_tables.specs.declared.conn.ConnDef.{ConnDef}
use Rattle.spec_tables.specs.declared.task.TaskDef.{TaskDef}
use Rattle.spec_tables.specs.declared.task.TaskKind.{TaskKind}
use Rattle.spec_tables.specs.declared.task.TaskKind.TheVariants.{Continuous, Periodic, Event}
use Rattle.spec_tables.specs.Connections.{words_of}
use Rattle.spec_tables.specs.Forces.{no_forces}
use Rattle.spec_tables.specs.Tasks.{TaskState, Table, region_count}
use Rattle.spec_language.specs.Declarations.{bytes}
use Rattle.spec_machine.specs.declared.reply.Mode.TheVariants.{Program}
use Rattle.spec_machine.specs.Project.{Project, ProgramText}
use Rattle.spec_machine.specs.Edits.{Book, book_of}
use Rattle.spec_machine.specs.State.{Progress, no_progress, plan_of, start, all_down}
use Rattle.spec_machine.specs.ValidProject.{IsValidProject, has_targets, has_priority, has_period, is_proper_task, is_within, is_small_connection}
use Rattle.lgx_conn.specs.Numbered.{IsSmall}
use Rattle.lgx_sched.specs.Represents.{RepresentsTable as RepresentsTable, HasPeriod, none_up}
use Rattle.lgx_edit.specs.declared.texts.ProgramText.{ProgramText as KeptProgram}
use Rattle.lgx_edit.specs.Texts.{program_of, routine_of}
use Rattle.lgx_edit.specs.EditsView.{EditsView, books, holds}
use Rattle.lgx_edit.proofs.CheckedBooks.{project-checked}
use Rattle.lgx_steps.specs.declared.parts.Progress.{Progress as KeptProgress}
use Rattle.lgx_steps.specs.PartsView.{PartsView, IsIdle, idle}
use Rattle.lgx_steps.specs.Plans.{list_at}
use Rattle.lgx_steps.specs.Represents.{RepresentsState, RepresentsTask, held_in, progress_at}
use Rattle.lgx_steps.proofs.Elements.{each-at}
use Rattle.lgx_steps.proofs.Tasks.{HoldsNone, task-without}
use Rattle.lgx_steps.proofs.ValidPlans.{within, sound-plan, ready-books}
use Rattle.spec_language.specs.Declarations.{Declarations}
use Rattle.spec_language.specs.declared.names.TaskName.{TaskName}
use Rattle.lgx_image.specs.Grains.{ImageView}
use Rattle.lgx_sched.specs.TableView.{TableView}
use Rattle.lgx_steps.specs.declared.fresh.Opened.{Opened}
use Rattle.lgx_steps.specs.declared.fresh.Scans.{Scans}
use Rattle.lgx_steps.specs.declared.fresh.Tables.{Tables}
use Rattle.lgx_steps.specs.Fresh.{AreProper, AreSmall, AreTablesOf, AreScansOf, IsTakenApart, IsOpened}

-- ---- what the parts ask for

priority-of : (k : TaskKind) (p : ℕ) → has_priority k p ≡ true → (0 < p) × (p ≤ LEAST_PRIORITY)
priority-of Continuous p h = let e : p ≡ LEAST_PRIORITY = eqb-true _ _ h in (omega arith, omega arith)
priority-of (Periodic n) p h = let two = and_parts (nat_lt 0 p) (nat_lt p LEAST_PRIORITY) h in let a = ltb-true 0 p two.0 in let b = ltb-true p LEAST_PRIORITY two.1 in (a, omega arith)
priority-of Event p h = let two = and_parts (nat_lt 0 p) (nat_lt p LEAST_PRIORITY) h in let a = ltb-true 0 p two.0 in let b = ltb-true p LEAST_PRIORITY two.1 in (a, omega arith)

period-of : (k : TaskKind) → has_period k ≡ true → HasPeriod k
period-of Continuous h = tt
period-of (Periodic n) h = (within n MAX_PERIOD h).0
period-of Event h = tt

module _ (p : Project) (v : IsValidProject p) where
  proper : (t : ℕ) (d : TaskDef) → t < length p.tasks → is_proper_task (get_or p.tasks t d) ≡ true
  proper t d l = AllPass-from_list_all is_proper_task p.tasks v.tasks t d l

  pub few-tasks : length p.tasks ≤ MAX_TASKS
  few-tasks = (within (length p.tasks) MAX_TASKS v.limits.tasks).1

  kinds : (t : ℕ) (d : TaskDef) → t < length p.tasks → (has_priority (get_or p.tasks t d).kind (get_or p.tasks t d).priority ≡ true) × (has_period (get_or p.tasks t d).kind ≡ true)
  kinds t d l =
      let k = get_or p.tasks t d in
      and_parts (has_priority k.kind k.priority) (has_period k.kind) (and_parts (has_priority k.kind k.priority && has_period k.kind) (is_within k.watchdog MAX_PERIOD) (proper t d l)).0

  pub priorities : All (λ d. (0 < d.priority) × (d.priority ≤ LEAST_PRIORITY)) p.tasks
  priorities = λ t d l. priority-of (get_or p.tasks t d).kind (get_or p.tasks t d).priority (kinds t d l).0

  pub periods : All (λ d. HasPeriod d.kind) p.tasks
  periods = λ t d l. period-of (get_or p.tasks t d).kind (kinds t d l).1

  pub few-conns : length p.conns ≤ MAX_CONNECTIONS
  few-conns = leb-true _ _ v.limits.connections

  pub small-conns : All IsSmall p.conns
  small-conns = λ i d l. (
      let c = get_or p.conns i d in
      let two = and_parts (is_within c.words MAX_CONNECTION_WORDS) (nat_le (c.byte + 4 * c.words) MAX_IMAGE_BYTES) (AllPass-from_list_all is_small_connection p.conns v.limits.words i d l) in
      ((within c.words MAX_CONNECTION_WORDS two.0).1, leb-true _ _ two.1)
      )

  -- each main routine is there
  has-main : (qs : List ProgramText) → list_all (has_targets p) qs ≡ true → All (λ q. q.main < length q.routines) qs
  has-main qs h = λ i d l. ltb-true _ _ (and_parts (nat_lt (get_or qs i d).main (length (get_or qs i d).routines)) _ (AllPass-from_list_all (has_targets p) qs h i d l)).0

  -- there is a program
  pub some-program : 0 < length p.programs
  some-program = (within (length p.programs) MAX_PROGRAMS v.limits.programs).0

  pub mains : (qs : List KeptProgram) → p.programs ≡ map program_of qs → All (λ q. q.main < length q.routines) qs
  mains qs e = λ i d l. (
      let h : list_all (has_targets p) (map program_of qs) ≡ true = subst (λ (xs : List ProgramText). list_all (has_targets p) xs ≡ true) e v.targets in
      let at : get_or (map program_of qs) i (program_of d) ≡ program_of (get_or qs i d) = get_or-map program_of qs i d (program_of d) l in
      let m = has-main (map program_of qs) h i (program_of d) (subst (λ k. i < k) (sym (length-map qs program_of)) l) in
      let m' : (program_of (get_or qs i d)).main < length (program_of (get_or qs i d)).routines = subst (λ (q : ProgramText). q.main < length q.routines) at m in
      subst (λ k. (get_or qs i d).main < k) (length-map (get_or qs i d).routines routine_of) m'
      )

-- ---- a book of its programs

-- it has a program, since the project has
pub some-book : (p : Project) (book : List EditsView) (texts : List KeptProgram) → IsValidProject p → p.programs ≡ map program_of texts → books book ≡ map (λ q. book_of (program_of q)) texts → 0 < length book
some-book p book texts v programs made =
    let some : 0 < length p.programs = some-program p v in
    let many : length p.programs ≡ length texts = ap (λ (qs : List ProgramText). length qs) programs ∙ length-map texts program_of in
    let seen : length book ≡ length texts = sym (length-map book (λ (e : EditsView). e.book)) ∙ (ap (λ (bs : List Book). length bs) made ∙ length-map texts (λ (q : KeptProgram). book_of (program_of q))) in
    omega arith

-- ---- the parts

same-each : {A B : Type 0} (xs : List A) (y : B) → replicate (length xs) y ≡ map (λ x. y) xs
same-each [] y = refl
same-each (x ∷ xs) y = ap (λ ys. y ∷ ys) (same-each xs y)

mapped-twice : {A B C : Type 0} (f : B → C) (g : A → B) (xs : List A) → map f (map g xs) ≡ map (λ x. f (g x)) xs
mapped-twice f g [] = refl
mapped-twice f g (x ∷ xs) = ap (λ ys. f (g x) ∷ ys) (mapped-twice f g xs)

none-of : {A : Type 0} (xs : List A) (n : ℕ) → held_in (map (λ (x : A). None) xs) n ≡ None
none-of [] n = refl
none-of (x ∷ xs) zero = refl
none-of (x ∷ xs) (suc n) = none-of xs n

no-progress-at : (ds : List TaskDef) (t : ℕ) → get_or (map (λ (d : TaskDef). no_progress) ds) t no_progress ≡ no_progress
no-progress-at [] t = refl
no-progress-at (d ∷ ds) zero = refl
no-progress-at (d ∷ ds) (suc t) = no-progress-at ds t

no-regions : (ds : List TaskDef) → Each (λ (u : Option TaskState). region_count u ≤ 0) (map (λ (d : TaskDef). None) ds)
no-regions [] = tt
no-regions (d ∷ ds) = (omega arith, no-regions ds)

pub starts : (v : PartsView) (p : Project) (texts : List KeptProgram) (firsts : ℕ) → IsValidProject p → p.programs ≡ map program_of texts → v.plan ≡ plan_of p → v.sealed ≡ true → v.mode ≡ Program → v.tick ≡ 0 → RepresentsTable v.table (none_up p.tasks 0)
    → length v.progress ≡ length p.schedule → Each IsIdle v.progress → v.firsts ≡ replicate firsts false → firsts ≡ length texts → v.image.bytes ≡ p.image
    → books v.book ≡ map (λ q. book_of (program_of q)) texts → holds v.book ≡ map (λ q. None) texts → v.forces ≡ no_forces (words_of p.conns) → v.faults ≡ [] → RepresentsState 0 v (start p)
starts v p texts many valid programs plan sealed mode tick table progresses each firsts many_is image book held forces faults =
    let len : ℕ = bytes p.tags in
    let lists : length p.schedule ≡ length p.tasks = valid.task_lists.lists in
    let none : none_up p.tasks 0 ≡ all_down p = ap (λ (us : List (Option TaskState)). record { defs = p.tasks; states = us; next = 0; run_since = 0 }) (same-each p.tasks None) in
    let all_programs : length (map book_of p.programs) ≡ length p.programs = length-map p.programs book_of in
    let books_are : books v.book ≡ map book_of p.programs = book ∙ (sym (mapped-twice book_of program_of texts) ∙ ap (λ (qs : List ProgramText). map book_of qs) (sym programs)) in
    let firsts_are : v.firsts ≡ map (λ (q : ProgramText). false) p.programs = firsts ∙ (ap (λ i. replicate i false) (many_is ∙ (sym (length-map texts program_of) ∙ ap (λ (qs : List ProgramText). length qs) (sym programs))) ∙ same-each p.programs false) in
    record {
      plan = plan;
      sealed = sealed;
      mode = mode;
      tick = tick;
      table = subst (λ (T : Table). RepresentsTable v.table T) none table;
      progresses = progresses;
      tasks = λ t l. (
          let x : KeptProgress = progress_at v.progress t in
          let is_idle : IsIdle x = each-at IsIdle v.progress t idle each (subst (λ k. t < k) (sym progresses) l) in
          let list : List ℕ = list_at p.schedule t in
          let holds_none : HoldsNone len (length p.schedule) (holds v.book) list = λ i li. subst (λ H. held_in H (slice_index list i) ≡ None) (sym held) (none-of texts (slice_index list i)) in
          let some : 0 < length list = ((sound-plan p valid).lists t l).some in
          subst (λ (q : Progress). RepresentsTask (holds v.book) len (length p.schedule) list x q) (sym (no-progress-at p.tasks t))
          (task-without len (length p.schedule) (holds v.book) list 0 x no_progress.flags holds_none some is_idle.ended is_idle.scan is_idle.flags)
          );
      firsts = firsts_are;
      image = image;
      books = books_are;
      forces = forces;
      faults = faults;
      sane = record {
        plan = sound-plan p valid;
        tasks = sym lists;
        progresses = length-map p.tasks (λ (d : TaskDef). no_progress) ∙ sym lists;
        programs = all_programs ∙ sym valid.scopes;
        firsts = length-map p.programs (λ (q : ProgramText). false) ∙ sym valid.scopes;
        image = valid.tags.image;
        words = length-replicate (words_of p.conns) None;
        tick = omega arith;
        regions = no-regions p.tasks;
        books = ready-books p valid;
        checked = project-checked p valid;
      };
    }

-- ---- a project that is taken apart

pub opened : (p : Project) (o : Opened) → IsTakenApart p o.texts.items o.kept.value → IsOpened p o
unfolding IsOpened
opened p o h = h

apart : (p : Project) (o : Opened) → IsOpened p o → IsTakenApart p o.texts.items o.kept.value
unfolding IsOpened
apart p o h = h

pub opened-tasks : (p : Project) (o : Opened) → IsOpened p o → AreProper o.kept.value.tasks
opened-tasks p o h =
    let a = apart p o h in
    subst AreProper (sym a.tasks) (record { few = few-tasks p a.valid; priorities = priorities p a.valid; periods = periods p a.valid })

pub opened-conns : (p : Project) (o : Opened) → IsOpened p o → AreSmall o.kept.value.conns
opened-conns p o h =
    let a = apart p o h in
    subst AreSmall (sym a.conns) (record { few = few-conns p a.valid; small = small-conns p a.valid })

pub opened-mains : (p : Project) (o : Opened) → IsOpened p o → All (λ (q : KeptProgram). q.main < length q.routines) o.texts.items
opened-mains p o h = let a = apart p o h in mains p a.valid o.texts.items a.programs

pub opened-some : (p : Project) (o : Opened) → IsOpened p o → 0 < length o.texts.items
opened-some p o h =
    let a = apart p o h in
    let some : 0 < length p.programs = some-program p a.valid in
    let many : length p.programs ≡ length o.texts.items = ap (λ (qs : List ProgramText). length qs) a.programs ∙ length-map o.texts.items program_of in
    omega arith

pub opened-valid : (p : Project) (o : Opened) → IsOpened p o → IsValidProject p
opened-valid p o h = (apart p o h).valid

-- what is made of it represents the start
pub opened-starts : (p : Project) (o : Opened) (tables : Tables) (scans : Scans) (v : PartsView) → IsOpened p o → AreTablesOf o.kept.value.tasks o.kept.value.conns tables → AreScansOf o.texts.items (length o.kept.value.schedule) scans
    → v.plan ≡ record { tags = o.kept.value.tags.declarations; names = o.kept.value.names; schedule = o.kept.value.schedule; conns = tables.conns } → v.sealed ≡ o.kept.value.tags.sealed → v.mode ≡ Program → v.tick ≡ 0 → v.table ≡ tables.table
    → v.progress ≡ scans.progress.items → v.firsts ≡ scans.firsts.items → v.image ≡ o.kept.value.image → v.book ≡ scans.book → v.forces ≡ tables.forces → v.faults ≡ [] → RepresentsState 0 v (start p)
opened-starts p o tables scans v h made told plan sealed mode tick table progress firsts image book forces faults =
    let a = apart p o h in
    let conns : tables.conns ≡ p.conns = made.conns_are ∙ a.conns in
    starts v p o.texts.items (length o.texts.items) a.valid a.programs
    (plan ∙ (ap (λ (d : Declarations). record { tags = d; names = o.kept.value.names; schedule = o.kept.value.schedule; conns = tables.conns }) a.tags
    ∙ (ap (λ (ns : List TaskName). record { tags = p.tags; names = ns; schedule = o.kept.value.schedule; conns = tables.conns }) a.names
    ∙ (ap (λ (ss : List (List ℕ)). record { tags = p.tags; names = p.names; schedule = ss; conns = tables.conns }) a.schedule
    ∙ ap (λ (cs : List ConnDef). record { tags = p.tags; names = p.names; schedule = p.schedule; conns = cs }) conns))))
    (sealed ∙ a.sealed) mode tick
    (subst (λ (t : TableView). RepresentsTable t (none_up p.tasks 0)) (sym table) (subst (λ (ds : List TaskDef). RepresentsTable tables.table (none_up ds 0)) a.tasks made.table))
    (ap (λ (xs : List KeptProgress). length xs) progress ∙ (told.many ∙ ap (λ (ss : List (List ℕ)). length ss) a.schedule))
    (subst (λ (xs : List KeptProgress). Each IsIdle xs) (sym progress) told.idle)
    (firsts ∙ told.firsts) refl
    (ap (λ (i : ImageView). i.bytes) image ∙ a.image)
    (ap (λ (b : List EditsView). books b) book ∙ told.book)
    (ap (λ (b : List EditsView). holds b) book ∙ told.held)
    (forces ∙ (made.forces ∙ ap (λ (cs : List ConnDef). no_forces (words_of cs)) a.conns))
    faults
