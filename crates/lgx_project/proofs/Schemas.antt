-- With the newest schema a file has the right shape as it had, and describes the same.
use Rattle.std.proofs.Common.{◌≡◌, ℕ, ◌+◌, ◌≤◌, Bool, true, false, not, ◌||◌, ◌&&◌, ◌==◌, List, [], ◌∷◌, ◌++◌, length, map, nat_lt, Option, Some, None, option_map, unwrap_or, Ordering, Less, Equal, Greater, refl, sym, ap, ap₂, ◌∙◌, subst, codes, true≢false, arith}
use Rattle.std.specs.Cmp.Lexicographic.{slice_cmp}
use Rattle.std.specs.List.{list_all}
use Rattle.std.specs.Ordering.{nat_cmp, match_ordering}
use Rattle.std.specs.Str.{bytes_eq}
use Rattle.std.proofs.lemmas.Bool.{and_parts}
use Rattle.std.proofs.lemmas.Slice.Eq.{bytes_eq-Decides}
use Rattle.serde_json.specs.Data.{Data, null, boolean, number, string, array, object, Items, Members, no_members, member, unsigned, put, depth, members_depth}
use Rattle.serde_json.specs.Find.{get, get_member}
use Rattle.serde_json.proofs.Views.{get_member-put, get_member-put_other}
use Rattle.spec_base.specs.declared.limits.TheConstants.{MAX_TASKS}
use Rattle.spec_machine.specs.declared.limits.TheConstants.{MAX_PERIOD}
use Rattle.spec_project.specs.declared.limits.TheConstants.{NEWEST_SCHEMA, DEFAULT_WATCHDOG}
use Rattle.spec_project.specs.declared.described.TaskWord.{TaskWord}
use Rattle.spec_project.specs.declared.described.TaskWord.TheVariants.{Continuous, Periodic, Event}
use Rattle.spec_project.specs.declared.fault.ProjectCode.TheVariants.{P3, P5, P11}
use Rattle.spec_project.specs.Faults.{or_else, here, refused_if, in_field, first_from, first_at, at_place}
use Rattle.spec_project.specs.Judges.{Judge, Field, name, whole, needed, optional, list, listed, value_refusal, field, fields_of, keys, is_field, only_keys, any_object, keys_of, object as object_of}
use Rattle.spec_project.specs.Shape as shapes
use Rattle.spec_project.specs.Values.{text_of, number_of, truth_of, elements_of, text_at, number_at, list_at}
use Rattle.spec_project.specs.Reading.{type_decl, described_tag, described_program, task_def, described_task, described_connection, described_value, described, kind_of, priority_of}
use Rattle.lgx_project.specs.Migrated.{with_schema, with_newest_schema}
use Rattle.lgx_project.proofs.KeyOrder.{IsOrdered, in_order_put, ordered_put}
use Rattle.spec_valid.proofs.Passes.{neither, not_mapped}
use Rattle.lgx_project.proofs.Wholes.{AllPassed, all_passed, FieldsPass, fields_pass, HasOnly, only_known, has_only, same_key}

abbrev schema_key : List ℕ
schema_key = codes "schema"

-- ---- what is known is found among more

more_known : (xs ys : List (List ℕ)) (i key : List ℕ) → is_field (xs ++ ys) key ≡ true → is_field (xs ++ i ∷ ys) key ≡ true
more_known [] ys i key known = by_first (bytes_eq key i) known
  where
    by_first : (b : Bool) → is_field ys key ≡ true → (b || is_field ys key) ≡ true
    by_first true e = refl
    by_first false e = e
more_known (x ∷ xs) ys i key known = by_first (bytes_eq key x) (is_field (xs ++ ys) key) (is_field (xs ++ i ∷ ys) key) (more_known xs ys i key) known
  where
    by_first : (b rest more : Bool) → (rest ≡ true → more ≡ true) → (b || rest) ≡ true → (b || more) ≡ true
    by_first true rest more later e = refl
    by_first false rest more later e = later e

all_known : (known more : List (List ℕ)) → ((key : List ℕ) → is_field known key ≡ true → is_field more key ≡ true) → (ks : List (List ℕ))
    → list_all (is_field known) ks ≡ true → list_all (is_field more) ks ≡ true
all_known known more wider [] e = refl
all_known known more wider (k ∷ ks) e = let parts = and_parts (is_field known k) _ e in ap₂ (λ a b. a && b) (wider k parts.0) (all_known known more wider ks parts.1)

keys_pass : (known : List (List ℕ)) (ms : Members) → list_all (is_field known) (keys ms) ≡ true → only_keys known (object ms) ≡ None
unfolding only_keys
keys_pass known ms e = ap (λ b. refused_if (not b) (here P3)) e

absent_at : (o : Ordering) (known : List (List ℕ)) (k l : List ℕ) (d : Data) (rest : Option Data) → slice_cmp nat_cmp k l ≡ o → is_field known k ≡ false → is_field known l ≡ true → rest ≡ None
    → match_ordering o rest (Some d) rest ≡ None
absent_at Less known k l d rest is unknown own none = none
absent_at Equal known k l d rest is unknown own none = absurd (true≢false (sym own ∙ ap (is_field known) (sym (same_key k l is)) ∙ unknown))
absent_at Greater known k l d rest is unknown own none = none

-- what isn't known isn't there
absent : (known : List (List ℕ)) (key : List ℕ) (ms : Members) → is_field known key ≡ false → list_all (is_field known) (keys ms) ≡ true → get_member key ms ≡ None
absent known key no_members unknown e = refl
absent known key (member l d ms) unknown e =
    let parts = and_parts (is_field known l) _ e in
    absent_at (slice_cmp nat_cmp key l) known key l d (get_member key ms) refl unknown parts.0 (absent known key ms unknown parts.1)

-- ---- the task of a file with the first schema is one of the newest, and isn't inhibited

abbrev inhibited : List ℕ
inhibited = codes "inhibited"

abbrev fields_before : TaskWord → List Field
fields_before word = (needed (codes "name") name ∷ shapes.kind_field ∷ []) ++ (shapes.priority_fields word ++ (shapes.period_fields word ++ (optional (codes "watchdog") (whole 1 MAX_PERIOD) ∷ [])))

abbrev program_keys : List (List ℕ)
program_keys = codes "programs" ∷ []

first_keys : (word : TaskWord) → keys_of (shapes.task_fields false word) ≡ keys_of (fields_before word) ++ program_keys
first_keys Continuous = refl
first_keys Periodic = refl
first_keys Event = refl

newest_keys : (word : TaskWord) → keys_of (shapes.task_fields true word) ≡ keys_of (fields_before word) ++ inhibited ∷ program_keys
unfolding shapes.inhibited_field
newest_keys Continuous = refl
newest_keys Periodic = refl
newest_keys Event = refl

wider : (word : TaskWord) (key : List ℕ) → is_field (keys_of (shapes.task_fields false word)) key ≡ true → is_field (keys_of (shapes.task_fields true word)) key ≡ true
wider word key e =
    ap (λ ks. is_field ks key) (newest_keys word)
    ∙ more_known (keys_of (fields_before word)) program_keys inhibited key (ap (λ ks. is_field ks key) (sym (first_keys word)) ∙ e)

not_known : (word : TaskWord) → is_field (keys_of (shapes.task_fields false word)) inhibited ≡ false
not_known Continuous = refl
not_known Periodic = refl
not_known Event = refl

no_inhibited : (d : Data) → get inhibited d ≡ None → field shapes.inhibited_field d ≡ None
unfolding field shapes.inhibited_field
no_inhibited d none = ap (λ o. in_field inhibited (value_refusal shapes.inhibited_field o)) none

fields_together : (fs : List Field) (d : Data) → FieldsPass fs d → fields_of fs d ≡ None
fields_together [] d h = refl
fields_together (f ∷ fs) d h = ap₂ or_else h.0 (fields_together fs d h.1)

one_more : (xs ys : List Field) (f : Field) (d : Data) → FieldsPass (xs ++ ys) d → field f d ≡ None → FieldsPass (xs ++ f ∷ ys) d
one_more [] ys f d h e = (e, h)
one_more (x ∷ xs) ys f d h e = (h.0, one_more xs ys f d h.1 e)

abbrev last_fields : List Field
last_fields = needed (codes "programs") shapes.program_names ∷ []

first_fields : (word : TaskWord) → shapes.task_fields false word ≡ fields_before word ++ last_fields
first_fields Continuous = refl
first_fields Periodic = refl
first_fields Event = refl

newest_fields : (word : TaskWord) → shapes.task_fields true word ≡ fields_before word ++ shapes.inhibited_field ∷ last_fields
newest_fields Continuous = refl
newest_fields Periodic = refl
newest_fields Event = refl

record IsFirstTask (d : Data) : Type 0 where
  pub is_object : any_object d ≡ None
  pub has_kind : field shapes.kind_field d ≡ None
  pub own : HasOnly (keys_of (shapes.task_fields false (shapes.word_at d))) d
  pub passes : FieldsPass (shapes.task_fields false (shapes.word_at d)) d

first_task : (d : Data) → shapes.task false d ≡ None → IsFirstTask d
unfolding shapes.task
first_task d e =
    let fields = shapes.task_fields false (shapes.word_at d) in
    let outer = neither (any_object d) (or_else (field shapes.kind_field d) (object_of fields d)) e in
    let inner = neither (field shapes.kind_field d) (object_of fields d) outer.1 in
    let parts = neither (only_keys (keys_of fields) d) (fields_of fields d) inner.1 in
    record { is_object = outer.0; has_kind = inner.0; own = has_only (keys_of fields) d parts.0; passes = fields_pass fields d parts.1 }

is_not_inhibited : (d : Data) → IsFirstTask d → get inhibited d ≡ None
is_not_inhibited d t =
    ap (get inhibited) t.own.is ∙ absent (keys_of (shapes.task_fields false (shapes.word_at d))) inhibited t.own.members (not_known (shapes.word_at d)) t.own.known

newest_task : (d : Data) → shapes.task false d ≡ None → shapes.task true d ≡ None
unfolding shapes.task
newest_task d e =
    let t = first_task d e in
    let word = shapes.word_at d in
    let known = keys_of (shapes.task_fields false word) in
    let more = keys_of (shapes.task_fields true word) in
    let keyed : only_keys more d ≡ None = ap (only_keys more) t.own.is ∙ keys_pass more t.own.members (all_known known more (wider word) (keys t.own.members) t.own.known) in
    let before : FieldsPass (fields_before word ++ last_fields) d = subst (λ fs. FieldsPass fs d) (first_fields word) t.passes in
    let all : FieldsPass (shapes.task_fields true word) d =
    subst (λ fs. FieldsPass fs d) (sym (newest_fields word)) (one_more (fields_before word) last_fields shapes.inhibited_field d before (no_inhibited d (is_not_inhibited d t))) in
    ap₂ or_else t.is_object (ap₂ or_else t.has_kind (ap₂ or_else keyed (fields_together (shapes.task_fields true word) d all)))

same_def : (d : Data) → get inhibited d ≡ None → task_def true d ≡ task_def false d
unfolding task_def
same_def d none = ap (λ o. record { kind = kind_of (shapes.word_at d) d; priority = priority_of (shapes.word_at d) d; watchdog = number_at (codes "watchdog") DEFAULT_WATCHDOG d; inhibited = unwrap_or (option_map truth_of o) false }) none

same_task : (d : Data) → shapes.task false d ≡ None → described_task true d ≡ described_task false d
unfolding described_task
same_task d e =
    ap (λ def. record { name = text_at (codes "name") d; def = def; programs = list_at (codes "programs") text_of d }) (same_def d (is_not_inhibited d (first_task d e)))

-- ---- all tasks

passed_more : (judge more : Judge) → ((d : Data) → judge d ≡ None → more d ≡ None) → (i : ℕ) (ds : List Data) → AllPassed judge ds → first_from (λ i d. at_place i (more d)) i ds ≡ None
passed_more judge more each i [] h = refl
passed_more judge more each i (d ∷ ds) h = ap₂ or_else (ap (at_place i) (each d h.0)) (passed_more judge more each (i + 1) ds h.1)

-- a list of elements that pass
record IsListPassed (least most : ℕ) (judge : Judge) (d : Data) : Type 0 where
  pub elements : Items
  pub is : d ≡ array elements
  pub enough : refused_if (nat_lt (length (listed elements)) least) (here P5) ≡ None
  pub few : refused_if (nat_lt most (length (listed elements))) (here P11) ≡ None
  pub passed : AllPassed judge (listed elements)

list_of_passed : (least most : ℕ) (judge : Judge) (d : Data) → list least most judge d ≡ None → IsListPassed least most judge d
unfolding list
list_of_passed least most judge null e = absurd (cc)
list_of_passed least most judge (boolean b) e = absurd (cc)
list_of_passed least most judge (number n) e = absurd (cc)
list_of_passed least most judge (string s) e = absurd (cc)
list_of_passed least most judge (array ds) e =
    let short = refused_if (nat_lt (length (listed ds)) least) (here P5) in
    let long = refused_if (nat_lt most (length (listed ds))) (here P11) in
    let outer = neither short (or_else long (first_at judge (listed ds))) e in
    let inner = neither long (first_at judge (listed ds)) outer.1 in
    record { elements = ds; is = refl; enough = outer.0; few = inner.0; passed = all_passed judge 0 (listed ds) inner.1 }
list_of_passed least most judge (object ms) e = absurd (cc)

list_more : (least most : ℕ) (judge more : Judge) (d : Data) → ((e : Data) → judge e ≡ None → more e ≡ None) → IsListPassed least most judge d → list least most more d ≡ None
unfolding list
list_more least most judge more d each l =
    ap (list least most more) l.is ∙ ap₂ or_else l.enough (ap₂ or_else l.few (passed_more judge more each 0 (listed l.elements) l.passed))

same_each : {A : Type 0} (judge : Judge) (f g : Data → A) → ((d : Data) → judge d ≡ None → f d ≡ g d) → (ds : List Data) → AllPassed judge ds → map f ds ≡ map g ds
same_each judge f g each [] h = refl
same_each judge f g each (d ∷ ds) h = ap₂ (λ x xs. x ∷ xs) (each d h.0) (same_each judge f g each ds h.1)

newest_tasks : (newest : Bool) (d : Data) → shapes.tasks newest d ≡ None → shapes.tasks true d ≡ None
newest_tasks true d e = e
newest_tasks false d e = list_more 1 MAX_TASKS (shapes.task false) (shapes.task true) d newest_task (list_of_passed 1 MAX_TASKS (shapes.task false) d e)

same_tasks : (newest : Bool) (d : Data) → shapes.tasks newest d ≡ None → map (described_task true) (elements_of d) ≡ map (described_task newest) (elements_of d)
same_tasks true d e = refl
same_tasks false d e =
    let l = list_of_passed 1 MAX_TASKS (shapes.task false) d e in
    let are : elements_of d ≡ listed l.elements = ap elements_of l.is in
    ap (map (described_task true)) are ∙ same_each (shapes.task false) (described_task true) (described_task false) same_task (listed l.elements) l.passed
    ∙ ap (map (described_task false)) (sym are)

-- ---- the top

apart : (a b : List ℕ) → bytes_eq a b ≡ false → a ≡ b → ⊥
apart a b other same = true≢false (sym ((bytes_eq-Decides a b).1 same) ∙ other)

module _ (ms : Members) where
  abbrev before : Data
  before = object ms

  abbrev after : Data
  after = with_schema ms

  abbrev newest : Bool
  newest = shapes.is_newest before

  kept : (key : List ℕ) → bytes_eq key schema_key ≡ false → get key after ≡ get key before
  kept key other = get_member-put_other key schema_key (number (unsigned NEWEST_SCHEMA)) ms (apart key schema_key other)

  schema_is : get schema_key after ≡ Some (number (unsigned NEWEST_SCHEMA))
  schema_is = get_member-put schema_key (number (unsigned NEWEST_SCHEMA)) ms

  is_newest_after : shapes.is_newest after ≡ true
  is_newest_after = ap (λ o. unwrap_or (option_map (number_of 0) o) 0 == NEWEST_SCHEMA) schema_is

  schema_passes : field (needed schema_key (whole 1 NEWEST_SCHEMA)) after ≡ None
  unfolding field
  schema_passes = ap (λ o. in_field schema_key (value_refusal (needed schema_key (whole 1 NEWEST_SCHEMA)) o)) schema_is

  field_kept : (f : Field) → bytes_eq f.key schema_key ≡ false → field f before ≡ None → field f after ≡ None
  unfolding field
  field_kept f other e = ap (λ o. in_field f.key (value_refusal f o)) (kept f.key other) ∙ e

  keys_put : (k : List ℕ) (d : Data) (known : List (List ℕ)) (ns : Members) → is_field known k ≡ true → list_all (is_field known) (keys ns) ≡ true → list_all (is_field known) (keys (put k d ns)) ≡ true
  keys_put k d known no_members own e = ap (λ b. b && true) own
  keys_put k d known (member l x ns) own e =
      let parts = and_parts (is_field known l) _ e in
      at (slice_cmp nat_cmp k l) own parts.0 parts.1 (keys_put k d known ns own parts.1)
    where
      at : (o : Ordering) → is_field known k ≡ true → is_field known l ≡ true → list_all (is_field known) (keys ns) ≡ true → list_all (is_field known) (keys (put k d ns)) ≡ true
          → list_all (is_field known) (keys (match_ordering o (member k d (member l x ns)) (member l d ns) (member l x (put k d ns)))) ≡ true
      at Less own first all rest = ap₂ (λ a b. a && b) own (ap₂ (λ a b. a && b) first all)
      at Equal own first all rest = ap₂ (λ a b. a && b) first all
      at Greater own first all rest = ap₂ (λ a b. a && b) first rest

  tasks_pass : field (needed (codes "tasks") (shapes.tasks newest)) before ≡ None → field (needed (codes "tasks") (shapes.tasks true)) after ≡ None
  unfolding field
  tasks_pass e = ap (λ o. in_field (codes "tasks") (value_refusal (needed (codes "tasks") (shapes.tasks true)) o)) (kept (codes "tasks") refl) ∙ found (get (codes "tasks") before) e
    where
      found : (o : Option Data) → in_field (codes "tasks") (value_refusal (needed (codes "tasks") (shapes.tasks newest)) o) ≡ None → in_field (codes "tasks") (value_refusal (needed (codes "tasks") (shapes.tasks true)) o) ≡ None
      found None e = absurd (cc)
      found (Some d) e = ap (in_field (codes "tasks")) (newest_tasks newest d (not_mapped _ (shapes.tasks newest d) e))

  all_pass : FieldsPass (shapes.top_fields newest) before → FieldsPass (shapes.top_fields true) after
  unfolding shapes.controller_field shapes.later_fields shapes.connections_field
  all_pass h =
      let later = h.1.1.1.1.1 in (
        schema_passes,
        (
          field_kept shapes.controller_field refl h.1.0,
          (
            field_kept (optional (codes "types") shapes.types) refl h.1.1.0,
            (
              field_kept (optional (codes "tags") shapes.tags) refl h.1.1.1.0,
              (
                field_kept (needed (codes "programs") shapes.programs) refl h.1.1.1.1.0,
                (
                  tasks_pass later.0,
                  (
                    field_kept shapes.connections_field refl later.1.0,
                    (
                      field_kept (optional (codes "initial") shapes.values) refl later.1.1.0,
                      (field_kept (optional (codes "watch") shapes.watches) refl later.1.1.1.0, tt),
                    ),
                  ),
                ),
              ),
            ),
          ),
        ),
      )

  same_keys : (b : Bool) → keys_of (shapes.top_fields b) ≡ keys_of (shapes.top_fields true)
  unfolding shapes.controller_field shapes.later_fields shapes.connections_field
  same_keys b = refl

  schema_known : is_field (keys_of (shapes.top_fields true)) schema_key ≡ true
  schema_known = refl

  shape_parts : shapes.shape before ≡ None → (only_keys (keys_of (shapes.top_fields newest)) before ≡ None) × (fields_of (shapes.top_fields newest) before ≡ None)
  unfolding shapes.shape
  shape_parts e = neither (only_keys (keys_of (shapes.top_fields newest)) before) (fields_of (shapes.top_fields newest) before) e

  shape_after : shapes.shape before ≡ None → shapes.shape after ≡ None
  unfolding shapes.shape
  shape_after e =
      let parts = shape_parts e in
      let all = keys_of (shapes.top_fields true) in
      let known : list_all (is_field all) (keys ms) ≡ true = ap (λ ks. list_all (is_field ks) (keys ms)) (sym (same_keys newest)) ∙ only_known (keys_of (shapes.top_fields newest)) ms parts.0 in
      let schema = number (unsigned NEWEST_SCHEMA) in
      let keyed : only_keys all after ≡ None = keys_pass all (put schema_key schema ms) (keys_put schema_key schema all ms schema_known known) in
      let passes = all_pass (fields_pass (shapes.top_fields newest) before parts.1) in
      ap (λ b. object_of (shapes.top_fields b) after) is_newest_after ∙ ap₂ or_else keyed (fields_together (shapes.top_fields true) after passes)

  same_list : {A : Type 0} (key : List ℕ) (made : Data → A) → bytes_eq key schema_key ≡ false → list_at key made after ≡ list_at key made before
  same_list key made other = ap (λ o. unwrap_or (option_map (λ v. map made (elements_of v)) o) []) (kept key other)

  tasks_field : FieldsPass (shapes.top_fields newest) before → field (needed (codes "tasks") (shapes.tasks newest)) before ≡ None
  unfolding shapes.later_fields
  tasks_field h = h.1.1.1.1.1.0

  same_task_list : field (needed (codes "tasks") (shapes.tasks newest)) before ≡ None
      → list_at (codes "tasks") (described_task (shapes.is_newest after)) after ≡ list_at (codes "tasks") (described_task newest) before
  unfolding field
  same_task_list e =
      ap (λ b. list_at (codes "tasks") (described_task b) after) is_newest_after
      ∙ same_list (codes "tasks") (described_task true) refl
      ∙ found (get (codes "tasks") before) e
    where
      found : (o : Option Data) → in_field (codes "tasks") (value_refusal (needed (codes "tasks") (shapes.tasks newest)) o) ≡ None
          → unwrap_or (option_map (λ v. map (described_task true) (elements_of v)) o) [] ≡ unwrap_or (option_map (λ v. map (described_task newest) (elements_of v)) o) []
      found None e = refl
      found (Some d) e = same_tasks newest d (not_mapped _ (shapes.tasks newest d) e)

  described_after : shapes.shape before ≡ None → described after ≡ described before
  unfolding described
  described_after e =
      let types = same_list (codes "types") type_decl refl in
      let tags = same_list (codes "tags") described_tag refl in
      let programs = same_list (codes "programs") described_program refl in
      let tasks = same_task_list (tasks_field (fields_pass (shapes.top_fields newest) before (shape_parts e).1)) in
      let connections = same_list (codes "connections") described_connection refl in
      let initial = same_list (codes "initial") described_value refl in
      let watch = same_list (codes "watch") text_of refl in
      cc (types, tags, programs, tasks, connections, initial, watch)

-- ---- any value

members_of : (d : Data) → shapes.shape d ≡ None → HasOnly (keys_of (shapes.top_fields (shapes.is_newest d))) d
unfolding shapes.shape
members_of d e =
    let fields = shapes.top_fields (shapes.is_newest d) in
    has_only (keys_of fields) d (neither (only_keys (keys_of fields) d) (fields_of fields d) e).0

pub shape_kept : (d : Data) → shapes.shape d ≡ None → shapes.shape (with_newest_schema d) ≡ None
shape_kept d e =
    let own = members_of d e in
    subst (λ x. shapes.shape (with_newest_schema x) ≡ None) (sym own.is) (shape_after own.members (ap shapes.shape (sym own.is) ∙ e))

pub described_kept : (d : Data) → shapes.shape d ≡ None → described (with_newest_schema d) ≡ described d
described_kept d e =
    let own = members_of d e in
    subst (λ x. described (with_newest_schema x) ≡ described x) (sym own.is) (described_after own.members (ap shapes.shape (sym own.is) ∙ e))

pub ordered_kept : (d : Data) → IsOrdered d → IsOrdered (with_newest_schema d)
ordered_kept null h = h
ordered_kept (boolean b) h = h
ordered_kept (number n) h = h
ordered_kept (string s) h = h
ordered_kept (array ds) h = h
ordered_kept (object ms) h =
    let schema = number (unsigned NEWEST_SCHEMA) in
    (in_order_put schema_key schema ms h.0, ordered_put schema_key schema ms tt h.1)

-- ---- how deep it nests

depth_put_at : (o : Ordering) (k l : List ℕ) (d e : Data) (ms : Members) (n : ℕ) → depth d ≤ n → members_depth (member l e ms) ≤ n → members_depth (put k d ms) ≤ n
    → members_depth (match_ordering o (member k d (member l e ms)) (member l d ms) (member l e (put k d ms))) ≤ n
depth_put_at Less k l d e ms n one all rest = omega arith
depth_put_at Equal k l d e ms n one all rest = omega arith
depth_put_at Greater k l d e ms n one all rest = omega arith

depth_put : (k : List ℕ) (d : Data) (ms : Members) (n : ℕ) → depth d ≤ n → members_depth ms ≤ n → members_depth (put k d ms) ≤ n
depth_put k d no_members n one all = omega arith
depth_put k d (member l e ms) n one all = depth_put_at (slice_cmp nat_cmp k l) k l d e ms n one all (depth_put k d ms n one (omega arith))

pub depth_kept : (d : Data) (n : ℕ) → depth d ≤ n → depth (with_newest_schema d) ≤ n
depth_kept null n h = h
depth_kept (boolean b) n h = h
depth_kept (number x) n h = h
depth_kept (string s) n h = h
depth_kept (array ds) n h = h
depth_kept (object ms) n h =
    let inside = depth_put schema_key (number (unsigned NEWEST_SCHEMA)) ms (members_depth ms) (omega arith) (omega arith) in
    omega arith
