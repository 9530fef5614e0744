-- What a value of the right shape describes keeps the limits of its file.
use Rattle.std.specs.Prelude.{◌≡◌, ℕ, ℤ, pos, negsuc, unsigned_abs, int_le, ◌≤◌, nat_lt, nat_le, Bool, true, false, ◌&&◌, List, [], ◌∷◌, ◌++◌, length, map, unwrap_or, option_map, codes, Option, Some, None, if◌then◌else◌, IsTrue, ⊤, refl}
use Rattle.std.proofs.Common.{sym, ◌∙◌, arith, leb-true}
use Rattle.std.proofs.lemmas.Bool.{and_from, and_parts, lt-ltb, ltb-false}
use Rattle.std.proofs.lemmas.List.{length-map}
use Rattle.serde_json.specs.Data.{Data, Items, no_items}
use Rattle.serde_json.specs.Find.{as_array, as_str, get}
use Rattle.spec_base.specs.declared.limits.TheConstants.{LEAST_PRIORITY, MAX_CONNECTIONS, MAX_ELEMENTS, MAX_TASKS}
use Rattle.spec_machine.specs.ValidProject.{has_period, has_priority, is_within}
use Rattle.spec_machine.specs.declared.limits.TheConstants.{MAX_MEMBERS, MAX_PERIOD, MAX_PROGRAMS, MAX_ROUTINES, MAX_RUNGS, MAX_SCOPE_TAGS, MAX_TYPES, MAX_WATCHES}
use Rattle.spec_project.proofs.Fields.{fields_of_groups}
use Rattle.spec_project.specs.Judges.{Field, Judge, any_object, any_text, field, fields_of, integer, integer_refusal, list, list_refusal, listed, name, needed, object, optional, rung, text_refusal, value_refusal, whole}
use Rattle.spec_project.specs.Limits.{HasFewMembers, HasFewRungs, HasSmallDim, IsListOf, IsShortText, IsSmallMeaning, IsSmallProgram, IsSmallTag, IsSmallTask, IsWithinLimits}
use Rattle.spec_project.specs.Reading.{described, described_connection, described_program, described_routine, described_tag, described_task, described_value, kind_of, member_decl, priority_of, task_def, type_decl}
use Rattle.spec_project.specs.Shape.{alias_fields, connection, connections_field, inhibited_fields, is_newest, kind_field, later_fields, member, member_fields, period_fields, priority_fields, program, program_fields, program_names, routine, routine_fields, shape, structure, tag, tag_fields, task, task_fields, top_fields, type_fields, value, word_at}
use Rattle.spec_project.specs.Values.{elements_of, has_field, list_at, number_at, number_of, text_at, text_of}
use Rattle.spec_project.specs.declared.described.DescribedMeaning.TheVariants.{OfType, AliasOf}
use Rattle.spec_project.specs.declared.described.TaskWord.{TaskWord}
use Rattle.spec_project.specs.declared.described.TaskWord.TheVariants.{Continuous, Periodic, Event}
use Rattle.spec_project.specs.declared.limits.TheConstants.{DEFAULT_WATCHDOG, MAX_INITIAL_VALUES, MAX_PRIORITY, MAX_RUNG_BYTES}
use Rattle.spec_valid.proofs.Lists.{each_made}
use Rattle.spec_valid.proofs.Passes.{is_so, neither, none_at, not_mapped, not_so}
use Rattle.spec_valid.proofs.TypesAccepted.{within_of}

-- ---- lists

-- a judge refuses nothing of which this doesn't hold once it is read
abbrev Gives : {A : Type 0} → Judge → (Data → A) → (A → Type 0) → Type 0
Gives judge made P = (x : Data) → judge x ≡ None → P (made x)

elements_within : {A : Type 0} (least most : ℕ) (judge : Judge) (made : Data → A) (P : A → Type 0) → Gives judge made P
    → (v : Data) → list least most judge v ≡ None → IsListOf least most P (map made (elements_of v))
unfolding list
elements_within {A} least most judge made P gives v h = go (as_array v) h
  where
    go : (o : Option Items) → list_refusal least most judge o ≡ None → IsListOf least most P (map made (listed (unwrap_or o no_items)))
    go None r = absurd (cc r)
    go (Some items) r =
        let xs = listed items in
        let a = neither _ _ r in
        let b = neither _ _ a.1 in
        let enough : least ≤ length xs = ltb-false (length xs) least (not_so _ _ a.0) in
        let few : length xs ≤ most = ltb-false most (length xs) (not_so _ _ b.0) in
        record {
          enough = omega (arith, length-map xs made);
          few = omega (arith, length-map xs made);
          each = each_made (λ x. judge x ≡ None) P made xs gives (none_at judge xs b.1);
        }

value_passes : (f : Field) (d : Data) → field f d ≡ None → value_refusal f (get f.key d) ≡ None
unfolding field
value_passes f d h = not_mapped _ _ h

needed_list : {A : Type 0} (key : List ℕ) (least most : ℕ) (judge : Judge) (made : Data → A) (P : A → Type 0) → Gives judge made P
    → (d : Data) → field (needed key (list least most judge)) d ≡ None → IsListOf least most P (list_at key made d)
needed_list {A} key least most judge made P gives d h = go (get key d) (value_passes (needed key (list least most judge)) d h)
  where
    go : (o : Option Data) → value_refusal (needed key (list least most judge)) o ≡ None
        → IsListOf least most P (unwrap_or (option_map (λ v. map made (elements_of v)) o) [])
    go None r = absurd (cc r)
    go (Some v) r = elements_within least most judge made P gives v r

optional_list : {A : Type 0} (key : List ℕ) (most : ℕ) (judge : Judge) (made : Data → A) (P : A → Type 0) → Gives judge made P
    → (d : Data) → field (optional key (list 0 most judge)) d ≡ None → IsListOf 0 most P (list_at key made d)
optional_list {A} key most judge made P gives d h = go (get key d) (value_passes (optional key (list 0 most judge)) d h)
  where
    go : (o : Option Data) → value_refusal (optional key (list 0 most judge)) o ≡ None
        → IsListOf 0 most P (unwrap_or (option_map (λ v. map made (elements_of v)) o) [])
    go None r = record { enough = omega arith; few = omega arith; each = tt }
    go (Some v) r = elements_within 0 most judge made P gives v r

-- ---- numbers

in_range : (least most : ℕ) (n : ℤ) → IsTrue (int_le (pos least) n && int_le n (pos most))
    → (least ≤ unsigned_abs n) × (unsigned_abs n ≤ most)
in_range least most (pos k) h =
    let both = and_parts (nat_le least k) (nat_le k most) h in
    (leb-true least k both.0, leb-true k most both.1)
in_range least most (negsuc k) h = absurd (cc h)

-- what holds of all numbers of a range holds of a number that is judged by it
abbrev HoldsFrom : ℕ → ℕ → (ℕ → Type 0) → Type 0
HoldsFrom least most P = (n : ℕ) → least ≤ n → n ≤ most → P n

whole_within : (least most default : ℕ) (P : ℕ → Type 0) → HoldsFrom least most P
    → (v : Data) → whole least most v ≡ None → P (number_of default v)
whole_within least most default P holds v h = go (integer v) h
  where
    go : (o : Option ℤ) → integer_refusal (pos least) (pos most) o ≡ None → P (unwrap_or (option_map unsigned_abs o) default)
    go None r = absurd (cc r)
    go (Some n) r = let range = in_range least most n (is_so _ _ r) in holds (unsigned_abs n) range.0 range.1

needed_number : (key : List ℕ) (least most default : ℕ) (P : ℕ → Type 0) → HoldsFrom least most P
    → (d : Data) → field (needed key (whole least most)) d ≡ None → P (number_at key default d)
needed_number key least most default P holds d h = go (get key d) (value_passes (needed key (whole least most)) d h)
  where
    go : (o : Option Data) → value_refusal (needed key (whole least most)) o ≡ None → P (unwrap_or (option_map (number_of default) o) default)
    go None r = absurd (cc r)
    go (Some v) r = whole_within least most default P holds v r

optional_number : (key : List ℕ) (least most default : ℕ) (P : ℕ → Type 0) → P default → HoldsFrom least most P
    → (d : Data) → field (optional key (whole least most)) d ≡ None → P (number_at key default d)
optional_number key least most default P left_out holds d h = go (get key d) (value_passes (optional key (whole least most)) d h)
  where
    go : (o : Option Data) → value_refusal (optional key (whole least most)) o ≡ None → P (unwrap_or (option_map (number_of default) o) default)
    go None r = left_out
    go (Some v) r = whole_within least most default P holds v r

small_dim : (d : Data) → field (optional (codes "dim") (whole 1 MAX_ELEMENTS)) d ≡ None → number_at (codes "dim") 0 d ≤ MAX_ELEMENTS
small_dim d h = optional_number (codes "dim") 1 MAX_ELEMENTS 0 (λ n. n ≤ MAX_ELEMENTS) (omega arith) (λ n least most. most) d h

-- ---- types and tags

fields_pass : (fields : List Field) (d : Data) → object fields d ≡ None → fields_of fields d ≡ None
fields_pass fields d h = (neither _ (fields_of fields d) h).1

small_member : Gives member member_decl HasSmallDim
unfolding member member_decl
small_member d h =
    let a = neither _ _ (fields_pass member_fields d h) in
    let b = neither _ _ a.1 in
    let c = neither _ _ b.1 in
    small_dim d c.0

few_members : Gives structure type_decl HasFewMembers
unfolding structure type_decl
few_members d h =
    let a = neither _ _ (fields_pass type_fields d h) in
    let b = neither _ _ a.1 in
    needed_list (codes "members") 1 MAX_MEMBERS member member_decl HasSmallDim small_member d b.0

small_tag : Gives tag described_tag IsSmallTag
unfolding tag described_tag
small_tag d h = go (has_field (codes "alias") d) h
  where
    go : (b : Bool) → object (if b then alias_fields else tag_fields) d ≡ None
        → IsSmallMeaning (if b then AliasOf (text_at (codes "alias") d) else OfType (text_at (codes "type") d) (number_at (codes "dim") 0 d))
    go true r = tt
    go false r =
        let a = neither _ _ (fields_pass tag_fields d r) in
        let b = neither _ _ a.1 in
        let c = neither _ _ b.1 in
        small_dim d c.0

-- ---- programs

short_rung : Gives rung text_of IsShortText
short_rung d h = go (as_str d) h
  where
    go : (o : Option (List ℕ)) → text_refusal (λ text. nat_le (length text) MAX_RUNG_BYTES) o ≡ None → IsShortText (unwrap_or o [])
    go None r = absurd (cc r)
    go (Some text) r = leb-true (length text) MAX_RUNG_BYTES (is_so _ _ r)

few_rungs : Gives routine described_routine HasFewRungs
unfolding routine described_routine
few_rungs d h =
    let a = neither _ _ (fields_pass routine_fields d h) in
    let b = neither _ _ a.1 in
    needed_list (codes "rungs") 0 MAX_RUNGS rung text_of IsShortText short_rung d b.0

small_program : Gives program described_program IsSmallProgram
unfolding program described_program
small_program d h =
    let a = neither _ _ (fields_pass program_fields d h) in
    let b = neither _ _ a.1 in
    let c = neither _ _ b.1 in
    let e = neither _ _ c.1 in
    record {
      tags = optional_list (codes "tags") MAX_SCOPE_TAGS tag described_tag IsSmallTag small_tag d c.0;
      routines = needed_list (codes "routines") 1 MAX_ROUTINES routine described_routine HasFewRungs few_rungs d e.0;
    }

-- ---- tasks

groups_pass : (fs gs : List Field) (d : Data) → fields_of (fs ++ gs) d ≡ None → (fields_of fs d ≡ None) × (fields_of gs d ≡ None)
groups_pass fs gs d h = neither (fields_of fs d) (fields_of gs d) (sym (fields_of_groups fs gs d) ∙ h)

-- the priorities of tasks that aren't continuous
between_priorities : HoldsFrom 1 MAX_PRIORITY (λ n. IsTrue (nat_lt 0 n && nat_lt n LEAST_PRIORITY))
between_priorities n least most = and_from (nat_lt 0 n) (nat_lt n LEAST_PRIORITY) (lt-ltb 0 n least) (lt-ltb n LEAST_PRIORITY (omega arith))

proper_priority : (word : TaskWord) (d : Data) → fields_of (priority_fields word) d ≡ None → IsTrue (has_priority (kind_of word d) (priority_of word d))
proper_priority Continuous d h = refl
proper_priority Periodic d h = needed_number (codes "priority") 1 MAX_PRIORITY 0 (λ n. IsTrue (nat_lt 0 n && nat_lt n LEAST_PRIORITY)) between_priorities d (neither _ _ h).0
proper_priority Event d h = needed_number (codes "priority") 1 MAX_PRIORITY 0 (λ n. IsTrue (nat_lt 0 n && nat_lt n LEAST_PRIORITY)) between_priorities d (neither _ _ h).0

proper_period : (word : TaskWord) (d : Data) → fields_of (period_fields word) d ≡ None → IsTrue (has_period (kind_of word d))
proper_period Continuous d h = refl
proper_period Periodic d h = needed_number (codes "period") 1 MAX_PERIOD 0 (λ n. IsTrue (is_within n MAX_PERIOD)) (λ n least most. within_of n MAX_PERIOD least most) d (neither _ _ h).0
proper_period Event d h = refl

small_task : (newest : Bool) → Gives (task newest) (described_task newest) IsSmallTask
unfolding task described_task task_def
small_task newest d h =
    let word = word_at d in
    let last = needed (codes "programs") program_names ∷ [] in
    let marked = inhibited_fields newest ++ last in
    let watchdog = optional (codes "watchdog") (whole 1 MAX_PERIOD) ∷ [] in
    let own = neither (field kind_field d) (object (task_fields newest word) d) (neither (any_object d) _ h).1 in
    let named = neither (field (needed (codes "name") name) d) _ (fields_pass (task_fields newest word) d own.1) in
    let fields = neither (field kind_field d) _ named.1 in
    let a = groups_pass (priority_fields word) (period_fields word ++ (watchdog ++ marked)) d fields.1 in
    let b = groups_pass (period_fields word) (watchdog ++ marked) d a.1 in
    let c = groups_pass watchdog marked d b.1 in
    let e = groups_pass (inhibited_fields newest) last d c.1 in
    let guard = optional_number (codes "watchdog") 1 MAX_PERIOD DEFAULT_WATCHDOG (λ n. IsTrue (is_within n MAX_PERIOD)) refl (λ n least most. within_of n MAX_PERIOD least most) d (neither _ _ c.0).0 in
    record {
      programs = needed_list (codes "programs") 1 MAX_PROGRAMS name text_of (λ name. ⊤) (λ x _. tt) d (neither _ _ e.1).0;
      proper = and_from (has_priority (kind_of word d) (priority_of word d) && has_period (kind_of word d)) (is_within (number_at (codes "watchdog") DEFAULT_WATCHDOG d) MAX_PERIOD)
          (and_from (has_priority (kind_of word d) (priority_of word d)) (has_period (kind_of word d)) (proper_priority word d a.0) (proper_period word d b.0)) guard;
    }

-- ---- the whole

pub shape_within : (d : Data) → shape d ≡ None → IsWithinLimits (described d)
unfolding shape described later_fields connections_field
shape_within d h =
    let newest = is_newest d in
    let a = neither _ _ (fields_pass (top_fields newest) d h) in
    let b = neither _ _ a.1 in
    let types = neither _ _ b.1 in
    let tags = neither _ _ types.1 in
    let programs = neither _ _ tags.1 in
    let tasks = neither _ _ programs.1 in
    let connections = neither _ _ tasks.1 in
    let initial = neither _ _ connections.1 in
    let watch = neither _ _ initial.1 in
    record {
      types = optional_list (codes "types") MAX_TYPES structure type_decl HasFewMembers few_members d types.0;
      tags = optional_list (codes "tags") MAX_SCOPE_TAGS tag described_tag IsSmallTag small_tag d tags.0;
      programs = needed_list (codes "programs") 1 MAX_PROGRAMS program described_program IsSmallProgram small_program d programs.0;
      tasks = needed_list (codes "tasks") 1 MAX_TASKS (task newest) (described_task newest) IsSmallTask (small_task newest) d tasks.0;
      connections = optional_list (codes "connections") MAX_CONNECTIONS connection described_connection (λ c. ⊤) (λ x _. tt) d connections.0;
      initial = optional_list (codes "initial") MAX_INITIAL_VALUES value described_value (λ v. ⊤) (λ x _. tt) d initial.0;
      watch = optional_list (codes "watch") MAX_WATCHES any_text text_of (λ text. ⊤) (λ x _. tt) d watch.0;
    }
