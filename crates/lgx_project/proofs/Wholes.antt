-- A file of the right shape has no number but whole ones of 64 bits.
use Rattle.std.proofs.Common.{◌≡◌, ℕ, ℤ, pos, Bool, true, false, cond, ◌||◌, List, [], ◌∷◌, length, nat_lt, nat_le, Option, Some, None, Ordering, Less, Equal, Greater, refl, sym, ap, ap₂, ◌∙◌, subst, codes}
use Rattle.std.specs.Prelude.{⊤}
use Rattle.std.specs.Cmp.Lexicographic.{slice_cmp}
use Rattle.std.specs.List.{AllByRecursion, list_all}
use Rattle.std.specs.List.Sorted.{IsStrictlySortedBy}
use Rattle.std.specs.Ordering.{nat_cmp, match_ordering, is_eq}
use Rattle.std.specs.Str.{bytes_eq}
use Rattle.std.proofs.lemmas.Bool.{and_parts}
use Rattle.std.proofs.lemmas.Cmp.{nat_list_cmp_total, tied_itself}
use Rattle.std.proofs.lemmas.Map.Text.{is_eq-slice_cmp}
use Rattle.std.proofs.lemmas.Slice.Eq.{bytes_eq-Decides}
use Rattle.serde_json.specs.Data.{Data, null, boolean, number, string, array, object, Items, no_items, item, Members, no_members, member, unsigned, negative, float}
use Rattle.serde_json.specs.Find.{get_member, as_str, as_array}
use Rattle.serde_json.specs.Written.{has_float, items_have_float, members_have_float}
use Rattle.lgx_num.specs.declared.number.Kind.TheVariants.{Dint}
use Rattle.lgx_num.specs.Number.{least, greatest}
use Rattle.lgx_num.specs.Name.{is_name}
use Rattle.spec_base.specs.declared.limits.TheConstants.{MAX_CONNECTIONS, MAX_ELEMENTS, MAX_TASKS}
use Rattle.spec_machine.specs.declared.limits.TheConstants.{MAX_MEMBERS, MAX_PERIOD, MAX_PROGRAMS, MAX_ROUTINES, MAX_RUNGS, MAX_SCOPE_TAGS, MAX_TYPES, MAX_WATCHES}
use Rattle.spec_project.specs.declared.limits.TheConstants.{MAX_INITIAL_VALUES, MAX_PRIORITY, MAX_RUNG_BYTES, NEWEST_SCHEMA}
use Rattle.spec_project.specs.declared.described.TaskWord.{TaskWord}
use Rattle.spec_project.specs.declared.described.TaskWord.TheVariants.{Continuous, Periodic, Event}
use Rattle.spec_project.specs.declared.fault.ProjectCode.TheVariants.{P3, P4, P5, P11}
use Rattle.spec_project.specs.Faults.{or_else, here, refused_if, under, first_from, first_at, at_place}
use Rattle.spec_project.specs.Judges.{Judge, Field, text_refusal, any_text, name, one_of, is_one_of, rung, whole, dint, between, truth, list, listed, value_refusal, field, fields_of, keys, is_field, only_keys, any_object, keys_of, object as object_of}
use Rattle.spec_project.specs.Shape as shapes
use Rattle.spec_valid.proofs.Passes.{neither, not_mapped, is_so, none_placed}
use Rattle.spec_project.specs.Values.{has_field}
use Rattle.lgx_project.proofs.KeyOrder.{AreInOrder, IsOrdered, AreOrdered, MembersOrdered, not_later}

-- ---- what passes

-- each element passes
abbrev pub AllPassed : Judge → List Data → Type 0
AllPassed judge ds = AllByRecursion (λ d. judge d ≡ None) ds

pub all_passed : (judge : Judge) (i : ℕ) (ds : List Data) → first_from (λ i d. at_place i (judge d)) i ds ≡ None → AllPassed judge ds
all_passed judge i ds e = none_placed judge i ds e

-- each field passes
abbrev pub FieldsPass : List Field → Data → Type 0
FieldsPass [] d = ⊤
FieldsPass (f ∷ fs) d = (field f d ≡ None) × FieldsPass fs d

pub fields_pass : (fs : List Field) (d : Data) → fields_of fs d ≡ None → FieldsPass fs d
fields_pass [] d e = tt
fields_pass (f ∷ fs) d e = let parts = neither (field f d) (fields_of fs d) e in (parts.0, fields_pass fs d parts.1)

-- an object whose keys are all known
pub record HasOnly (fields : List (List ℕ)) (d : Data) : Type 0 where
  pub members : Members
  pub is : d ≡ object members
  pub known : list_all (is_field fields) (keys members) ≡ true

pub only_known : (known : List (List ℕ)) (ms : Members) → only_keys known (object ms) ≡ None → list_all (is_field known) (keys ms) ≡ true
unfolding only_keys
only_known known ms e = is_so _ (here P3) e

pub has_only : (known : List (List ℕ)) (d : Data) → only_keys known d ≡ None → HasOnly known d
unfolding only_keys
has_only known null e = absurd (cc)
has_only known (boolean b) e = absurd (cc)
has_only known (number n) e = absurd (cc)
has_only known (string s) e = absurd (cc)
has_only known (array ds) e = absurd (cc)
has_only known (object ms) e = record { members = ms; is = refl; known = only_known known ms e }

-- ---- keys that are the same

pub same_key : (k l : List ℕ) → slice_cmp nat_cmp k l ≡ Equal → k ≡ l
same_key k l is = (bytes_eq-Decides k l).0 (sym (is_eq-slice_cmp k l) ∙ ap is_eq is)

found_first : (k : List ℕ) (d : Data) (ms : Members) → get_member k (member k d ms) ≡ Some d
found_first k d ms = rw (tied_itself nat_list_cmp_total k) refl

ordered_member_at : (o : Ordering) (d e : Data) (rest : Option Data) → (rest ≡ Some e → IsOrdered e) → IsOrdered d → match_ordering o rest (Some d) rest ≡ Some e → IsOrdered e
ordered_member_at Less d e rest later one is = later is
ordered_member_at Equal d e rest later one is = let same : d ≡ e = cc in subst IsOrdered same one
ordered_member_at Greater d e rest later one is = later is

ordered_member : (k : List ℕ) (e : Data) (ms : Members) → MembersOrdered ms → get_member k ms ≡ Some e → IsOrdered e
ordered_member k e no_members all is = absurd (cc)
ordered_member k e (member l d ms) all is = ordered_member_at (slice_cmp nat_cmp k l) d e (get_member k ms) (ordered_member k e ms all.1) all.0 is

-- ---- what has only whole numbers, judge by judge

abbrev IsWhole : Judge → Type 0
IsWhole judge = (d : Data) → IsOrdered d → judge d ≡ None → has_float d ≡ false

abbrev AreWhole : List Field → Type 0
AreWhole [] = ⊤
AreWhole (f ∷ fs) = IsWhole f.judge × AreWhole fs

text_whole : (fits : List ℕ → Bool) → IsWhole (λ d. text_refusal fits (as_str d))
text_whole fits null h e = refl
text_whole fits (boolean b) h e = refl
text_whole fits (number n) h e = absurd (cc)
text_whole fits (string s) h e = refl
text_whole fits (array ds) h e = absurd (cc)
text_whole fits (object ms) h e = absurd (cc)

between_whole : (least most : ℤ) → IsWhole (between least most)
between_whole least most null h e = refl
between_whole least most (boolean b) h e = refl
between_whole least most (number (unsigned n)) h e = refl
between_whole least most (number (negative z)) h e = refl
between_whole least most (number (float x)) h e = absurd (cc)
between_whole least most (string s) h e = refl
between_whole least most (array ds) h e = absurd (cc)
between_whole least most (object ms) h e = absurd (cc)

truth_whole : IsWhole truth
truth_whole null h e = refl
truth_whole (boolean b) h e = refl
truth_whole (number n) h e = absurd (cc)
truth_whole (string s) h e = refl
truth_whole (array ds) h e = absurd (cc)
truth_whole (object ms) h e = absurd (cc)

items_whole : (judge : Judge) → IsWhole judge → (ds : Items) → AreOrdered ds → AllPassed judge (listed ds) → items_have_float ds ≡ false
items_whole judge each no_items h e = refl
items_whole judge each (item d ds) h e = ap₂ (λ a b. a || b) (each d h.0 e.0) (items_whole judge each ds h.1 e.1)

pub list_passed : (least most : ℕ) (judge : Judge) (ds : Items) → list least most judge (array ds) ≡ None → AllPassed judge (listed ds)
unfolding list
list_passed least most judge ds e =
    let n = length (listed ds) in
    let inside = neither (refused_if (nat_lt n least) (here P5)) (or_else (refused_if (nat_lt most n) (here P11)) (first_at judge (listed ds))) e in
    all_passed judge 0 (listed ds) (neither (refused_if (nat_lt most n) (here P11)) (first_at judge (listed ds)) inside.1).1

no_list : {P : Type 0} (least most : ℕ) (judge : Judge) (d : Data) → as_array d ≡ None → list least most judge d ≡ None → P
unfolding list
no_list least most judge d other e = let refused : Some (here P4) ≡ None = rw other at e in absurd (cc)

list_whole : (least most : ℕ) (judge : Judge) → IsWhole judge → IsWhole (list least most judge)
list_whole least most judge each null h e = refl
list_whole least most judge each (boolean b) h e = refl
list_whole least most judge each (number n) h e = no_list least most judge (number n) refl e
list_whole least most judge each (string s) h e = refl
list_whole least most judge each (array ds) h e = items_whole judge each ds h (list_passed least most judge ds e)
list_whole least most judge each (object ms) h e = no_list least most judge (object ms) refl e

-- ---- objects

-- what stands in these fields
abbrev Fit : List Field → Members → Type 0
Fit [] ms = ⊤
Fit (f ∷ fs) ms = ((e : Data) → get_member f.key ms ≡ Some e → has_float e ≡ false) × Fit fs ms

field_fits : (f : Field) (ms : Members) (e : Data) → field f (object ms) ≡ None → get_member f.key ms ≡ Some e → f.judge e ≡ None
unfolding field
field_fits f ms e passes is = ap (value_refusal f) (sym is) ∙ not_mapped (under f.key) (value_refusal f (get_member f.key ms)) passes

fields_fit : (fs : List Field) (ms : Members) → AreWhole fs → MembersOrdered ms → FieldsPass fs (object ms) → Fit fs ms
fields_fit [] ms each h passes = tt
fields_fit (f ∷ fs) ms each h passes =
    (λ e is. each.0 e (ordered_member f.key e ms h is) (field_fits f ms e passes.0 is), fields_fit fs ms each.1 h passes.1)

not_first_at : (o : Ordering) (k l : List ℕ) (d e : Data) (ms : Members) → slice_cmp nat_cmp k l ≡ o → get_member l ms ≡ None → get_member k ms ≡ Some e
    → match_ordering o (get_member k ms) (Some d) (get_member k ms) ≡ Some e
not_first_at Less k l d e ms is none found = found
not_first_at Equal k l d e ms is none found = let same : k ≡ l = same_key k l is in absurd (cc)
not_first_at Greater k l d e ms is none found = found

later_fit : (fs : List Field) (l : List ℕ) (d : Data) (ms : Members) → get_member l ms ≡ None → Fit fs (member l d ms) → Fit fs ms
later_fit [] l d ms none fits = tt
later_fit (f ∷ fs) l d ms none fits =
    (λ e found. fits.0 e (not_first_at (slice_cmp nat_cmp f.key l) f.key l d e ms refl none found), later_fit fs l d ms none fits.1)

known_fits : (fs : List Field) (ms : Members) (l : List ℕ) (e : Data) → Fit fs ms → is_field (keys_of fs) l ≡ true → get_member l ms ≡ Some e → has_float e ≡ false
known_fits [] ms l e fits known is = absurd (cc)
known_fits (f ∷ fs) ms l e fits known is = by_key (bytes_eq l f.key) refl (λ rest. known_fits fs ms l e fits.1 rest is)
  where
    by_key : (b : Bool) → bytes_eq l f.key ≡ b → (is_field (keys_of fs) l ≡ true → has_float e ≡ false) → has_float e ≡ false
    by_key true same later = fits.0 e (ap (λ k. get_member k ms) (sym ((bytes_eq-Decides l f.key).0 same)) ∙ is)
    by_key false other later = later (ap (λ b. b || is_field (keys_of fs) l) (sym other) ∙ known)

members_whole : (fs : List Field) (ms : Members) → AreInOrder ms → Fit fs ms → list_all (is_field (keys_of fs)) (keys ms) ≡ true → members_have_float ms ≡ false
unfolding IsStrictlySortedBy
members_whole fs no_members h fits known = refl
members_whole fs (member l d ms) h fits known =
    let parts = and_parts _ _ known in
    ap₂ (λ a b. a || b) (known_fits fs (member l d ms) l d fits parts.0 (found_first l d ms))
    (members_whole fs ms h.1 (later_fit fs l d ms (not_later l ms h.0) fits) parts.1)

object_whole : (fs : List Field) → AreWhole fs → IsWhole (object_of fs)
object_whole fs each d h e =
    let parts = neither (only_keys (keys_of fs) d) (fields_of fs d) e in
    let own = has_only (keys_of fs) d parts.0 in
    let ordered : IsOrdered (object own.members) = subst IsOrdered own.is h in
    let passes : FieldsPass fs (object own.members) = subst (FieldsPass fs) own.is (fields_pass fs d parts.1) in
    ap has_float own.is ∙ members_whole fs own.members ordered.0 (fields_fit fs own.members each ordered.1 passes) own.known

-- ---- the table

any_text_whole : IsWhole any_text
any_text_whole = text_whole (λ _. true)

name_whole : IsWhole name
name_whole = text_whole is_name

word_whole : (words : List (List ℕ)) → IsWhole (one_of words)
word_whole words = text_whole (is_one_of words)

rung_whole : IsWhole rung
rung_whole = text_whole (λ text. nat_le (length text) MAX_RUNG_BYTES)

number_whole : (least most : ℕ) → IsWhole (whole least most)
number_whole least most = between_whole (pos least) (pos most)

dint_whole : IsWhole dint
dint_whole = between_whole (least Dint) (greatest Dint)

member_whole : IsWhole shapes.member
unfolding shapes.member
member_whole = object_whole shapes.member_fields (name_whole, (name_whole, (number_whole 1 MAX_ELEMENTS, tt)))

members_are_whole : IsWhole shapes.members
members_are_whole = list_whole 1 MAX_MEMBERS shapes.member member_whole

structure_whole : IsWhole shapes.structure
unfolding shapes.structure
structure_whole = object_whole shapes.type_fields (name_whole, (members_are_whole, tt))

tag_fields_whole : (b : Bool) → AreWhole (cond b shapes.alias_fields shapes.tag_fields)
tag_fields_whole true = (any_text_whole, (any_text_whole, tt))
tag_fields_whole false = (any_text_whole, (name_whole, (number_whole 1 MAX_ELEMENTS, tt)))

tag_whole : IsWhole shapes.tag
unfolding shapes.tag
tag_whole d h e =
    let alias = has_field (codes "alias") d in
    object_whole (cond alias shapes.alias_fields shapes.tag_fields) (tag_fields_whole alias) d h e

tags_whole : IsWhole shapes.tags
tags_whole = list_whole 0 MAX_SCOPE_TAGS shapes.tag tag_whole

rungs_whole : IsWhole shapes.rungs
rungs_whole = list_whole 0 MAX_RUNGS rung rung_whole

routine_whole : IsWhole shapes.routine
unfolding shapes.routine
routine_whole = object_whole shapes.routine_fields (name_whole, (rungs_whole, tt))

routines_whole : IsWhole shapes.routines
routines_whole = list_whole 1 MAX_ROUTINES shapes.routine routine_whole

program_whole : IsWhole shapes.program
unfolding shapes.program
program_whole = object_whole shapes.program_fields (name_whole, (name_whole, (tags_whole, (routines_whole, tt))))

program_names_whole : IsWhole shapes.program_names
program_names_whole = list_whole 1 MAX_PROGRAMS name name_whole

task_fields_whole : (newest : Bool) (w : TaskWord) → AreWhole (shapes.task_fields newest w)
unfolding shapes.inhibited_field
task_fields_whole true Continuous = (name_whole, (word_whole shapes.words, (number_whole 1 MAX_PERIOD, (truth_whole, (program_names_whole, tt)))))
task_fields_whole true Periodic = (name_whole, (word_whole shapes.words, (number_whole 1 MAX_PRIORITY, (number_whole 1 MAX_PERIOD, (number_whole 1 MAX_PERIOD, (truth_whole, (program_names_whole, tt)))))))
task_fields_whole true Event = (name_whole, (word_whole shapes.words, (number_whole 1 MAX_PRIORITY, (number_whole 1 MAX_PERIOD, (truth_whole, (program_names_whole, tt))))))
task_fields_whole false Continuous = (name_whole, (word_whole shapes.words, (number_whole 1 MAX_PERIOD, (program_names_whole, tt))))
task_fields_whole false Periodic = (name_whole, (word_whole shapes.words, (number_whole 1 MAX_PRIORITY, (number_whole 1 MAX_PERIOD, (number_whole 1 MAX_PERIOD, (program_names_whole, tt))))))
task_fields_whole false Event = (name_whole, (word_whole shapes.words, (number_whole 1 MAX_PRIORITY, (number_whole 1 MAX_PERIOD, (program_names_whole, tt)))))

task_whole : (newest : Bool) → IsWhole (shapes.task newest)
unfolding shapes.task
task_whole newest d h e =
    let fields = shapes.task_fields newest (shapes.word_at d) in
    let after_kind = (neither (any_object d) (or_else (field shapes.kind_field d) (object_of fields d)) e).1 in
    object_whole fields (task_fields_whole newest (shapes.word_at d)) d h (neither (field shapes.kind_field d) (object_of fields d) after_kind).1

tasks_whole : (newest : Bool) → IsWhole (shapes.tasks newest)
tasks_whole newest = list_whole 1 MAX_TASKS (shapes.task newest) (task_whole newest)

connection_whole : IsWhole shapes.connection
unfolding shapes.connection shapes.direction_field
connection_whole = object_whole shapes.connection_fields (name_whole, (any_text_whole, (word_whole shapes.directions, (name_whole, tt))))

connections_whole : IsWhole shapes.connections
connections_whole = list_whole 0 MAX_CONNECTIONS shapes.connection connection_whole

value_whole : IsWhole shapes.value
unfolding shapes.value
value_whole = object_whole shapes.value_fields (any_text_whole, (dint_whole, tt))

values_whole : IsWhole shapes.values
values_whole = list_whole 0 MAX_INITIAL_VALUES shapes.value value_whole

watches_whole : IsWhole shapes.watches
watches_whole = list_whole 0 MAX_WATCHES any_text any_text_whole

types_whole : IsWhole shapes.types
types_whole = list_whole 0 MAX_TYPES shapes.structure structure_whole

programs_whole : IsWhole shapes.programs
programs_whole = list_whole 1 MAX_PROGRAMS shapes.program program_whole

top_fields_whole : (newest : Bool) → AreWhole (shapes.top_fields newest)
unfolding shapes.controller_field shapes.later_fields shapes.connections_field
top_fields_whole newest = (
  number_whole 1 NEWEST_SCHEMA,
  (
    name_whole,
    (
      types_whole,
      (
        tags_whole,
        (
          programs_whole,
          (tasks_whole newest, (connections_whole, (values_whole, (watches_whole, tt)))),
        ),
      ),
    ),
  ),
)

pub has_no_float : (d : Data) → IsOrdered d → shapes.shape d ≡ None → has_float d ≡ false
unfolding shapes.shape
has_no_float d h e =
    let fields = shapes.top_fields (shapes.is_newest d) in
    object_whole fields (top_fields_whole (shapes.is_newest d)) d h e
