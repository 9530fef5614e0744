-- What connections, initial values and watched texts name, and what of them is refused.
use Rattle.std.specs.Prelude.{ℕ, ◌*◌, ◌/◌, ◌==◌, ◌&&◌, ◌||◌, not, nat_le, nat_lt, Bool, true, false, List, drop, fold, replicate, position, Option, Some, None, Result, Ok, Err, option_and_then, option_map, is_none, if◌then◌else◌, codes}
use Rattle.std.specs.List.{list_any, starts_with, before_first, after_first}
use Rattle.std.specs.Prelude.{nat_eq, length}
use Rattle.spec_base.specs.declared.limits.TheConstants.{MAX_CONNECTION_WORDS}
use Rattle.lgx_num.specs.Name.{is_name, same}
use Rattle.lgx_num.specs.Number.{fits}
use Rattle.lgx_num.specs.Image.{write}
use Rattle.lgx_num.specs.declared.place.Place.{Place}
use Rattle.spec_language.specs.declared.types.Base.{Base}
use Rattle.spec_language.specs.declared.types.Base.TheVariants.{Bool as OneBit, Sint, Int, Dint, Timer, Counter, User}
use Rattle.spec_language.specs.declared.types.DataType.{DataType}
use Rattle.spec_language.specs.declared.tag.Scope.TheVariants.{Controller, Program}
use Rattle.spec_language.specs.declared.tag.TagCode.{TagCode}
use Rattle.spec_language.specs.declared.tag.TagCode.TheVariants.{G3}
use Rattle.spec_language.specs.declared.tag.Found.{Found}
use Rattle.spec_language.specs.Layout.{size_of}
use Rattle.spec_language.specs.Declarations.{Meaning, tag, alias, Entry, Declarations, bytes, laid, same_scope}
use Rattle.spec_language.specs.Resolution.{is_array, integer_bits, kind_of, found_fixed}
use Rattle.spec_tables.specs.declared.conn.ConnDef.{ConnDef}
use Rattle.spec_machine.specs.Project.{Watch}
use Rattle.spec_machine.specs.ValidProject.{is_event}
use Rattle.spec_project.specs.declared.fault.Inner.TheVariants.{OfTag}
use Rattle.spec_project.specs.declared.fault.ProjectFault.{ProjectFault}
use Rattle.spec_project.specs.declared.fault.ProjectCode.TheVariants.{P5, P9}
use Rattle.spec_project.specs.declared.described.Described.{Described}
use Rattle.spec_project.specs.declared.described.DescribedConnection.{DescribedConnection}
use Rattle.spec_project.specs.declared.described.DescribedValue.{DescribedValue}
use Rattle.spec_project.specs.Faults.{or_else, here, here_for, in_field, refused_if, first_at}
use Rattle.spec_project.specs.Tags.{declarations}
use Rattle.spec_project.specs.Schedules.{program_named}

-- P9: the text names nothing; and else what is refused of what it names
abbrev pub found_refusal : (Found → Option ProjectFault) → Result Found TagCode → Option ProjectFault
found_refusal judge (Err code) = Some (here_for P9 (OfTag code))
found_refusal judge (Ok f) = judge f

-- ---- connections

abbrev pub same_base : Base → Base → Bool
same_base OneBit OneBit = true
same_base Sint Sint = true
same_base Int Int = true
same_base Dint Dint = true
same_base Timer Timer = true
same_base Counter Counter = true
same_base (User i) (User j) = i == j
same_base _ _ = false

abbrev pub same_type : DataType → DataType → Bool
same_type t u = same_base t.base u.base && t.dim == u.dim

abbrev pub is_of_type : Meaning → DataType → Bool
is_of_type (tag of) t = same_type of t
is_of_type (alias target) t = false

-- it is the whole of a controller tag: it begins where the tag does, and has its type
abbrev pub is_controller_tag : Found → ℕ × Entry → Bool
is_controller_tag f (at, e) = same_scope e.scope Controller && 8 * at == f.at && is_of_type e.meaning f.of

abbrev pub is_whole_tag : Declarations → Found → Bool
is_whole_tag d f = list_any (is_controller_tag f) (laid d)

-- a DINT, an array of DINTs, or a structure
abbrev pub may_connect : DataType → Bool
may_connect t = elim t.base [ Dint ↦ true | User i ↦ t.dim == 0 | _ ↦ false ]

-- it has no more words than a connection may have
abbrev pub is_short : Declarations → DataType → Bool
is_short d t = nat_le (size_of d.types t) (4 * MAX_CONNECTION_WORDS)

-- P5: it isn't what a connection may be of
abbrev pub connected_refusal : Declarations → Found → Option ProjectFault
connected_refusal d f = refused_if (not (is_whole_tag d f && may_connect f.of && is_short d f.of)) (here P5)

-- the number of the event task of a name
abbrev pub event_named : Described → List ℕ → Option ℕ
event_named p name = position (λ t. same t.name name && is_event t.def.kind) p.tasks

-- P5: no event task has the name, or the connection is an output
abbrev pub trigger_refusal : Described → DescribedConnection → Option (List ℕ) → Option ProjectFault
trigger_refusal p c None = None
trigger_refusal p c (Some name) = refused_if (c.output || is_none (event_named p name)) (here P5)

abbrev pub connection_fault : Described → DescribedConnection → Option ProjectFault
connection_fault p c =
    or_else (in_field (codes "tag") (found_refusal (connected_refusal (declarations p)) (found_fixed (declarations p) Controller c.tag)))
    (in_field (codes "trigger") (trigger_refusal p c c.trigger))

unfoldable pub connections_fault : Described → Option ProjectFault
connections_fault p = in_field (codes "connections") (first_at (connection_fault p) p.connections)

-- ---- texts with a scope

abbrev pub prefix : List ℕ
prefix = codes "Program:"

-- the prefix, and a dot after it
abbrev pub is_prefixed : List ℕ → Bool
is_prefixed text = starts_with nat_eq text prefix && list_any (λ c. c == 46) (drop (length prefix) text)

abbrev pub scope_name : List ℕ → List ℕ
scope_name text = before_first (λ c. c == 46) (drop (length prefix) text)

-- a text with the prefix, a name and a dot is seen from the program of this name; what is there otherwise is no scope
abbrev pub has_scope : List ℕ → Bool
has_scope text = is_prefixed text && is_name (scope_name text)

abbrev pub scope_rest : List ℕ → List ℕ
scope_rest text = after_first (λ c. c == 46) (drop (length prefix) text)

-- G3: there is no such program
abbrev pub found_in : Described → List ℕ → Result Found TagCode
found_in p text = if has_scope text then in_program (program_named p (scope_name text)) else found_fixed (declarations p) Controller text
  where
    in_program : Option ℕ → Result Found TagCode
    in_program None = Err G3
    in_program (Some n) = found_fixed (declarations p) (Program n) (scope_rest text)

-- ---- initial values and watched places

-- a BOOL, a bit or an integer
abbrev pub is_one_value : DataType → Bool
is_one_value t = not (is_array t) && (same_base t.base OneBit || nat_lt 0 (integer_bits t.base))

-- P5: it is no single value
abbrev pub initial_refusal : Found → Option ProjectFault
initial_refusal f = refused_if (not (is_one_value f.of)) (here P5)

abbrev pub place_fault : Described → List ℕ → Option ProjectFault
place_fault p text = found_refusal initial_refusal (found_in p text)

abbrev pub place_of : Found → Place
place_of f = record { kind = kind_of f.of.base; at = f.at }

-- the place that a text names; none if it is refused
abbrev pub place_named : Described → List ℕ → Option Place
place_named p text = elim (found_in p text) [ Ok f ↦ Some (place_of f) | Err code ↦ None ]

abbrev pub fits_at : Described → DescribedValue → Bool
fits_at p v = elim (place_named p v.tag) [ Some place ↦ fits place.kind v.value | None ↦ true ]

-- P9, P5 of its place; and then P5: the value doesn't fit there
abbrev pub initial_fault : Described → DescribedValue → Option ProjectFault
initial_fault p v =
    or_else (in_field (codes "tag") (place_fault p v.tag)) (in_field (codes "value") (refused_if (not (fits_at p v)) (here P5)))

unfoldable pub places_fault : Described → Option ProjectFault
places_fault p =
    or_else (in_field (codes "initial") (first_at (initial_fault p) p.initial))
    (in_field (codes "watch") (first_at (place_fault p) p.watch))

-- ---- what is made of them

abbrev pub connection_of : Described → DescribedConnection → ConnDef
connection_of p c =
    elim (found_fixed (declarations p) Controller c.tag) [
      | Ok f ↦ record { name = c.name; output = c.output; byte = f.at / 8; words = size_of (declarations p).types f.of / 4; trigger = option_and_then (event_named p) c.trigger }
      | Err code ↦ record { name = c.name; output = c.output; byte = 0; words = 0; trigger = None }
    ]

abbrev pub watch_of : Described → List ℕ → Option Watch
watch_of p text = option_map (λ place. record { text = text; place = place }) (place_named p text)

-- an initial value put into the image
abbrev pub with_value : Described → List ℕ → DescribedValue → List ℕ
with_value p image v = elim (place_named p v.tag) [ Some place ↦ write image place v.value | None ↦ image ]

-- all bytes are 0 before the initial values, which are put in their order
abbrev pub image_of : Described → List ℕ
image_of p = fold (with_value p) (replicate (bytes (declarations p)) 0) p.initial
