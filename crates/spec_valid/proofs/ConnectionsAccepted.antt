-- Connections of which none is refused.
use Rattle.std.specs.Prelude.{◌≡◌, ℕ, suc, zero, ◌+◌, ◌*◌, ◌/◌, ◌%◌, ◌<◌, ◌≤◌, nat_lt, nat_le, Bool, false, not, ◌&&◌, ◌==◌, List, [], ◌∷◌, length, map, slice_index, slice_index_or, Option, Some, None, is_none, option_and_then, Result, Ok, Err, IsTrue, refl}
use Rattle.std.specs.List.{AllByRecursion as Each, list_all, list_any}
use Rattle.std.proofs.Common.{ap, sym, subst, ◌∙◌, arith, eq-eqb, eqb-true, leb-true, inl, inr}
use Rattle.std.proofs.lemmas.Bool.{and_from, and_parts, le-leb, lt-ltb, not_from_false, or_cases, or_left, or_parts, or_right}
use Rattle.std.proofs.lemmas.List.{get_or-map, length-map}
use Rattle.std.proofs.lemmas.List.Quantifiers.{position-Some}
use Rattle.lgx_num.specs.Name.{same}
use Rattle.spec_valid.proofs.Parts.{structure_words}
use Rattle.spec_base.specs.declared.limits.TheConstants.{MAX_CONNECTION_WORDS, MAX_IMAGE_BYTES}
use Rattle.spec_language.specs.Declarations.{Entry, Meaning, alias, bytes, entry_size, laid, same_scope}
use Rattle.spec_language.specs.Declarations.{tag as is_tag}
use Rattle.spec_language.specs.Layout.{size_of, sizes}
use Rattle.spec_language.specs.LayoutLaws.{HasBytes}
use Rattle.spec_language.specs.Resolution.{found_fixed}
use Rattle.spec_language.specs.ResolutionLaws.{EndsBy, Sound}
use Rattle.spec_language.specs.declared.tag.Found.{Found}
use Rattle.spec_language.specs.declared.tag.Scope.TheVariants.{Controller}
use Rattle.spec_language.specs.declared.tag.TagCode.{TagCode}
use Rattle.spec_language.specs.declared.types.Base.{Base}
use Rattle.spec_language.specs.declared.types.Base.TheVariants.{Bool as OneBit, Sint, Int, Dint, Timer, Counter, User}
use Rattle.spec_language.specs.declared.types.DataType.{DataType}
use Rattle.spec_language.specs.declared.types.TypeDecl.{TypeDecl}
use Rattle.spec_machine.specs.ValidProject.{has_known_trigger, is_event, is_event_task, is_of_one_tag, is_small_connection, is_tag_of, is_within}
use Rattle.spec_project.specs.Places.{connected_refusal, connection_fault, connection_of, event_named, found_refusal, is_controller_tag, is_of_type, is_short, is_whole_tag, may_connect, same_base, trigger_refusal}
use Rattle.spec_project.specs.Tags.{declarations}
use Rattle.spec_project.specs.declared.described.Described.{Described}
use Rattle.spec_project.specs.declared.described.DescribedConnection.{DescribedConnection}
use Rattle.spec_project.specs.declared.described.DescribedTask.{DescribedTask}
use Rattle.spec_tables.specs.Tasks.{no_task}
use Rattle.spec_tables.specs.declared.conn.ConnDef.{ConnDef}
use Rattle.spec_tables.specs.declared.task.TaskDef.{TaskDef}
use Rattle.spec_valid.proofs.FoundAccepted.{lies_alone}
use Rattle.spec_valid.proofs.Lists.{all_made}
use Rattle.spec_valid.proofs.Passes.{is_so, neither, not_mapped, not_so}
use Rattle.spec_valid.proofs.TypesAccepted.{within_of}

-- ---- what a connection is of

-- its text names the whole of a controller tag, which may be connected
pub record IsConnected (p : Described) (c : DescribedConnection) : Type 0 where
  pub found : Found
  pub is : found_fixed (declarations p) Controller c.tag ≡ Ok found
  pub whole : IsTrue (is_whole_tag (declarations p) found)
  pub may : IsTrue (may_connect found.of)
  pub short : IsTrue (is_short (declarations p) found.of)
  pub trigger : trigger_refusal p c c.trigger ≡ None

pub connected : (p : Described) (c : DescribedConnection) → connection_fault p c ≡ None → IsConnected p c
connected p c h =
    let a = neither _ _ h in
    go (found_fixed (declarations p) Controller c.tag) refl (not_mapped _ _ a.0) (not_mapped _ _ a.1)
  where
    go : (r : Result Found TagCode) → found_fixed (declarations p) Controller c.tag ≡ r
        → found_refusal (connected_refusal (declarations p)) r ≡ None → trigger_refusal p c c.trigger ≡ None → IsConnected p c
    go (Err code) e s t = absurd (cc s)
    go (Ok f) e s t =
        let d = declarations p in
        let both = and_parts (is_whole_tag d f && may_connect f.of) (is_short d f.of) (is_so _ _ s) in
        let parts = and_parts (is_whole_tag d f) (may_connect f.of) both.0 in
        record { found = f; is = e; whole = parts.0; may = parts.1; short = both.1; trigger = t }

-- ---- its words

-- a DINT, an array of DINTs and a structure are whole words, and fill all their bits
abbrev FillsWords : List TypeDecl → DataType → Type 0
FillsWords types t = (4 * (size_of types t / 4) ≡ size_of types t) × (0 < size_of types t) × ((stop at : ℕ) → EndsBy types t stop at → at + 8 * size_of types t ≤ 8 * stop)

fills_words : (types : List TypeDecl) (base : Base) (dim : ℕ) → IsTrue (may_connect (record { base = base; dim = dim }))
    → HasBytes types (record { base = base; dim = dim }) → FillsWords types (record { base = base; dim = dim })
fills_words types Dint zero may some = (omega arith, omega arith, λ stop at e. omega (arith, e.1))
fills_words types Dint (suc n) may some = (omega arith, omega arith, λ stop at e. omega (arith, e.1))
fills_words types (User i) dim may some =
    let one : dim ≡ 0 = eqb-true dim 0 may in
    let words : slice_index (sizes types) i % 4 ≡ 0 = structure_words types i in
    subst (λ (n : ℕ). FillsWords types (record { base = User i; dim = n })) (sym one) (omega arith, some, λ stop at e. omega (arith, e.1))
fills_words types _ dim may some = absurd (cc may)

-- ---- the tag

same_base_is : (a b : Base) → IsTrue (same_base a b) → a ≡ b
same_base_is OneBit OneBit h = refl
same_base_is Sint Sint h = refl
same_base_is Int Int h = refl
same_base_is Dint Dint h = refl
same_base_is Timer Timer h = refl
same_base_is Counter Counter h = refl
same_base_is (User i) (User j) h = ap User (eqb-true i j h)
same_base_is _ _ h = absurd (cc h)

size_of_type : (types : List TypeDecl) (e : Entry) (m : Meaning) (t : DataType) → IsTrue (is_of_type m t)
    → entry_size types (record e { meaning = m }) ≡ size_of types t
size_of_type types e (alias target) t h = absurd (cc h)
size_of_type types e (is_tag of) t h =
    let parts = and_parts (same_base of.base t.base) (of.dim == t.dim) h in
    let bases = same_base_is of.base t.base parts.0 in
    let dims = eqb-true of.dim t.dim parts.1 in
    ap (λ b. size_of types (record { base = b; dim = of.dim })) bases ∙ ap (λ n. size_of types (record { base = t.base; dim = n })) dims

any_more : {A : Type 0} (test other : A → Bool) (xs : List A) → ((x : A) → IsTrue (test x) → IsTrue (other x))
    → IsTrue (list_any test xs) → IsTrue (list_any other xs)
any_more test other [] f h = absurd (cc h)
any_more test other (x ∷ xs) f h = elim (or_cases (test x) (list_any test xs) h) [
  | inl q ↦ or_left (other x) (list_any other xs) (f x q)
  | inr q ↦ or_right (other x) (list_any other xs) (any_more test other xs f q)
]

-- the connection of what was found
abbrev conn_of : Described → DescribedConnection → Found → ConnDef
conn_of p c f = record { name = c.name; output = c.output; byte = f.at / 8; words = size_of (declarations p).types f.of / 4; trigger = option_and_then (event_named p) c.trigger }

conn_is : (p : Described) (c : DescribedConnection) (f : Found) → found_fixed (declarations p) Controller c.tag ≡ Ok f
    → conn_of p c f ≡ connection_of p c
conn_is p c f e = rw (e, connection_of) refl

tag_of : (p : Described) (c : DescribedConnection) (f : Found) → FillsWords p.types f.of → (x : ℕ × Entry)
    → IsTrue (is_controller_tag f x) → IsTrue (is_tag_of p.types (conn_of p c f) x)
tag_of p c f fills x h =
    let both = and_parts (same_scope x.1.scope Controller && 8 * x.0 == f.at) (is_of_type x.1.meaning f.of) h in
    let parts = and_parts (same_scope x.1.scope Controller) (8 * x.0 == f.at) both.0 in
    let at : 8 * x.0 ≡ f.at = eqb-true (8 * x.0) f.at parts.1 in
    let begins : x.0 ≡ f.at / 8 = omega arith in
    let size : entry_size p.types x.1 ≡ size_of p.types f.of = size_of_type p.types x.1 x.1.meaning f.of both.1 in
    and_from (same_scope x.1.scope Controller && x.0 == f.at / 8) (entry_size p.types x.1 == 4 * (size_of p.types f.of / 4))
    (and_from (same_scope x.1.scope Controller) (x.0 == f.at / 8) parts.0 (eq-eqb x.0 (f.at / 8) begins))
    (eq-eqb (entry_size p.types x.1) (4 * (size_of p.types f.of / 4)) (size ∙ sym fills.0))

-- ---- one connection

abbrev IsConnectionOf : Described → ConnDef → Type 0
IsConnectionOf p c = IsTrue (is_of_one_tag (declarations p) c) × IsTrue (is_small_connection c)

connection_valid : (p : Described) → Sound (declarations p) → bytes (declarations p) ≤ MAX_IMAGE_BYTES
    → (c : DescribedConnection) → IsConnected p c → IsConnectionOf p (connection_of p c)
connection_valid p sound few c h =
    let d = declarations p in
    let f : Found = h.found in
    let size = size_of p.types f.of in
    let lies = lies_alone d Controller c.tag f sound h.is in
    let fills : FillsWords p.types f.of = fills_words p.types f.of.base f.of.dim h.may lies.0.filled in
    let ends : f.at + 8 * size ≤ 8 * f.stop = fills.2 f.stop f.at lies.1 in
    let stop = lies.0.stop in
    let short : size ≤ 4 * MAX_CONNECTION_WORDS = leb-true size (4 * MAX_CONNECTION_WORDS) h.short in
    let whole = fills.0 in
    let some = fills.1 in
    let one : IsTrue (is_of_one_tag d (conn_of p c f)) =
    and_from (nat_lt 0 (size / 4)) (list_any (is_tag_of p.types (conn_of p c f)) (laid d)) (lt-ltb 0 (size / 4) (omega arith))
    (any_more (is_controller_tag f) (is_tag_of p.types (conn_of p c f)) (laid d) (tag_of p c f fills) h.whole) in
    let small : IsTrue (is_small_connection (conn_of p c f)) =
    and_from (is_within (size / 4) MAX_CONNECTION_WORDS) (nat_le (f.at / 8 + 4 * (size / 4)) MAX_IMAGE_BYTES) (within_of (size / 4) MAX_CONNECTION_WORDS (omega arith) (omega arith))
    (le-leb (f.at / 8 + 4 * (size / 4)) MAX_IMAGE_BYTES (omega arith)) in
    subst (IsConnectionOf p) (conn_is p c f h.is) (one, small)

pub connections_of_tags : (p : Described) → Sound (declarations p) → bytes (declarations p) ≤ MAX_IMAGE_BYTES
    → Each (IsConnected p) p.connections
    → IsTrue (list_all (is_of_one_tag (declarations p)) (map (connection_of p) p.connections))
connections_of_tags p sound few h = all_made (IsConnected p) (connection_of p) (is_of_one_tag (declarations p)) p.connections (λ c is. (connection_valid p sound few c is).0) h

pub small_connections : (p : Described) → Sound (declarations p) → bytes (declarations p) ≤ MAX_IMAGE_BYTES
    → Each (IsConnected p) p.connections → IsTrue (list_all is_small_connection (map (connection_of p) p.connections))
small_connections p sound few h = all_made (IsConnected p) (connection_of p) is_small_connection p.connections (λ c is. (connection_valid p sound few c is).1) h

-- ---- triggers

abbrev no_described : DescribedTask
no_described = record { name = []; def = no_task; programs = [] }

event_is : (p : Described) (name : List ℕ) (t : ℕ) → event_named p name ≡ Some t
    → IsTrue (is_event_task (map (λ t. t.def) p.tasks) t)
event_is p name t e =
    let is = position-Some (λ t. same t.name name && is_event t.def.kind) p.tasks t no_described e in
    let below : t < length (map (λ t. t.def) p.tasks) = omega (arith, is.0, length-map p.tasks (λ t. t.def)) in
    let event = (and_parts (same (slice_index_or p.tasks t no_described).name name) (is_event (slice_index_or p.tasks t no_described).def.kind) is.1).1 in
    and_from (nat_lt t (length (map (λ t. t.def) p.tasks))) (is_event (slice_index_or (map (λ t. t.def) p.tasks) t no_task).kind) (lt-ltb t (length (map (λ t. t.def) p.tasks)) below)
    (subst (λ (d : TaskDef). IsTrue (is_event d.kind)) (sym (get_or-map (λ t. t.def) p.tasks t no_described no_task is.0)) event)

known_trigger : (p : Described) (c : DescribedConnection) (f : Found) → trigger_refusal p c c.trigger ≡ None
    → IsTrue (has_known_trigger (map (λ t. t.def) p.tasks) (conn_of p c f))
known_trigger p c f h = go c.trigger h
  where
    named : (name : List ℕ) (o : Option ℕ) → event_named p name ≡ o → c.output ≡ false → is_none o ≡ false
        → IsTrue (has_known_trigger (map (λ t. t.def) p.tasks) (record (conn_of p c f) { trigger = o }))
    named name None e q r = refl
    named name (Some t) e q r = and_from (not c.output) (is_event_task (map (λ t. t.def) p.tasks) t) (not_from_false c.output q) (event_is p name t e)

    go : (o : Option (List ℕ)) → trigger_refusal p c o ≡ None
        → IsTrue (has_known_trigger (map (λ t. t.def) p.tasks) (record (conn_of p c f) { trigger = option_and_then (event_named p) o }))
    go None q = refl
    go (Some name) q =
        let neither = or_parts c.output (is_none (event_named p name)) (not_so _ _ q) in
        named name (event_named p name) refl neither.0 neither.1

pub known_triggers : (p : Described) → Each (IsConnected p) p.connections
    → IsTrue (list_all (has_known_trigger (map (λ t. t.def) p.tasks)) (map (connection_of p) p.connections))
known_triggers p h = all_made (IsConnected p) (connection_of p) (has_known_trigger (map (λ t. t.def) p.tasks)) p.connections (λ c is. subst (λ (d : ConnDef). IsTrue (has_known_trigger (map (λ t. t.def) p.tasks) d)) (conn_is p c is.found is.is) (known_trigger p c is.found is.trigger)) h
