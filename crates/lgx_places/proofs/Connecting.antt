-- What is refused of a connection, and what it is.
use Rattle.std.proofs.Common.{◌≡◌, ℕ, ◌/◌, List, codes, Option, None, Result, Ok, Err, ap, sym, subst, ◌∙◌}
use Rattle.std.specs.Prelude.{option_and_then}
use Rattle.spec_base.specs.Causes.{IsFaultOf}
use Rattle.spec_language.specs.declared.types.DataType.{DataType}
use Rattle.spec_language.specs.declared.tag.Found.{Found}
use Rattle.spec_language.specs.declared.tag.TagCode.{TagCode}
use Rattle.spec_language.specs.declared.tag.Scope.TheVariants.{Controller}
use Rattle.spec_language.specs.Layout.{size_of}
use Rattle.spec_language.specs.Resolution.{found_fixed}
use Rattle.spec_tables.specs.declared.conn.ConnDef.{ConnDef}
use Rattle.spec_project.specs.declared.described.Described.{Described}
use Rattle.spec_project.specs.declared.described.DescribedConnection.{DescribedConnection}
use Rattle.spec_project.specs.declared.fault.ProjectFault.{ProjectFault}
use Rattle.spec_project.specs.Faults.{or_else, in_field}
use Rattle.spec_project.specs.Places.{connected_refusal, connection_fault, connection_of, event_named, found_refusal, trigger_refusal}
use Rattle.spec_project.specs.Tags.{declarations}
use Rattle.lgx_json.proofs.Steps.{earlier, fielded}
use Rattle.lgx_places.specs.WholeTags.{connected_among, tag_types}
use Rattle.lgx_places.proofs.WholeTags.{same_refusals}

abbrev tag_fault : Described → List ℕ → Option ProjectFault
tag_fault p text = found_refusal (connected_refusal (declarations p)) (found_fixed (declarations p) Controller text)

-- what is found of the tag, by the types of the controller's tags
tag_fault_among : (p : Described) (c : DescribedConnection) (types : List DataType) (text : List ℕ) → types ≡ tag_types p.types p.tags → text ≡ c.tag
    → found_refusal (connected_among (declarations p) types) (found_fixed (declarations p) Controller text) ≡ tag_fault p c.tag
tag_fault_among p c types text made is = same_refusals p types (found_fixed (declarations p) Controller text) made ∙ ap (tag_fault p) is

pub tag_refused : (p : Described) (c : DescribedConnection) (types : List DataType) (text : List ℕ) (e r : Option ProjectFault) → types ≡ tag_types p.types p.tags → text ≡ c.tag
    → IsFaultOf (found_refusal (connected_among (declarations p) types) (found_fixed (declarations p) Controller text)) e → IsFaultOf (in_field (codes "tag") e) r → IsFaultOf (connection_fault p c) r
tag_refused p c types text e r made is h k =
    earlier (in_field (codes "tag") (tag_fault p c.tag)) (in_field (codes "trigger") (trigger_refusal p c c.trigger)) r
    (fielded (codes "tag") (tag_fault p c.tag) e r (subst (λ (o : Option ProjectFault). IsFaultOf o e) (tag_fault_among p c types text made is) h) k)

-- what is left if the tag isn't refused
tag_passed : (p : Described) (c : DescribedConnection) (types : List DataType) (text : List ℕ) → types ≡ tag_types p.types p.tags → text ≡ c.tag
    → found_refusal (connected_among (declarations p) types) (found_fixed (declarations p) Controller text) ≡ None → connection_fault p c ≡ in_field (codes "trigger") (trigger_refusal p c c.trigger)
tag_passed p c types text made is none =
    ap (λ o. or_else (in_field (codes "tag") o) (in_field (codes "trigger") (trigger_refusal p c c.trigger))) (sym (tag_fault_among p c types text made is) ∙ none)

pub trigger_refused : (p : Described) (c : DescribedConnection) (types : List DataType) (text : List ℕ) (e r : Option ProjectFault) → types ≡ tag_types p.types p.tags → text ≡ c.tag
    → found_refusal (connected_among (declarations p) types) (found_fixed (declarations p) Controller text) ≡ None
    → IsFaultOf (trigger_refusal p c c.trigger) e → IsFaultOf (in_field (codes "trigger") e) r → IsFaultOf (connection_fault p c) r
trigger_refused p c types text e r made is none h k =
    subst (λ (o : Option ProjectFault). IsFaultOf o r) (sym (tag_passed p c types text made is none)) (fielded (codes "trigger") (trigger_refusal p c c.trigger) e r h k)

pub connection_passes : (p : Described) (c : DescribedConnection) (types : List DataType) (text : List ℕ) → types ≡ tag_types p.types p.tags → text ≡ c.tag
    → found_refusal (connected_among (declarations p) types) (found_fixed (declarations p) Controller text) ≡ None → trigger_refusal p c c.trigger ≡ None → connection_fault p c ≡ None
connection_passes p c types text made is none last = tag_passed p c types text made is none ∙ ap (in_field (codes "trigger")) last

-- ---- what a connection is

abbrev made_of : Described → DescribedConnection → Result Found TagCode → ConnDef
made_of p c r =
    elim r [
      | Ok f ↦ record { name = c.name; output = c.output; byte = f.at / 8; words = size_of (declarations p).types f.of / 4; trigger = option_and_then (event_named p) c.trigger }
      | Err code ↦ record { name = c.name; output = c.output; byte = 0; words = 0; trigger = None }
    ]

pub connection_is : (p : Described) (c : DescribedConnection) (text : List ℕ) (f : Found) → text ≡ c.tag → found_fixed (declarations p) Controller text ≡ Ok f
    → connection_of p c ≡ record { name = c.name; output = c.output; byte = f.at / 8; words = size_of (declarations p).types f.of / 4; trigger = option_and_then (event_named p) c.trigger }
connection_is p c text f is found = ap (made_of p c) (ap (found_fixed (declarations p) Controller) (sym is) ∙ found)
