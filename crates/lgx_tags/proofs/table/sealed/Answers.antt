use Rattle.std.proofs.Common.{◌≡◌, ◌∙◌, ℕ, ap, sym, subst, arith, length}
use Rattle.std.specs.Prelude.{List}
use Rattle.std.specs.List.{AllByRecursion as Each}
use Rattle.spec_language.specs.Declarations.{Entry, Declarations}
use Rattle.spec_language.specs.Resolution.{seal_fault}
use Rattle.lgx_tags.specs.Chains.{Resolved, PartlyResolved, bad_from, count_aliases}
use Rattle.lgx_tags.specs.Layouts.{placed_tags, known_from, IsOfEntries}
use Rattle.lgx_tags.specs.declared.layout.PlacedTag.{PlacedTag}
use Rattle.lgx_tags.proofs.Declares.{all_placed}
use Rattle.lgx_tags.proofs.KnownTags.{laid_partly}
use Rattle.lgx_tags.proofs.Faults.{count_is, bad_fault}
use Rattle.lgx_tags.proofs.table.sealed.Goals as goal

pub known_from-requires : goal.known_from-requires
known_from-requires c =
    let d : Declarations = c.args.declared.now in
    let laid : c.as_slice.result.now ≡ placed_tags d = c.as_slice.ensures.value ∙ c.in_ok-laid.ensures.value in
    let count : length d.entries ≡ length c.entries-entries.result.now = ap length (sym c.entries-entries.ensures.value) in
    record { within = subst (λ (ls : List PlacedTag). Each (IsOfEntries (length c.entries-entries.result.now)) ls) (sym laid) (subst (λ (n : ℕ). Each (IsOfEntries n) (placed_tags d)) count c.in_ok-laid.ensures.within) }

pub resolve_all-requires : goal.resolve_all-requires
resolve_all-requires c =
    let d : Declarations = c.args.declared.now in
    let laid : c.as_slice.result.now ≡ placed_tags d = c.as_slice.ensures.value ∙ c.in_ok-laid.ensures.value in
    let known : c.in_ok-known.known.items ≡ known_from (length d.entries) (placed_tags d) = c.in_ok-known.ensures ∙ ap (λ (es : List Entry). known_from (length es) c.as_slice.result.now) c.entries-entries.ensures.value ∙ ap (known_from (length d.entries)) laid in
    record { partly = subst (PartlyResolved d) (sym known) (laid_partly d (all_placed d.types d.programs d.entries c.entries-entries.ensures.admitted)) }

pub first_bad-requires-clause-few : goal.first_bad-requires-clause-few
first_bad-requires-clause-few c =
    let d : Declarations = c.args.declared.now in
    omega (arith, ap count_aliases c.entries-entries.ensures.value, count_is d.entries, c.entries-entries.ensures.few)

pub returns-in-Some-clause-fault : goal.returns-in-Some-clause-fault
returns-in-Some-clause-fault c =
    let d : Declarations = c.args.declared.now in
    let bad : bad_from c.as_slice-2.result.now 0 0 c.entries-entries.result.now ≡ seal_fault d = ap (λ (ks : List Resolved). bad_from ks 0 0 c.entries-entries.result.now) c.as_slice-2.ensures.value ∙ ap (bad_from c.resolve_all.new.known.items 0 0) c.entries-entries.ensures.value ∙ bad_fault d c.resolve_all.new.known.items (all_placed d.types d.programs d.entries c.entries-entries.ensures.admitted) c.in_ok-resolve_all.ensures.all_resolved in
    sym bad ∙ sym c.first_bad.ensures ∙ c.in-Some.is

pub returns-in-None-clause-ok : goal.returns-in-None-clause-ok
returns-in-None-clause-ok c =
    let d : Declarations = c.args.declared.now in
    let bad : bad_from c.as_slice-2.result.now 0 0 c.entries-entries.result.now ≡ seal_fault d = ap (λ (ks : List Resolved). bad_from ks 0 0 c.entries-entries.result.now) c.as_slice-2.ensures.value ∙ ap (bad_from c.resolve_all.new.known.items 0 0) c.entries-entries.ensures.value ∙ bad_fault d c.resolve_all.new.known.items (all_placed d.types d.programs d.entries c.entries-entries.ensures.admitted) c.in_ok-resolve_all.ensures.all_resolved in
    record { tags = c.in_ok-laid.ensures.value; few = omega (arith, ap length c.in_ok-laid.ensures.value, c.in_ok-laid.ensures.few); all_resolved = c.in_ok-resolve_all.ensures.all_resolved; faultless = sym bad ∙ sym c.first_bad.ensures ∙ c.in-None.is }
