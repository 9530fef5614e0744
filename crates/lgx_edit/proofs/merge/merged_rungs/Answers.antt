-- All changes are put where they belong, and woven with the base.
use Rattle.std.proofs.Common.{◌≡◌, ℕ, ◌++◌, ◌+◌, length, List, map, ap, sym, subst, ◌∙◌}
use Rattle.std.proofs.lemmas.List.{length-map}
use Rattle.std.specs.Prelude.{fold, filter_map, replicate}
use Rattle.std.specs.Vec.{with_items}
use Rattle.std.proofs.lemmas.List.Sums.{fold-append}
use Rattle.std.proofs.lemmas.Result.{IfOk-weaker}
use Rattle.spec_machine.specs.Edits.{Change, change_in}
use Rattle.lgx_edit.specs.Texts.{accepted_of}
use Rattle.lgx_edit.specs.Shared.{RungPair, sources}
use Rattle.lgx_edit.specs.Picks.{pick_sources, ArePicksKnown}
use Rattle.lgx_edit.specs.Merging.{AroundView, nothing_around, with_change}
use Rattle.lgx_edit.proofs.Merges.{woven-merged, sources_woven, changed_places}
use Rattle.lgx_edit.proofs.Picking.{woven_sources, woven_known}
use Rattle.lgx_edit.proofs.merge.merged_rungs.Goals as goal

pub returns-clause-sources : goal.returns-clause-sources
returns-clause-sources c =
    let base = c.args.base.now in
    let v = c.in_ok-places.places in
    let xs : List Change = filter_map (change_in c.args.routine) (map accepted_of c.args.accepted.now) in
    let ys : List Change = filter_map (change_in c.args.routine) (map accepted_of c.args.new.now) in
    let first : (with_items v c.put_all.new.places).items ≡ fold with_change v.items xs =
    changed_places v xs c.put_all.new.places (c.in_ok-put_all.ensures ∙ ap (λ (ps : List AroundView). fold with_change ps xs) c.deref_mut.ensures.value) in
    let second : (with_items (with_items v c.put_all.new.places) c.put_all-2.new.places).items ≡ fold with_change (with_items v c.put_all.new.places).items ys =
    changed_places (with_items v c.put_all.new.places) ys c.put_all-2.new.places (c.in_ok-put_all-2.ensures ∙ ap (λ (ps : List AroundView). fold with_change ps ys) c.deref_mut-2.ensures.value) in
    let all : (with_items (with_items v c.put_all.new.places) c.put_all-2.new.places).items ≡ fold with_change (replicate (length base + 1) nothing_around) (xs ++ ys) =
    second ∙ (ap (λ (ps : List AroundView). fold with_change ps ys) (first ∙ ap (λ (ps : List AroundView). fold with_change ps xs) c.in_ok-places.ensures)
    ∙ sym (fold-append with_change (replicate (length base + 1) nothing_around) xs ys)) in
    IfOk-weaker c.weave.result _ _ (λ picks e. ap (λ ps. pick_sources ps) e ∙ (woven_sources base (with_items (with_items v c.put_all.new.places) c.put_all-2.new.places).items ∙ (ap (λ (ps : List AroundView). sources_woven (sources base) ps) all
    ∙ (ap (λ (n : ℕ). sources_woven (sources base) (fold with_change (replicate (n + 1) nothing_around) (xs ++ ys))) (sym (length-map base (λ (r : RungPair). r.source))) ∙ woven-merged (sources base) (xs ++ ys))))) c.weave.ensures

pub returns-clause-known : goal.returns-clause-known
returns-clause-known c = IfOk-weaker c.weave.result _ _ (λ picks e scope known. subst (ArePicksKnown scope) (sym e) (woven_known scope c.args.base.now _ known)) c.weave.ensures
