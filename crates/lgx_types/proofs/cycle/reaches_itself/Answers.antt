use Rattle.std.proofs.Common.{◌≡◌, ◌∙◌, arith, length, refl, inl, inr, false, ap, ◌++◌, ◌∷◌, [], List}
use Rattle.std.specs.Prelude.{replicate}
use Rattle.std.proofs.lemmas.Grind.{common_steps}
use Rattle.spec_language.specs.declared.types.TypeDecl.{TypeDecl}
use Rattle.lgx_types.specs.Cycles.{IsSearch}
use Rattle.lgx_types.proofs.Seen.{none_seen, search_all, search_pop, seen_is, waits_there, to_see_less}
use Rattle.lgx_types.proofs.cycle.reaches_itself.Goals as goal

pub see_parts-requires-clause-many : goal.see_parts-requires-clause-many
see_parts-requires-clause-many c =
    let e : c.as_mut_slice-seen.result.now ≡ replicate (length c.args.resolved.now) false = c.as_mut_slice-seen.ensures.value ∙ c.in_ok-all.ensures.items_if_clones_equal (λ y e. e) ∙ ap (λ (l : List TypeDecl). replicate (length l) false) c.decls.ensures.value in
    (none_seen c.args.resolved.now c.args.i c.args.i c.as_mut_slice-seen.result.now e).many

pub loop-j-init : goal.loop-j-init
loop-j-init c =
    let e : c.as_mut_slice-seen.result.now ≡ replicate (length c.args.resolved.now) false = c.as_mut_slice-seen.ensures.value ∙ c.in_ok-all.ensures.items_if_clones_equal (λ y e. e) ∙ ap (λ (l : List TypeDecl). replicate (length l) false) c.decls.ensures.value in
    let first : IsSearch c.args.resolved.now c.args.i c.args.i c.as_mut_slice-seen.result.now c.new-waiting.result.items = rw c.new-waiting.ensures.items (none_seen c.args.resolved.now c.args.i c.args.i c.as_mut_slice-seen.result.now e) in
    record {
      search = search_all c.args.resolved.now c.args.i c.args.i c.see_parts.new.seen c.see_parts.new.waiting.items (c.in_ok-see_parts.ensures.search c.args.i first (inl refl)) c.in_ok-see_parts.ensures.parts;
      own = c.in_ok-see_parts.ensures.parts;
    }

pub see_parts-requires-in-Some-clause-there : goal.see_parts-requires-in-Some-clause-there
see_parts-requires-in-Some-clause-there c =
    let s : IsSearch c.args.resolved.now c.args.i (length c.args.resolved.now) c.loop-j.seen (c.pop.new.self.items ++ c.in-Some.j ∷ []) = rw c.in-Some.ensures.items at c.loop-j.invariant.search in
    (waits_there c.args.resolved.now c.args.i (length c.args.resolved.now) c.loop-j.seen c.pop.new.self.items c.in-Some.j s).0

pub loop-j-preserved : goal.loop-j-preserved
loop-j-preserved c =
    let s : IsSearch c.args.resolved.now c.args.i (length c.args.resolved.now) c.loop-j.seen (c.pop.new.self.items ++ c.in-Some.j ∷ []) = rw c.in-Some.ensures.items at c.loop-j.invariant.search in
    let there = waits_there c.args.resolved.now c.args.i (length c.args.resolved.now) c.loop-j.seen c.pop.new.self.items c.in-Some.j s in
    let popped : IsSearch c.args.resolved.now c.args.i c.in-Some.j c.loop-j.seen c.pop.new.self.items = search_pop c.args.resolved.now c.args.i c.in-Some.j c.loop-j.seen c.pop.new.self.items s in
    record {
      search = search_all c.args.resolved.now c.args.i c.in-Some.j c.see_parts-in-Some.new.seen c.see_parts-in-Some.new.waiting.items (c.in_ok-see_parts-2.ensures.search c.args.i popped (inr there.1)) c.in_ok-see_parts-2.ensures.parts;
      own = λ y p. c.in_ok-see_parts-2.ensures.kept y (c.loop-j.invariant.own y p);
    }

pub loop-j-smaller : goal.loop-j-smaller
loop-j-smaller c = rw c.in-Some.ensures.items (to_see_less c.loop-j.seen c.see_parts-in-Some.new.seen c.pop.new.self.items c.see_parts-in-Some.new.waiting.items c.in-Some.j c.in_ok-see_parts-2.ensures.less)

pub returns : goal.returns
returns c =
    let none : c.loop-j.waiting.items ≡ [] = grind (arith, common_steps) in
    seen_is c.args.resolved.now c.args.i c.loop-j.seen c.requires (rw none at c.loop-j.invariant.search) c.loop-j.invariant.own
