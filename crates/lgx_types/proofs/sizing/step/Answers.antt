use Rattle.std.proofs.Common.{◌≡◌, ◌∙◌, length, ◌<◌, ◌++◌, ◌∷◌, [], ap, List}
use Rattle.lgx_types.specs.declared.sizing.Frame.{Frame}
use Rattle.std.specs.Prelude.{slice_get, Some, slice_set}
use Rattle.std.proofs.lemmas.Option.{get_or_from_slice_get, slice_get-get_or}
use Rattle.lgx_types.specs.declared.sizing.Visit.TheVariants.{Unvisited, InProgress, Sized}
use Rattle.lgx_types.proofs.SizingStack.{top_begun, step_sized, step_entered, step_cycle, inner_there, remaining_sized, remaining_entered, visited_set, unvisited_else, begin}
use Rattle.lgx_types.proofs.sizing.step.Goals as goal

pub size_members-requires-clause-begun : goal.size_members-requires-clause-begun
size_members-requires-clause-begun c = top_begun c.args.resolved.now c.args.visits.now c.args.stack.now.items c.args.frame c.requires

pub bounds : goal.bounds
bounds c = inner_there c.args.resolved.now c.args.visits.now c.size_members.new.frame.structure c.in-Some.inner c.requires.known c.in-Some.ensures.inner

pub enter-requires : goal.enter-requires
enter-requires c = inner_there c.args.resolved.now c.args.visits.now c.size_members.new.frame.structure c.in-Some.inner c.requires.known c.in-Some.ensures.inner

pub returns-in-InProgress-clause-cycle : goal.returns-in-InProgress-clause-cycle
returns-in-InProgress-clause-cycle c =
    let there : c.in-Some.inner < length c.args.visits.now = inner_there c.args.resolved.now c.args.visits.now c.size_members.new.frame.structure c.in-Some.inner c.requires.known c.in-Some.ensures.inner in
    step_cycle c.args.resolved.now c.args.visits.now c.args.stack.now.items c.args.frame c.size_members.new.frame c.in-Some.inner c.requires c.size_members.ensures.same c.in-Some.ensures.inner (slice_get-get_or c.args.visits.now c.in-Some.inner _ there ∙ ap Some c.in-InProgress.is)

pub returns-in-None-clause-sizing : goal.returns-in-None-clause-sizing
returns-in-None-clause-sizing c = step_sized c.args.resolved.now c.args.visits.now c.args.stack.now.items c.args.frame c.size_members.new.frame c.round_up.result c.requires c.size_members.ensures.begun c.size_members.ensures.same c.in-None.ensures.all c.round_up.ensures.value

pub returns-in-None-clause-less : goal.returns-in-None-clause-less
returns-in-None-clause-less c = remaining_sized c.args.visits.now c.args.stack.now.items c.args.frame c.size_members.new.frame.structure c.round_up.result (rw c.requires.known.many c.size_members.ensures.begun.there)

pub returns-in-None-clause-visited : goal.returns-in-None-clause-visited
returns-in-None-clause-visited c = λ i. visited_set c.args.visits.now c.size_members.new.frame.structure (Sized c.round_up.result) (λ e. absurd (cc e)) i

pub returns-in_ok-enter-in-Some : goal.returns-in_ok-enter-in-Some
returns-in_ok-enter-in-Some c =
    let there : c.in-Some.inner < length c.args.visits.now = inner_there c.args.resolved.now c.args.visits.now c.size_members.new.frame.structure c.in-Some.inner c.requires.known c.in-Some.ensures.inner in
    let unvisited : slice_get c.args.visits.now c.in-Some.inner ≡ Some Unvisited = unvisited_else c.args.visits.now c.in-Some.inner there c.in-Some.ensures.unknown (λ o. absurd (c.in_default.not-InProgress (get_or_from_slice_get c.args.visits.now c.in-Some.inner InProgress _ o))) in
    let visits : c.enter.new.visits ≡ slice_set c.args.visits.now c.in-Some.inner InProgress = c.enter.ensures.visits in
    let stack : c.enter.new.stack.items ≡ (c.args.stack.now.items ++ c.size_members.new.frame ∷ []) ++ begin c.in-Some.inner ∷ [] = c.in_ok-enter-in-Some.ensures.stack ∙ ap (λ (l : List Frame). l ++ begin c.in-Some.inner ∷ []) c.in_ok-push-in-Some.ensures.items in
    record {
      sizing = rw (visits, stack) (step_entered c.args.resolved.now c.args.visits.now c.args.stack.now.items c.args.frame c.size_members.new.frame c.in-Some.inner c.requires c.size_members.ensures.begun c.size_members.ensures.same c.in-Some.ensures.inner);
      less = rw (visits, stack) (remaining_entered c.args.visits.now c.args.stack.now.items c.args.frame c.size_members.new.frame (begin c.in-Some.inner) c.in-Some.inner there unvisited);
      visited = rw visits (λ i. visited_set c.args.visits.now c.in-Some.inner InProgress (λ e. absurd (cc e)) i);
      cycle = tt;
    }
