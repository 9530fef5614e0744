use Rattle.std.proofs.Common.{◌≡◌, ◌∙◌, ap, List, ◌++◌, ◌∷◌, []}
use Rattle.std.specs.Prelude.{slice_set}
use Rattle.std.proofs.lemmas.Result.{IfOk-weaker}
use Rattle.lgx_types.specs.declared.sizing.Frame.{Frame}
use Rattle.std.proofs.lemmas.Option.{get_or_from_slice_get}
use Rattle.lgx_types.specs.declared.sizing.Visit.TheVariants.{Unvisited, InProgress}
use Rattle.lgx_types.proofs.SizingStack.{first_begun, visited_set, visited_self, begin}
use Rattle.lgx_types.proofs.sizing.size_structure.Goals as goal

pub finish-requires : goal.finish-requires
finish-requires c =
    let visits : c.enter.new.visits ≡ slice_set c.args.visits.now c.args.i InProgress = c.enter.ensures.visits in
    let stack : c.enter.new.stack.items ≡ begin c.args.i ∷ [] = c.in_ok-enter.ensures.stack ∙ ap (λ (l : List Frame). l ++ begin c.args.i ∷ []) c.requires.stack in
    rw (visits, stack) (first_begun c.args.resolved.now c.args.visits.now c.args.i c.requires.sizing c.requires.there)

pub returns-in-Unvisited-clause-visited : goal.returns-in-Unvisited-clause-visited
returns-in-Unvisited-clause-visited c =
    let visits : c.enter.new.visits ≡ slice_set c.args.visits.now c.args.i InProgress = c.enter.ensures.visits in
    IfOk-weaker c.finish.result _ _ (λ o h j p. h j (rw visits (visited_set c.args.visits.now c.args.i InProgress (λ e. absurd (cc e)) j p))) c.finish.ensures.visited

pub returns-in-Unvisited-clause-own : goal.returns-in-Unvisited-clause-own
returns-in-Unvisited-clause-own c =
    let visits : c.enter.new.visits ≡ slice_set c.args.visits.now c.args.i InProgress = c.enter.ensures.visits in
    IfOk-weaker c.finish.result _ _ (λ o h. h c.args.i (rw visits (visited_self c.args.visits.now c.args.i InProgress (λ e. absurd (cc e))))) c.finish.ensures.visited

pub returns : goal.returns
returns c = record { sizing = c.requires.sizing; stack = c.requires.stack; visited = λ j p. p; own = λ q. c.in_default.not-Unvisited (get_or_from_slice_get c.args.visits.now c.args.i Unvisited _ q); cycle = tt }
