use Rattle.std.proofs.Common.{◌≡◌, ◌<◌, ◌++◌, ℕ, List, [], length, get_or, Ok, refl, ap, ◌∙◌, subst}
use Rattle.lgx_edit.specs.Texts.{routine_of}
use Rattle.cmd_project.specs.TextPlan.{routine_lines}
use Rattle.cmd_project.specs.TextLeft.{routine_left}
use Rattle.cmd_project.proofs.TextLefts.{line_of_first, none_of_first}
use Rattle.cmd_project.proofs.lines.program_line.Goals as goal

pub returns-then-made-clause-more : goal.returns-then-made-clause-more
returns-then-made-clause-more c = λ done.
    let name = c.args.program.now.name in
    let routines = c.args.program.now.routines in
    let at = c.loop-place.place.routine in
    let r = c.index-routines-place.result in
    let line = c.routine_line.new.line.items in
    let from = c.loop-place.place.line in
    let next = c.routine_line.new.next in
    let P : List ℕ → Type 0 = λ n. routine_left n from (routine_of r) ≡ line ++ routine_left n next (routine_of r) in
    let within : at < length routines = subst (λ l. at < length l) c.as_slice-routines.ensures c.loop-place-test.true in
    let is : r ≡ get_or routines at r = c.index-routines-place.is ∙ ap (λ l. get_or l at r) c.as_slice-routines.ensures in
    let more = subst P c.bytes.ensures.bytes (c.in_ok-made.ensures.more (ap (λ b. Ok b) c.if-made.true)) in
    c.loop-place.invariant
    ∙ line_of_first routine_of (routine_left name from) (routine_left name next) (routine_lines name) routines at r line within is more

pub loop-place-preserved : goal.loop-place-preserved
loop-place-preserved c =
    let name = c.args.program.now.name in
    let routines = c.args.program.now.routines in
    let at = c.loop-place.place.routine in
    let r = c.index-routines-place.result in
    let from = c.loop-place.place.line in
    let P : List ℕ → Type 0 = λ n. routine_left n from (routine_of r) ≡ [] in
    let within : at < length routines = subst (λ l. at < length l) c.as_slice-routines.ensures c.loop-place-test.true in
    let is : r ≡ get_or routines at r = c.index-routines-place.is ∙ ap (λ l. get_or l at r) c.as_slice-routines.ensures in
    let none = subst P c.bytes.ensures.bytes (c.in_ok-made.ensures.none (ap (λ b. Ok b) c.if-made.false)) in
    c.loop-place.invariant
    ∙ none_of_first routine_of (routine_left name from) (routine_left name 0) (routine_lines name) routines at r within is none (λ y. refl)
