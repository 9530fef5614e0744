use Rattle.std.proofs.Common.{◌≡◌, ◌∙◌, ap, sym, subst, take, drop, List, length}
use Rattle.std.specs.List.{AllByRecursion as Each}
use Rattle.std.proofs.lemmas.List.Elements.{All-drop}
use Rattle.lgx_num.specs.declared.place.Operand.{Operand}
use Rattle.lgx_num.specs.Paths.{OperandInBounds}
use Rattle.spec_scan.specs.Arguments.{bind}
use Rattle.spec_scan.specs.Fits.{IsCell}
use Rattle.lgx_image.specs.Args.{OperandsInBounds}
use Rattle.lgx_engine.specs.Rows.{inputs_in}
use Rattle.lgx_engine.proofs.Calls.{call_fits, call_binds}
use Rattle.lgx_engine.proofs.handing.handed_over.Goals as goal

pub returns-in_err-inputs : goal.returns-in_err-inputs
returns-in_err-inputs c =
    let front : c.split_at.result.0.now ≡ take (inputs_in c.args.args.now) (drop 2 c.args.args.now) = c.split_at.ensures.front ∙ ap (λ n. take n c.after_two.result.now) c.inputs_in.ensures ∙ ap (take (inputs_in c.args.args.now)) c.after_two.ensures in
    rw c.from_residual.ensures ((call_binds c.args.image.now.bytes c.args.args.now c.requires.fit).first (ap (bind c.args.image.now.bytes) (sym front) ∙ c.in_err-inputs.ensures))

pub places_of-requires-clause-cells : goal.places_of-requires-clause-cells
places_of-requires-clause-cells c =
    let back : c.split_at.result.1.now ≡ drop (inputs_in c.args.args.now) (drop 2 c.args.args.now) = c.split_at.ensures.back ∙ ap (λ n. drop n c.after_two.result.now) c.inputs_in.ensures ∙ ap (drop (inputs_in c.args.args.now)) c.after_two.ensures in
    subst (Each IsCell) (sym back) (call_fits c.args.args.now c.requires.fit).cells

pub places_of-requires-clause-lie : goal.places_of-requires-clause-lie
places_of-requires-clause-lie c =
    let back : c.split_at.result.1.now ≡ drop (inputs_in c.args.args.now) (drop 2 c.args.args.now) = c.split_at.ensures.back ∙ ap (λ n. drop n c.after_two.result.now) c.inputs_in.ensures ∙ ap (drop (inputs_in c.args.args.now)) c.after_two.ensures in
    let lies : Operand → Type 0 = λ o. OperandInBounds o (length c.args.image.now.bytes) in
    subst (λ (os : List Operand). OperandsInBounds os (length c.args.image.now.bytes)) (sym back) (All-drop lies (inputs_in c.args.args.now) (drop 2 c.args.args.now) (All-drop lies 2 c.args.args.now c.requires.lie))

pub returns-in_err-returns : goal.returns-in_err-returns
returns-in_err-returns c =
    let back : c.split_at.result.1.now ≡ drop (inputs_in c.args.args.now) (drop 2 c.args.args.now) = c.split_at.ensures.back ∙ ap (λ n. drop n c.after_two.result.now) c.inputs_in.ensures ∙ ap (drop (inputs_in c.args.args.now)) c.after_two.ensures in
    rw c.from_residual-in_err-returns.ensures ((call_binds c.args.image.now.bytes c.args.args.now c.requires.fit).second (ap (bind c.args.image.now.bytes) (sym back) ∙ c.in_err-returns.ensures))

pub returns : goal.returns
returns c =
    let front : c.split_at.result.0.now ≡ take (inputs_in c.args.args.now) (drop 2 c.args.args.now) = c.split_at.ensures.front ∙ ap (λ n. take n c.after_two.result.now) c.inputs_in.ensures ∙ ap (take (inputs_in c.args.args.now)) c.after_two.ensures in
    let back : c.split_at.result.1.now ≡ drop (inputs_in c.args.args.now) (drop 2 c.args.args.now) = c.split_at.ensures.back ∙ ap (λ n. drop n c.after_two.result.now) c.inputs_in.ensures ∙ ap (drop (inputs_in c.args.args.now)) c.after_two.ensures in
    let inputs = c.in_ok-inputs.ensures in
    let returned = c.in_ok-returns.ensures in
    let both = (call_binds c.args.image.now.bytes c.args.args.now c.requires.fit).both inputs.0 returned.0 (ap (bind c.args.image.now.bytes) (sym front) ∙ inputs.1) (ap (bind c.args.image.now.bytes) (sym back) ∙ returned.1) in
    (both.0, both.1, c.routine_of.ensures, inputs.2 ∙ both.2, returned.2 ∙ both.3)
