use Rattle.std.proofs.Common.{◌≡◌, ◌∙◌, ℕ, ◌++◌, List, length, Some, false, refl, sym, ap, subst}
use Rattle.std.specs.Prelude.{ℤ, slice_get}
use Rattle.std.proofs.lemmas.Bool.{ltb-true}
use Rattle.std.proofs.lemmas.Option.{slice_get-get_or}
use Rattle.spec_machine.specs.Machine.{run}
use Rattle.spec_link.specs.Links.{is_held, words_from}
use Rattle.lgx_core.specs.ControllerView.{ControllerView}
use Rattle.lgx_core.specs.Represents.{RepresentsController}
use Rattle.lgx_record.specs.Records.{Records}
use Rattle.lgx_link.specs.declared.packet.Packet.{Packet}
use Rattle.lgx_link.specs.declared.running.Running.{Running}
use Rattle.lgx_link.proofs.Links.{HasTaken, answered_new, answered_stale, is_new, is_stale, last_new, last_stale, moved}
use Rattle.lgx_link.proofs.running.Running.deliver.Goals as goal

pub returns-in-Stale-clause-link : goal.returns-in-Stale-clause-link
returns-in-Stale-clause-link c = λ l s h.
    let v = c.args.self.now in
    let k = c.args.number in
    let p = c.in-Some.packet.now in
    let look = c.in-Some.ensures.lookup in
    let shown = c.deref.result.now in
    let at_shown : slice_get shown k ≡ Some p = slice_get-get_or shown k p (ltb-true k (length shown) (sym look.0)) ∙ ap Some (sym look.1) in
    let at = subst (λ (xs : List Packet). slice_get xs k ≡ Some p) c.deref.ensures.value at_shown in
    let stands = subst (λ (u : ControllerView). RepresentsController u (run l.b s.b)) (sym c.controller.ensures) h.b.controller.represents in
    let free : is_held l.b s.b ≡ false = sym (c.copy_open.ensures (run l.b s.b) stands) ∙ c.if-copy_open.false in
    let stale = is_stale v l s k p h at (sym c.in-Stale.is ∙ c.take.ensures.answer) in
    let w : Running = record v { consumer = c.take.new.self } in
    let same : HasTaken v w = record { a = refl; output = refl; words_are = refl; input = refl; count = refl; packets = refl } in
    answered_stale v w l s k p h at free stale (moved v w l s s.b s.last h same h.b (last_stale v l s k p c.take.new.self h at stale c.take.ensures.last))

pub returns-in_ok-words_in-in-New-clause-link : goal.returns-in_ok-words_in-in-New-clause-link
returns-in_ok-words_in-in-New-clause-link c = λ l s h.
    let v = c.args.self.now in
    let k = c.args.number in
    let p = c.in-Some.packet.now in
    let look = c.in-Some.ensures.lookup in
    let shown = c.deref.result.now in
    let at_shown : slice_get shown k ≡ Some p = slice_get-get_or shown k p (ltb-true k (length shown) (sym look.0)) ∙ ap Some (sym look.1) in
    let at = subst (λ (xs : List Packet). slice_get xs k ≡ Some p) c.deref.ensures.value at_shown in
    let stands = subst (λ (u : ControllerView). RepresentsController u (run l.b s.b)) (sym c.controller.ensures) h.b.controller.represents in
    let free : is_held l.b s.b ≡ false = sym (c.copy_open.ensures (run l.b s.b) stands) ∙ c.if-copy_open.false in
    let newer = is_new v l s k p h at (sym c.in-New.is ∙ c.take.ensures.answer) in
    let w : Running = record v { b = c.words_in.new.recording; consumer = c.take.new.self } in
    let same : HasTaken v w = record { a = refl; output = refl; words_are = refl; input = refl; count = refl; packets = refl } in
    let made = c.in_ok-words_in-in-New.ensures.records l.b s.b h.b in
    let by_name = subst (λ (name : List ℕ). Records w.b l.b (s.b ++ words_from name 0 c.as_slice.result.now)) h.input made in
    let all = subst (λ (ws : List ℤ). Records w.b l.b (s.b ++ words_from l.input 0 ws)) c.as_slice.ensures.value by_name in
    answered_new v w l s k p h at free newer (moved v w l s (s.b ++ words_from l.input 0 p.words) (Some k) h same all (last_new v l s k p c.take.new.self h at newer c.take.ensures.last))
