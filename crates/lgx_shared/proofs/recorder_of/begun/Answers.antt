-- A recorder that was just made is new without its history too.
use Rattle.std.proofs.Common.{◌≡◌, List, [], None, refl, sym, ap, ◌∙◌, subst}
use Rattle.std.proofs.lemmas.Option.{same_Some}
use mathlib.Core.List.{IsPrefix}
use Rattle.spec_machine.specs.declared.event.Event.{Event}
use Rattle.lgx_history.specs.Histories.{history_view}
use Rattle.lgx_shared.specs.RecorderView.{RecorderView}
use Rattle.lgx_shared.specs.Follows.{IsNew}
use Rattle.lgx_shared.proofs.Stages.{still_new}
use Rattle.lgx_shared.proofs.recorder_of.begun.Goals as goal

pub go_to-requires : goal.go_to-requires
go_to-requires g c =
    let none : c.into_parts-run.result.1 ≡ history_view g.I.Input.history [] = same_Some _ _ (sym (ap (λ (v : RecorderView). v.history) c.into_parts-run.ensures) ∙ c.requires.history) in
    let now = c.journal.result.now.events in
    record { ahead = subst (λ (es : List Event). IsPrefix es now) (sym (ap (λ h. h.events) none)) (now, refl) }

pub invariant_of-named : goal.invariant_of-named
invariant_of-named g c =
    (still_new g.I.Input.project g.I.Input.script _ None (subst (λ (v : RecorderView). IsNew g.I.Input.project g.I.Input.script v) c.into_parts-run.ensures c.requires.recorder)).follows

pub returns-clause-new : goal.returns-clause-new
returns-clause-new g c =
    still_new g.I.Input.project g.I.Input.script _ None (subst (λ (v : RecorderView). IsNew g.I.Input.project g.I.Input.script v) c.into_parts-run.ensures c.requires.recorder)
