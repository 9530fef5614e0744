-- The edit commands and those on forces answer with a reply alone.
use Rattle.std.proofs.Common.{◌≡◌, ℕ, ◌+◌, true, Result, Ok, Err, refl, sym, ap, ◌∙◌, subst}
use Rattle.std.specs.Prelude.{IsTrue}
use Rattle.spec_tables.specs.declared.force.ForceFault.{ForceFault}
use Rattle.spec_tables.specs.Connections.{io_word}
use Rattle.spec_tables.specs.Forces.{Forces, enable, disable, remove_all}
use Rattle.spec_machine.specs.declared.answer.Outcome.{Outcome}
use Rattle.spec_machine.specs.declared.reply.EditFault.{EditFault}
use Rattle.spec_machine.specs.declared.event.Action.{Action}
use Rattle.spec_machine.specs.declared.event.Action.TheVariants.{WordIn, WordOut, Accept, Test, Untest, Assemble, Cancel, ForceInstall, ForceEnable, ForceDisable, ForceRemove, ModeRun, ModeProgram, Clear}
use Rattle.spec_machine.specs.Edits.{Edited, accept, on_accepted, test, untest, assemble, cancel}
use Rattle.spec_machine.specs.Events.{is_accept}
use Rattle.spec_machine.specs.Machine.{OfAction}
use Rattle.spec_machine.specs.State.{State, Answered}
use Rattle.spec_machine.specs.Actions.{act, edit_replied, force_replied, install_on}
use Rattle.lgx_steps.specs.Gives.{replied_by}
use Rattle.lgx_core.specs.ControllerView.{ControllerView}
use Rattle.lgx_core.specs.Represents.{RepresentsController, GoesOn}
use Rattle.lgx_core.specs.Gives.{Gives, is_edit, is_force}
use Rattle.lgx_core.proofs.Runs.{goes-on}

-- the outcome is no more than its reply
abbrev IsReply : Outcome → Type 0
IsReply o = o ≡ replied_by o.reply

edited : (s : State) (r : Result Edited EditFault) → IsReply (edit_replied s r).answer
edited s (Ok e) = refl
edited s (Err f) = refl

forced : (s : State) (r : Result Forces ForceFault) → IsReply (force_replied s r).answer
forced s (Ok e) = refl
forced s (Err f) = refl

edit-replies : (s : State) (lane : ℕ) (a : Action) → is_edit a ≡ true → IsReply (act s lane a).answer
edit-replies s lane (Accept command) h = edited s (accept s.plan.tags s.plan.names s.books lane command)
edit-replies s lane (Test name) h = edited s (on_accepted test s.books lane name)
edit-replies s lane (Untest name) h = edited s (on_accepted untest s.books lane name)
edit-replies s lane (Assemble name) h = edited s (on_accepted assemble s.books lane name)
edit-replies s lane (Cancel name) h = edited s (on_accepted cancel s.books lane name)
edit-replies s lane (WordIn conn word value) h = absurd (cc h)
edit-replies s lane (WordOut conn word) h = absurd (cc h)
edit-replies s lane (ForceInstall conn word mask value) h = absurd (cc h)
edit-replies s lane ForceEnable h = absurd (cc h)
edit-replies s lane ForceDisable h = absurd (cc h)
edit-replies s lane ForceRemove h = absurd (cc h)
edit-replies s lane ModeRun h = absurd (cc h)
edit-replies s lane ModeProgram h = absurd (cc h)
edit-replies s lane Clear h = absurd (cc h)

force-replies : (s : State) (lane : ℕ) (a : Action) → is_force a ≡ true → IsReply (act s lane a).answer
force-replies s lane (ForceInstall conn word mask value) h = forced s (install_on s.forces (io_word s.plan.conns conn word) mask value)
force-replies s lane ForceEnable h = forced s (enable s.forces)
force-replies s lane ForceDisable h = forced s (Ok (disable s.forces))
force-replies s lane ForceRemove h = forced s (remove_all s.forces)
force-replies s lane (WordIn conn word value) h = absurd (cc h)
force-replies s lane (WordOut conn word) h = absurd (cc h)
force-replies s lane (Accept command) h = absurd (cc h)
force-replies s lane (Test name) h = absurd (cc h)
force-replies s lane (Untest name) h = absurd (cc h)
force-replies s lane (Assemble name) h = absurd (cc h)
force-replies s lane (Cancel name) h = absurd (cc h)
force-replies s lane ModeRun h = absurd (cc h)
force-replies s lane ModeProgram h = absurd (cc h)
force-replies s lane Clear h = absurd (cc h)

-- forces have no lanes, and need no memory
force-lanes : (s : State) (lane other : ℕ) (a : Action) → is_force a ≡ true → act s lane a ≡ act s other a
force-lanes s lane other (ForceInstall conn word mask value) h = refl
force-lanes s lane other ForceEnable h = refl
force-lanes s lane other ForceDisable h = refl
force-lanes s lane other ForceRemove h = refl
force-lanes s lane other (WordIn conn word value) h = absurd (cc h)
force-lanes s lane other (WordOut conn word) h = absurd (cc h)
force-lanes s lane other (Accept command) h = absurd (cc h)
force-lanes s lane other (Test name) h = absurd (cc h)
force-lanes s lane other (Untest name) h = absurd (cc h)
force-lanes s lane other (Assemble name) h = absurd (cc h)
force-lanes s lane other (Cancel name) h = absurd (cc h)
force-lanes s lane other ModeRun h = absurd (cc h)
force-lanes s lane other ModeProgram h = absurd (cc h)
force-lanes s lane other Clear h = absurd (cc h)

pub force-no_accept : (a : Action) → is_force a ≡ true → IsTrue (is_accept a) → ⊥
force-no_accept (Accept command) h k = cc h
force-no_accept (WordIn conn word value) h k = cc h
force-no_accept (WordOut conn word) h k = cc h
force-no_accept (Test name) h k = cc h
force-no_accept (Untest name) h k = cc h
force-no_accept (Assemble name) h k = cc h
force-no_accept (Cancel name) h k = cc h
force-no_accept (ForceInstall conn word mask value) h k = cc k
force-no_accept ForceEnable h k = cc k
force-no_accept ForceDisable h k = cc k
force-no_accept ForceRemove h k = cc k
force-no_accept ModeRun h k = cc h
force-no_accept ModeProgram h k = cc h
force-no_accept Clear h k = cc h

-- ---- the calls

module _ (old now : ControllerView) (lane : ℕ) (a : Action) (o : Outcome) (gives : (s : State) → RepresentsController old s → Gives now o (act s lane a)) where
  pub edit-gives : is_edit a ≡ true → (s : State) → RepresentsController old s → Gives now (replied_by o.reply) (act s lane a)
  edit-gives is s h =
      let g : Gives now o (act s lane a) = gives s h in
      record { answers = ap (λ (x : Outcome). replied_by x.reply) g.answers ∙ sym (edit-replies s lane a is); represents = g.represents }

  pub edit-goes : is_edit a ≡ true → now.spent ≡ old.spent + 1 → GoesOn old now (OfAction lane a (replied_by o.reply))
  edit-goes is counted = goes-on old now (OfAction lane a (replied_by o.reply)) counted (λ s h. let g = edit-gives is s h in record { answers = ap (OfAction lane a) g.answers; represents = g.represents })

  pub force-gives : is_force a ≡ true → (other : ℕ) (s : State) → RepresentsController old s → Gives now (replied_by o.reply) (act s other a)
  force-gives is other s h =
      let g : Gives now o (act s lane a) = gives s h in
      subst (λ (x : Answered Outcome). Gives now (replied_by o.reply) x) (force-lanes s lane other a is)
      (record { answers = ap (λ (x : Outcome). replied_by x.reply) g.answers ∙ sym (force-replies s lane a is); represents = g.represents })

  pub force-goes : is_force a ≡ true → now.spent ≡ old.spent + 1 → (other : ℕ) → GoesOn old now (OfAction other a (replied_by o.reply))
  force-goes is counted other = goes-on old now (OfAction other a (replied_by o.reply)) counted (λ s h. let g = force-gives is other s h in record { answers = ap (OfAction other a) g.answers; represents = g.represents })
