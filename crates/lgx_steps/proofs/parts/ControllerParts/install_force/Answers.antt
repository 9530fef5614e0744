use Rattle.std.proofs.Common.{◌≡◌, ℕ, Option, Some, sym, ap, ◌∙◌, subst}
use Rattle.lgx_steps.specs.PartsView.{view_of}
use Rattle.std.proofs.lemmas.Int.{to_z-of_z}
use Rattle.std.proofs.Common.{ℤ, to_z, of_z, w32}
use Rattle.spec_machine.specs.declared.answer.Outcome.{Outcome}
use Rattle.spec_tables.specs.Connections.{io_word}
use Rattle.spec_tables.specs.Forces.{Forces, install}
use Rattle.spec_machine.specs.State.{Plan}
use Rattle.spec_machine.specs.Actions.{force_replied, install_on}
use Rattle.lgx_force.specs.Seen.{AnswersForce}
use Rattle.lgx_steps.specs.Gives.{ViewGives}
use Rattle.lgx_steps.proofs.Forcing.{gives-forced}
use Rattle.lgx_steps.proofs.parts.ControllerParts.install_force.Goals as goal

pub returns-in-Some-clause-gives : goal.returns-in-Some-clause-gives
returns-in-Some-clause-gives c = λ n s h.
    let v = view_of c.args.self.now in
    let io = c.in-Some.io in
    let new = c.install-done.new.self in
    let a₁ = subst (λ (z : ℤ). AnswersForce (install v.forces io z (to_z w32 (of_z w32 c.args.value))) v.forces new c.install-done.result) (to_z-of_z w32 c.args.mask c.ranges.mask) c.install-done.ensures.exact in
    let a₂ = subst (λ (z : ℤ). AnswersForce (install v.forces io c.args.mask z) v.forces new c.install-done.result) (to_z-of_z w32 c.args.value c.ranges.value) a₁ in
    let a₃ = subst (λ (f : Forces). AnswersForce (install f io c.args.mask c.args.value) v.forces new c.install-done.result) h.forces a₂ in
    let e : Some io ≡ io_word s.plan.conns c.args.conn.now c.args.word = c.in-Some.ensures.number ∙ ap (λ (p : Plan). io_word p.conns c.args.conn.now c.args.word) h.plan in
    let g = gives-forced n v s h (install s.forces io c.args.mask c.args.value) new c.install-done.result a₃ c.install-done.ensures.words in
    subst (λ (o : Option ℕ). ViewGives n (record v { forces = new }) c.answered.result (force_replied s (install_on s.forces o c.args.mask c.args.value))) e
    (subst (λ (x : Outcome). ViewGives n (record v { forces = new }) x (force_replied s (install s.forces io c.args.mask c.args.value))) (sym c.answered.ensures) g)
