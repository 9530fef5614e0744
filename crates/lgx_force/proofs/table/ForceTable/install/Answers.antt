-- The other words with a force are those with one but for this word.
use Rattle.std.proofs.Common.{◌≡◌, ◌-◌, ◌<◌, ◌≤◌, Option, None, length, get_or, ◌∙◌, ap, subst, arith, is_some}
use Rattle.std.proofs.lemmas.List.{get_or_read}
use Rattle.std.proofs.lemmas.Int.{to_z-of_z}
use mir.Val.{bool_byte}
use Rattle.spec_base.specs.declared.limits.TheConstants.{MAX_FORCES}
use Rattle.lgx_force.specs.declared.table.StoredForce.{StoredForce}
use Rattle.lgx_force.proofs.Words.{install-full, install-ok, byte_is, one_if}
use Rattle.lgx_force.proofs.table.ForceTable.install.Goals as goal

pub returns-then-others-ge-MAX_FORCES-clause-exact : goal.returns-then-others-ge-MAX_FORCES-clause-exact
returns-then-others-ge-MAX_FORCES-clause-exact c =
    let l : c.args.word < length c.self.inside.words.items = omega (arith, c.self.inside.words.ok.0) in
    let one : c.from.result ≡ one_if (get_or c.self.inside.words.items c.args.word None) =
    c.from.ensures ∙ (ap bool_byte (c.is_some.ensures ∙ ap (λ (w : Option StoredForce). is_some w) (get_or_read c.self.inside.words.items c.args.word _ l c.index.ensures None)) ∙ byte_is _) in
    install-full c.self.inside.words.items c.self.inside.enabled c.args.word c.args.mask c.args.value c.args.self.now l
    (subst (λ n. MAX_FORCES ≤ n - one_if (get_or c.self.inside.words.items c.args.word None)) c.self.invariant (subst (λ n. MAX_FORCES ≤ c.self.inside.installed - n) one c.if-others-ge-MAX_FORCES.true)) c.self.view_is

pub returns-clause-exact : goal.returns-clause-exact
returns-clause-exact c =
    let l : c.args.word < length c.self.inside.words.items = omega (arith, c.self.inside.words.ok.0) in
    let one : c.from.result ≡ one_if (get_or c.self.inside.words.items c.args.word None) =
    c.from.ensures ∙ (ap bool_byte (c.is_some.ensures ∙ ap (λ (w : Option StoredForce). is_some w) (get_or_read c.self.inside.words.items c.args.word _ l c.index.ensures None)) ∙ byte_is _) in
    rw (to_z-of_z _ _ c.ranges.mask, to_z-of_z _ _ c.ranges.value)
    (install-ok c.self.inside.words.items c.self.inside.enabled c.args.word c.args.mask c.args.value c.args.self.now l
    (subst (λ n. n - one_if (get_or c.self.inside.words.items c.args.word None) < MAX_FORCES) c.self.invariant (subst (λ n. c.self.inside.installed - n < MAX_FORCES) one c.if-others-ge-MAX_FORCES.false)) c.self.view_is)
