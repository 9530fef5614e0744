use Rattle.std.proofs.Common.{◌≡◌, ℕ, suc, false, Option, None, Some, is_some, refl, sym, ◌∙◌, subst, arith, true≢false}
use Rattle.lgx_image.specs.Grains.{NextHit}
use Rattle.lgx_record.proofs.Written.{lone-of-words}
use Rattle.lgx_record.proofs.changes.lone_written.Goals as goal

none-found : (o : Option ℕ) → is_some o ≡ false → o ≡ None
none-found None h = refl
none-found (Some n) h = absurd (true≢false h)

pub returns-clause-lone : goal.returns-clause-lone
returns-clause-lone c =
    let image = c.args.controller.now.parts.image in
    let word = c.in_ok-word.word in
    let next : suc word ≡ c.in_ok-next.next = omega (arith, c.in_ok-next.ensures) in
    let none = subst (NextHit image c.in_ok-next.next) (none-found c.next_hit-2.result (sym c.is_some.ensures ∙ c.if-is_some.false)) c.next_hit-2.ensures in
    lone-of-words c.args.watches.now image word c.lone_of.result c.in_ok-word.ensures (subst (λ n. NextHit image n None) (sym next) none) c.lone_of.ensures.lone
