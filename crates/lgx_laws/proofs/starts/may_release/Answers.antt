use Rattle.std.proofs.Common.{◌≡◌, ◌&&◌, ◌||◌, false, ap, sym, ◌∙◌, nat_eq}
use Rattle.std.proofs.lemmas.Bool.{ne_eqb}
use Rattle.spec_schedule.specs.Counting.{CountedEvent}
use Rattle.lgx_laws.specs.Starts.{is_event_mask, may_trigger}
use Rattle.lgx_laws.proofs.starts.may_release.Goals as goal

pub returns-then-comes : goal.returns-then-comes
returns-then-comes c cs ns past e shown is =
    let x : CountedEvent = record { tasks = cs; programs = ns; event = e } in
    let one = is_event_mask c.args.tasks.now x c.args.mask in
    let some : nat_eq c.args.mask 0 ≡ false = ne_eqb c.args.mask 0 c.if-mask-eq0.false in
    c.is_event_mask-one.ensures cs ns e shown
    ∙ sym (ap (λ b. b || (may_trigger past x && one)) some ∙ ap (λ b. b && one) (sym (c.may_trigger-comes.ensures cs ns past e shown is) ∙ c.if-comes.true))

pub returns-else-comes : goal.returns-else-comes
returns-else-comes c cs ns past e shown is =
    let x : CountedEvent = record { tasks = cs; programs = ns; event = e } in
    let one = is_event_mask c.args.tasks.now x c.args.mask in
    let some : nat_eq c.args.mask 0 ≡ false = ne_eqb c.args.mask 0 c.if-mask-eq0.false in
    c.if-comes.false
    ∙ sym (ap (λ b. b || (may_trigger past x && one)) some ∙ ap (λ b. b && one) (sym (c.may_trigger-comes.ensures cs ns past e shown is) ∙ c.if-comes.false))
