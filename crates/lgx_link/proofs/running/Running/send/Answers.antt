use Rattle.std.proofs.Common.{◌≡◌, ◌∙◌, length, true, false, refl, sym, ap, subst}
use Rattle.spec_link.specs.declared.script.LinkAnswer.TheVariants.{SendHeld, Sent}
use Rattle.spec_link.specs.Links.{is_held, send}
use Rattle.spec_machine.specs.Machine.{run}
use Rattle.lgx_core.specs.ControllerView.{ControllerView}
use Rattle.lgx_core.specs.Represents.{RepresentsController}
use Rattle.lgx_link.specs.declared.packet.Packet.{Packet}
use Rattle.lgx_link.specs.declared.running.Running.{Running}
use Rattle.lgx_link.specs.Running.{IsAnswered}
use Rattle.lgx_link.proofs.Links.{sent}
use Rattle.lgx_link.proofs.running.Running.send.Goals as goal

pub returns-then-copy_open-clause-link : goal.returns-then-copy_open-clause-link
returns-then-copy_open-clause-link c = λ l s h.
    let stands = subst (λ (v : ControllerView). RepresentsController v (run l.a s.a)) (sym c.controller.ensures) h.a.controller.represents in
    let held : is_held l.a s.a ≡ true = sym (c.copy_open.ensures (run l.a s.a) stands) ∙ c.if-copy_open.true in
    subst (λ b. IsAnswered c.args.self.now SendHeld l (send l s b)) (sym held) (record { link = h; answer_is = refl })

pub returns-clause-link : goal.returns-clause-link
returns-clause-link c = λ l s h.
    let stands = subst (λ (v : ControllerView). RepresentsController v (run l.a s.a)) (sym c.controller.ensures) h.a.controller.represents in
    let free : is_held l.a s.a ≡ false = sym (c.copy_open.ensures (run l.a s.a) stands) ∙ c.if-copy_open.false in
    let made = c.in_ok-words.ensures in
    let packet = c.send-packet.result in
    let w : Running = record c.args.self.now { a = c.words_out.new.recording; producer = c.send-packet.new.self; packets = c.push.new.self } in
    let link = sent c.args.self.now w l s c.in_ok-words.words packet h (record {
      b = refl;
      output = refl;
      words_are = refl;
      input = refl;
      consumer = refl;
      packet_is = c.send-packet.ensures.packet;
      packets = c.in_ok-push.ensures.items;
      count = c.send-packet.ensures.count;
    }) (made.records l.a s.a h.a) (made.words l.a s.a h.a) made.range in
    let number : packet.number ≡ length s.sent = ap (λ (p : Packet). p.number) c.send-packet.ensures.packet ∙ h.count in
    subst (λ b. IsAnswered w (Sent packet.number) l (send l s b)) (sym free) (record { link = link; answer_is = ap Sent number })
