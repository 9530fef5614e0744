use Rattle.std.proofs.Common.{Ok, refl, ap}
use Rattle.lgx_answer.specs.Plan.{Read}
use Rattle.lgx_answer.proofs.Follow.{read_says, read_on}
use Rattle.lgx_answer.proofs.driver.+answer.Goals as goal

pub returns-in-Ok-Say : goal.returns-in-Ok-Say
returns-in-Ok-Say g t c =
    let says = c.in-Ok-Say.ensures.say _ _ (ap (λ s. Ok s) c.in-Ok-Say.field-0-is) in
    read_says _ _ _ _ _ _ _ _ _ _ _ _ _ c.name.ensures c.in-Ok.ensures.ok c.in-Ok.ensures.whole c.in-Ok.ensures.failures says c.as_slice.ensures c.put_text.ensures c.after_puts.ensures

pub returns-in-Ok-Write : goal.returns-in-Ok-Write
returns-in-Ok-Write g t c =
    let says = c.in-Ok-Write.ensures.write _ _ (ap (λ s. Ok s) c.in-Ok-Write.field-0-is) in
    read_says _ _ _ _ _ _ _ _ _ _ _ _ _ c.name.ensures c.in-Ok.ensures.ok c.in-Ok.ensures.whole c.in-Ok.ensures.failures says refl c.write_lines.ensures c.after_puts-in-Ok-Write.ensures

pub returns-in-Ok-Read : goal.returns-in-Ok-Read
returns-in-Ok-Read g t c =
    let leads = c.in-Ok-Read.ensures.read _ (ap (λ s. Ok s) c.in-Ok-Read.field-0-is) in
    let more = Read (g.W.FileCommand.file c.in-Ok-Read.next) (g.W.FileCommand.next c.in-Ok-Read.next) in
    read_on _ _ _ _ _ _ more _ _ _ _ _ _ c.name.ensures c.in-Ok.ensures.ok c.in-Ok.ensures.whole c.in-Ok.ensures.failures c.in-Ok.ensures.same leads c.answer.ensures
