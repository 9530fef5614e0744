use Rattle.std.proofs.Common.{true, not, Ok, ap, ◌∙◌, subst, arith}
use Rattle.std.proofs.lemmas.Bool.Decides.{nat_tests}
use Rattle.lgx_live.specs.Console.{ConsoleSeen, Asks}
use Rattle.lgx_live.specs.Piped.{console_seen}
use Rattle.lgx_live.specs.Piped as piped
use Rattle.lgx_live.proofs.Lines.{asks_whole, asks_last}
use Rattle.lgx_live.proofs.piped.PipedConsole.next_line.Goals as goal

pub returns-in-Ok-true : goal.returns-in-Ok-true
returns-in-Ok-true g c =
    let left = g.R.Read.remaining c.self.inside.reader in
    let now = g.R.Read.remaining c.read_line.new.reader in
    let P : ConsoleSeen → Type 0 = λ a. Asks a (console_seen now c.self.inside.output c.self.inside.misses) c.truncate.new.self.items (Ok true) in
    subst P c.self.view_is (asks_whole left now c.self.inside.output c.self.inside.misses c.read_line.new.line.items c.truncate.new.self.items (c.in-Ok-true.ensures.whole (ap (λ r. Ok r) c.in-Ok-true.field-0-test)) (c.truncate.ensures.items ∙ ap piped.cut c.drop_return.ensures))

pub returns-in-Ok-false : goal.returns-in-Ok-false
returns-in-Ok-false g c =
    let left = g.R.Read.remaining c.self.inside.reader in
    let now = g.R.Read.remaining c.read_line.new.reader in
    let shown = c.truncate-in-Ok-false.new.self.items in
    let P : ConsoleSeen → Type 0 = λ a. Asks a (console_seen now c.self.inside.output c.self.inside.misses) shown (Ok (not c.is_empty.result)) in
    subst P c.self.view_is (asks_last left now c.self.inside.output c.self.inside.misses c.read_line.new.line.items shown c.is_empty.result (c.in-Ok-false.ensures.last (ap (λ r. Ok r) c.in-Ok-false.field-0-test)) c.truncate-in-Ok-false.ensures.items
    (λ e. grind (arith, nat_tests, c.is_empty.ensures, e)) (λ e. grind (arith, nat_tests, c.is_empty.ensures, e)))
