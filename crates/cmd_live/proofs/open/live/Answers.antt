use Rattle.std.proofs.Common.{ℕ, List, Option, subst}
use Rattle.lgx_answer.specs.Endings.{ending_of}
use Rattle.cmd_live.specs.LiveCall.{OnName}
use Rattle.cmd_live.proofs.Opening.{call}
use Rattle.cmd_live.proofs.open.live.Goals as goal

pub returns-in-Some : goal.returns-in-Some
returns-in-Some g c =
    let P : Option (List ℕ) → Type 0 = λ o. OnName o (call (g.F.Files.told c.args.files.now) (g.F.Files.failures c.args.files.now) (g.F.Files.failures c.open_file.new.files) (g.C.Console.seen c.args.console.now) (g.C.Console.seen c.open_file.new.console) (ending_of c.open_file.result)) in
    subst P c.in-Some.ensures c.open_file.ensures

pub returns-in-None : goal.returns-in-None
returns-in-None g c =
    let told = g.F.Files.told c.args.files.now in
    let noted = g.F.Files.failures c.args.files.now in
    let P : Option (List ℕ) → Type 0 = λ o. OnName o (call told noted noted (g.C.Console.seen c.args.console.now) (g.C.Console.seen c.say.new.console) (ending_of c.say.result)) in
    subst P c.in-None.ensures (c.say.ensures told noted)
