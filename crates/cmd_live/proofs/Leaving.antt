-- What is left to do after a call.
use Rattle.std.proofs.Common.{◌≡◌, ℕ, List, [], Option, None, Some, Ok, Err, inl, inr, refl, ◌∙◌, append-nil, subst}
use lib.Seq.{take-nil}
use Rattle.std.specs.Io.KnownBytes.{Keeps, Appends}
use Rattle.lgx_io.specs.declared.sink.SinkFault.TheVariants as sink
use Rattle.lgx_answer.specs.declared.status.Status.{Status}
use Rattle.lgx_answer.specs.declared.status.Status.TheVariants.{WriteFault}
use Rattle.lgx_answer.specs.Endings.{number}
use Rattle.lgx_live.specs.Console.{ConsoleSeen, Flushes}
use Rattle.cmd_live.specs.LiveProcess.{Leaves}

nothing_added : (a b : Option (List ℕ)) → Appends a b [] → Keeps a b
nothing_added None b h = tt
nothing_added (Some xs) None h = absurd h
nothing_added (Some xs) (Some ys) h = h ∙ append-nil xs

pub left_written : (answer : Status) (a b : ConsoleSeen) (ends : ℕ) → Flushes a b (Ok tt) → ends ≡ number answer → Leaves answer a b ends
left_written answer a b ends f is = record {
  held = nothing_added a.held b.held f.says.puts.whole;
  input = f.says.input;
  end = inl (record { exit = is; written = f.written; faults = f.says.puts.unfailed (λ e. absurd (cc e)) });
}

pub left_unwritten : (answer : Status) (a b : ConsoleSeen) (ends : ℕ) → Flushes a b (Err sink.Failed) → ends ≡ number WriteFault → Leaves answer a b ends
left_unwritten answer a b ends f is =
    let part = f.says.puts.part in
    let P : List ℕ → Type 0 = λ t. Appends a.held b.held t in
    record {
      held = nothing_added a.held b.held (subst P (take-nil part.0) part.1);
      input = f.says.input;
      end = inr (record { exit = is; faults = f.says.puts.failed refl });
    }
