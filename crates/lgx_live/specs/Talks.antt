-- What a session on a console comes to.
use Rattle.std.specs.Prelude.{◌≡◌, ◌⊎◌, ℕ, List, [], ◌∷◌, ◌++◌, length, Option, Some, None, true, false}
use Rattle.std.specs.List.{list_any}
use Rattle.std.specs.Io.KnownBytes.{Appends}
use Rattle.lgx_io.specs.Sink.{FaultsRose, AppendsPart}
use Rattle.lgx_answer.specs.declared.status.Verdict.TheVariants as verdict
use Rattle.lgx_answer.specs.Endings.{Ending}
use Rattle.lgx_answer.specs.Endings as ending
use Rattle.spec_machine.specs.declared.event.Event.{Event}
use Rattle.spec_machine.specs.Project.{Project}
use Rattle.lgx_live.specs.Session.{Point, no_line_yet, after, is_last}
use Rattle.lgx_live.specs.Output.{answer_text, answers_text, whole_output}
use Rattle.lgx_live.specs.Console.{ConsoleSeen, Gives, AddsAsks}

-- What is put whenever one of these lines is asked for: what was put before the session, and the answers to the lines before it.
abbrev pub asks_before : Project → Point → List (List ℕ) → List ℕ → List (List ℕ)
asks_before project at [] put = []
asks_before project at (l ∷ ls) put = put ∷ asks_before project (after at l) ls (put ++ answer_text project at l)

-- The same, and once more after all of them.
abbrev pub asks_through : Project → List (List ℕ) → List ℕ → List (List ℕ)
asks_through project lines put =
    asks_before project no_line_yet lines put ++ (put ++ answers_text project no_line_yet lines) ∷ []

-- known lines are at their end, or go on with `end`
abbrev pub IsOver : Option (List (List ℕ)) → Type 0
IsOver None = Unit {0}
IsOver (Some []) = Unit {0}
IsOver (Some (l ∷ ls)) = is_last l ≡ true

-- All answers and the end line were put, and are written.
pub record EndsWell (project : Project) (old new : ConsoleSeen) (lines : List (List ℕ)) (rest : Option (List (List ℕ))) : Type 0 where
  pub over : IsOver rest
  pub asked : AddsAsks old.asked new.asked old.held (asks_through project lines)
  pub held : Appends old.held new.held (whole_output project lines)
  pub waiting : new.waiting ≡ []
  pub faults : new.faults ≡ old.faults
  pub misses : new.misses ≡ old.misses

-- A read failed. All answers to the lines before it were put, and are written.
pub record MissesLine (project : Project) (old new : ConsoleSeen) (lines : List (List ℕ)) : Type 0 where
  pub asked : AddsAsks old.asked new.asked old.held (asks_through project lines)
  pub held : Appends old.held new.held (answers_text project no_line_yet lines)
  pub waiting : new.waiting ≡ []
  pub faults : new.faults ≡ old.faults
  pub misses : FaultsRose old.misses new.misses

-- It was cut off: a first part of the answers to these lines was put, and the last of them may not be answered whole; or the
-- session was over, and its end line was cut off.
pub record IsCutOff (project : Project) (old new : ConsoleSeen) (lines : List (List ℕ)) (rest : Option (List (List ℕ))) : Type 0 where
  pub asked : AddsAsks old.asked new.asked old.held (asks_before project no_line_yet lines) ⊎ AddsAsks old.asked new.asked old.held (asks_through project lines)
  pub held : AppendsPart old.held new.held (answers_text project no_line_yet lines) ⊎ (IsOver rest × AppendsPart old.held new.held (whole_output project lines))
  pub misses : new.misses ≡ old.misses

-- by how it ends: there is no more line, or `end` came; or a read failed; or a put failed; or memory ran out
abbrev pub Ends : Project → ConsoleSeen → ConsoleSeen → List (List ℕ) → Option (List (List ℕ)) → Ending → Type 0
Ends project old new lines rest (ending.Said verdict.Ok) = EndsWell project old new lines rest
Ends project old new lines rest (ending.Said other) = ⊥
Ends project old new lines rest ending.ReadFault = MissesLine project old new lines
Ends project old new lines rest ending.WriteFault = IsCutOff project old new lines rest × FaultsRose old.faults new.faults
Ends project old new lines rest ending.Memory = IsCutOff project old new lines rest × (new.faults ≡ old.faults)
Ends project old new lines rest ending.TooLong = ⊥

-- All of a session.
pub record Talks (project : Project) (old new : ConsoleSeen) (answer : Ending) : Type 0 where
  -- the lines that came, but for `end`, and those that were still to come
  pub lines : List (List ℕ)
  pub rest : Option (List (List ℕ))
  pub came : Gives old.lines rest lines
  pub no_end : list_any is_last lines ≡ false
  pub ends : Ends project old new lines rest answer

-- ---- on the way

-- A session came so far: these lines came and were answered, nothing waits, and no fault came.
pub record IsUnderWay (project : Project) (old now : ConsoleSeen) (lines : List (List ℕ)) : Type 0 where
  pub came : Gives old.lines now.lines lines
  pub no_end : list_any is_last lines ≡ false
  pub asked : AddsAsks old.asked now.asked old.held (asks_before project no_line_yet lines)
  pub held : Appends old.held now.held (answers_text project no_line_yet lines)
  pub waiting : now.waiting ≡ []
  pub faults : now.faults ≡ old.faults
  pub misses : now.misses ≡ old.misses

-- what follows a project's runs follows this one, and the counts are those of this point
pub record IsAt (F : Project → List Event → Type 0) (done came : ℕ) (project : Project) (at : Point) : Type 0 where
  pub follows : F project at.events
  pub events : done ≡ length at.events
  pub lines : came ≡ at.lines
