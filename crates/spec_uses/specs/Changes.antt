-- Which event may change a byte of a tag, as long as no edit is accepted.
use Rattle.std.specs.Prelude.{◌≡◌, ◌≢◌, ◌⊎◌, ℕ, ◌<◌, ◌≤◌, Bool, true, false, not, List, [], ◌∷◌, ◌++◌, length, slice_get, slice_index, slice_index_or, Option, Some, None, IsTrue, nat_eq, fold}
use Rattle.std.specs.List.{list_all}
use Rattle.lgx_rung.specs.Tree.{one}
use Rattle.lgx_rung.specs.declared.ins.Ins.{Ins}
use Rattle.spec_tables.specs.Connections.{no_conn, conn_named}
use Rattle.spec_scan.specs.Position.{Frame}
use Rattle.spec_machine.specs.declared.answer.What.{What}
use Rattle.spec_machine.specs.declared.answer.What.TheVariants as what
use Rattle.spec_machine.specs.declared.event.Action.TheVariants.{WordIn, ModeRun}
use Rattle.spec_machine.specs.declared.event.Event.{Event}
use Rattle.spec_machine.specs.declared.event.Event.TheVariants.{Act}
use Rattle.spec_machine.specs.declared.reply.Reply.{Reply}
use Rattle.spec_machine.specs.declared.reply.Reply.TheVariants as reply
use Rattle.spec_machine.specs.Machine.{TraceEntry, OfStep, OfAction, step, run, trace}
use Rattle.spec_machine.specs.Project.{Project}
use Rattle.spec_machine.specs.State.{State, progress_of}
use Rattle.spec_machine.specs.ValidProject.{IsValidProject}
use Rattle.spec_schedule.specs.Stages.{Stage, stages}
use Rattle.spec_language.specs.TagSpans.{spans_of}
use Rattle.spec_uses.specs.Uses.{Site, span_at, writers, writer_sites}

-- ---- no accepted edit

abbrev pub is_version : Reply → Bool
is_version (reply.Version n) = true
is_version _ = false

abbrev pub is_accepted : TraceEntry → Bool
is_accepted (OfAction lane action o) = is_version o.reply
is_accepted _ = false

-- no accept is answered with the number of a version
abbrev pub NoneAccepted : Project → List Event → Type 0
NoneAccepted p journal = IsTrue (list_all (λ x. not (is_accepted x)) (trace p journal))

-- ---- the instruction that acts in a step

-- the next instruction of a scan
abbrev pub first_of : List Frame → Option Ins
first_of [] = None
first_of (f ∷ outer) = elim f.cursor.rest [ one i rest ↦ Some i | _ ↦ None ]

-- the next instruction of the scan of task t
abbrev pub next_of : State → ℕ → Option Ins
next_of s t = elim (progress_of s t).scan [ None ↦ None | Some scan ↦ first_of scan.position.frames ]

-- The instruction that task t executed last. While a copy of t is in progress it is the one that started it, since t executes
-- no other till the copy's end.
abbrev pub executed_last : ℕ → Option Ins → Stage → Option Ins
executed_last t last x = go x.entry
  where
    by_what : What → Option Ins
    by_what (what.Ran u n) = elim (nat_eq u t) [ true ↦ next_of x.before t | false ↦ last ]
    by_what _ = last

    go : TraceEntry → Option Ins
    go (OfStep m) = by_what m.what
    go _ = last

abbrev pub last_of : ℕ → List Stage → Option Ins
last_of t xs = fold (executed_last t) None xs

-- The program and the instruction of an event after a journal: a step that executes it, or that copies an element of the copy
-- that it started. Other events have none.
abbrev pub acting : Project → List Event → Event → Option (ℕ × Ins)
acting p journal e = go (step (run p journal) e).answer
  where
    of_program : ℕ → Option Ins → Option (ℕ × Ins)
    of_program n None = None
    of_program n (Some i) = Some (n, i)

    by_what : What → Option (ℕ × Ins)
    by_what (what.Ran t n) = of_program n (next_of (run p journal) t)
    by_what (what.Copied t n) = of_program n (last_of t (stages p journal))
    by_what _ = None

    go : TraceEntry → Option (ℕ × Ins)
    go (OfStep m) = by_what m.what
    go _ = None

-- ---- causes

-- the named connection's words are bytes of tag k
abbrev pub is_conn_of : Project → ℕ → Option ℕ → Bool
is_conn_of p k None = false
is_conn_of p k (Some n) = nat_eq (slice_index_or p.conns n no_conn).byte (span_at p.tags k).start

-- a word in on a connection of the tag
abbrev pub puts_into : Project → ℕ → Event → Bool
puts_into p k (Act lane (WordIn conn word value)) = is_conn_of p k (conn_named p.conns conn)
puts_into p k _ = false

-- a change to Run, and the tag has a writer
abbrev pub IsRunOf : Project → ℕ → Event → Type 0
IsRunOf p k (Act lane ModeRun) = writers p k ≢ []
IsRunOf p k _ = ⊥

-- an instruction that equals one of the same program among the tag's writers
abbrev pub IsWriter : Project → ℕ → Option (ℕ × Ins) → Type 0
IsWriter p k None = ⊥
IsWriter p k (Some a) = (s : Site) × (i : ℕ) × (slice_get (writer_sites p k) i ≡ Some s) × (s.at.program ≡ a.0) × (s.ins ≡ a.1)

-- byte b of the image is one of tag k
pub record IsByteOf (p : Project) (k b : ℕ) : Type 0 where
  pub tag : k < length (spans_of p.tags)
  pub from : (span_at p.tags k).start ≤ b
  pub upto : b < (span_at p.tags k).end

-- Where an event after a journal changes a byte of a tag, and no edit is accepted up to its end, it is a word in on a connection
-- of the tag, a change to Run and the tag has a writer, or a step of a program whose instruction is a writer.
abbrev pub ChangesHaveWritersOf : Project → Type 0
ChangesHaveWritersOf p =
    (journal : List Event) (e : Event) (k b : ℕ) → NoneAccepted p (journal ++ e ∷ []) → IsByteOf p k b
    → slice_index (run p (journal ++ e ∷ [])).image b ≢ slice_index (run p journal).image b
    → IsTrue (puts_into p k e) ⊎ (IsRunOf p k e ⊎ IsWriter p k (acting p journal e))

abbrev pub ChangesHaveWriters : Type 0
ChangesHaveWriters = (p : Project) → IsValidProject p → ChangesHaveWritersOf p
