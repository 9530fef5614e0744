-- Which steps may change a tag, and what a consumed tag never holds: runs that keep these laws, and doctored ones.
use Rattle.std.specs.Prelude.{◌≢◌, ◌⊎◌, ℕ, List, [], ◌∷◌, ◌++◌, take, slice_index, slice_index_or, pos, IsTrue, codes}
use Rattle.spec_tables.specs.declared.conn.ConnDef.{ConnDef}
use Rattle.spec_tables.specs.Connections.{no_conn}
use Rattle.spec_machine.specs.declared.event.Event.{Event}
use Rattle.spec_machine.specs.declared.event.Event.TheVariants.{Cpu}
use Rattle.spec_machine.specs.Machine.{run}
use Rattle.spec_machine.specs.Project.{Project}
use Rattle.spec_uses.specs.Changes.{acting, puts_into, IsRunOf, IsWriter}
use Rattle.spec_link.specs.declared.script.LinkStep.TheVariants.{Send, Deliver}
use Rattle.spec_link.specs.Links.{Pair, Link, opened, link_run}
use Rattle.test_cases.specs.JournalCases.{cpu}
use Rattle.test_cases.specs.LawRuns.{run_mode}
use Rattle.test_cases.specs.LadderRuns.{one_rung}
use Rattle.test_cases.specs.LinkRuns.{copier, receiver}

-- ---- the cross reference

-- a cause for which the processor step after a journal may change tag k
abbrev pub MayChange : Project → List Event → ℕ → Type 0
MayChange p journal k = IsTrue (puts_into p k Cpu) ⊎ (IsRunOf p k Cpu ⊎ IsWriter p k (acting p journal Cpu))

-- that step changes byte b
abbrev pub Changes : Project → List Event → ℕ → Type 0
Changes p journal b = slice_index (run p (journal ++ Cpu ∷ [])).image b ≢ slice_index (run p journal).image b

-- before each step of the scan of XIC(a)OTE(b); a is tag 0, b tag 1
abbrev pub at_begin : List Event
at_begin = run_mode ∷ []

abbrev pub at_xic : List Event
at_xic = run_mode ∷ cpu 1

abbrev pub at_ote : List Event
at_ote = run_mode ∷ cpu 2

-- ---- the consumed tag

-- two words of one controller that the other consumes
abbrev pub joined : Pair
joined = record { a = copier; b = receiver; output = codes "Out1"; input = codes "In1" }

abbrev pub consumed : ConnDef
consumed = slice_index_or receiver.conns 0 no_conn

-- a packet was sent and taken
abbrev pub taken : Link
taken = link_run joined opened (Send ∷ Deliver 0 ∷ [])

-- only its first word came
abbrev pub torn : Link
torn = record taken { b = take 1 taken.b }

-- a packet with another second word than the output ever had
abbrev pub made_up : Link
made_up = record opened { sent = (pos 7 ∷ pos 9 ∷ []) ∷ [] }
