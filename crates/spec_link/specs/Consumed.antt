-- What the consumed tag holds after each line of a link script.
use Rattle.std.specs.Prelude.{◌≡◌, ℕ, zero, suc, ◌+◌, ◌*◌, ◌≤◌, ◌<◌, List, [], ◌∷◌, ◌++◌, length, take, slice_get, Bool, false, true, ℤ, Option, Some, None, Ok}
use Rattle.std.specs.List.{AllByRecursion as Each}
use Rattle.std.specs.Int.{w32}
use Rattle.lgx_num.specs.declared.number.Kind.TheVariants.{Dint}
use Rattle.lgx_num.specs.Number.{fits}
use Rattle.lgx_num.specs.Image.{signed_at}
use Rattle.spec_tables.specs.declared.conn.ConnDef.{ConnDef}
use Rattle.spec_machine.specs.declared.event.Event.{Event}
use Rattle.spec_machine.specs.Machine.{run}
use Rattle.spec_machine.specs.Project.{Project}
use Rattle.spec_machine.specs.ValidProject.{IsValidProject}
use Rattle.spec_language.specs.TagSpans.{spans_of}
use Rattle.spec_uses.specs.Uses.{span_at, writers}
use Rattle.spec_uses.specs.Changes.{NoneAccepted, puts_into, ChangesHaveWritersOf}
use Rattle.spec_link.specs.declared.script.LinkScript.{LinkScript}
use Rattle.spec_link.specs.declared.script.LinkStep.{LinkStep}
use Rattle.spec_link.specs.declared.script.LinkStep.TheVariants.{OnB}
use Rattle.spec_link.specs.LinkText.{connection, link_of}
use Rattle.spec_link.specs.Links.{Pair, Link, opened, link_run, words_out, words_answered}
use Rattle.spec_link.specs.LinkOutput.{pair_of, linked_journals}

-- ---- what is in a tag

-- this many words from byte at on
abbrev pub dints : List ℕ → ℕ → ℕ → List ℤ
dints image at zero = []
dints image at (suc n) = signed_at w32 image at ∷ dints image (at + 4) n

-- all words of a connection
abbrev pub words_at : List ℕ → ConnDef → List ℤ
words_at image c = dints image c.byte c.words

-- after a journal
abbrev pub words_after : Project → ConnDef → List Event → List ℤ
words_after p c journal = words_at (run p journal).image c

-- tag k is the connection's: its bytes are the connection's words
pub record IsTagOf (p : Project) (k : ℕ) (c : ConnDef) : Type 0 where
  pub tag : k < length (spans_of p.tags)
  pub from : (span_at p.tags k).start ≡ c.byte
  pub upto : (span_at p.tags k).end ≡ c.byte + 4 * c.words

-- ---- the premises

-- at no moment are forces enabled
abbrev pub AreUnforced : Project → List Event → Type 0
AreUnforced p journal = (events more : List Event) → events ++ more ≡ journal → (run p events).forces.enabled ≡ false

-- the line puts no word into this tag by itself
abbrev pub LeavesTag : Project → ℕ → LinkStep → Type 0
LeavesTag p k (OnB e n) = puts_into p k e ≡ false
LeavesTag p k _ = Unit {0}

-- each word that was sent is one of 32 bits
abbrev pub AreDints : List (List ℤ) → Type 0
AreDints sent = (k : ℕ) (words : List ℤ) → slice_get sent k ≡ Some words → Each (λ v. fits Dint v ≡ true) words

-- c is the consumed connection, d the produced one, and k the number of the consumed tag
pub record Joins (l : Pair) (d c : ConnDef) (k : ℕ) : Type 0 where
  pub output : connection l.a true l.output ≡ Some d
  pub input : connection l.b false l.input ≡ Some c
  pub alike : d.words ≡ c.words
  pub tag : IsTagOf l.b k c

-- what is asked of the second controller: no instruction writes the tag, no accept is answered with a version, no force is
-- enabled, and no line puts a word into the tag
pub record LeavesConsumed (l : Pair) (k : ℕ) (xs : List LinkStep) : Type 0 where
  pub writers : writers l.b k ≡ []
  pub accepts : NoneAccepted l.b (link_run l opened xs).b
  pub forces : AreUnforced l.b (link_run l opened xs).b
  pub lines : Each (LeavesTag l.b k) xs

-- ---- the theorem

-- the opening words and no packet taken, or all the words of the packet that was taken last
abbrev pub Holds : List (List ℤ) → List ℤ → List ℤ → Option ℕ → Type 0
Holds sent opening now None = now ≡ opening
Holds sent opening now (Some k) = slice_get sent k ≡ Some now

abbrev pub IsWhole : Pair → ConnDef → Link → Type 0
IsWhole l c s = Holds s.sent (words_at l.b.image c) (words_after l.b c s.b) s.last

-- a packet's words are those that the output connection's words out are answered, all at one moment
abbrev pub AreOfOneMoment : Pair → Link → Type 0
AreOfOneMoment l s = (k : ℕ) (words : List ℤ) → slice_get s.sent k ≡ Some words
    → (i : ℕ) × (i ≤ length s.a) × (words ≡ words_answered l.a (take i s.a) (words_out l))

-- the number of the packet that was taken last never falls
abbrev pub NeverOlder : Option ℕ → Option ℕ → Type 0
NeverOlder None after = Unit {0}
NeverOlder (Some k) None = ⊥
NeverOlder (Some k) (Some n) = k ≤ n

pub record IsConsumed (l : Pair) (c : ConnDef) (xs ys : List LinkStep) : Type 0 where
  pub whole : IsWhole l c (link_run l opened xs)
  pub moments : AreOfOneMoment l (link_run l opened xs)
  pub later : NeverOlder (link_run l opened xs).last (link_run l opened (xs ++ ys)).last

-- After each line of a link script, whatever lines come after it: of two valid projects, where the second keeps the law of the
-- cross reference.
abbrev pub ConsumesWhole : Type 0
ConsumesWhole = (l : Pair) (d c : ConnDef) (k : ℕ) (xs ys : List LinkStep)
    → IsValidProject l.a → IsValidProject l.b → ChangesHaveWritersOf l.b → Joins l d c k
    → AreDints (link_run l opened xs).sent → LeavesConsumed l k xs
    → IsConsumed l c xs ys

-- of a link script on two projects, after each of its lines: whichever tag is that of the consumed connection
abbrev pub KeepsWhole : Project → Project → LinkScript → Type 0
KeepsWhole a b script = (c : ConnDef) (k : ℕ) (xs ys : List LinkStep)
    → xs ++ ys ≡ script.steps → connection b false script.input ≡ Some c → IsTagOf b k c → LeavesConsumed (pair_of a b script) k xs
    → IsConsumed (pair_of a b script) c xs ys

-- the same of every text that is a link script for two valid projects
abbrev pub ScriptsKeepWhole : Type 0
ScriptsKeepWhole = (a b : Project) (bytes : List ℕ) (script : LinkScript)
    → IsValidProject a → IsValidProject b → ChangesHaveWritersOf b → link_of a b bytes ≡ Ok script
    → AreDints (linked_journals a b script).sent
    → KeepsWhole a b script

-- a connection of a valid project has a tag
abbrev pub ConnectionsHaveTags : Type 0
ConnectionsHaveTags = (p : Project) (output : Bool) (name : List ℕ) (c : ConnDef) → IsValidProject p → connection p output name ≡ Some c
    → (k : ℕ) × IsTagOf p k c
