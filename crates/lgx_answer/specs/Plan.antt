-- What a command does: it reads files one after another, each by what was read before, and then it says a verdict with a text.
use Rattle.std.specs.Prelude.{◌≡◌, ℕ, List}
use Rattle.lgx_answer.specs.declared.status.Verdict.{Verdict}

-- the texts that may be written; mostly there is one
abbrev pub Texts : Type 1
Texts = List ℕ → Type 0

-- this text and no other
abbrev pub only : List ℕ → Texts
only text = λ t. t ≡ text

-- a verdict with any one of these texts, all of it; or one more file, by its name, whose bytes decide what comes next; or any
-- one of these plans
pub data Plan : Type 1 where
  Say : Verdict → Texts → Plan
  Read : List ℕ → (List ℕ → Plan) → Plan
  OneOf : (A : Type 0) → (A → Plan) → Plan

-- the plan, or one that it may be, says this verdict, and this is a text of it
abbrev pub Says : Plan → Verdict → List ℕ → Type 0
Says (Say verdict texts) said text = (said ≡ verdict) × texts text
Says (Read name next) said text = ⊥
Says (OneOf A plans) said text = (x : A) × Says (plans x) said text
