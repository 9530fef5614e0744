-- The conveyor: its structures, tags and aliases, and the rungs of its three programs. Its cases follow.
use Rattle.std.specs.Prelude.{ℕ, true, false, List, [], ◌∷◌, codes}
use Rattle.lgx_rung.specs.Tree.{Tree, end, one, fork, last, leg, Source, SourceIns}
use Rattle.lgx_rung.specs.declared.op.Op.{Op}
use Rattle.lgx_rung.specs.declared.op.Op.TheVariants.{Xic, Xio, Ote, Ton, Ctu, Res, Sub, Mov, Add, Jsr}
use Rattle.spec_language.specs.declared.types.Base.TheVariants.{Bool as OneBit, Dint, Timer, Counter, User}
use Rattle.spec_language.specs.declared.types.DataType.{DataType}
use Rattle.spec_language.specs.declared.types.TypeDecl.{TypeDecl}
use Rattle.spec_language.specs.declared.types.MemberDecl.{MemberDecl}
use Rattle.spec_language.specs.declared.tag.Scope.TheVariants.{Controller}
use Rattle.spec_language.specs.declared.names.TaskName.{TaskName}
use Rattle.spec_language.specs.Layout.{single}
use Rattle.spec_language.specs.Declarations.{Declarations, Entry, tag, alias}
use Rattle.spec_language.specs.Checked.{CheckScope}

-- ---- words for samples

-- a member of a type, no array
abbrev pub of_type : List ℕ → List ℕ → MemberDecl
of_type name of = record { name = name; of = of; dim = 0 }

abbrev pub tag_of : List ℕ → DataType → Entry
tag_of name of = record { scope = Controller; name = name; meaning = tag of }

abbrev pub alias_of : List ℕ → List ℕ → Entry
alias_of name target = record { scope = Controller; name = name; meaning = alias target }

-- an instruction, and instructions in a row before the rest of a leg
abbrev pub ins : Op → List (List ℕ) → SourceIns
ins op texts = record { op = op; texts = texts }

abbrev pub line_before : {A : Type 0} → List A → Tree A → Tree A
line_before [] rest = rest
line_before (i ∷ is) rest = one i (line_before is rest)

abbrev pub line : {A : Type 0} → List A → Tree A
line is = line_before is end

-- ---- the conveyor

abbrev pub structures : List TypeDecl
structures = record { name = codes "DI"; members = of_type (codes "Fault") (codes "DINT") ∷ of_type (codes "Data") (codes "DINT") ∷ [] }
    ∷ record { name = codes "DO"; members = of_type (codes "Data") (codes "DINT") ∷ [] }
    ∷ []

abbrev pub entries : List Entry
entries = tag_of (codes "Local:1:I") (single (User 0))
    ∷ tag_of (codes "Local:2:O") (single (User 1))
    ∷ tag_of (codes "Run") (single OneBit)
    ∷ tag_of (codes "HornT") (single Timer)
    ∷ tag_of (codes "Parts") (single Counter)
    ∷ tag_of (codes "Rate") (single Dint)
    ∷ tag_of (codes "Last") (single Dint)
    ∷ tag_of (codes "Total") (single Dint)
    ∷ alias_of (codes "StartPB") (codes "Local:1:I.Data.0")
    ∷ alias_of (codes "StopPB") (codes "Local:1:I.Data.1")
    ∷ alias_of (codes "Eye") (codes "Local:1:I.Data.2")
    ∷ alias_of (codes "Motor") (codes "Local:2:O.Data.0")
    ∷ alias_of (codes "Horn") (codes "Local:2:O.Data.1")
    ∷ []

abbrev pub conveyor : Declarations
conveyor = record { types = structures; programs = 3; entries = entries }

abbrev pub tasks : List TaskName
tasks = record { name = codes "MainTask"; event = false } ∷ record { name = codes "Fast"; event = false } ∷ record { name = codes "EyeTask"; event = true } ∷ []

-- what the rungs of its first program are checked against
abbrev pub conveyor_scope : CheckScope
conveyor_scope = record { tags = conveyor; program = 0; routines = codes "Main" ∷ codes "Count" ∷ []; tasks = tasks }

-- all nine rungs, in order of programs and routines
abbrev pub rungs : List Source
rungs = fork (line (ins Xic (codes "StartPB" ∷ []) ∷ [])) (leg (line (ins Xic (codes "Run" ∷ []) ∷ [])) last) (line (ins Xic (codes "StopPB" ∷ []) ∷ ins Ote (codes "Run" ∷ []) ∷ []))
    ∷ line (ins Xic (codes "Run" ∷ []) ∷ ins Ton (codes "HornT" ∷ codes "?" ∷ codes "?" ∷ []) ∷ [])
    ∷ line (ins Xic (codes "Run" ∷ []) ∷ ins Xio (codes "HornT.DN" ∷ []) ∷ ins Ote (codes "Horn" ∷ []) ∷ [])
    ∷ line (ins Xic (codes "HornT.DN" ∷ []) ∷ ins Ote (codes "Motor" ∷ []) ∷ [])
    ∷ line (ins Jsr (codes "Count" ∷ codes "0" ∷ []) ∷ [])
    ∷ line (ins Xic (codes "Eye" ∷ []) ∷ ins Ctu (codes "Parts" ∷ codes "?" ∷ codes "?" ∷ []) ∷ [])
    ∷ line (ins Xic (codes "Parts.DN" ∷ []) ∷ ins Res (codes "Parts" ∷ []) ∷ [])
    ∷ line (ins Sub (codes "Total" ∷ codes "Last" ∷ codes "Rate" ∷ []) ∷ ins Mov (codes "Total" ∷ codes "Last" ∷ []) ∷ [])
    ∷ line (ins Xic (codes "Eye" ∷ []) ∷ ins Add (codes "Total" ∷ codes "1" ∷ codes "Total" ∷ []) ∷ [])
    ∷ []
