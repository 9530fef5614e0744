-- A made set of tags: arrays of structures, arrays of BOOLs, a program's tag that hides the controller's, and aliases.
use Rattle.std.specs.Prelude.{ℕ, true, false, List, [], ◌∷◌, ◌++◌, codes}
use Rattle.spec_language.specs.declared.types.Base.TheVariants.{Bool as OneBit, Sint, Int, Dint, Timer, Counter, User}
use Rattle.spec_language.specs.declared.types.DataType.{DataType}
use Rattle.spec_language.specs.declared.types.TypeDecl.{TypeDecl}
use Rattle.spec_language.specs.declared.tag.Scope.TheVariants.{Program}
use Rattle.spec_language.specs.declared.names.TaskName.{TaskName}
use Rattle.spec_language.specs.Layout.{single}
use Rattle.spec_language.specs.Declarations.{Declarations, Entry, tag, alias}
use Rattle.spec_language.specs.Checked.{CheckScope}
use Rattle.test_cases.specs.ConveyorTags.{tag_of, alias_of}
use Rattle.test_cases.specs.LayoutCases.{array_of, structure, many, cells}

-- structure 0 is Cell of 72 bytes and 1 is Marks of 12; 2 to 5 hold each other, two of each: 64, 32, 16 and 8 bytes
abbrev pub nest : List TypeDecl
nest = structure (codes "L1") (array_of (codes "m") (codes "L2") 2 ∷ [])
    ∷ structure (codes "L2") (array_of (codes "m") (codes "L3") 2 ∷ [])
    ∷ structure (codes "L3") (array_of (codes "m") (codes "L4") 2 ∷ [])
    ∷ structure (codes "L4") (array_of (codes "m") (codes "DINT") 2 ∷ [])
    ∷ []

abbrev pub shop_types : List TypeDecl
shop_types = cells ++ nest

-- a program's tag and alias
abbrev pub own_tag : ℕ → List ℕ → DataType → Entry
own_tag program name of = record { scope = Program program; name = name; meaning = tag of }

abbrev pub own_alias : ℕ → List ℕ → List ℕ → Entry
own_alias program name target = record { scope = Program program; name = name; meaning = alias target }

-- arr is at byte 0, i at 16, s at 20, bits at 24, cells at 28, t at 244, c at 260, deep at 272; of program 0 i is at 400 and only
-- at 404; of program 1 far is at 408
abbrev pub shop : Declarations
shop = record {
  types = shop_types;
  programs = 2;
  entries =
      own_tag 1 (codes "far") (single Dint)
      ∷ tag_of (codes "arr") (many Dint 4)
      ∷ own_tag 0 (codes "i") (single Int)
      ∷ alias_of (codes "elbit") (codes "EL.3")
      ∷ tag_of (codes "i") (single Dint)
      ∷ alias_of (codes "el") (codes "arr[2]")
      ∷ own_alias 0 (codes "mine") (codes "i")
      ∷ tag_of (codes "s") (single Sint)
      ∷ tag_of (codes "bits") (many OneBit 32)
      ∷ tag_of (codes "cells") (many (User 0) 3)
      ∷ tag_of (codes "t") (single Timer)
      ∷ tag_of (codes "c") (single Counter)
      ∷ tag_of (codes "deep") (many (User 2) 2)
      ∷ own_tag 0 (codes "only") (single OneBit)
      ∷ [];
}

abbrev pub shop_tasks : List TaskName
shop_tasks = record { name = codes "T"; event = false } ∷ record { name = codes "E"; event = true } ∷ []

abbrev pub shop_scope : CheckScope
shop_scope = record { tags = shop; program = 0; routines = codes "M" ∷ codes "N" ∷ []; tasks = shop_tasks }
