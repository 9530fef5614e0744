-- Cases of resolution: what texts name, each cause, and causes whose order matters.
use Rattle.std.specs.Prelude.{◌≡◌, ℕ, ◌*◌, List, [], ◌∷◌, map, codes, replicate, Some, None, Result, Ok, Err}
use Rattle.lgx_num.specs.declared.number.Kind.{Kind}
use Rattle.lgx_num.specs.declared.number.Kind.TheVariants.{Sint as KSint, Int as KInt, Dint as KDint}
use Rattle.lgx_num.specs.declared.place.Index.{Index}
use Rattle.spec_language.specs.declared.types.Base.TheVariants.{Bool as OneBit, Int, Dint, Counter}
use Rattle.spec_language.specs.declared.types.DataType.{DataType}
use Rattle.spec_language.specs.declared.tag.Scope.TheVariants.{Controller, Program}
use Rattle.spec_language.specs.declared.tag.TagCode.{TagCode}
use Rattle.spec_language.specs.declared.tag.TagCode.TheVariants.{G1, G2, G3, G4, G5, G6, G7, G8, G9, G10}
use Rattle.spec_language.specs.declared.tag.Found.{Found}
use Rattle.spec_language.specs.Declarations.{Declarations, Entry, bytes, declare_fault, alias_fault}
use Rattle.spec_language.specs.Layout.{single}
use Rattle.spec_language.specs.Resolution.{found, found_fixed, seal_fault}
use Rattle.test_cases.specs.ConveyorTags.{tag_of, alias_of}
use Rattle.test_cases.specs.ConveyorCases.{bit_in, place_in}
use Rattle.test_cases.specs.LayoutCases.{many}
use Rattle.test_cases.specs.ShopTags.{shop}

-- ---- places

abbrev pub ShopBytes : Type 0
ShopBytes = bytes shop ≡ 412

-- the same name of a program and of the controller; aliases of elements, of bits and of a program's own tag
abbrev pub ShopScopes : Type 0
ShopScopes = (map (found shop (Program 0)) (codes "i" ∷ codes "mine" ∷ codes "only" ∷ codes "el" ∷ codes "ElBit" ∷ [])
    ≡ place_in (single Int) 400 402 ∷ place_in (single Int) 400 402 ∷ bit_in 3232 405 ∷ place_in (single Dint) 8 16 ∷ bit_in 67 16 ∷ [])
    × (map (found shop (Program 1)) (codes "i" ∷ codes "mine" ∷ codes "only" ∷ codes "far" ∷ [])
    ≡ place_in (single Dint) 16 20 ∷ Err G3 ∷ Err G3 ∷ place_in (single Dint) 408 412 ∷ [])
    × (map (found shop Controller) (codes "I" ∷ codes "far" ∷ []) ≡ place_in (single Dint) 16 20 ∷ Err G3 ∷ [])

-- constant subscripts, of any number of digits; bits of integers and of arrays of BOOLs; whole arrays
abbrev pub ShopElements : Type 0
ShopElements = map (found shop Controller) (codes "arr[3]" ∷ codes "arr[0000000000000000000000000000000000000000000000001]" ∷ codes "arr" ∷ codes "arr[1].31" ∷ codes "s.7" ∷ codes "bits[31]" ∷ codes "cells[2].inner[1].d[9]" ∷ codes "cells[1].c" ∷ codes "cells[1].t.DN" ∷ [])
    ≡ place_in (single Dint) 12 16 ∷ place_in (single Dint) 4 16 ∷ place_in (many Dint 4) 0 16 ∷ bit_in 63 16 ∷ bit_in 167 21 ∷ bit_in 223 28 ∷ bit_in 1865 244 ∷ place_in (many Counter 2) 120 244 ∷ bit_in 861 244 ∷ []

-- a subscript at a place, over `length` elements, `stride` bits apart
abbrev pub over : Kind → ℕ → ℕ → ℕ → Index
over kind byte stride length = record { of = record { kind = kind; at = 8 * byte }; stride = stride; length = length }

abbrev pub moved_bit : List Index → ℕ → ℕ → Result Found TagCode
moved_bit steps n stop = Ok (record { at = n; steps = steps; of = single OneBit; stop = stop })

abbrev pub moved_place : List Index → DataType → ℕ → ℕ → Result Found TagCode
moved_place steps of byte stop = Ok (record { at = 8 * byte; steps = steps; of = of; stop = stop })

abbrev pub ShopSubscripts : Type 0
ShopSubscripts = map (found shop (Program 0)) (codes "arr[i]" ∷ codes "arr[arr[2]].5" ∷ codes "bits[t.ACC]" ∷ codes "cells[1].inner[i].d[s]" ∷ codes "deep[i].m[s].m[far].m[1].m[el]" ∷ codes "deep[i].m[s].m[i].m[1].m[el]" ∷ [])
    ≡ moved_place (over KInt 400 32 4 ∷ []) (single Dint) 0 16
    ∷ moved_bit (over KDint 8 32 4 ∷ []) 5 16
    ∷ moved_bit (over KDint 252 1 32 ∷ []) 192 28
    ∷ moved_bit (over KInt 400 96 2 ∷ over KSint 20 1 32 ∷ []) 1184 244
    ∷ Err G3
    ∷ moved_place (over KInt 400 512 2 ∷ over KSint 20 256 2 ∷ over KInt 400 128 2 ∷ over KDint 8 32 2 ∷ []) (single Dint) 280 400
    ∷ []

-- ---- causes

abbrev pub no_form : List (List ℕ)
no_form = codes "" ∷ codes "1x" ∷ codes "?" ∷ codes "a__b" ∷ codes "a_" ∷ codes "arr[" ∷ codes "arr[]" ∷ codes "arr[1" ∷ codes "arr]" ∷ codes "arr." ∷ codes "arr..x" ∷ codes "arr[0_1]" ∷ codes "arr[1]2" ∷ codes "i.3.4" ∷ codes "i.3[0]" ∷ codes "i.0x1" ∷ codes "S:V.x" ∷ codes "s:fs" ∷ codes "program:x" ∷ codes "a:" ∷ codes "a:b:c:d:e" ∷ codes "zz[" ∷ codes "zz.1.2" ∷ []

-- G10 is judged on the whole text
abbrev pub NoForms : Type 0
NoForms = map (found shop (Program 0)) no_form ≡ replicate 23 (Err G10)

abbrev pub UnknownTags : Type 0
UnknownTags = map (found shop (Program 0)) (codes "zz" ∷ codes "zz.x[9]" ∷ codes "Local:1:I" ∷ codes "a:1_:__" ∷ codes "arr[zz]" ∷ codes "cells[zz].q" ∷ []) ≡ replicate 6 (Err G3)

abbrev pub UnknownMembers : Type 0
UnknownMembers = map (found shop (Program 0)) (codes "i.PRE" ∷ codes "arr.x" ∷ codes "cells.f" ∷ codes "t.CU" ∷ codes "t.XX[zz]" ∷ codes "arr[t.q]" ∷ []) ≡ replicate 6 (Err G4)

-- G5: out of range; a bit of what is no integer; a `[` at what is no array, whatever is after it
abbrev pub OutOfRange : Type 0
OutOfRange = map (found shop (Program 0)) (codes "arr[4]" ∷ codes "arr[18446744073709551616]" ∷ codes "i.16" ∷ codes "only.0" ∷ codes "arr.3" ∷ codes "t.0" ∷ codes "i[0]" ∷ codes "i[zz]" ∷ codes "arr[i[zz]]" ∷ codes "arr[9].q" ∷ codes "arr[1][zz]" ∷ []) ≡ replicate 11 (Err G5)

-- G6: a subscript that is no integer place, or that has a variable subscript itself; the inner causes come first
abbrev pub NoSubscripts : Type 0
NoSubscripts = map (found shop (Program 0)) (codes "arr[only]" ∷ codes "arr[arr]" ∷ codes "arr[t]" ∷ codes "arr[s.0]" ∷ codes "arr[arr[i]]" ∷ codes "arr[only].q" ∷ codes "deep[i].m[i].m[i].m[i].m[only]" ∷ []) ≡ replicate 7 (Err G6)

abbrev pub FifthSubscript : Type 0
FifthSubscript = map (found shop (Program 0)) (codes "deep[i].m[i].m[i].m[i].m[i]" ∷ codes "deep[i].m[i].m[i].m[i].m[i].q" ∷ codes "deep[i].m[i].m[i].m[i].m[zz]" ∷ []) ≡ Err G9 ∷ Err G9 ∷ Err G3 ∷ []

-- if numbers alone are subscripts
abbrev pub FixedCauses : Type 0
FixedCauses = map (found_fixed shop (Program 0)) (codes "arr[3]" ∷ codes "arr[i]" ∷ codes "arr[zz]" ∷ codes "i[zz]" ∷ codes "zz[i]" ∷ codes "arr[" ∷ [])
    ≡ place_in (single Dint) 12 16 ∷ Err G6 ∷ Err G6 ∷ Err G5 ∷ Err G3 ∷ Err G10 ∷ []

-- ---- declaring

abbrev pub DeclareFaults : Type 0
DeclareFaults = (map (λ name. declare_fault shop Controller name (many Dint 65433)) (codes "1x" ∷ codes "S:1" ∷ codes "a:b:c:d" ∷ codes "ARR" ∷ codes "EL" ∷ codes "only" ∷ [])
    ≡ Some G1 ∷ Some G1 ∷ None ∷ Some G2 ∷ Some G2 ∷ None ∷ [])
    × (map (λ name. declare_fault shop (Program 1) name (many Dint 65434)) (codes "a:b" ∷ codes "FAR" ∷ codes "arr" ∷ [])
    ≡ Some G1 ∷ Some G2 ∷ Some G8 ∷ [])
    × (map (alias_fault shop (Program 0)) (codes "a:b" ∷ codes "Mine" ∷ codes "arr" ∷ []) ≡ Some G1 ∷ Some G2 ∷ None ∷ [])

-- ---- aliases

-- arr, and these aliases: numbered from 0, and each a letter
abbrev pub with_aliases : List Entry → Declarations
with_aliases more = record { types = []; programs = 1; entries = tag_of (codes "arr") (many Dint 4) ∷ more }

abbrev pub b_then : List ℕ → List Entry
b_then target = alias_of (codes "a") (codes "b") ∷ alias_of (codes "b") target ∷ []

abbrev pub SealFaults : Type 0
SealFaults = map (λ more. seal_fault (with_aliases more)) (
    b_then (codes "arr[3].31") ∷ b_then (codes "1x") ∷ b_then (codes "zz") ∷ b_then (codes "arr.q") ∷ b_then (codes "arr[4]") ∷ b_then (codes "arr[b]") ∷ b_then (codes "a") ∷ b_then (codes "b.q") ∷ []
    ) ≡ None ∷ Some (G10, 0) ∷ Some (G3, 0) ∷ Some (G4, 0) ∷ Some (G5, 0) ∷ Some (G6, 0) ∷ Some (G7, 0) ∷ Some (G7, 0) ∷ []

-- the alias's number counts aliases alone; the first is named whose chain has a fault
abbrev pub SealOrder : Type 0
SealOrder = map (λ more. seal_fault (with_aliases more)) (
    (alias_of (codes "a") (codes "arr") ∷ tag_of (codes "x") (single Dint) ∷ alias_of (codes "b") (codes "a[0].q") ∷ alias_of (codes "c") (codes "c") ∷ [])
    ∷ (alias_of (codes "a") (codes "b") ∷ alias_of (codes "b") (codes "c") ∷ alias_of (codes "c") (codes "arr") ∷ [])
    ∷ []
    ) ≡ Some (G4, 1) ∷ None ∷ []
