-- A rung that is drawn.
use Rattle.std.specs.Prelude.{ℕ, ◌+◌, List, [], ◌∷◌, flat_map, ◌==◌, if◌then◌else◌, slice_index_or, codes, decimal}
use Rattle.lgx_gen.specs.Draws.{draw}

-- the eight forms; the letters i, j and k stand for numbers
abbrev pub forms : List (List ℕ)
forms =
    codes "XIC(ai)OTE(aj);"
    ∷ codes "[XIC(ai),XIO(aj)]TON(tk,?,?);"
    ∷ codes "XIC(tk.DN)CTU(ck,?,?);"
    ∷ codes "ADD(ni,1,nj);"
    ∷ codes "XIC(Local:1:I[k].i)MOV(ni,nj);"
    ∷ codes "XIC(ck.DN)RES(ck);"
    ∷ codes "UID()MUL(ni,3,nj)UIE();"
    ∷ codes "CPS(Local:1:I[0],w[0],4);"
    ∷ []

-- the form of a number
unfoldable pub form : ℕ → List ℕ
form number = slice_index_or forms number []

-- the digits that a letter stands for; any other byte stands for itself
abbrev pub filled_byte : ℕ → ℕ → ℕ → ℕ → List ℕ
filled_byte i j k byte =
    if byte == 105 then decimal i
    else if byte == 106 then decimal j
    else if byte == 107 then decimal k
    else byte ∷ []

-- a form with numbers in place of its letters
unfoldable pub filled : List ℕ → ℕ → ℕ → ℕ → List ℕ
filled text i j k = flat_map (filled_byte i j k) text

-- the rung of the draw with this number and of the three draws after it
unfoldable pub rung : ℕ → ℕ → List ℕ
rung n first = filled (form (draw n first 8)) (draw n (first + 1) 16) (draw n (first + 2) 16) (draw n (first + 3) 4)
