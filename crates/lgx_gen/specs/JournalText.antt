-- The text of the journal.
use Rattle.std.specs.Prelude.{ℕ, ◌+◌, ◌*◌, ◌/◌, ◌%◌, List, [], ◌++◌, flat_map, ◌==◌, if◌then◌else◌, codes, decimal}
use Rattle.std.specs.List.{range_with_len}
use Rattle.lgx_gen.specs.Draws.{draw}

-- how many draws the rounds before a round make: three each, and each tenth two more
abbrev pub draws_before : ℕ → ℕ
draws_before number = 3 * number + 2 * (number / 10)

-- how many draws a round makes
abbrev pub draws_in : ℕ → ℕ
draws_in number = if number % 10 == 9 then 5 else 3

-- an edit of the first program's routine, put to the test and assembled; of the draw with the number `first` and of the one after it
unfoldable pub edit : ℕ → ℕ → List ℕ
edit n first =
    codes "@1 accept P0 M r " ++ decimal (draw n first 32) ++ codes " MOV(" ++ decimal (draw n (first + 1) 100) ++ codes ",n0);\n"
    ++ codes "@1 test P0\n@1 assemble P0\n"

-- a round: processor steps, a word that comes in, in each tenth round an edit, and a tick; of the draws with the numbers `first` and after it
unfoldable pub round : ℕ → ℕ → ℕ → List ℕ
round n first number =
    codes "cpu " ++ decimal (50 + draw n first 50) ++ codes "\n"
    ++ codes "@0 in In " ++ decimal (draw n (first + 1) 4) ++ codes " " ++ decimal (draw n (first + 2) 65536) ++ codes "\n"
    ++ (if number % 10 == 9 then edit n (first + 3) else [])
    ++ codes "tick 1\n"

-- the first rounds
unfoldable pub rounds : ℕ → ℕ → List ℕ
rounds n count = flat_map (λ number. round n (draws_before number) number) (range_with_len 0 count)

-- the journal of n
unfoldable pub journal : ℕ → List ℕ
journal n = codes "mode run\n" ++ rounds n 2000 ++ codes "end\n"
