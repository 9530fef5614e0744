-- The text of the project.
use Rattle.std.specs.Prelude.{ℕ, ◌+◌, ◌*◌, List, ◌++◌, codes, decimal}
use Rattle.lgx_gen.specs.Listed.{listed, numbered}
use Rattle.lgx_gen.specs.Rungs.{rung}

-- ---- tags, initial values, watched places: each on a line of its own

-- a tag of a name that ends in a number
abbrev pub tag : List ℕ → List ℕ → ℕ → List ℕ
tag name kind = numbered (codes "\n  {\"name\": \"" ++ name) (codes "\", \"type\": \"" ++ kind ++ codes "\"}")

-- an array of four DINTs
abbrev pub word_array : List ℕ → List ℕ
word_array name = codes "\n  {\"name\": \"" ++ name ++ codes "\", \"type\": \"DINT\", \"dim\": 4}"

-- a tag's preset at the start
abbrev pub preset : List ℕ → List ℕ → ℕ → List ℕ
preset name value = numbered (codes "\n  {\"tag\": \"" ++ name) (codes ".PRE\", \"value\": " ++ value ++ codes "}")

-- a watched place
abbrev pub watched : List ℕ → ℕ → List ℕ
watched name = numbered (codes "\n  \"" ++ name) (codes "\"")

unfoldable pub tags : List ℕ
tags =
    listed (tag (codes "a") (codes "BOOL")) 16 ++ codes ","
    ++ listed (tag (codes "n") (codes "DINT")) 16 ++ codes ","
    ++ listed (tag (codes "t") (codes "TIMER")) 4 ++ codes ","
    ++ listed (tag (codes "c") (codes "COUNTER")) 4 ++ codes ","
    ++ word_array (codes "w") ++ codes "," ++ word_array (codes "Local:1:I")

-- ---- programs

-- a drawn rung, as a text of JSON on a line of its own
abbrev pub rung_line : ℕ → ℕ → List ℕ
rung_line n first = codes "\n    \"" ++ rung n first ++ codes "\""

-- the rungs of a program, each of four draws
unfoldable pub rung_lines : ℕ → ℕ → ℕ → List ℕ
rung_lines n first count = listed (λ r. rung_line n (first + 4 * r)) count

-- a program whose rungs are those of the draws with the numbers `first` and after it
unfoldable pub program : ℕ → ℕ → ℕ → List ℕ
program n first number =
    codes "\n  {\"name\": \"P" ++ decimal number ++ codes "\", \"main\": \"M\", \"routines\": [{\"name\": \"M\", \"rungs\": ["
    ++ rung_lines n first 32
    ++ codes "]}]}"

-- the first programs, each of 32 rungs: the rung with the number r of program g is of the draws 4 * (32 * g + r) to 4 * (32 * g + r) + 3
unfoldable pub programs : ℕ → ℕ → List ℕ
programs n count = listed (λ g. program n (4 * (32 * g)) g) count

-- ---- the whole

unfoldable pub tasks : List ℕ
tasks =
    codes "\n  {\"name\": \"Cont\", \"kind\": \"continuous\", \"programs\": [\"P0\"]},"
    ++ codes "\n  {\"name\": \"Per1\", \"kind\": \"periodic\", \"priority\": 4, \"period\": 3, \"programs\": [\"P1\"]},"
    ++ codes "\n  {\"name\": \"Per2\", \"kind\": \"periodic\", \"priority\": 4, \"period\": 7, \"programs\": [\"P2\"]},"
    ++ codes "\n  {\"name\": \"Ev\", \"kind\": \"event\", \"priority\": 2, \"programs\": [\"P3\"]}"

unfoldable pub connections : List ℕ
connections = codes "\n  {\"name\": \"In\", \"tag\": \"Local:1:I\", \"direction\": \"in\", \"trigger\": \"Ev\"}"

unfoldable pub initial_values : List ℕ
initial_values = listed (preset (codes "t") (codes "3")) 4 ++ codes "," ++ listed (preset (codes "c") (codes "4")) 4

unfoldable pub watches : List ℕ
watches = listed (watched (codes "n")) 16

-- the project of n
unfoldable pub project : ℕ → List ℕ
project n =
    codes "{\"schema\": 1, \"controller\": \"Gen\",\n \"tags\": [" ++ tags
    ++ codes "],\n \"programs\": [" ++ programs n 4
    ++ codes "],\n \"tasks\": [" ++ tasks
    ++ codes "],\n \"connections\": [" ++ connections
    ++ codes "],\n \"initial\": [" ++ initial_values
    ++ codes "],\n \"watch\": [" ++ watches
    ++ codes "]}\n"
