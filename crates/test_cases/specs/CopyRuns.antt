-- Runs of copies with I/O words between their elements.
use Rattle.std.specs.Prelude.{◌≡◌, [], ◌∷◌, codes, pos, negsuc}
use Rattle.spec_language.specs.declared.types.Base.TheVariants.{Sint, Int, Dint}
use Rattle.spec_machine.specs.Project.{Project}
use Rattle.test_cases.specs.Samples.{array, dint, continuous, plain, with_words, input, is_initially, lines, replay}

-- Both words arrive after the first element: COP copies an old and a new one.
abbrev pub torn_copy : Project
torn_copy = with_words (array (codes "Local:1:I") Dint 2 ∷ array (codes "d") Dint 2 ∷ []) (continuous (codes "COP(Local:1:I[0],d[0],2);" ∷ []) ∷ []) (input (codes "In1") (codes "Local:1:I") ∷ []) [] (codes "d[0]" ∷ codes "d[1]" ∷ [])

abbrev pub TornCopy : Type 0
TornCopy = replay torn_copy (lines (codes "mode run"
    ∷ codes "cpu 3"
    ∷ codes "@0 in In1 0 7"
    ∷ codes "@0 in In1 1 8"
    ∷ codes "cpu 1"
    ∷ codes "end"
    ∷ []))
    ≡ lines (codes "0 0 reply 31 ok"
    ∷ codes "0 1 begin T P 0"
    ∷ codes "0 3 reply 0 ok"
    ∷ codes "0 3 reply 0 ok"
    ∷ codes "0 4 set d[1] 8"
    ∷ codes "end 0 4 run lost 0"
    ∷ [])

-- With CPS they are held until its last element.
abbrev pub whole_copy : Project
whole_copy = with_words (array (codes "Local:1:I") Dint 2 ∷ array (codes "d") Dint 2 ∷ []) (continuous (codes "CPS(Local:1:I[0],d[0],2);" ∷ []) ∷ []) (input (codes "In1") (codes "Local:1:I") ∷ []) [] (codes "d[0]" ∷ codes "d[1]" ∷ [])

abbrev pub WholeCopy : Type 0
WholeCopy = replay whole_copy (lines (codes "mode run"
    ∷ codes "cpu 3"
    ∷ codes "@0 in In1 0 7"
    ∷ codes "@0 in In1 1 8"
    ∷ codes "cpu 1"
    ∷ codes "@0 in In1 0 7"
    ∷ codes "@0 in In1 1 8"
    ∷ codes "cpu 5"
    ∷ codes "end"
    ∷ []))
    ≡ lines (codes "0 0 reply 31 ok"
    ∷ codes "0 1 begin T P 0"
    ∷ codes "0 3 reply 0 held"
    ∷ codes "0 3 reply 0 held"
    ∷ codes "0 4 reply 0 ok"
    ∷ codes "0 4 reply 0 ok"
    ∷ codes "0 6 begin T P 0"
    ∷ codes "0 8 set d[0] 7"
    ∷ codes "0 9 set d[1] 8"
    ∷ codes "end 0 9 run lost 0"
    ∷ [])

-- A length of 0 starts nothing; a fill stores the low bits of its value up to the end of its tag.
abbrev pub fill_to_the_end : Project
fill_to_the_end = plain (array (codes "w") Dint 2 ∷ array (codes "b") Sint 4 ∷ dint (codes "n") ∷ []) (continuous (codes "COP(w[0],b[0],n)FLL(300,b[1],9);" ∷ []) ∷ []) [] (codes "b[0]" ∷ codes "b[1]" ∷ codes "b[2]" ∷ codes "b[3]" ∷ [])

abbrev pub FillToTheEnd : Type 0
FillToTheEnd = replay fill_to_the_end (lines (codes "mode run"
    ∷ codes "cpu 8"
    ∷ codes "end"
    ∷ []))
    ≡ lines (codes "0 0 reply 31 ok"
    ∷ codes "0 1 begin T P 0"
    ∷ codes "0 4 set b[1] 44"
    ∷ codes "0 5 set b[2] 44"
    ∷ codes "0 6 set b[3] 44"
    ∷ codes "0 8 begin T P 0"
    ∷ codes "end 0 8 run lost 0"
    ∷ [])

-- A copy goes no further than its source's tag: two of four elements, byte by byte into words of two.
abbrev pub short_source : Project
short_source = plain (array (codes "w") Sint 4 ∷ array (codes "v") Int 4 ∷ []) (continuous (codes "COP(w[0],v[0],4);" ∷ []) ∷ []) (is_initially (codes "w[0]") (pos 1) ∷ is_initially (codes "w[2]") (negsuc 0) ∷ is_initially (codes "w[3]") (negsuc 0) ∷ []) (codes "v[0]" ∷ codes "v[1]" ∷ codes "v[2]" ∷ [])

abbrev pub ShortSource : Type 0
ShortSource = replay short_source (lines (codes "mode run"
    ∷ codes "cpu 5"
    ∷ codes "end"
    ∷ []))
    ≡ lines (codes "0 0 reply 31 ok"
    ∷ codes "0 1 begin T P 0"
    ∷ codes "0 3 set v[0] 1"
    ∷ codes "0 4 set v[1] -1"
    ∷ codes "end 0 5 run lost 0"
    ∷ [])

-- While a CPS is open I/O words and mode commands are held, and edits and forces aren't.
abbrev pub held_commands : Project
held_commands = with_words (array (codes "Local:1:I") Dint 2 ∷ array (codes "d") Dint 2 ∷ []) (continuous (codes "CPS(Local:1:I[0],d[0],2);" ∷ []) ∷ []) (input (codes "In") (codes "Local:1:I") ∷ []) [] (codes "d[0]" ∷ codes "d[1]" ∷ [])

abbrev pub HeldCommands : Type 0
HeldCommands = replay held_commands (lines (codes "mode run"
    ∷ codes "cpu 2"
    ∷ codes "mode program"
    ∷ codes "clear"
    ∷ codes "mode run"
    ∷ codes "@0 out In 0"
    ∷ codes "@0 cancel P"
    ∷ codes "@0 force disable"
    ∷ codes "end"
    ∷ []))
    ≡ lines (codes "0 0 reply 31 ok"
    ∷ codes "0 1 begin T P 0"
    ∷ codes "0 2 reply 31 held"
    ∷ codes "0 2 reply 31 held"
    ∷ codes "0 2 reply 31 held"
    ∷ codes "0 2 reply 0 held"
    ∷ codes "0 2 reply 0 refused E10"
    ∷ codes "0 2 reply 0 ok"
    ∷ codes "end 0 2 run lost 0"
    ∷ [])
