-- Runs of link scripts on two projects, and lines that are refused.
use Rattle.std.specs.Prelude.{◌≡◌, ℕ, List, [], ◌∷◌, Result, Ok, Err, codes, pos}
use Rattle.spec_language.specs.declared.types.Base.TheVariants.{Dint}
use Rattle.spec_machine.specs.Project.{Project}
use Rattle.spec_link.specs.declared.script.LinkCode.{LinkCode}
use Rattle.spec_link.specs.declared.script.LinkFault.{LinkFault}
use Rattle.spec_link.specs.declared.script.LinkScript.{LinkScript}
use Rattle.spec_link.specs.LinkText.{link_of}
use Rattle.spec_link.specs.LinkOutput.{link_output}
use Rattle.test_cases.specs.Samples.{array, dint, continuous, with_words, input, output, is_initially, lines}

-- one counts on an output word
abbrev pub producer : Project
producer = with_words (dint (codes "Local:2:O") ∷ []) (continuous (codes "ADD(Local:2:O,1,Local:2:O);" ∷ []) ∷ []) (output (codes "Out1") (codes "Local:2:O") ∷ []) [] []

-- the other watches an input word
abbrev pub consumer : Project
consumer = with_words (dint (codes "Local:1:I") ∷ []) (continuous [] ∷ []) (input (codes "In1") (codes "Local:1:I") ∷ []) [] (codes "Local:1:I" ∷ [])

-- The output of a link script's text. A text that is none has none.
abbrev pub output_of : Project → Project → Result LinkScript LinkFault → List ℕ
output_of a b (Ok script) = link_output a b script
output_of a b (Err f) = []

abbrev pub linked : Project → Project → List ℕ → List ℕ
linked a b text = output_of a b (link_of a b text)

-- Packets 1, 0 and 1 come in this order, and there is no packet 2.
abbrev pub Reordered : Type 0
Reordered = linked producer consumer (lines (codes "link Out1 In1"
    ∷ codes "a mode run"
    ∷ codes "a cpu 2"
    ∷ codes "send"
    ∷ codes "a cpu 3"
    ∷ codes "send"
    ∷ codes "deliver 1"
    ∷ codes "deliver 0"
    ∷ codes "deliver 1"
    ∷ codes "deliver 2"
    ∷ codes "end"
    ∷ []))
    ≡ lines (codes "a 0 0 reply 31 ok"
    ∷ codes "a 0 1 begin T P 0"
    ∷ codes "a 0 2 reply 31 ok 1"
    ∷ codes "send 0"
    ∷ codes "a 0 4 begin T P 0"
    ∷ codes "a 0 5 reply 31 ok 2"
    ∷ codes "send 1"
    ∷ codes "b 0 0 reply 31 ok"
    ∷ codes "b 0 0 set Local:1:I 2"
    ∷ codes "deliver 1 new"
    ∷ codes "deliver 0 stale"
    ∷ codes "deliver 1 stale"
    ∷ codes "deliver 2 none"
    ∷ codes "a end 0 5 run lost 0"
    ∷ codes "b end 0 0 program lost 0"
    ∷ [])

-- Two words are sent at once. Neither a sending nor a delivery comes between the elements of an open copy.
abbrev pub copier : Project
copier = with_words (array (codes "Local:2:O") Dint 2 ∷ array (codes "d") Dint 2 ∷ []) (continuous (codes "CPS(Local:2:O[0],d[0],2);" ∷ []) ∷ []) (output (codes "Out1") (codes "Local:2:O") ∷ []) (is_initially (codes "Local:2:O[0]") (pos 7) ∷ is_initially (codes "Local:2:O[1]") (pos 8) ∷ []) []

abbrev pub receiver : Project
receiver = with_words (array (codes "Local:1:I") Dint 2 ∷ array (codes "d") Dint 2 ∷ []) (continuous (codes "CPS(Local:1:I[0],d[0],2);" ∷ []) ∷ []) (input (codes "In1") (codes "Local:1:I") ∷ []) [] (codes "Local:1:I[0]" ∷ codes "Local:1:I[1]" ∷ [])

abbrev pub HeldByCopies : Type 0
HeldByCopies = linked copier receiver (lines (codes "link Out1 In1"
    ∷ codes "send"
    ∷ codes "a mode run"
    ∷ codes "a cpu 3"
    ∷ codes "send"
    ∷ codes "b mode run"
    ∷ codes "b cpu 3"
    ∷ codes "deliver 0"
    ∷ codes "deliver 1"
    ∷ codes "b cpu 1"
    ∷ codes "deliver 0"
    ∷ codes "end"
    ∷ []))
    ≡ lines (codes "a 0 0 reply 31 ok 7"
    ∷ codes "a 0 0 reply 31 ok 8"
    ∷ codes "send 0"
    ∷ codes "a 0 0 reply 31 ok"
    ∷ codes "a 0 1 begin T P 0"
    ∷ codes "send held"
    ∷ codes "b 0 0 reply 31 ok"
    ∷ codes "b 0 1 begin T P 0"
    ∷ codes "deliver 0 held"
    ∷ codes "deliver 1 none"
    ∷ codes "b 0 4 reply 31 ok"
    ∷ codes "b 0 4 set Local:1:I[0] 7"
    ∷ codes "b 0 4 reply 31 ok"
    ∷ codes "b 0 4 set Local:1:I[1] 8"
    ∷ codes "deliver 0 new"
    ∷ codes "a end 0 3 run lost 0"
    ∷ codes "b end 0 4 run lost 0"
    ∷ [])

-- ---- refused lines

abbrev pub read : List (List ℕ) → Result LinkScript LinkFault
read text = link_of producer consumer (lines text)

abbrev pub at_line : ℕ → LinkCode → Result LinkScript LinkFault
at_line n code = Err (record { code = code; line = n })

-- what the second line is refused for, if there is one
abbrev pub second : List ℕ → Result LinkScript LinkFault
second line = read (codes "link Out1 In1" ∷ line ∷ codes "end" ∷ [])
