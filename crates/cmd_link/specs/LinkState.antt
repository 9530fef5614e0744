-- The command `link A B L` under way.
use Rattle.std.specs.Prelude.{ℕ, List}
use Rattle.lgx_answer.specs.Plan.{Plan}
use Rattle.cmd_link.specs.declared.command.Link.{Link}
use Rattle.cmd_link.specs.declared.command.Link.TheVariants.{All, OnA, OnBoth}
use Rattle.cmd_link.specs.LinkPlan.{a_read, b_read, script_read}

-- the file that is read next
abbrev pub link_file : Link → List ℕ
link_file (All a b script) = a.now
link_file (OnA a b script) = b.now
link_file (OnBoth a b script) = script.now

-- what its bytes lead to
abbrev pub link_next : Link → List ℕ → Plan
link_next (All a b script) bytes = a_read b.now script.now bytes
link_next (OnA a b script) bytes = b_read script.now a bytes
link_next (OnBoth a b script) bytes = script_read a b bytes

-- how many files are read after it
abbrev pub link_left : Link → ℕ
link_left (All a b script) = 2
link_left (OnA a b script) = 1
link_left (OnBoth a b script) = 0
