-- Programs whose main routine is there.
use Rattle.std.specs.Prelude.{Bool, nat_lt, List, length}
use Rattle.std.specs.List.{list_all}
use Rattle.lgx_edit.specs.declared.texts.ProgramText.{ProgramText}

abbrev pub has_main : ProgramText → Bool
has_main p = nat_lt p.main (length p.routines)

abbrev pub have_mains : List ProgramText → Bool
have_mains programs = list_all has_main programs
