use Rattle.std.proofs.Common.{ap}
use Rattle.lgx_audit.specs.Along.{program_of}
use Rattle.lgx_audit.proofs.numbers.keeps_version.Goals as goal

pub bounds-tallies-program : goal.bounds-tallies-program
bounds-tallies-program c = c.requires c.in-Began.program (ap program_of c.in-Began.is)
