-- The instructions of a rung that a walk is in.
use Rattle.std.specs.Prelude.{ℕ, ◌-◌, List, map}
use Rattle.std.specs.List.{enumerate_from}
use Rattle.lgx_rung.specs.declared.ins.Ins.{Ins}
use Rattle.spec_uses.specs.Uses.{Site, site}
use Rattle.lgx_xref.specs.declared.placed.RungPlace.{RungPlace}

-- instructions of the rung, with `after` of the program before them
abbrev pub sites_on : RungPlace → ℕ → List Ins → List Site
sites_on s after is = map (site s.program s.routine s.rung) (enumerate_from (after - s.before) is)
