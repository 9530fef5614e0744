-- Which packets are taken.
use Rattle.std.specs.Prelude.{ℕ, Option, Some, if◌then◌else◌}
use Rattle.spec_link.specs.Links.{is_newer}
use Rattle.lgx_link.specs.declared.consumer.Taken.{Taken}
use Rattle.lgx_link.specs.declared.consumer.Taken.TheVariants.{New, Stale}

-- whether a packet of this number is taken after that of the last one
abbrev pub taken : Option ℕ → ℕ → Taken
taken last n = if is_newer last n then New else Stale

-- the number of the packet taken last, then
abbrev pub last_after : Option ℕ → ℕ → Option ℕ
last_after last n = if is_newer last n then Some n else last
