-- That an operand has nothing to do with a byte of the image, wherever its subscripts lead.
use Rattle.std.specs.Prelude.{ℕ, ◌+◌, ◌/◌, ◌<◌, ◌≤◌, ◌⊎◌}
use Rattle.std.specs.List.{AllByRecursion as Each}
use Rattle.spec_base.specs.declared.limits.TheConstants.{TIMER_BYTES, COUNTER_BYTES}
use Rattle.lgx_num.specs.declared.place.Operand.{Operand}
use Rattle.lgx_num.specs.declared.place.Operand.TheVariants as operand
use Rattle.lgx_num.specs.declared.place.Path.{Path}
use Rattle.lgx_num.specs.declared.place.Place.{Place}
use Rattle.lgx_num.specs.Number.{bytes_in}
use Rattle.lgx_num.specs.Paths.{CanReach}
use Rattle.lgx_rung.specs.declared.ins.Ins.{Ins}
use Rattle.spec_uses.specs.Written.{written}

-- byte b isn't among the bytes from `at` up to before `stop`
abbrev pub IsBeside : ℕ → ℕ → ℕ → Type 0
IsBeside at stop b = (b < at) ⊎ (stop ≤ b)

-- Of an operand that is a place: this holds of its path, and of where the bytes end that begin at a byte. Those of a block end where
-- its tag does.
abbrev pub OfPlace : (Path → (ℕ → ℕ) → Type 0) → Operand → Type 0
OfPlace P (operand.Cell p) = P p (λ at. at + bytes_in p.kind)
OfPlace P (operand.Timer p) = P p (λ at. at + TIMER_BYTES)
OfPlace P (operand.Counter p) = P p (λ at. at + COUNTER_BYTES)
OfPlace P (operand.Block k) = P k.path (λ at. k.stop)
OfPlace P _ = Unit {0}

-- byte b isn't among the bytes to which a path leads, whatever its subscripts are in range
abbrev pub PathMisses : ℕ → Path → (ℕ → ℕ) → Type 0
PathMisses b p stop = (to : ℕ) → CanReach p.steps p.at to → IsBeside (to / 8) (stop (to / 8)) b

-- an operand that is no place misses every byte
abbrev pub Misses : ℕ → Operand → Type 0
Misses b o = OfPlace (PathMisses b) o

-- the same of a place
abbrev pub PlaceMisses : ℕ → Place → Type 0
PlaceMisses b p = IsBeside (p.at / 8) (p.at / 8 + bytes_in p.kind) b

-- the operands that an instruction may write have nothing to do with byte b
abbrev pub WritesBeside : ℕ → Ins → Type 0
WritesBeside b i = Each (Misses b) (written i)
