-- When what an operand names lies in an image, whatever numbers in range its subscripts have.
use Rattle.std.specs.Prelude.{◌≡◌, ℕ, ◌+◌, ◌*◌, ◌%◌, ◌<◌, ◌≤◌, List, [], ◌∷◌}
use Rattle.spec_base.specs.declared.limits.TheConstants.{TIMER_BYTES, COUNTER_BYTES}
use Rattle.lgx_num.specs.declared.place.Index.{Index}
use Rattle.lgx_num.specs.declared.place.Path.{Path}
use Rattle.lgx_num.specs.declared.place.Operand.{Operand}
use Rattle.lgx_num.specs.declared.place.Operand.TheVariants as operand
use Rattle.lgx_num.specs.Image.{InBoundsAt, InBounds}

-- the subscripts lead from bit at to bit to by some numbers from 0 and below their lengths
abbrev pub CanReach : List Index → ℕ → ℕ → Type 0
CanReach [] at to = to ≡ at
CanReach (i ∷ is) at to = (n : ℕ) × (rest : ℕ) × (n < i.length) × CanReach is at rest × (to ≡ n * i.stride + rest)

-- each subscript lies in the image, on a byte
abbrev pub SubscriptsInBounds : List Index → ℕ → Type 0
SubscriptsInBounds [] len = Unit {0}
SubscriptsInBounds (i ∷ is) len = (i.of.at % 8 ≡ 0) × InBounds i.of len × SubscriptsInBounds is len

-- a path's subscripts lie in an image of this many bytes, and wherever they lead, what is there meets a condition
abbrev pub PathInBounds : Path → ℕ → (ℕ → Type 0) → Type 0
PathInBounds p len Meets = SubscriptsInBounds p.steps len × ((to : ℕ) → CanReach p.steps p.at to → Meets to)

-- `size` bytes from bit `to` on, the first of a byte, end at or before byte `end`
abbrev pub BytesInBounds : ℕ → ℕ → ℕ → Type 0
BytesInBounds size end to = (to % 8 ≡ 0) × (to + 8 * size ≤ 8 * end)

-- an operand's path lies in an image of this many bytes for all subscripts in range
abbrev pub OperandInBounds : Operand → ℕ → Type 0
OperandInBounds (operand.Number n) len = Unit {0}
OperandInBounds (operand.Cell p) len = PathInBounds p len (λ to. InBoundsAt p.kind to len)
OperandInBounds (operand.Timer p) len = PathInBounds p len (BytesInBounds TIMER_BYTES len)
OperandInBounds (operand.Counter p) len = PathInBounds p len (BytesInBounds COUNTER_BYTES len)
OperandInBounds (operand.Block b) len = (1 ≤ b.size) × PathInBounds b.path len (λ to. BytesInBounds b.size len to × BytesInBounds b.size b.stop to)
OperandInBounds (operand.FlagOf f) len = Unit {0}
OperandInBounds (operand.Routine r) len = Unit {0}
OperandInBounds (operand.Label l) len = Unit {0}
OperandInBounds (operand.Task t) len = Unit {0}
OperandInBounds operand.Blank len = Unit {0}
