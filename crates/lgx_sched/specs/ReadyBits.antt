-- A word that says which queues have a task.
use Rattle.std.specs.Prelude.{◌≡◌, ℕ, ◌<◌, List, [], ◌∷◌, length, Option, Some, None, slice_index_or}
use Rattle.std.specs.Int.{bit_at}
use Rattle.spec_base.specs.declared.limits.TheConstants.{LEAST_PRIORITY}

-- 1 for a queue that has a task
abbrev pub ready_bit : List ℕ → ℕ
ready_bit [] = 0
ready_bit (t ∷ q) = 1

-- there is a queue for each priority, and the bits of the word are those of the queues
pub record AreReady (queues : List (List ℕ)) (word : ℕ) : Type 0 where
  pub queue_each : length queues ≡ LEAST_PRIORITY
  pub bits : (p : ℕ) → bit_at word p ≡ ready_bit (slice_index_or queues p [])

-- the least bit that is 1, or none
abbrev pub FirstBit : ℕ → Option ℕ → Type 0
FirstBit word None = (i : ℕ) → bit_at word i ≡ 0
FirstBit word (Some first) = (bit_at word first ≡ 1) × ((i : ℕ) → i < first → bit_at word i ≡ 0)
