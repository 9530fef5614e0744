-- The copy of a task by what is kept.
use Rattle.std.proofs.Common.{◌≡◌, ℕ, ◌<◌, List, length, ap, ◌∙◌, arith}
use Rattle.std.specs.Prelude.{slice_index_or}
use Rattle.spec_schedule.specs.Counting.{Counted, CountedEvent}
use Rattle.lgx_laws.specs.declared.since.Since.{Since}
use Rattle.lgx_laws.specs.Copies.{copied}
use Rattle.lgx_laws.specs.Kept.{no_since, Kept}
use Rattle.lgx_laws.proofs.ScansAt.{any_default}

pub copy_at : (kept : List Since) (cs : List Counted) (past : List CountedEvent) → Kept kept cs past → (d : Since) (t : ℕ) → t < length kept → (slice_index_or kept t d).copy ≡ copied t cs past
copy_at kept cs past h d t l = ap (λ (s : Since). s.copy) (any_default kept t d no_since l ∙ h.each t (let m = h.many in omega arith))
