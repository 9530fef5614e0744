-- The test of the law of scans by what is kept.
use Rattle.std.proofs.Common.{◌≡◌, ℕ, zero, suc, ◌<◌, List, [], ◌∷◌, length, refl, ap, sym, ◌∙◌, arith}
use Rattle.std.specs.Prelude.{◌&&◌, is_none, nat_eq, slice_index, slice_index_or}
use Rattle.spec_schedule.specs.declared.trace.TraceEvent.{TraceEvent}
use Rattle.spec_schedule.specs.declared.trace.TraceEvent.TheVariants.{Began}
use Rattle.spec_schedule.specs.Counting.{Counted, CountedEvent, Numbers}
use Rattle.spec_laws.specs.Scans.{scanned, keeps_scans}
use Rattle.lgx_audit.specs.declared.counts.Count.{Count}
use Rattle.lgx_audit.specs.Along.{no_count, Shown}
use Rattle.lgx_laws.specs.declared.since.Since.{Since}
use Rattle.lgx_laws.specs.Kept.{no_since, Kept}

-- a place within a list needs no default
pub any_default : {A : Type 0} (xs : List A) (i : ℕ) (d e : A) → i < length xs → slice_index_or xs i d ≡ slice_index_or xs i e
any_default [] i d e h = absurd (omega arith)
any_default (x ∷ xs) zero d e h = refl
any_default (x ∷ xs) (suc i) d e h = any_default xs i d e (omega arith)

-- of a begin
pub begins_at : (schedule : List (List ℕ)) (counts : List Count) (kept : List Since) (cs : List Counted) (ns : List Numbers) (past : List CountedEvent) (e : TraceEvent) (t g v : ℕ) (ps d : List ℕ) → Shown counts cs → Kept kept cs past → t < length cs → t < length schedule → e ≡ Began t g v → ps ≡ slice_index_or schedule t d → (is_none (slice_index_or kept t no_since).scan && nat_eq g (slice_index ps (slice_index_or counts t no_count).ended)) ≡ keeps_scans schedule past (record { tasks = cs; programs = ns; event = e })
begins_at schedule counts kept cs ns past e t g v ps d shown held l within is listed =
    ap (λ (qs : List ℕ). is_none (slice_index_or kept t no_since).scan && nat_eq g (slice_index qs (slice_index_or counts t no_count).ended)) (listed ∙ any_default schedule t d [] within)
    ∙ (ap (λ (s : Since). is_none s.scan && nat_eq g (slice_index (slice_index_or schedule t []) (slice_index_or counts t no_count).ended)) (held.each t l)
    ∙ (ap (λ (c : Count). is_none (scanned t cs past) && nat_eq g (slice_index (slice_index_or schedule t []) c.ended)) (shown.each t l)
    ∙ ap (λ (d : TraceEvent). keeps_scans schedule past (record { tasks = cs; programs = ns; event = d })) (sym is)))
