-- What is kept after one event more is what the definitions count back.
use Rattle.std.proofs.Common.{◌≡◌, ℕ, ◌+◌, ◌<◌, ◌≤◌, Bool, true, false, List, [], ◌∷◌, length, map, Option, None, refl, sym, ◌∙◌, ap, arith}
use Rattle.std.specs.Prelude.{slice_index_or, nat_eq, if◌then◌else◌, ◌&&◌, replicate}
use Rattle.std.proofs.lemmas.List.{length-map, length-replicate, get_or-replicate}
use Rattle.spec_schedule.specs.declared.trace.AuditTask.{AuditTask}
use Rattle.spec_schedule.specs.declared.trace.TraceEvent.{TraceEvent}
use Rattle.spec_schedule.specs.Counting.{Counted, uncounted, counted, counted_all, CountedEvent, Numbers}
use Rattle.spec_schedule.specs.Legal.{no_task}
use Rattle.spec_legal.proofs.CountedLists.{counts_length, count_at}
use Rattle.spec_laws.specs.CountedBack.{ticks_in, is_up_since}
use Rattle.spec_laws.specs.Scans.{scanned_after}
use Rattle.lgx_laws.specs.declared.since.Since.{Since}
use Rattle.lgx_laws.specs.Copies.{copied_after}
use Rattle.lgx_laws.specs.Kept.{no_since, since, Kept}

-- what is kept of task t, by whether it stays up
abbrev pub kept_if : ℕ → TraceEvent → Bool → Since → Since
kept_if t e stays s = if stays then record { ticks = ticks_in e + s.ticks; scan = scanned_after t e s.scan; copy = copied_after t e s.copy } else no_since

since_if : (t : ℕ) (e : TraceEvent) (b : Bool) (ticks : ℕ) (scan : Option ℕ) (copy : Option Bool) → kept_if t e b (record { ticks = ticks; scan = scan; copy = copy }) ≡ record { ticks = if b then ticks_in e + ticks else 0; scan = if b then scanned_after t e scan else None; copy = if b then copied_after t e copy else None }
since_if t e true ticks scan copy = refl
since_if t e false ticks scan copy = refl

pub kept_all : (ds : List AuditTask) (e : TraceEvent) (old new : List Since) (cs : List Counted) (ns : List Numbers) (past : List CountedEvent) → length cs ≡ length ds → length new ≡ length old → Kept old cs past → ((t : ℕ) → t < length ds → slice_index_or new t no_since ≡ kept_if t e ((slice_index_or cs t uncounted).up && nat_eq (slice_index_or cs t uncounted).downs (counted (slice_index_or ds t no_task) t e (slice_index_or cs t uncounted)).downs) (slice_index_or old t no_since)) → Kept new (counted_all ds e cs) (record { tasks = cs; programs = ns; event = e } ∷ past)
kept_all ds e old new cs ns past many same h each =
    let m = h.many in
    let long = counts_length 0 ds e cs many in
    let x : CountedEvent = record { tasks = cs; programs = ns; event = e } in
    let now = counted_all ds e cs in
    record {
      many = same ∙ m ∙ many ∙ sym long;
      each = λ t within.
          (let lt : t < length ds = omega arith in
          let was = slice_index_or cs t uncounted in
          let is : slice_index_or now t uncounted ≡ counted (slice_index_or ds t no_task) t e was = count_at 0 ds e cs t many lt ∙ ap (λ n. counted (slice_index_or ds t no_task) n e was) (let z : 0 + t ≡ t = omega arith in z) in
          each t lt
          ∙ (ap (λ (c : Counted). kept_if t e (was.up && nat_eq was.downs c.downs) (slice_index_or old t no_since)) (sym is)
          ∙ (ap (λ (s : Since). kept_if t e (is_up_since t now x) s) (h.each t (omega arith))
          ∙ since_if t e (is_up_since t now x) (since t cs past).ticks (since t cs past).scan (since t cs past).copy)));
    }

-- at the start nothing is
pub kept_first : (ds : List AuditTask) (xs : List Since) → xs ≡ replicate (length ds) no_since → Kept xs (map (λ d. uncounted) ds) [] × (length xs ≡ length ds) × ((t : ℕ) → t < length xs → (slice_index_or xs t no_since).ticks ≤ 0)
kept_first ds xs is =
    let long : length xs ≡ length ds = ap length is ∙ length-replicate (length ds) no_since in
    let at : (t : ℕ) → t < length ds → slice_index_or xs t no_since ≡ no_since = λ t within. ap (λ (ys : List Since). slice_index_or ys t no_since) is ∙ get_or-replicate (length ds) t no_since no_since within in
    let m = length-map ds (λ (d : AuditTask). uncounted) in (
      record { many = long ∙ sym m; each = λ t within. at t (omega arith) },
      long,
      (λ t within. let e = ap (λ (s : Since). s.ticks) (at t (omega arith)) in omega arith),
    )
