-- How often each instruction was executed: how many of a run's executions are of one version, of one routine and of one place in
-- its code.
use Rattle.std.specs.Prelude.{ℕ, zero, suc, ◌+◌, max, List, [], ◌∷◌, map, filter, count_by, Bool, true, false, not, ◌&&◌, nat_eq}
use Rattle.lgx_engine.specs.declared.place.Execution.{Execution}
use Rattle.lgx_cover.specs.declared.version.Version.{Version}
use Rattle.lgx_cover.specs.declared.row.Counts.{Counts}
use Rattle.lgx_cover.specs.Executions.{Occurrence}

-- ---- versions

abbrev pub is_version : Version → Version → Bool
is_version v w = nat_eq v.program w.program && nat_eq v.number w.number

-- each of them once, where it comes first
abbrev pub once : List Version → List Version
once [] = []
once (v ∷ vs) = v ∷ filter (λ w. not (is_version v w)) (once vs)

-- the executions of a version
abbrev pub in_version : Version → List Occurrence → List Execution
in_version v all = map (λ o. o.execution) (filter (λ o. is_version v o.version) all)

-- ---- routines, by their number

-- of the executions those of a routine
abbrev pub in_routine : ℕ → List Execution → List Execution
in_routine r xs = filter (λ x. nat_eq r x.routine) xs

-- ---- places in the code of a routine, by how many pieces of flat code are left from there on

abbrev pub is_true_at : ℕ → Execution → Bool
is_true_at l x = nat_eq l x.left && x.on

abbrev pub is_false_at : ℕ → Execution → Bool
is_false_at l x = nat_eq l x.left && not x.on

-- of the executions those at a place, with a true and with a false condition
abbrev pub counts : ℕ → List Execution → Counts
counts l xs = record { with_true = count_by (is_true_at l) xs; with_false = count_by (is_false_at l) xs }

-- with one execution more
abbrev pub one_more : Counts → Bool → Counts
one_more c true = record { with_true = c.with_true + 1; with_false = c.with_false }
one_more c false = record { with_true = c.with_true; with_false = c.with_false + 1 }

-- ---- which numbers there are

-- the least number above all of these
abbrev pub above : List ℕ → ℕ
above [] = 0
above (n ∷ ns) = max (n + 1) (above ns)

-- all routines of executions have numbers below this one, and all their places
abbrev pub routines_end : List Execution → ℕ
routines_end xs = above (map (λ x. x.routine) xs)

abbrev pub places_end : List Execution → ℕ
places_end xs = above (map (λ x. x.left) xs)

-- the numbers below n, the greatest first
abbrev pub falling : ℕ → List ℕ
falling zero = []
falling (suc n) = n ∷ falling n
