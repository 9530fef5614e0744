-- What the lanes' threads share may cross threads.
use Rattle.std.proofs.Common.{ℕ, ◌+◌, ◌<◌, ◌≤◌, rules, subst}
use Rattle.std.specs.Prelude.{slice_index_or}
use mathlib.Core.List.{IsPrefix}
use denote.Param.{param}
use denote.Param.Send.{IsSend, IsSync, sendable}
use Rattle.std.proofs.Crossing.{crosses}
use Rattle.lgx_lanes.specs.contracts.locked_run.LockedRun as LockedRun
use Rattle.lgx_lanes.specs.contracts.shared.Shared as Shared
use Rattle.lgx_lanes.proofs.Crossing.{under_lock_send}
use Rattle.lgx_lanes.proofs.lanes.run_lanes.Goals as goal

pub for_each_mut-requires-sync-F : goal.for_each_mut-requires-sync-F
for_each_mut-requires-sync-F g c κs within =
    let I = param 0 g.row.I in
    let R = param 1 g.row.R in
    let A = param 2 g.row.A in
    let S = param 3 g.row.S in
    let E = param 4 g.row.E in
    let kept : IsSend (LockedRun.the_row I R A S E g.I.Input g.A.Ledger g.S.Ledger g.E.Ledger g.R.Recorded) =
    under_lock_send I R A S E g.I.Input g.A.Ledger g.S.Ledger g.E.Ledger g.R.Recorded c.type_bounds.send-I c.type_bounds.send-R c.type_bounds.send-A c.type_bounds.send-S c.type_bounds.send-E in
    let shared : IsSync (Shared.the_row I R A S E g.I.Input g.R.Recorded g.A.Ledger g.S.Ledger g.E.Ledger) = search (sendable, crosses) depth 300 fits 100000 in
    let gate = c.type_bounds.sync-G in
    let rt = c.type_bounds.sync-T in
    search (sendable, crosses) depth 60 fits 100000

pub returns-clause-sees : goal.returns-clause-sees
returns-clause-sees g c = λ i d below.
    let e = (c.for_each_mut.ensures i d below).1 in
    let sees : IsPrefix e.argument.now.front.events e.after_call.now.front.events = search rules in
    subst (λ x. IsPrefix x.front.events (slice_index_or c.for_each_mut.new.s i d).front.events) e.argument_is
    (subst (λ y. IsPrefix e.argument.now.front.events y.front.events) e.left sees)

pub returns-clause-asked : goal.returns-clause-asked
returns-clause-asked g c = λ i d below.
    let e = (c.for_each_mut.ensures i d below).1 in
    let asked : (n : ℕ) → e.argument.now.actions ≤ n → n < e.after_call.now.actions + e.after_call.now.ends → g.G.Gate.asked c.args.gate.now e.argument.now.lane n = search rules in
    let q = slice_index_or c.for_each_mut.new.s i d in
    subst (λ x. (n : ℕ) → x.actions ≤ n → n < q.actions + q.ends → g.G.Gate.asked c.args.gate.now x.lane n) e.argument_is
    (subst (λ y. (n : ℕ) → e.argument.now.actions ≤ n → n < y.actions + y.ends → g.G.Gate.asked c.args.gate.now e.argument.now.lane n) e.left asked)
