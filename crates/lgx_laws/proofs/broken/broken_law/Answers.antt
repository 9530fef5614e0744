use Rattle.std.proofs.Common.{◌∙◌, sym}
use Rattle.spec_schedule.specs.Counting.{CountedEvent}
use Rattle.lgx_laws.specs.Laws.{Roster}
use Rattle.lgx_laws.proofs.FirstBroken.{first, second, third, fourth, fifth, sixth, seventh, eighth, ninth, tenth, none}
use Rattle.lgx_laws.proofs.broken.broken_law.Goals as goal

pub returns-then-not-keeps_region : goal.returns-then-not-keeps_region
returns-then-not-keeps_region c table cs ns past shown held books mode run =
    let r : Roster = record { table = table; tasks = c.args.tasks.now; schedule = c.args.schedule.now } in
    let x : CountedEvent = record { tasks = cs; programs = ns; event = c.args.e.now } in
    first r past x
    (sym (c.keeps_region.ensures cs ns shown) ∙ c.if-not-keeps_region.true)

pub returns-then-not-keeps_copies : goal.returns-then-not-keeps_copies
returns-then-not-keeps_copies c table cs ns past shown held books mode run =
    let r : Roster = record { table = table; tasks = c.args.tasks.now; schedule = c.args.schedule.now } in
    let x : CountedEvent = record { tasks = cs; programs = ns; event = c.args.e.now } in
    second r past x
    (sym (c.keeps_region.ensures cs ns shown) ∙ c.if-not-keeps_region.false)
    (sym (c.keeps_copies.ensures cs ns past held) ∙ c.if-not-keeps_copies.true)

pub returns-then-not-keeps_watchdogs : goal.returns-then-not-keeps_watchdogs
returns-then-not-keeps_watchdogs c table cs ns past shown held books mode run =
    let r : Roster = record { table = table; tasks = c.args.tasks.now; schedule = c.args.schedule.now } in
    let x : CountedEvent = record { tasks = cs; programs = ns; event = c.args.e.now } in
    third r past x
    (sym (c.keeps_region.ensures cs ns shown) ∙ c.if-not-keeps_region.false)
    (sym (c.keeps_copies.ensures cs ns past held) ∙ c.if-not-keeps_copies.false)
    (sym (c.keeps_watchdogs.ensures cs ns past shown held) ∙ c.if-not-keeps_watchdogs.true)

pub returns-then-not-keeps_releases : goal.returns-then-not-keeps_releases
returns-then-not-keeps_releases c table cs ns past shown held books mode run =
    let r : Roster = record { table = table; tasks = c.args.tasks.now; schedule = c.args.schedule.now } in
    let x : CountedEvent = record { tasks = cs; programs = ns; event = c.args.e.now } in
    fourth r past x
    (sym (c.keeps_region.ensures cs ns shown) ∙ c.if-not-keeps_region.false)
    (sym (c.keeps_copies.ensures cs ns past held) ∙ c.if-not-keeps_copies.false)
    (sym (c.keeps_watchdogs.ensures cs ns past shown held) ∙ c.if-not-keeps_watchdogs.false)
    (sym (c.keeps_releases.ensures cs ns past shown run) ∙ c.if-not-keeps_releases.true)

pub returns-then-not-keeps_starts : goal.returns-then-not-keeps_starts
returns-then-not-keeps_starts c table cs ns past shown held books mode run =
    let r : Roster = record { table = table; tasks = c.args.tasks.now; schedule = c.args.schedule.now } in
    let x : CountedEvent = record { tasks = cs; programs = ns; event = c.args.e.now } in
    fifth r past x
    (sym (c.keeps_region.ensures cs ns shown) ∙ c.if-not-keeps_region.false)
    (sym (c.keeps_copies.ensures cs ns past held) ∙ c.if-not-keeps_copies.false)
    (sym (c.keeps_watchdogs.ensures cs ns past shown held) ∙ c.if-not-keeps_watchdogs.false)
    (sym (c.keeps_releases.ensures cs ns past shown run) ∙ c.if-not-keeps_releases.false)
    (sym (c.keeps_starts.ensures cs ns past shown mode) ∙ c.if-not-keeps_starts.true)

pub returns-then-not-keeps_triggers : goal.returns-then-not-keeps_triggers
returns-then-not-keeps_triggers c table cs ns past shown held books mode run =
    let r : Roster = record { table = table; tasks = c.args.tasks.now; schedule = c.args.schedule.now } in
    let x : CountedEvent = record { tasks = cs; programs = ns; event = c.args.e.now } in
    sixth r past x
    (sym (c.keeps_region.ensures cs ns shown) ∙ c.if-not-keeps_region.false)
    (sym (c.keeps_copies.ensures cs ns past held) ∙ c.if-not-keeps_copies.false)
    (sym (c.keeps_watchdogs.ensures cs ns past shown held) ∙ c.if-not-keeps_watchdogs.false)
    (sym (c.keeps_releases.ensures cs ns past shown run) ∙ c.if-not-keeps_releases.false)
    (sym (c.keeps_starts.ensures cs ns past shown mode) ∙ c.if-not-keeps_starts.false)
    (sym (c.keeps_triggers.ensures cs ns shown) ∙ c.if-not-keeps_triggers.true)

pub returns-then-not-keeps_scans : goal.returns-then-not-keeps_scans
returns-then-not-keeps_scans c table cs ns past shown held books mode run =
    let r : Roster = record { table = table; tasks = c.args.tasks.now; schedule = c.args.schedule.now } in
    let x : CountedEvent = record { tasks = cs; programs = ns; event = c.args.e.now } in
    seventh r past x
    (sym (c.keeps_region.ensures cs ns shown) ∙ c.if-not-keeps_region.false)
    (sym (c.keeps_copies.ensures cs ns past held) ∙ c.if-not-keeps_copies.false)
    (sym (c.keeps_watchdogs.ensures cs ns past shown held) ∙ c.if-not-keeps_watchdogs.false)
    (sym (c.keeps_releases.ensures cs ns past shown run) ∙ c.if-not-keeps_releases.false)
    (sym (c.keeps_starts.ensures cs ns past shown mode) ∙ c.if-not-keeps_starts.false)
    (sym (c.keeps_triggers.ensures cs ns shown) ∙ c.if-not-keeps_triggers.false)
    (sym (c.keeps_scans.ensures cs ns past shown held) ∙ c.if-not-keeps_scans.true)

pub returns-then-not-keeps_modes : goal.returns-then-not-keeps_modes
returns-then-not-keeps_modes c table cs ns past shown held books mode run =
    let r : Roster = record { table = table; tasks = c.args.tasks.now; schedule = c.args.schedule.now } in
    let x : CountedEvent = record { tasks = cs; programs = ns; event = c.args.e.now } in
    eighth r past x
    (sym (c.keeps_region.ensures cs ns shown) ∙ c.if-not-keeps_region.false)
    (sym (c.keeps_copies.ensures cs ns past held) ∙ c.if-not-keeps_copies.false)
    (sym (c.keeps_watchdogs.ensures cs ns past shown held) ∙ c.if-not-keeps_watchdogs.false)
    (sym (c.keeps_releases.ensures cs ns past shown run) ∙ c.if-not-keeps_releases.false)
    (sym (c.keeps_starts.ensures cs ns past shown mode) ∙ c.if-not-keeps_starts.false)
    (sym (c.keeps_triggers.ensures cs ns shown) ∙ c.if-not-keeps_triggers.false)
    (sym (c.keeps_scans.ensures cs ns past shown held) ∙ c.if-not-keeps_scans.false)
    (sym (c.keeps_modes.ensures cs ns past shown mode) ∙ c.if-not-keeps_modes.true)

pub returns-then-not-keeps_edits : goal.returns-then-not-keeps_edits
returns-then-not-keeps_edits c table cs ns past shown held books mode run =
    let r : Roster = record { table = table; tasks = c.args.tasks.now; schedule = c.args.schedule.now } in
    let x : CountedEvent = record { tasks = cs; programs = ns; event = c.args.e.now } in
    ninth r past x
    (sym (c.keeps_region.ensures cs ns shown) ∙ c.if-not-keeps_region.false)
    (sym (c.keeps_copies.ensures cs ns past held) ∙ c.if-not-keeps_copies.false)
    (sym (c.keeps_watchdogs.ensures cs ns past shown held) ∙ c.if-not-keeps_watchdogs.false)
    (sym (c.keeps_releases.ensures cs ns past shown run) ∙ c.if-not-keeps_releases.false)
    (sym (c.keeps_starts.ensures cs ns past shown mode) ∙ c.if-not-keeps_starts.false)
    (sym (c.keeps_triggers.ensures cs ns shown) ∙ c.if-not-keeps_triggers.false)
    (sym (c.keeps_scans.ensures cs ns past shown held) ∙ c.if-not-keeps_scans.false)
    (sym (c.keeps_modes.ensures cs ns past shown mode) ∙ c.if-not-keeps_modes.false)
    (sym (c.keeps_edits.ensures cs ns past books) ∙ c.if-not-keeps_edits.true)

pub returns-then-not-keeps_numbers : goal.returns-then-not-keeps_numbers
returns-then-not-keeps_numbers c table cs ns past shown held books mode run =
    let r : Roster = record { table = table; tasks = c.args.tasks.now; schedule = c.args.schedule.now } in
    let x : CountedEvent = record { tasks = cs; programs = ns; event = c.args.e.now } in
    tenth r past x
    (sym (c.keeps_region.ensures cs ns shown) ∙ c.if-not-keeps_region.false)
    (sym (c.keeps_copies.ensures cs ns past held) ∙ c.if-not-keeps_copies.false)
    (sym (c.keeps_watchdogs.ensures cs ns past shown held) ∙ c.if-not-keeps_watchdogs.false)
    (sym (c.keeps_releases.ensures cs ns past shown run) ∙ c.if-not-keeps_releases.false)
    (sym (c.keeps_starts.ensures cs ns past shown mode) ∙ c.if-not-keeps_starts.false)
    (sym (c.keeps_triggers.ensures cs ns shown) ∙ c.if-not-keeps_triggers.false)
    (sym (c.keeps_scans.ensures cs ns past shown held) ∙ c.if-not-keeps_scans.false)
    (sym (c.keeps_modes.ensures cs ns past shown mode) ∙ c.if-not-keeps_modes.false)
    (sym (c.keeps_edits.ensures cs ns past books) ∙ c.if-not-keeps_edits.false)
    (sym (c.keeps_numbers.ensures cs ns past books) ∙ c.if-not-keeps_numbers.true)

pub returns : goal.returns
returns c table cs ns past shown held books mode run =
    let r : Roster = record { table = table; tasks = c.args.tasks.now; schedule = c.args.schedule.now } in
    let x : CountedEvent = record { tasks = cs; programs = ns; event = c.args.e.now } in
    none r past x
    (sym (c.keeps_region.ensures cs ns shown) ∙ c.if-not-keeps_region.false)
    (sym (c.keeps_copies.ensures cs ns past held) ∙ c.if-not-keeps_copies.false)
    (sym (c.keeps_watchdogs.ensures cs ns past shown held) ∙ c.if-not-keeps_watchdogs.false)
    (sym (c.keeps_releases.ensures cs ns past shown run) ∙ c.if-not-keeps_releases.false)
    (sym (c.keeps_starts.ensures cs ns past shown mode) ∙ c.if-not-keeps_starts.false)
    (sym (c.keeps_triggers.ensures cs ns shown) ∙ c.if-not-keeps_triggers.false)
    (sym (c.keeps_scans.ensures cs ns past shown held) ∙ c.if-not-keeps_scans.false)
    (sym (c.keeps_modes.ensures cs ns past shown mode) ∙ c.if-not-keeps_modes.false)
    (sym (c.keeps_edits.ensures cs ns past books) ∙ c.if-not-keeps_edits.false)
    (sym (c.keeps_numbers.ensures cs ns past books) ∙ c.if-not-keeps_numbers.false)
