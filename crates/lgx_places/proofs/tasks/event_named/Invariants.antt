use Rattle.std.proofs.Common.{◌≡◌, ◌&&◌, drop}
use Rattle.std.specs.List.{position_from}
use Rattle.lgx_num.specs.Name.{same}
use Rattle.spec_machine.specs.ValidProject.{is_event}
use Rattle.lgx_places.proofs.tasks.event_named.Given as goal

abbrev pub invariant-loop-n : goal.invariant-loop-n
invariant-loop-n l = position_from (λ t. same t.name l.name && is_event t.def.kind) l.n (drop l.n l.tasks) ≡ position_from (λ t. same t.name l.name && is_event t.def.kind) 0 l.tasks
