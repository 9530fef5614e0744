-- The opening is served, and there is room for all that turns will add.
use Rattle.std.proofs.Common.{subst}
use Rattle.std.specs.Prelude.{IsTrue}
use Rattle.spec_text.specs.Scripts.{Script, is_script}
use Rattle.lgx_shared.proofs.Making.{just_made, new_is_recorder}
use Rattle.lgx_shared.proofs.Numbers.{above_none}
use Rattle.lgx_shared.proofs.script_run.ScriptRun.new.Goals as goal

pub opened-requires : goal.opened-requires
opened-requires c = above_none c.room_for.result _ c.room_for.ensures

pub returns : goal.returns
returns c =
    just_made c.args.project c.args.script c.in_ok-recording.recording c.in_ok-counts.counts.items c.room_for.result c.lanes_of.result
    (subst (λ (s : Script). IsTrue (is_script s)) c.script.view_is c.script.invariant)
    c.in_ok-recording.ensures.records c.in_ok-recording.ensures.room c.room_for.ensures
    (c.in_ok-counts.ensures.items_if_clones_equal (λ y e. e)) c.lanes_of.ensures.is

pub invariant_of-result : goal.invariant_of-result
invariant_of-result c =
    new_is_recorder c.args.project c.args.script _
    (just_made c.args.project c.args.script c.in_ok-recording.recording c.in_ok-counts.counts.items c.room_for.result c.lanes_of.result
    (subst (λ (s : Script). IsTrue (is_script s)) c.script.view_is c.script.invariant)
    c.in_ok-recording.ensures.records c.in_ok-recording.ensures.room c.room_for.ensures
    (c.in_ok-counts.ensures.items_if_clones_equal (λ y e. e)) c.lanes_of.ensures.is)
