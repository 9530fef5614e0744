use Rattle.std.proofs.Common.{◌≡◌, ◌++◌, [], ◌%◌, refl, ap, ◌∙◌, append_assoc}
use Rattle.std.specs.Prelude.{◌==◌, if◌then◌else◌}
use Rattle.std.proofs.lemmas.List.{append-nil}
use Rattle.lgx_gen.specs.Draws.{state_after}
use Rattle.lgx_gen.specs.JournalText.{edit, round}
use Rattle.lgx_gen.proofs.DrawsOn.{next_state_is, next_draw_is, state_after-at}
use Rattle.lgx_gen.proofs.JournalOn.{edit-later, tenth, other, draws_in-tenth, draws_in-other}
use Rattle.lgx_gen.proofs.journal.push_round.Goals as goal
use Rattle.lgx_gen.proofs.journal.push_round.Goals.{then-number-eq9+in_ok-push_edit, else-number-eq9}

pub returns-clause-text : goal.returns-clause-text
unfolding round
returns-clause-text c =
    let n = c.args.draws.now in
    let number = c.args.number in
    let second = next_state_is 1 c.below.new.self n c.below.ensures.state c.below-2.ensures.state in
    let third = next_state_is 2 c.below-2.new.self n second c.below-3.ensures.state in
    let word = next_draw_is 1 c.below.new.self 4 n c.below.ensures.state c.below-2.ensures.drawn in
    let value = next_draw_is 2 c.below-2.new.self 65536 n second c.below-3.ensures.drawn in
    let joined : c.if-number-eq9.text.items ≡ c.push.new.self.items ++ (if number % 10 == 9 then edit n 3 else []) =
    elim c.if-number-eq9.branch [
      | then-number-eq9+in_ok-push_edit w ↦
          let drawn = ap (λ s. edit s 0) third ∙ edit-later 3 0 3 n refl in
          let given = tenth number (edit n 3) [] w.if-number-eq9.true in
          let text = w.in_ok-push_edit.ensures.text in
          let is = w.text-is in
          cc
      | else-number-eq9 w ↦
          let given = other number (edit n 3) [] w.if-number-eq9.false in
          let none = append-nil c.push.new.self.items in
          let is = w.text-is in
          cc
    ] in
    rw (
      c.in_ok-extend_from_slice.ensures.items,
      joined,
      c.in_ok-push.ensures.items,
      c.in_ok-push_numbered-3.ensures,
      c.in_ok-push_numbered-2.ensures,
      c.in_ok-push_numbered.ensures,
      value,
      word,
      c.below.ensures.drawn,
    ) (simp append_assoc)

pub returns-clause-draws : goal.returns-clause-draws
returns-clause-draws c =
    let n = c.args.draws.now in
    let number = c.args.number in
    let second = next_state_is 1 c.below.new.self n c.below.ensures.state c.below-2.ensures.state in
    let third = next_state_is 2 c.below-2.new.self n second c.below-3.ensures.state in
    elim c.if-number-eq9.branch [
      | then-number-eq9+in_ok-push_edit w ↦
          let fifth = w.in_ok-push_edit.ensures.draws ∙ ap (state_after 2) third ∙ state_after-at 3 2 5 n refl in
          rw (w.draws-is, draws_in-tenth number w.if-number-eq9.true) fifth
      | else-number-eq9 w ↦ rw (w.draws-is, draws_in-other number w.if-number-eq9.false) third
    ]
