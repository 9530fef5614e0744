use Rattle.std.proofs.Common.{◌≡◌, ◌+◌, ◌*◌, inl, inr, true, false, ◌||◌, sym, ap, ◌∙◌, subst, arith}
use Rattle.std.proofs.lemmas.Bool.{cases_lt}
use Rattle.lgx_watch.specs.Watches.{is_member, LiesInWord}
use Rattle.lgx_watch.proofs.Spanned.{word_in_grain, grain_has_word, in_first, in_second, in_either}
use Rattle.lgx_watch.proofs.watch_index.WatchIndex.of.Goals as goal

pub loop-word-preserved : goal.loop-word-preserved
loop-word-preserved c =
    let set = c.loop-word.set in
    let row = c.of_row.result in
    let n = c.loop-word.word in
    record {
      members = λ k w p below at lies. elim (cases_lt k n) [
        | inl early ↦ c.join.ensures w ∙ in_first (is_member set w) (is_member row w) (c.loop-word.invariant.members k w p early at lies)
        | inr late ↦
            let here : c.args.grain * 16 + k ≡ c.args.grain * 16 + n = omega arith in
            c.join.ensures w ∙ in_second (is_member set w) (is_member row w) (c.of_row.ensures.members w p at (subst (LiesInWord p) here lies))
      ];
      known = λ w is. elim (in_either (is_member set w) (is_member row w) (sym (c.join.ensures w) ∙ is)) [
        | inl old ↦ c.loop-word.invariant.known w old
        | inr new ↦
            let other = c.of_row.ensures.no_other w new in
            (other.0, other.1, word_in_grain other.0 c.args.grain (c.args.grain * 16 + n) (omega arith) (omega arith) other.2)
      ];
    }

pub returns-clause-members : goal.returns-clause-members
returns-clause-members c = λ w p at lies.
    let found = grain_has_word p c.args.grain lies in
    c.loop-word.invariant.members found.0 w p (omega (arith, found.1)) at found.2
