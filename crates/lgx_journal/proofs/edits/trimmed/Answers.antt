use Rattle.std.proofs.Common.{◌≡◌, take, drop, sym, ap, ◌∙◌, arith}
use Rattle.std.specs.List.{suffix_len}
use Rattle.std.proofs.lemmas.List.Sums.{suffix_len-take_no}
use Rattle.lgx_rung.specs.Tokens.{is_blank}
use Rattle.lgx_journal.proofs.Trimmed.{trimmed_at}
use Rattle.lgx_journal.proofs.edits.trimmed.Goals.{then-loop-len-test+else-is_blank, else-loop-len-test}
use Rattle.lgx_journal.proofs.edits.trimmed.Goals as goal

pub returns : goal.returns
returns c =
    let front = c.split_at.result.1.now in
    let stop : suffix_len is_blank (take c.loop-len.len front) ≡ 0 = elim c.loop-len-test.branch [
      | then-loop-len-test+else-is_blank w ↦ suffix_len-take_no is_blank front c.loop-len.len 0 (omega arith) c.loop-len.invariant.inside (sym w.is_blank.ensures ∙ w.if-is_blank.false)
      | else-loop-len-test w ↦ let none : c.loop-len.len ≡ 0 = omega arith in ap (λ n. suffix_len is_blank (take n front)) none
    ] in
    c.split_at-2.ensures.front ∙ trimmed_at c.args.text.now front c.loop-len.len (c.split_at.ensures.back ∙ ap (λ n. drop n c.args.text.now) c.blanks_before.ensures.value) c.loop-len.invariant.inside c.loop-len.invariant.blanks stop
