use Rattle.std.proofs.Common.{◌≡◌, ◌+◌, ◌*◌, ◌-◌, ◌<◌, true, get_or, take, sym, ◌∙◌, arith}
use Rattle.std.specs.Char.{is_ascii_digit}
use Rattle.spec_text.specs.TextLines.{value_of}
use Rattle.lgx_journal.proofs.Digits.{pow_short, pow_more}
use Rattle.lgx_journal.proofs.ShortLines.{digits_more, value_more, digit_small}
use Rattle.lgx_journal.proofs.counts.count_line.Goals as goal

pub overflow_mul-count : goal.overflow_mul-count
overflow_mul-count c = omega (arith, pow_short c.loop-i.i (omega arith), c.loop-i.invariant.small)

pub overflow_add-count : goal.overflow_add-count
overflow_add-count c =
    let digit : is_ascii_digit (get_or c.args.text.now c.loop-i.i 0) ≡ true = sym c.is_ascii_digit.ensures.value ∙ c.if-not-is_ascii_digit.false in
    omega (arith, pow_short c.loop-i.i (omega arith), c.loop-i.invariant.small, c.from.ensures, digit_small (get_or c.args.text.now c.loop-i.i 0) digit)

pub loop-i-preserved : goal.loop-i-preserved
loop-i-preserved c =
    let text = c.args.text.now in
    let i = c.loop-i.i in
    let digit : is_ascii_digit (get_or text i 0) ≡ true = sym c.is_ascii_digit.ensures.value ∙ c.if-not-is_ascii_digit.false in
    let small : c.from.result < 10 = omega (arith, c.from.ensures, digit_small (get_or text i 0) digit) in
    let old : c.loop-i.count ≡ value_of (take i text) = c.loop-i.invariant.value in
    let new : c.loop-i.count * 10 + c.from.result ≡ value_of (take i text) * 10 + (get_or text i 0 - 48) = omega (arith, old, c.from.ensures) in
    record {
      few = omega arith;
      small = pow_more i c.loop-i.count c.from.result c.loop-i.invariant.small small;
      digits = digits_more text i c.loop-i-test.true c.loop-i.invariant.digits digit;
      value = new ∙ sym (value_more text i c.loop-i-test.true);
    }
