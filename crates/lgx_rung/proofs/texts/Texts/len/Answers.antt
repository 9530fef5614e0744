use Rattle.std.proofs.Common.{◌+◌, length, drop, get_or, ap, arith}
use Rattle.std.proofs.lemmas.List.{drop_more}
use Rattle.spec_base.specs.Pieces.{pieces}
use Rattle.lgx_rung.proofs.Joined.{comma_counted, other_counted}
use Rattle.lgx_rung.proofs.texts.Texts.len.Goals as goal
use Rattle.lgx_rung.proofs.texts.Texts.len.Goals.{then-byte-eq44, else-byte-eq44}

pub loop-byte-preserved : goal.loop-byte-preserved
loop-byte-preserved c =
    let bytes = c.as_slice-bytes.result.now in
    let i = c.loop-byte.byte-index in
    let here = ap (λ x. length (pieces 44 x)) (drop_more bytes i 0 c.loop-byte-test.true) in
    elim c.if-byte-eq44.branch [
      | then-byte-eq44 w ↦
          let more = comma_counted (get_or bytes i 0) (drop (i + 1) bytes) w.if-byte-eq44.true in
          record { counted = omega arith; few = omega arith }
      | else-byte-eq44 w ↦
          let same = other_counted (get_or bytes i 0) (drop (i + 1) bytes) w.if-byte-eq44.false in
          record { counted = omega arith; few = omega arith }
    ]
