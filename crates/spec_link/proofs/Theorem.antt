-- What the consumed tag holds after each line.
use Rattle.std.proofs.Common.{◌≡◌, false, List, length, ◌∙◌}
use Rattle.spec_machine.specs.declared.event.Event.{Event}
use Rattle.spec_link.specs.Links.{opened, link_run, is_held, words_answered, words_out}
use Rattle.spec_link.specs.Consumed.{ConsumesWhole}
use Rattle.spec_link.proofs.Lines.{later, moments, no_moments}
use Rattle.spec_link.proofs.Sends.{sends_all}
use Rattle.spec_link.proofs.Takes.{takes}
use Rattle.spec_link.proofs.Unwritten.{unwritten}
use Rattle.spec_link.proofs.Whole.{IsQuiet, good_run, good_opened}

pub consumes_whole : ConsumesWhole
consumes_whole l d c k xs ys valid_a valid_b law joined dints leaves =
    let leaves_it = unwritten l.b k c law joined.tag leaves.writers in
    let sent : (j : List Event) → is_held l.a j ≡ false → length (words_answered l.a j (words_out l)) ≡ c.words = λ j free. sends_all l d j joined.output free ∙ joined.alike in
    let took = takes l.b l.input c valid_b joined.input in
    let quiet : IsQuiet l.b (link_run l opened xs).b = record { unaccepted = leaves.accepts; unforced = leaves.forces } in
    record {
      whole = (good_run l k c leaves_it sent took opened xs dints leaves.lines quiet (good_opened l k c leaves_it sent took)).whole;
      moments = moments l opened xs (no_moments l);
      later = later l xs ys;
    }
