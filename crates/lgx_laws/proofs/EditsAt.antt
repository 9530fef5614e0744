-- The tests of the laws of edits and of numbers by what is kept.
use Rattle.std.proofs.Common.{◌≡◌, ℕ, ◌<◌, List, length, refl, sym, ◌∙◌, ap, arith}
use Rattle.std.specs.Prelude.{slice_index_or}
use Rattle.spec_schedule.specs.declared.trace.Verb.{Verb}
use Rattle.spec_schedule.specs.declared.trace.Verb.TheVariants as verb
use Rattle.spec_schedule.specs.declared.trace.TraceAnswer.{TraceAnswer}
use Rattle.spec_schedule.specs.declared.trace.TraceAnswer.TheVariants as answer
use Rattle.spec_schedule.specs.Counting.{CountedEvent, Numbers, unedited}
use Rattle.lgx_laws.specs.declared.edits.Booked.{Booked}
use Rattle.lgx_laws.specs.Edits.{Owned, owned, may_be_done, may_be_refused, answers_edit}
use Rattle.lgx_laws.specs.Kept.{no_booked, booked, owned_in, numbers_in, Books}
use Rattle.lgx_laws.proofs.ScansAt.{any_default}

-- the base's number decides nothing
done_aside : (v : Verb) (lane : ℕ) (n : Numbers) (o : Owned) → may_be_done v lane o (numbers_in (booked n o)) ≡ may_be_done v lane o n
done_aside verb.Accept lane n o = refl
done_aside verb.Test lane n o = refl
done_aside verb.Untest lane n o = refl
done_aside verb.Assemble lane n o = refl
done_aside verb.Cancel lane n o = refl
done_aside verb.Run lane n o = refl
done_aside verb.Program lane n o = refl
done_aside verb.Clear lane n o = refl
done_aside verb.Other lane n o = refl

refused_aside : (v : Verb) (lane : ℕ) (n : Numbers) (o : Owned) → may_be_refused v lane o (numbers_in (booked n o)) ≡ may_be_refused v lane o n
refused_aside verb.Accept lane n o = refl
refused_aside verb.Test lane n o = refl
refused_aside verb.Untest lane n o = refl
refused_aside verb.Assemble lane n o = refl
refused_aside verb.Cancel lane n o = refl
refused_aside verb.Run lane n o = refl
refused_aside verb.Program lane n o = refl
refused_aside verb.Clear lane n o = refl
refused_aside verb.Other lane n o = refl

answers_aside : (a : TraceAnswer) (v : Verb) (lane : ℕ) (n : Numbers) (o : Owned) → answers_edit v lane o (numbers_in (booked n o)) a ≡ answers_edit v lane o n a
answers_aside answer.Done v lane n o = done_aside v lane n o
answers_aside (answer.Number k) v lane n o = done_aside v lane n o
answers_aside answer.No v lane n o = refused_aside v lane n o

module _ (books : List Booked) (ns : List Numbers) (past : List CountedEvent) (h : Books books ns past) (d : Booked) (g : ℕ) (within : g < length books) where
  here : slice_index_or books g d ≡ booked (slice_index_or ns g unedited) (owned g past)
  here = any_default books g d no_booked within ∙ h.each g (let m = h.many in omega arith)

  pub edit_at : (v : Verb) (lane : ℕ) (a : TraceAnswer) → answers_edit v lane (owned_in (slice_index_or books g d)) (numbers_in (slice_index_or books g d)) a ≡ answers_edit v lane (owned g past) (slice_index_or ns g unedited) a
  edit_at v lane a = ap (λ (b : Booked). answers_edit v lane (owned_in b) (numbers_in b) a) here ∙ answers_aside a v lane (slice_index_or ns g unedited) (owned g past)

  pub newest_at : (slice_index_or ns g unedited).merged ≡ (slice_index_or books g d).newest
  newest_at = sym (ap (λ (b : Booked). b.newest) here)
