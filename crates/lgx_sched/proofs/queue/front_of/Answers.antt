-- The first bit that is 1 is that of the first queue that has a task.
use Rattle.std.proofs.Common.{ℕ, List, [], sym, ap, ◌∙◌}
use Rattle.std.specs.List.{slice_get}
use Rattle.std.proofs.lemmas.List.{get_or_default}
use Rattle.lgx_sched.proofs.ReadyBits.{ready-within, front-first, front-nowhere}
use Rattle.lgx_sched.proofs.queue.front_of.Goals as goal

pub returns-in-Some : goal.returns-in-Some
returns-in-Some c =
    let qs = c.args.queues.now in
    let bit = sym (c.requires.bits c.in-Some.place) ∙ c.in-Some.ensures.0 in
    c.get.ensures
    ∙ (ap (λ (q : List ℕ). slice_get q 0) (c.index-queues-place.is ∙ get_or_default qs c.in-Some.place _ [] (ready-within qs c.in-Some.place bit))
    ∙ front-first qs c.in-Some.place bit (λ k below. sym (c.requires.bits k) ∙ c.in-Some.ensures.1 k below))

pub returns-in-None : goal.returns-in-None
returns-in-None c = front-nowhere c.args.queues.now (λ k. sym (c.requires.bits k) ∙ c.in-None.ensures k)
