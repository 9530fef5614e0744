use Rattle.lgx_watch.proofs.Spanned.{unmarked_watches_stay, unhit_watches_stay}
use Rattle.lgx_watch.proofs.laws.law_of_watches.Goals as goal

pub returns : goal.returns
returns c = record { marked = unmarked_watches_stay; hit = unhit_watches_stay }
