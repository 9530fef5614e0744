use Rattle.lgx_image.proofs.Changes.{no_hit_keeps_watched, no_change_keeps_watched, two_changes_keep_watched, watched_places_stay, unhit_place_stays}
use Rattle.lgx_image.proofs.laws.law_of_watched.Goals as goal

pub returns : goal.returns
returns c = record { change = no_hit_keeps_watched; none = no_change_keeps_watched; chain = two_changes_keep_watched; places = watched_places_stay; unhit = unhit_place_stays }
