use Rattle.lgx_image.proofs.Changes.{no_change_needs_marks, changes_follow_one_another, unmarked_place_stays}
use Rattle.lgx_image.proofs.laws.law_of_changes.Goals as goal

pub returns : goal.returns
returns c = record { none = no_change_needs_marks; chain = changes_follow_one_another; places = unmarked_place_stays }
