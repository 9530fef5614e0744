use Rattle.lgx_image.proofs.Marks.{piece_is_marked, other_marks_stay, aligned_place_in_one_grain}
use Rattle.lgx_image.proofs.laws.law_of_marks.Goals as goal

pub returns : goal.returns
returns c = record { marked = piece_is_marked; others = other_marks_stay; aligned = aligned_place_in_one_grain }
