-- What is left of the lines of a cross reference as they are handed out.
use Rattle.std.proofs.Common.{◌≡◌, ℕ, ◌+◌, ◌<◌, ◌≤◌, List, [], ◌∷◌, ◌++◌, length, map, drop, Some, refl, sym, ap, ◌∙◌, arith}
use Rattle.std.specs.Prelude.{flat_map, slice_get}
use Rattle.std.specs.List.{concat}
use Rattle.std.proofs.lemmas.List.{drop_more, drop_all}
use Rattle.std.proofs.lemmas.List.Folds.{flat_map-map}
use Rattle.std.proofs.lemmas.List.FromFn.{length-map-range_with_len, get_or-map-range_with_len}
use Rattle.std.proofs.lemmas.Option.{slice_get_within, get_or_from_slice_get}
use Rattle.spec_machine.specs.Project.{Project}
use Rattle.spec_language.specs.TagSpans.{spans_of}
use Rattle.lgx_xref.specs.Indexes.{tag_numbers}
use Rattle.cmd_xref.specs.XrefText.{tag_lines, xref_text}
use Rattle.cmd_xref.specs.XrefLeft.{left_of, lines_left}

abbrev lines_by_tag : Project → List (List (List ℕ))
lines_by_tag p = map (tag_lines p) (tag_numbers p)

-- at its first line all of a tag is left
all_of : (groups : List (List (List ℕ))) → left_of groups 0 ≡ flat_map (λ ls. ls) groups
all_of [] = refl
all_of (ls ∷ more) = refl

pub all_left : (p : Project) → concat (lines_left p 0 0) ≡ xref_text p
unfolding xref_text
all_left p = ap concat (all_of (lines_by_tag p) ∙ flat_map-map (λ ls. ls) (tag_lines p) (tag_numbers p))

-- the lines of tag k, and of the tags after it
from_tag : (p : Project) (k : ℕ) → k < length (spans_of p.tags) → drop k (lines_by_tag p) ≡ tag_lines p k ∷ drop (k + 1) (lines_by_tag p)
from_tag p k within =
    let n = length (spans_of p.tags) in
    let size = length-map-range_with_len (tag_lines p) 0 n in
    let inside : k < length (lines_by_tag p) = omega (arith, within, size) in
    let same : 0 + k ≡ k = omega arith in
    drop_more (lines_by_tag p) k [] inside
    ∙ ap (λ ls. ls ∷ drop (k + 1) (lines_by_tag p)) (get_or-map-range_with_len (tag_lines p) 0 n k k [] within same)

from_line : (ls : List (List ℕ)) (at : ℕ) (line : List ℕ) → slice_get ls at ≡ Some line → drop at ls ≡ line ∷ drop (at + 1) ls
from_line ls at line is =
    drop_more ls at line (slice_get_within ls at line is) ∙ ap (λ l. l ∷ drop (at + 1) ls) (get_or_from_slice_get ls at line line is)

-- a line of a tag
pub one_line : (p : Project) (k at : ℕ) (line : List ℕ) → k < length (spans_of p.tags) → slice_get (tag_lines p k) at ≡ Some line
    → lines_left p k at ≡ line ∷ lines_left p k (at + 1)
one_line p k at line within is =
    let here = from_tag p k within in
    ap (λ groups. left_of groups at) here
    ∙ ap (λ ls. ls ++ flat_map (λ ls. ls) (drop (k + 1) (lines_by_tag p))) (from_line (tag_lines p k) at line is)
    ∙ sym (ap (λ groups. line ∷ left_of groups (at + 1)) here)

-- a tag has no more lines
pub no_line : (p : Project) (k at : ℕ) → k < length (spans_of p.tags) → length (tag_lines p k) ≤ at → lines_left p k at ≡ lines_left p (k + 1) 0
no_line p k at within past =
    ap (λ groups. left_of groups at) (from_tag p k within)
    ∙ ap (λ ls. ls ++ flat_map (λ ls. ls) (drop (k + 1) (lines_by_tag p))) (drop_all at (tag_lines p k) past)
    ∙ sym (all_of (drop (k + 1) (lines_by_tag p)))

-- there are no more tags
pub no_tag : (p : Project) (k at : ℕ) → length (spans_of p.tags) ≤ k → lines_left p k at ≡ []
no_tag p k at past =
    let size = length-map-range_with_len (tag_lines p) 0 (length (spans_of p.tags)) in
    let outside : length (lines_by_tag p) ≤ k = omega (arith, past, size) in
    ap (λ groups. left_of groups at) (drop_all k (lines_by_tag p) outside)
