-- Shapes of a drawing, as text (Scalable Vector Graphics 1.1). Places are pixels from the left and from the top.
use Rattle.std.specs.Prelude.{ℕ, ◌+◌, ◌-◌, List, [], ◌∷◌, ◌++◌, nat_eq, if◌then◌else◌, codes}
use Rattle.std.specs.Fmt.{decimal}
use Rattle.std.specs.List.{flat_map}
use Rattle.lgx_picture.specs.declared.sizes.TheConstants.{LEFT}

-- a byte that has a meaning in such a text is written by its name
abbrev pub escaped_byte : ℕ → List ℕ
escaped_byte c =
    if nat_eq c 38 then codes "&amp;" else (if nat_eq c 60 then codes "&lt;" else (if nat_eq c 62 then codes "&gt;" else (if nat_eq c 34 then codes "&quot;" else c ∷ [])))

unfoldable pub escaped : List ℕ → List ℕ
escaped said = flat_map escaped_byte said

-- words that begin at a place
unfoldable pub words_from : List ℕ → ℕ → ℕ → List ℕ
words_from class x y =
    codes "<text class=\"" ++ class ++ codes "\" x=\"" ++ decimal x ++ codes "\" y=\"" ++ decimal y

unfoldable pub words : List ℕ → ℕ → ℕ → List ℕ → List ℕ
words class x y said = words_from class x y ++ codes "\">" ++ escaped said ++ codes "</text>\n"

-- a line that begins at a place
unfoldable pub line_from : List ℕ → ℕ → ℕ → List ℕ
line_from class x y = codes "<path class=\"" ++ class ++ codes "\" d=\"M" ++ decimal x ++ codes " " ++ decimal y

-- down to a place, and the line's end
unfoldable pub down_to : ℕ → List ℕ
down_to y = codes "V" ++ decimal y ++ codes "\"/>\n"

-- across to a place, and the line's end
unfoldable pub across_to : ℕ → List ℕ
across_to x = codes "H" ++ decimal x ++ codes "\"/>\n"

-- a line down
abbrev pub upright : List ℕ → ℕ → ℕ → ℕ → List ℕ
upright class x top bottom = line_from class x top ++ down_to bottom

-- a line across, from the first time to a place
abbrev pub ground_line : ℕ → ℕ → List ℕ
ground_line right y = line_from (codes "base") LEFT y ++ across_to right

unfoldable pub bar_text : List ℕ
bar_text = codes "<path class=\"mark\" style=\"stroke-width:32;stroke-opacity:.4\" d=\"M"

-- a broad line, from the left side of a stroke to the right side of another
abbrev pub bar : ℕ → ℕ → ℕ → List ℕ
bar first last y = bar_text ++ decimal (first - 1) ++ codes " " ++ decimal y ++ across_to (last + 1)
