-- Lists that go on.
use Rattle.std.specs.Prelude.{◌≡◌, List, [], ◌∷◌, ◌++◌, length, take, nat_lt, if◌then◌else◌}
use Rattle.spec_board.specs.declared.snapshot.TheConstants.{MAX_SNAPSHOTS}

-- the second list begins with the first
abbrev pub IsPrefix : {A : Type 0} → List A → List A → Type 0
IsPrefix xs ys = xs ≡ take (length xs) ys

-- the list with one more, if there is room
abbrev pub with_next : {A : Type 0} → List A → A → List A
with_next xs x = if nat_lt (length xs) MAX_SNAPSHOTS then xs ++ x ∷ [] else xs

-- the longer of two lists; the first if neither is
abbrev pub longer : {A : Type 0} → List A → List A → List A
longer xs ys = if nat_lt (length xs) (length ys) then ys else xs
