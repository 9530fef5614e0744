-- The tokens of one element, and of a fork's legs.
use Rattle.std.specs.Prelude.{List, [], ◌∷◌, ◌++◌}
use Rattle.lgx_rung.specs.declared.rung.Element.{Element}
use Rattle.lgx_rung.specs.declared.rung.Element.TheVariants.{Ins, Fork}
use Rattle.lgx_rung.specs.Text.{list_tokens, leg_tokens}
use Rattle.lgx_rung.specs.Tokens.{Token}
use Rattle.lgx_rung.specs.Tree.{end, one, legs_of, fork_of, Source}

abbrev pub element_tokens : Element → List Token
element_tokens (Ins op texts) = list_tokens (one (record { op = op; texts = texts }) end)
element_tokens (Fork legs) = list_tokens (fork_of legs end)

-- with commas between the legs
abbrev pub legs_tokens : List Source → List Token
legs_tokens [] = []
legs_tokens (first ∷ others) = list_tokens first ++ leg_tokens (legs_of others)
