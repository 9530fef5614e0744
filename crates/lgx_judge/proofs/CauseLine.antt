-- Words of a line, one after another.
use Rattle.std.proofs.Common.{◌≡◌, ℕ, List, [], ◌∷◌, ◌++◌, refl, ap, sym, ◌∙◌, append_assoc, append-nil}
use Rattle.spec_text.specs.TextLines.{spaced}
use Rattle.lgx_watch.specs.Spaces.{after_spaces}

after_spaces-append : (xs ys : List (List ℕ)) → after_spaces (xs ++ ys) ≡ after_spaces xs ++ after_spaces ys
after_spaces-append [] ys = refl
after_spaces-append (x ∷ xs) ys =
    ap (λ t. (32 ∷ x) ++ t) (after_spaces-append xs ys) ∙ sym (append_assoc (32 ∷ x) (after_spaces xs) (after_spaces ys))

spaced_is : (w : List ℕ) (ws : List (List ℕ)) → spaced (w ∷ ws) ≡ w ++ after_spaces ws
spaced_is w [] = sym (append-nil w)
spaced_is w (x ∷ xs) = ap (λ t. w ++ 32 ∷ t) (spaced_is x xs)

-- a line of two words and more
pub cause_line : (first code : List ℕ) (ps is : List (List ℕ)) → (((first ++ 32 ∷ code) ++ after_spaces ps) ++ after_spaces is) ++ 10 ∷ [] ≡ spaced (first ∷ code ∷ (ps ++ is)) ++ 10 ∷ []
cause_line first code ps is =
    ap (λ t. t ++ 10 ∷ []) (regrouped ∙ ap (λ t. first ++ ((32 ∷ code) ++ t)) (sym (after_spaces-append ps is)) ∙ sym (spaced_is first (code ∷ (ps ++ is))))
  where
    regrouped : ((first ++ 32 ∷ code) ++ after_spaces ps) ++ after_spaces is ≡ first ++ ((32 ∷ code) ++ (after_spaces ps ++ after_spaces is))
    regrouped =
        append_assoc (first ++ 32 ∷ code) (after_spaces ps) (after_spaces is)
        ∙ append_assoc first (32 ∷ code) (after_spaces ps ++ after_spaces is)
