-- The sum of an assignment's costs, from a place on.
use Rattle.std.proofs.Common.{◌≡◌, ℕ, ◌+ℤ◌, ◌<◌, ◌+◌, List, [], ◌∷◌, length, drop, get_or, ap, ◌∙◌}
use Rattle.std.proofs.lemmas.List.{drop_more}
use Rattle.assign_core.specs.Rows.{Listing, listed_or_zero}
use Rattle.assign_core.specs.Assignment.{total}

-- the pair at a place and the total after it
pub total-drop : (rows : List Listing) (xs : List ℕ) (i d : ℕ) → i < length rows → i < length xs →
    total (drop i rows) (drop i xs) ≡ listed_or_zero (get_or rows i []) (get_or xs i d) +ℤ total (drop (i + 1) rows) (drop (i + 1) xs)
total-drop rows xs i d h k =
    ap (λ r. total r (drop i xs)) (drop_more rows i [] h)
    ∙ ap (λ l. total (get_or rows i [] ∷ drop (i + 1) rows) l) (drop_more xs i d k)
