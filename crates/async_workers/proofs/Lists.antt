-- Candidates that a desk hands in.
use Rattle.std.proofs.Common.{◌≡◌, ℤ, List, Option, sym, ap, ◌∙◌, subst}
use Rattle.assign_core.specs.Prices.{IsBelow}
use Rattle.scaled_values.specs.Scaled.{ScaledProblem}
use Rattle.auction_book.specs.Book.{BookData, prices_of}
use Rattle.async_workers.specs.declared.place.listing.Listed.{Listed}
use Rattle.async_workers.specs.inside.Lists.{IsListed}

-- candidates under a desk's table may be put back into a book of the same problem and no lower
-- prices
pub handed : (s : ScaledProblem) (table : List ℤ) (b c : BookData) (listed : Option Listed) →
    IsListed s table listed → s ≡ b.base → IsBelow table (prices_of b) → c ≡ b →
    (t : List ℤ) × IsBelow t (prices_of c) × IsListed c.base t listed
handed s table b c listed is base below same_book =
    let same = base ∙ ap (λ (b : BookData). b.base) (sym same_book) in (
      table,
      subst (λ (b : BookData). IsBelow table (prices_of b)) (sym same_book) below,
      subst (λ (z : ScaledProblem). IsListed z table listed) same is,
    )
