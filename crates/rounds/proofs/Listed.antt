-- The candidates of all persons while a round goes on.
use Rattle.std.proofs.Common.{◌≡◌, ◌∙◌, ℤ, List, Option, sym, subst}
use Rattle.scaled_values.specs.Scaled.{ScaledProblem}
use Rattle.auction_book.specs.Book.{BookData, prices_of}
use Rattle.auction_book.specs.Follows.{GoesOn}
use Rattle.candidates.specs.Candidates.{CandidateList, HaveCandidates}
use Rattle.candidates.proofs.Persons.{lists_stay_on}

-- the book's problem and prices under other names
pub lists_as : (s t : ScaledProblem) (p q : List ℤ) (lists : List (Option CandidateList)) → s ≡ t → p ≡ q →
    HaveCandidates t q lists → HaveCandidates s p lists
lists_as s t p q lists e f have = subst (λ x. HaveCandidates x p lists) (sym e) (subst (λ x. HaveCandidates t x lists) (sym f) have)

-- a later book's prices are no lower
pub lists_on : (old new : BookData) (lists : List (Option CandidateList)) → GoesOn old new →
    HaveCandidates old.base (prices_of old) lists → HaveCandidates new.base (prices_of new) lists
lists_on old new lists goes have =
    subst (λ s. HaveCandidates s (prices_of new) lists) (sym goes.base)
    (lists_stay_on old.base (prices_of old) (prices_of new) lists goes.below have)

-- a whole round: claims, offers from the prices then, and submissions
pub round_lists : (old mid new : BookData) (s : ScaledProblem) (q : List ℤ) (lists : List (Option CandidateList)) → s ≡ mid.base →
    q ≡ prices_of mid → GoesOn old mid → GoesOn mid new → HaveCandidates s q lists → HaveCandidates old.base (prices_of new) lists
round_lists old mid new s q lists e f claims submits have =
    subst (λ x. HaveCandidates x (prices_of new) lists) (submits.base ∙ claims.base)
    (lists_on mid new lists submits (lists_as mid.base s (prices_of mid) q lists (sym e) (sym f) have))
