-- Costs of plans.
use Rattle.std.proofs.Common.{◌≡◌, ◌≢◌, ℕ, ℤ, pos, ◌<◌, ◌+◌, List, [], Option, None, Some, IsSome, length, get_or, arith, refl, ap, sym, subst, inl, inr, ◌++◌, ◌∷◌, ◌∙◌}
use Rattle.std.specs.List.{All}
use Rattle.std.proofs.lemmas.List.{get_or_append_left, get_or_push, length_push}
use Rattle.assign_core.specs.declared.sense.Sense.{Sense}
use Rattle.assign_core.specs.Numbered.{numbered}
use Rattle.assign_core.specs.Rows.{Listing, listed_in, row_of}
use Rattle.assign_core.specs.Assignment.{AreListed, IsAssignment, total}
use Rattle.assign_core.proofs.NumberedLemmas.{All-numbered, low_or_same}
use Rattle.assign_core.proofs.Zips.{pairs_from}
use Rattle.cost_lists.specs.declared.numbers.TheConstants.{UNLISTED}
use Rattle.cost_lists.specs.ListedCosts.{ListedCosts}
use Rattle.cost_lists.specs.Own.{AreOwnCosts, turned_or_unlisted}
use Rattle.ranking_checker.specs.declared.tree.Tree.{Tree}
use Rattle.ranking_checker.specs.Ranking.{plan_of}

unmarked : (sense : Sense) (o : Option ℤ) → turned_or_unlisted sense o ≢ UNLISTED → IsSome o
unmarked sense None h = absurd (h refl)
unmarked sense (Some c) h = refl

pub listed_all : (l : ListedCosts) (xs : List ℕ) (own : List ℤ) → AreOwnCosts l.sense l.rows xs own → length xs ≡ length l.rows →
    All (λ c. c ≢ UNLISTED) own → AreListed l.rows xs
listed_all l xs own are long all = pairs_from (λ row j. IsSome (listed_in row j)) l.rows xs [] 0 (sym long) (λ k some last.
    let same = are.long in
    let differs = All-numbered (λ c. c ≢ UNLISTED) own k (pos 0) all some (omega arith) in
    unmarked l.sense (listed_in (row_of l.rows k) (numbered xs k 0))
    (λ e. differs (are.each k (record { first = some; last = last }) ∙ e)))

-- the costs of the first plans
abbrev pub AreTotalsUpto : List Listing → Tree → List ℤ → ℕ → Type 0
AreTotalsUpto rows tree totals t = (length totals ≡ t)
    × ((k : ℕ) → k < t → IsAssignment rows (plan_of tree.n k tree.plans.now))
    × ((k : ℕ) → k < t → get_or totals k (pos 0) ≡ total rows (plan_of tree.n k tree.plans.now))

pub totals_more : (rows : List Listing) (tree : Tree) (totals : List ℤ) (t : ℕ) (cost : ℤ) → AreTotalsUpto rows tree totals t →
    IsAssignment rows (plan_of tree.n t tree.plans.now) → cost ≡ total rows (plan_of tree.n t tree.plans.now) → AreTotalsUpto rows tree (totals ++ cost ∷ []) (t + 1)
totals_more rows tree totals t cost h assigned is = (
  length_push totals cost ∙ ap (λ k. k + 1) h.0,
  (λ k lt. elim (low_or_same k t lt) [
    | inl less ↦ h.1 k less
    | inr same ↦ subst (λ z. IsAssignment rows (plan_of tree.n z tree.plans.now)) (sym same) assigned
  ]),
  (λ k lt. elim (low_or_same k t lt) [
    | inl less ↦ get_or_append_left totals (cost ∷ []) (pos 0) k (let long = h.0 in omega arith) ∙ h.2 k less
    | inr same ↦ get_or_push totals cost (pos 0) k (h.0 ∙ sym same) ∙ is ∙ ap (λ z. total rows (plan_of tree.n z tree.plans.now)) (sym same)
  ]),
)
