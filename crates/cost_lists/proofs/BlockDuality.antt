-- Why blocks prove a plan: each listed pair stands in a block, and so is bounded by its row's number.
use Rattle.std.proofs.Common.{◌≡◌, ℕ, ℤ, pos, ◌+ℤ◌, ◌-ℤ◌, ◌≤ℤ◌, ◌<◌, ◌≤◌, ◌-◌, zero, suc, List, [], ◌∷◌, Some}
use Rattle.std.proofs.Common.{IsSome, unwrap_or, length, get_or, map, fold, refl, arith, ap, sym, subst, ◌∙◌}
use Rattle.std.specs.List.{All, AllZip}
use Rattle.std.proofs.lemmas.Int.{ints}
use Rattle.std.proofs.lemmas.List.{get_or-map, length-map}
use Rattle.std.proofs.lemmas.List.Elements.{All-contains}
use Rattle.assign_core.specs.declared.sense.Sense.{Sense}
use Rattle.assign_core.specs.declared.sense.Sense.TheVariants.{Min, Max}
use Rattle.assign_core.specs.Numbered.{IsNumber, numbered}
use Rattle.assign_core.specs.Rows.{Listing, IsWithin, listed_in, listed_or_zero, row_of}
use Rattle.assign_core.specs.Assignment.{AreListed, IsAssignment, IsBest, IsNoWorse, total}
use Rattle.assign_core.specs.Prices.{price_of}
use Rattle.assign_core.proofs.Distinct.{at_most_all, sum_z, up_to}
use Rattle.assign_core.proofs.Listed.{objects_within}
use Rattle.assign_core.proofs.NumberedLemmas.{numbered-index}
use Rattle.assign_core.proofs.Zips.{pairs_from}
use Rattle.cost_lists.specs.Blocks.{AreBlocks, AreBounded, AreProved, Block, IsBounded, SomeHas, numbers_of, reduced_sum}
use Rattle.cost_lists.specs.Exact.{AreChoices, IsChoice, with_price}
use Rattle.cost_lists.specs.Own.{minimised}
use Rattle.cost_lists.proofs.ExactDuality.{best_by_choices, some_cost}

-- the number of a block's person is that of the person itself
number_is : (numbers : List ℤ) (block : Block) (k : ℕ) → IsNumber (length block.persons) k →
    numbered (numbers_of numbers block) k (pos 0) ≡ numbered numbers (numbered block.persons k 0) (pos 0)
number_is numbers block k number =
    let f : ℕ → ℤ = λ i. numbered numbers i (pos 0) in
    let first = number.first in
    let last = number.last in
    let same : length (map f block.persons) ≡ length block.persons = simp length-map in
    let lt : k ≤ length (map f block.persons) = omega arith in
    numbered-index (map f block.persons) k (pos 0) (pos 0) first lt
    ∙ get_or-map f block.persons (k - 1) 0 (pos 0) (omega arith)
    ∙ ap f (sym (numbered-index block.persons k 0 0 first last))

-- a pair of a block is bounded by its person's number
pub pair_bounded : (sense : Sense) (blocks : List Block) (prices numbers : List ℤ) (i j : ℕ) (c : ℤ) →
    AreBounded sense blocks prices numbers → SomeHas blocks i j c → numbered numbers i (pos 0) ≤ℤ reduced_sum sense prices j c
pair_bounded sense blocks prices numbers i j c are some =
    let block : Block = some.0 in
    let pair = some.2 in
    let long = All-contains (λ b. length b.persons ≡ length b.rows) blocks block are.long some.1 in
    let here = All-contains (λ b. IsBounded sense b.rows prices (numbers_of numbers b)) blocks block are.bounded some.1 in
    let number = subst (λ n. IsNumber n pair.place) (sym long) pair.within in
    let bound = here pair.place j c pair.listed in
    let e = number_is numbers block pair.place number ∙ ap (λ q. numbered numbers q (pos 0)) pair.person in
    subst (λ z. z ≤ℤ reduced_sum sense prices j c) e bound

-- sums in the order of costs with prices
in_order : (sense : Sense) (prices : List ℤ) (j k : ℕ) (d e c : ℤ) → IsNoWorse sense d e → reduced_sum sense prices j e ≤ℤ reduced_sum sense prices k c →
    IsNoWorse sense (with_price sense prices j d) (with_price sense prices k c)
in_order Min prices j k d e c better le = omega (arith, ints)
in_order Max prices j k d e c better le = omega (arith, ints)

module _ (sense : Sense) (m : ℕ) (rows : List Listing) (blocks : List Block) (xs : List ℕ) (prices numbers : List ℤ)
    (proved : AreProved sense m rows blocks xs prices numbers) where
  listed : AreListed rows xs
  listed = pairs_from (λ row j. IsSome (listed_in row j)) rows xs [] 0 (sym proved.long) (λ i first last.
      let own = proved.shown i (record { first = first; last = last }) in
      let better = proved.covered.no_better i (numbered xs i 0) own.0 own.1 in
      subst (λ o. IsSome o) (sym better.1) refl)

  choices : AreChoices sense prices rows xs
  choices = pairs_from (IsChoice sense prices) rows xs [] 0 (sym proved.long) (λ i first last k c e.
      let own = proved.shown i (record { first = first; last = last }) in
      let better = proved.covered.no_better i (numbered xs i 0) own.0 own.1 in
      let bound = pair_bounded sense blocks prices numbers i k c proved.bounded (proved.covered.each i k c e) in
      let equal = own.2 in
      let cost : listed_or_zero (row_of rows i) (numbered xs i 0) ≡ better.0 = ap (λ o. unwrap_or o (pos 0)) better.1 in
      subst (λ d. IsNoWorse sense (with_price sense prices (numbered xs i 0) d) (with_price sense prices k c)) (sym cost)
      (in_order sense prices (numbered xs i 0) k better.0 own.0 c better.2 (omega (arith, ints))))

  pub best_of_blocks : IsBest sense rows xs
  best_of_blocks = best_by_choices sense m rows xs prices proved.within proved.no_less
      (record { listed = listed; apart = proved.apart }) choices proved.free

-- the sum of whole numbers
abbrev sum_of : List ℤ → ℤ
sum_of [] = pos 0
sum_of (x ∷ xs) = x +ℤ sum_of xs

fold_is : (a : ℤ) (xs : List ℤ) → fold ◌+ℤ◌ a xs ≡ a +ℤ sum_of xs
fold_is a [] = omega (arith, ints)
fold_is a (x ∷ xs) = let i = fold_is (a +ℤ x) xs in omega (arith, ints)

prices_shift : (p : ℤ) (ps : List ℤ) (k : ℕ) → up_to (price_of (p ∷ ps)) (suc k) ≡ p +ℤ up_to (price_of ps) k
prices_shift p ps zero = omega (arith, ints)
prices_shift p ps (suc k) = let i = prices_shift p ps k in omega (arith, ints)

-- the prices of all objects
prices_sum : (ps : List ℤ) → up_to (price_of ps) (length ps) ≡ sum_of ps
prices_sum [] = refl
prices_sum (p ∷ ps) = let i = prices_sum ps in let s = prices_shift p ps (length ps) in omega (arith, ints)

turned_sum : (sense : Sense) (a b : ℤ) → minimised sense (a +ℤ b) ≡ minimised sense a +ℤ minimised sense b
turned_sum Min a b = refl
turned_sum Max a b = omega (arith, ints)

turned_none : (sense : Sense) → minimised sense (pos 0) ≡ pos 0
turned_none Min = refl
turned_none Max = refl

-- the numbers of rows are at most the sums of any listed objects
bound_rows : (sense : Sense) (prices : List ℤ) (rows : List Listing) (numbers : List ℤ) (ys : List ℕ) → length numbers ≡ length rows →
    AllZip (λ row y. IsSome (listed_in row y)) rows ys →
    ((i j : ℕ) (c : ℤ) → i < length rows → listed_in (get_or rows i []) j ≡ Some c → get_or numbers i (pos 0) ≤ℤ reduced_sum sense prices j c) →
    sum_of numbers ≤ℤ (minimised sense (total rows ys) +ℤ sum_z (price_of prices) ys)
bound_rows sense prices [] [] [] long g h = let e = turned_none sense in omega (arith, ints)
bound_rows sense prices [] (v ∷ vs) ys long g h = absurd (omega arith)
bound_rows sense prices (row ∷ rows) [] ys long g h = absurd (omega arith)
bound_rows sense prices [] [] (y ∷ ys) long g h = absurd g
bound_rows sense prices (row ∷ rows) (v ∷ vs) [] long g h = absurd g
bound_rows sense prices (row ∷ rows) (v ∷ vs) (y ∷ ys) long g h =
    let here = h 0 y (listed_or_zero row y) (omega arith) (some_cost (listed_in row y) g.0) in
    let i = bound_rows sense prices rows vs ys (omega arith) g.1 (λ i j c lt e. h (suc i) j c (omega arith) e) in
    let t = turned_sum sense (listed_or_zero row y) (total rows ys) in
    omega (arith, ints)

pub bound_of_blocks : (sense : Sense) (rows : List Listing) (blocks : List Block) (xs : List ℕ) (prices numbers : List ℤ) →
    All (IsWithin (length prices)) rows → AreBlocks sense rows blocks → AreBounded sense blocks prices numbers →
    length numbers ≡ length rows → ((j : ℕ) → pos 0 ≤ℤ price_of prices j) → IsAssignment rows xs →
    (fold ◌+ℤ◌ (pos 0) numbers -ℤ fold ◌+ℤ◌ (pos 0) prices) ≤ℤ minimised sense (total rows xs)
bound_of_blocks sense rows blocks xs prices numbers within are bounded long none a =
    let rest = bound_rows sense prices rows numbers xs long a.listed (λ i j c lt e.
    pair_bounded sense blocks prices numbers (suc i) j c bounded (are.each (suc i) j c e)) in
    let inside = objects_within (length prices) rows xs within a.listed in
    let most = at_most_all (price_of prices) (length prices) xs a.apart inside (λ j n. none j) in
    let all = prices_sum prices in
    let first = fold_is (pos 0) numbers in
    let second = fold_is (pos 0) prices in
    omega (arith, ints)
