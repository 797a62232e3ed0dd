-- A plan that is best by a margin, with costs that are at most half the margin away.
use Rattle.std.proofs.Common.{◌≡◌, ℕ, ℤ, pos, ◌+ℤ◌, ◌-ℤ◌, ◌*ℤ◌, ◌≤ℤ◌, ◌*◌, List, [], ◌∷◌}
use Rattle.std.proofs.Common.{Option, Some, IsSome, unwrap_or, get_or, inl, inr, arith, refl, sym, ap, ◌∙◌, subst}
use Rattle.std.specs.List.{All}
use Rattle.std.proofs.lemmas.Int.{ints}
use Rattle.std.proofs.lemmas.Bool.Decides.{eqb_tells}
use Rattle.std.proofs.lemmas.List.Elements.{All-nil, All-cons, All-head, All-tail}
use Rattle.assign_core.specs.declared.sense.Sense.{Sense}
use Rattle.assign_core.specs.declared.sense.Sense.TheVariants.{Min, Max}
use Rattle.assign_core.specs.Rows.{Listing, IsWithin, listed_in, listed_or_zero}
use Rattle.assign_core.specs.Assignment.{AreListed, IsBest, IsNoWorse}
use Rattle.assign_core.specs.Prices.{price_of}
use Rattle.assign_core.proofs.Listed.{entry_listed, object_within}
use Rattle.cost_lists.specs.Exact.{AreChoices, IsChoice, with_price}
use Rattle.double_costs.specs.Prices.{AreChoicesBy, AreLeastUnowned, IsChoiceBy, IsPricedBest, IsWorseBy}
use Rattle.double_costs.specs.Margins.{AreRowsBeside, IsRowBeside, IsWithinHalf}
use Rattle.double_costs.proofs.Multiples.{at_least_size, at_most_size, in_order, in_parts, price_in_parts}
use Rattle.cost_lists.proofs.ExactDuality.{some_cost}
use Rattle.double_costs.proofs.PricedDuality.{best_priced}
use Rattle.assign_core.proofs.Products.{distributes}

-- the own cost a, another cost b that is worse by the margin, and both in parts
moved_min : (n margin : ℕ) (a b p q x y : ℤ) → ((a +ℤ p) +ℤ pos margin) ≤ℤ (b +ℤ q) →
    IsWithinHalf n margin a x → IsWithinHalf n margin b y → (x +ℤ (pos n *ℤ p)) ≤ℤ (y +ℤ (pos n *ℤ q))
moved_min n margin a b p q x y h near far =
    let o = in_order n ((a +ℤ p) +ℤ pos margin) (b +ℤ q) h in
    let l = distributes (pos n) (a +ℤ p) (pos margin) in
    let k = distributes (pos n) a p in
    let r = distributes (pos n) b q in
    let e : pos n *ℤ pos margin ≡ pos (n * margin) = refl in
    let u = at_most_size (x -ℤ (pos n *ℤ a)) in
    let v = at_least_size (y -ℤ (pos n *ℤ b)) in
    omega (arith, ints)

moved_max : (n margin : ℕ) (a b p q x y : ℤ) → ((b -ℤ q) +ℤ pos margin) ≤ℤ (a -ℤ p) →
    IsWithinHalf n margin a x → IsWithinHalf n margin b y → (y -ℤ (pos n *ℤ q)) ≤ℤ (x -ℤ (pos n *ℤ p))
moved_max n margin a b p q x y h near far =
    let o = in_order n ((b +ℤ p) +ℤ pos margin) (a +ℤ q) (omega (arith, ints)) in
    let l = distributes (pos n) (b +ℤ p) (pos margin) in
    let k = distributes (pos n) b p in
    let r = distributes (pos n) a q in
    let e : pos n *ℤ pos margin ≡ pos (n * margin) = refl in
    let u = at_least_size (x -ℤ (pos n *ℤ a)) in
    let v = at_most_size (y -ℤ (pos n *ℤ b)) in
    omega (arith, ints)

-- in parts the worse object stays no better
no_better : (sense : Sense) (n margin : ℕ) (prices : List ℤ) (j k : ℕ) (a b x y : ℤ) →
    IsWorseBy (pos margin) sense (with_price sense prices j a) (with_price sense prices k b) →
    IsWithinHalf n margin a x → IsWithinHalf n margin b y →
    IsNoWorse sense (with_price sense (in_parts n prices) j x) (with_price sense (in_parts n prices) k y)
no_better Min n margin prices j k a b x y h near far =
    let p = price_in_parts n prices j in
    let q = price_in_parts n prices k in
    let m = moved_min n margin a b (price_of prices j) (price_of prices k) x y (omega (arith, ints)) near far in
    omega (arith, ints)
no_better Max n margin prices j k a b x y h near far =
    let p = price_in_parts n prices j in
    let q = price_in_parts n prices k in
    let m = moved_max n margin a b (price_of prices j) (price_of prices k) x y (omega (arith, ints)) near far in
    omega (arith, ints)

itself : (sense : Sense) (a b : ℤ) → a ≡ b → IsNoWorse sense a b
itself Min a b e = omega (arith, ints)
itself Max a b e = omega (arith, ints)

moved_choice : (sense : Sense) (n margin : ℕ) (prices : List ℤ) (row other : Listing) (j : ℕ) →
    IsSome (listed_in row j) →
    IsRowBeside (IsWithinHalf n margin) row other → IsChoiceBy (pos margin) sense prices row j →
    IsChoice sense (in_parts n prices) other j
moved_choice sense n margin prices row other j own beside worse k d e =
    let some : (o : Option ℤ) → o ≡ Some d → IsSome o = (λ o g. subst IsSome (sym g) refl) in
    let own_other = some_cost (listed_in other j) ((beside.same j).1 own) in
    elim (eqb_tells k j) [
      | inl g ↦
          let s : listed_or_zero other j ≡ d = ap (λ (i : ℕ). listed_or_zero other i) (sym g.1)
          ∙ ap (λ (o : Option ℤ). unwrap_or o (pos 0)) e in
          itself sense (with_price sense (in_parts n prices) j (listed_or_zero other j))
          (with_price sense (in_parts n prices) k d)
          (ap (λ (c : ℤ). with_price sense (in_parts n prices) j c) s
          ∙ ap (λ (i : ℕ). with_price sense (in_parts n prices) i d) (sym g.1))
      | inr g ↦
          let c = some_cost (listed_in row k) ((beside.same k).0 (some (listed_in other k) e)) in
          no_better sense n margin prices j k (listed_or_zero row j) (listed_or_zero row k) (listed_or_zero other j) d
          (worse k (listed_or_zero row k) g.1 c)
          (beside.costs j (listed_or_zero row j) (listed_or_zero other j) (some_cost (listed_in row j) own) own_other)
          (beside.costs k (listed_or_zero row k) d c e)
    ]

moved_choices : (sense : Sense) (n margin : ℕ) (prices : List ℤ) (rows others : List Listing) (xs : List ℕ) →
    AreListed rows xs →
    AreRowsBeside (IsWithinHalf n margin) rows others → AreChoicesBy (pos margin) sense prices rows xs →
    AreListed others xs × AreChoices sense (in_parts n prices) others xs
moved_choices sense n margin prices [] [] [] l b w = (tt, tt)
moved_choices sense n margin prices [] [] (x ∷ xs) l b w = absurd l
moved_choices sense n margin prices [] (other ∷ others) xs l b w = absurd b
moved_choices sense n margin prices (row ∷ rows) [] xs l b w = absurd b
moved_choices sense n margin prices (row ∷ rows) (other ∷ others) [] l b w = absurd l
moved_choices sense n margin prices (row ∷ rows) (other ∷ others) (x ∷ xs) l b w =
    let i = moved_choices sense n margin prices rows others xs l.1 b.1 w.1 in
    (((b.0.same x).1 l.0, i.0), (moved_choice sense n margin prices row other x l.0 b.0 w.0, i.1))

within_beside : (R : ℤ → ℤ → Type 0) (m : ℕ) (row other : Listing) → IsRowBeside R row other → IsWithin m row →
    IsWithin m other
within_beside R m row other b w = λ k d lt. object_within m row (get_or other k d).0 w
    ((b.same (get_or other k d).0).0 (entry_listed other k d lt))

all_within : (R : ℤ → ℤ → Type 0) (m : ℕ) (rows others : List Listing) → AreRowsBeside R rows others →
    All (IsWithin m) rows → All (IsWithin m) others
all_within R m [] [] b w = All-nil (IsWithin m)
all_within R m [] (other ∷ others) b w = absurd b
all_within R m (row ∷ rows) [] b w = absurd b
all_within R m (row ∷ rows) (other ∷ others) b w =
    All-cons (IsWithin m) other others (within_beside R m row other b.0 (All-head (IsWithin m) row rows w))
    (all_within R m rows others b.1 (All-tail (IsWithin m) row rows w))

least_in_parts : (n m : ℕ) (prices : List ℤ) (xs : List ℕ) → AreLeastUnowned m prices xs →
    AreLeastUnowned m (in_parts n prices) xs
least_in_parts n m prices xs h j k nj nk = elim (h j k nj nk) [
  | inl o ↦ inl o
  | inr le ↦ inr (
      let p = price_in_parts n prices j in
      let q = price_in_parts n prices k in
      let o = in_order n (price_of prices j) (price_of prices k) le in
      omega (arith, ints))
]

pub best_moved : (sense : Sense) (m n margin : ℕ) (rows others : List Listing) (xs : List ℕ) (prices : List ℤ) →
    All (IsWithin m) rows → IsPricedBest sense m rows xs prices → AreChoicesBy (pos margin) sense prices rows xs →
    AreRowsBeside (IsWithinHalf n margin) rows others → IsBest sense others xs
best_moved sense m n margin rows others xs prices w best by beside =
    let c = moved_choices sense n margin prices rows others xs best.assigned.listed beside by in
    best_priced sense m others xs (in_parts n prices) (all_within (IsWithinHalf n margin) m rows others beside w)
    (record {
      assigned = record { listed = c.0; apart = best.assigned.apart };
      choices = c.1;
      unowned = least_in_parts n m prices xs best.unowned;
    })
