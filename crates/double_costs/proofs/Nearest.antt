-- Costs of which doubles are the nearest ones are at most half a margin of the doubles away.
use Rattle.std.proofs.Common.{◌≡◌, ℕ, ℤ, pos, negsuc, ◌≤◌, ◌<ℤ◌, ◌+◌, ◌*◌, ◌^◌, zero, suc, List, [], ◌∷◌, Option}
use Rattle.std.proofs.Common.{None, Some}
use Rattle.std.proofs.Common.{take, drop, inl, inr, arith, rules, refl, sym, ap, ◌∙◌, subst}
use Rattle.std.specs.Prelude.{max, unsigned_abs}
use Rattle.std.specs.List.{All}
use Rattle.std.proofs.lemmas.Int.{ints}
use Rattle.std.proofs.lemmas.Bool.Decides.{eqb_tells}
use Rattle.std.proofs.lemmas.List.Elements.{All-drop, All-head, All-tail, All-take}
use Rattle.std.proofs.Math.Nat.{mul-le-mul_left, mul_comm, mul_assoc}
use lib.Ieee.{Float, nan, inf, fin}
use Rattle.assign_core.specs.declared.sense.Sense.{Sense}
use Rattle.assign_core.specs.Rows.{Listing, listed_in}
use Rattle.assign_core.specs.Assignment.{IsBest}
use Rattle.assign_core.proofs.Listed.{listed_here, listed_later}
use Rattle.cost_lists.specs.Given.{with_cost}
use Rattle.double_costs.specs.Units.{units_of}
use Rattle.double_costs.specs.DoubleRows.{cost_in, row_of_doubles, rows_of_doubles}
use Rattle.double_costs.specs.Prices.{AreChoicesBy, IsPricedBest}
use Rattle.double_costs.specs.Margins.{AreRowsBeside, IsMarginOf, IsRoundedTo, IsWithinHalf}
use Rattle.double_costs.proofs.DoublePairs.{doubles_within}
use Rattle.double_costs.proofs.Moved.{best_moved}

-- no cost that a row lists has a size over b
abbrev HasSizes : ℕ → Listing → Type 0
HasSizes b row = (k : ℕ) (c : ℤ) → listed_in row k ≡ Some c → unsigned_abs c ≤ b

abbrev AreUpTo : ℕ → List Float → Type 0
AreUpTo b costs = All (λ c. unsigned_abs (units_of c) ≤ b) costs

cost_units : (x : Float) (a : ℤ) → cost_in x ≡ Some a → units_of x ≡ a
cost_units nan a e = absurd (search rules)
cost_units (inf s) a e = absurd (search rules)
cost_units (fin s m e) a h = search rules

sized_in_front : (b j : ℕ) (o : Option ℤ) (row : Listing) → ((a : ℤ) → o ≡ Some a → unsigned_abs a ≤ b) →
    HasSizes b row → HasSizes b (with_cost j o row)
sized_in_front b j None row own rest = rest
sized_in_front b j (Some a) row own rest = λ k c e. elim (eqb_tells j k) [
  | inl t ↦ own c (sym (listed_here (j, a) row k t.0) ∙ e)
  | inr t ↦ rest k c (sym (listed_later (j, a) row k t.0) ∙ e)
]

row_sized : (b j : ℕ) (costs : List Float) → AreUpTo b costs → HasSizes b (row_of_doubles j costs)
row_sized b j [] h = λ k c e. none c e
  where
    none : (c : ℤ) → None ≡ Some c → unsigned_abs c ≤ b
    none c e = absurd (search rules)
row_sized b j (x ∷ costs) h =
    let P : Float → Type 0 = λ c. unsigned_abs (units_of c) ≤ b in
    sized_in_front b j (cost_in x) (row_of_doubles (j + 1) costs)
    (λ a e. subst (λ (z : ℤ). unsigned_abs z ≤ b) (cost_units x a e) (All-head P x costs h))
    (row_sized b (j + 1) costs (All-tail P x costs h))

halved : (n margin a z : ℕ) → a ≤ 2 ^ 52 * margin → 2 ^ 53 * z ≤ n * a → 2 * z ≤ n * margin
halved n margin a z h k =
    let p : n * a ≤ n * (2 ^ 52 * margin) = mul-le-mul_left n h in
    let q : n * (2 ^ 52 * margin) ≡ 2 ^ 52 * (n * margin) =
    sym (mul_assoc n (2 ^ 52) margin) ∙ ap (λ (i : ℕ). i * margin) (mul_comm n (2 ^ 52))
    ∙ mul_assoc (2 ^ 52) n margin in
    omega arith

at_most_half : (n margin : ℕ) (c d : ℤ) → 1 ≤ margin → unsigned_abs c ≤ 2 ^ 52 * margin → IsRoundedTo n c d →
    IsWithinHalf n margin c d
at_most_half n margin c d some up_to near = halved n margin (max (unsigned_abs c) (2 ^ 52)) _ (omega arith) near

rows_near : (m n k margin : ℕ) (costs : List Float) (others : List Listing) → 1 ≤ margin →
    AreUpTo (2 ^ 52 * margin) costs →
    AreRowsBeside (IsRoundedTo n) (rows_of_doubles m k costs) others →
    AreRowsBeside (IsWithinHalf n margin) (rows_of_doubles m k costs) others
rows_near m n zero margin costs [] some up_to b = b
rows_near m n zero margin costs (other ∷ others) some up_to b = absurd b
rows_near m n (suc k) margin costs [] some up_to b = absurd b
rows_near m n (suc k) margin costs (other ∷ others) some up_to b =
    let P : Float → Type 0 = λ c. unsigned_abs (units_of c) ≤ 2 ^ 52 * margin in
    let sized = row_sized (2 ^ 52 * margin) 1 (take m costs) (All-take P m costs up_to) in (
      record {
        same = b.0.same;
        costs = λ j c d e g. at_most_half n margin c d some (sized j c e)
            (b.0.costs j c d e g);
      },
      rows_near m n k margin (drop m costs) others some (All-drop P m costs up_to) b.1,
    )

as_size : (margin : ℤ) → pos 0 <ℤ margin → margin ≡ pos (unsigned_abs margin)
as_size (pos n) h = refl
as_size (negsuc n) h = absurd (omega (arith, ints))

some_size : (margin : ℤ) → pos 0 <ℤ margin → 1 ≤ unsigned_abs margin
some_size (pos n) h = omega (arith, ints)
some_size (negsuc n) h = absurd (omega (arith, ints))

pub best_rounded : (sense : Sense) (n m scale : ℕ) (margin : ℤ) (costs : List Float) (others : List Listing)
    (xs : List ℕ)
    (prices : List ℤ) → IsMarginOf margin costs → IsPricedBest sense m (rows_of_doubles m n costs) xs prices →
    AreChoicesBy margin sense prices (rows_of_doubles m n costs) xs →
    AreRowsBeside (IsRoundedTo scale) (rows_of_doubles m n costs) others → IsBest sense others xs
best_rounded sense n m scale margin costs others xs prices is best by beside =
    best_moved sense m scale (unsigned_abs margin) (rows_of_doubles m n costs) others xs prices
    (doubles_within m n costs) best
    (subst (λ (z : ℤ). AreChoicesBy z sense prices (rows_of_doubles m n costs) xs) (as_size margin is.some) by)
    (rows_near m scale n (unsigned_abs margin) costs others (some_size margin is.some) is.enough beside)
