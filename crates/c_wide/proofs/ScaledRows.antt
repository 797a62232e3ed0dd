-- Rows in other units: a positive factor keeps best plans.
use Rattle.std.proofs.Common.{◌≡◌, ℕ, ℤ, pos, zero, suc, ◌^◌, ◌+ℤ◌, ◌*ℤ◌, List, [], ◌∷◌}
use Rattle.std.proofs.Common.{IsSome, length, get_or, refl, ap, sym, subst, ◌∙◌}
use Rattle.std.specs.List.{All}
use Rattle.std.proofs.Math.IntN.{*ℤ-zero}
use Rattle.assign_core.specs.declared.sense.Sense.{Sense}
use Rattle.assign_core.specs.declared.sense.Sense.TheVariants.{Min, Max}
use Rattle.assign_core.specs.Assignment.{AreListed, IsAssignment, IsBest, IsNoWorse, total}
use Rattle.assign_core.specs.Hall.{IsHallSet}
use Rattle.assign_core.specs.Numbered.{IsNumber}
use Rattle.assign_core.specs.Rows.{Listing, IsListed, listed_in, listed_or_zero}
use Rattle.assign_core.proofs.Products.{distributes}
use Rattle.double_costs.specs.Margins.{AreRowsBeside}
use Rattle.double_costs.proofs.Multiples.{in_order}
use Rattle.cost_lists.proofs.ExactDuality.{some_cost}
use Rattle.c_wide.specs.exact.Given.{IsScaled}

module _ (e : ℕ) where
  listed_both : (rows others : List Listing) (xs : List ℕ) → AreRowsBeside (IsScaled e) rows others →
      (AreListed rows xs → AreListed others xs) × (AreListed others xs → AreListed rows xs)
  listed_both [] [] xs b = ((λ l. l), (λ l. l))
  listed_both [] (o ∷ others) xs b = absurd b
  listed_both (r ∷ rows) [] xs b = absurd b
  listed_both (r ∷ rows) (o ∷ others) [] b = ((λ l. absurd l), (λ l. absurd l))
  listed_both (r ∷ rows) (o ∷ others) (x ∷ xs) b =
      let i = listed_both rows others xs b.1 in (
        (λ l. ((b.0.same x).1 l.0, i.0 l.1)),
        (λ l. ((b.0.same x).0 l.0, i.1 l.1)),
      )

  total_scaled : (rows others : List Listing) (xs : List ℕ) → AreRowsBeside (IsScaled e) rows others → AreListed rows xs →
      total rows xs ≡ pos (2 ^ e) *ℤ total others xs
  total_scaled [] [] xs b l = sym (*ℤ-zero (pos (2 ^ e)))
  total_scaled [] (o ∷ others) xs b l = absurd b
  total_scaled (r ∷ rows) [] xs b l = absurd b
  total_scaled (r ∷ rows) (o ∷ others) [] b l = absurd l
  total_scaled (r ∷ rows) (o ∷ others) (x ∷ xs) b l =
      let own : listed_or_zero r x ≡ pos (2 ^ e) *ℤ listed_or_zero o x =
      b.0.costs x (listed_or_zero r x) (listed_or_zero o x) (some_cost (listed_in r x) l.0)
      (some_cost (listed_in o x) ((b.0.same x).1 l.0)) in
      ap (λ (z : ℤ). z +ℤ total rows xs) own
      ∙ ap (λ (z : ℤ). (pos (2 ^ e) *ℤ listed_or_zero o x) +ℤ z) (total_scaled rows others xs b.1 l.1)
      ∙ sym (distributes (pos (2 ^ e)) (listed_or_zero o x) (total others xs))

  no_worse_scaled : (sense : Sense) (a b : ℤ) → IsNoWorse sense a b → IsNoWorse sense (pos (2 ^ e) *ℤ a) (pos (2 ^ e) *ℤ b)
  no_worse_scaled Min a b h = in_order (2 ^ e) a b h
  no_worse_scaled Max a b h = in_order (2 ^ e) b a h

  assigned_both : (rows others : List Listing) (xs : List ℕ) → AreRowsBeside (IsScaled e) rows others →
      (IsAssignment rows xs → IsAssignment others xs) × (IsAssignment others xs → IsAssignment rows xs)
  assigned_both rows others xs b =
      let l = listed_both rows others xs b in (
        (λ a. record { listed = l.0 a.listed; apart = a.apart }),
        (λ a. record { listed = l.1 a.listed; apart = a.apart }),
      )

  -- what is best in units is best
  pub best_scaled : (sense : Sense) (rows others : List Listing) (xs : List ℕ) → AreRowsBeside (IsScaled e) rows others →
      IsBest sense others xs → IsBest sense rows xs
  best_scaled sense rows others xs b best =
      let own = (assigned_both rows others xs b).1 best.assigned in
      let t = total_scaled rows others xs b own.listed in
      record {
        assigned = own;
        best = λ ys other.
            let s = total_scaled rows others ys b other.listed in
            subst (λ (z : ℤ). IsNoWorse sense z (total rows ys)) (sym t)
            (subst (IsNoWorse sense (pos (2 ^ e) *ℤ total others xs)) (sym s)
            (no_worse_scaled sense (total others xs) (total others ys) (best.best ys ((assigned_both rows others ys b).0 other))));
      }

  -- where there is no plan in units, there is none
  pub none_scaled : (rows others : List Listing) → AreRowsBeside (IsScaled e) rows others →
      ((xs : List ℕ) → ¬ IsAssignment others xs) → (xs : List ℕ) → ¬ IsAssignment rows xs
  none_scaled rows others b none xs a = none xs ((assigned_both rows others xs b).0 a)

  same_length : (rows others : List Listing) → AreRowsBeside (IsScaled e) rows others → length rows ≡ length others
  same_length [] [] b = refl
  same_length [] (o ∷ others) b = absurd b
  same_length (r ∷ rows) [] b = absurd b
  same_length (r ∷ rows) (o ∷ others) b = ap suc (same_length rows others b.1)

  row_both : (rows others : List Listing) (k j : ℕ) → AreRowsBeside (IsScaled e) rows others →
      (IsSome (listed_in (get_or rows k []) j) → IsSome (listed_in (get_or others k []) j))
      × (IsSome (listed_in (get_or others k []) j) → IsSome (listed_in (get_or rows k []) j))
  row_both [] [] k j b = ((λ s. s), (λ s. s))
  row_both [] (o ∷ others) k j b = absurd b
  row_both (r ∷ rows) [] k j b = absurd b
  row_both (r ∷ rows) (o ∷ others) zero j b = ((b.0.same j).1, (b.0.same j).0)
  row_both (r ∷ rows) (o ∷ others) (suc k) j b = row_both rows others k j b.1

  pair_both : (rows others : List Listing) (i j : ℕ) → AreRowsBeside (IsScaled e) rows others →
      (IsListed rows i j → IsListed others i j) × (IsListed others i j → IsListed rows i j)
  pair_both rows others zero j b = ((λ s. s), (λ s. s))
  pair_both rows others (suc k) j b = row_both rows others k j b

  pub hall_scaled : (rows others : List Listing) (persons objects : List ℕ) → AreRowsBeside (IsScaled e) rows others →
      IsHallSet others persons objects → IsHallSet rows persons objects
  hall_scaled rows others persons objects b h = record {
    persons_rise = h.persons_rise;
    objects_rise = h.objects_rise;
    within = subst (λ (n : ℕ). All (IsNumber n) persons) (sym (same_length rows others b)) h.within;
    neighbours = λ j. (
      (λ c. let w = (h.neighbours j).0 c in (w.0, w.1, (pair_both rows others w.0 j b).1 w.2)),
      (λ w. (h.neighbours j).1 (w.0, w.1, (pair_both rows others w.0 j b).0 w.2)),
    );
    fewer = h.fewer;
  }
