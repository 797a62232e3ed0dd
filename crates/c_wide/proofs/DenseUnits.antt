-- All costs in units, row by row: one more, their limits, and their rows.
use Rattle.std.proofs.Common.{◌≡◌, ℕ, ℤ, zero, suc, ◌+◌, ◌*◌, ◌<◌, List, [], ◌∷◌, ◌++◌, take, drop}
use Rattle.std.proofs.Common.{Option, Some, IsSome, IsTrue, length, map, get_or, refl, rules, sym, subst, ◌∙◌, inl, inr}
use Rattle.std.specs.List.{All}
use Rattle.std.proofs.lemmas.Bool.Decides.{eqb_tells}
use Rattle.std.proofs.lemmas.List.{drop-map, take-map, take_more}
use Rattle.std.proofs.lemmas.List.Elements.{All-cons, All-nil}
use Rattle.std.proofs.lemmas.Slice.Zip.{AllZip-long, all_zipped_more}
use lib.Ieee.{Float, nan, inf, fin}
use Rattle.assign_core.specs.Dense.{row_from, rows_cut}
use Rattle.assign_core.specs.Rows.{Listing}
use Rattle.assign_core.proofs.Listed.{listed_here, listed_later}
use Rattle.cost_lists.specs.Given.{with_cost}
use Rattle.double_costs.specs.DoubleRows.{cost_in, row_of_doubles, rows_of_doubles}
use Rattle.double_costs.specs.Margins.{AreRowsBeside, IsRowBeside}
use Rattle.double_costs.specs.Units.{is_number, units_of}
use Rattle.wide_checker.specs.declared.numbers.Wide.{Wide}
use Rattle.wide_checker.specs.WideNumbers.{IsWideCost, wide_value}
use Rattle.wide_checker.specs.WideSources.{AreWideCosts}
use Rattle.c_wide.specs.declared.exact.pairs.UnitPairs.{UnitPairs}
use Rattle.c_wide.specs.exact.Costs.{AreInUnits, AreUnitPairs, IsUnitCost}
use Rattle.c_wide.specs.exact.Given.{IsScaled}
use Rattle.c_wide.specs.exact.Pairs.{HasPlaces}

pub one_more_unit : (e : ℕ) (costs : List Float) (units : List Wide) (k : ℕ) (d : Float) (w : Wide) → k < length costs →
    AreInUnits e (take k costs) units → IsUnitCost e (get_or costs k d) w → AreInUnits e (take (k + 1) costs) (units ++ w ∷ [])
one_more_unit e costs units k d w lt before here =
    subst (λ (l : List Float). AreInUnits e l (units ++ w ∷ [])) (sym (take_more costs k d lt))
    (all_zipped_more (IsUnitCost e) (take k costs) units (get_or costs k d) w before here)

in_range : (e : ℕ) (costs : List Float) (units : List Wide) → AreInUnits e costs units → All IsWideCost units
in_range e [] [] a = All-nil IsWideCost
in_range e [] (w ∷ units) a = absurd a
in_range e (x ∷ costs) [] a = absurd a
in_range e (x ∷ costs) (w ∷ units) a = All-cons IsWideCost w units a.0.range (in_range e costs units a.1)

pub wide_costs : (e n m : ℕ) (costs : List Float) (units : List Wide) → length costs ≡ n * m → AreInUnits e costs units →
    AreWideCosts n m units
wide_costs e n m costs units long a = record {
  long = AllZip-long (IsUnitCost e) costs units a ∙ long;
  costs_in = in_range e costs units a;
}

pub pairs_formed : (e n m : ℕ) (costs : List Float) (pairs : UnitPairs) → HasPlaces e n m costs (length costs) pairs → AreUnitPairs n m pairs
pairs_formed e n m costs pairs has = record {
  objects_long = has.objects_long;
  costs_long = has.costs_long;
  persons_in = has.persons_in;
  objects_in = has.objects_in;
  costs_in = has.costs_in;
}

finite_cost : (x : Float) → IsTrue (is_number x) → cost_in x ≡ Some (units_of x)
finite_cost nan n = absurd (search rules)
finite_cost (inf s) n = absurd (search rules)
finite_cost (fin s m e) n = refl

same_some : (a c : ℤ) → Some a ≡ Some c → a ≡ c
same_some a c h = search rules

module _ (e : ℕ) where
  -- one more object in front of two rows
  front_beside : (j : ℕ) (a z : ℤ) (row other : Listing) → IsScaled e a z → IsRowBeside (IsScaled e) row other →
      IsRowBeside (IsScaled e) ((j, a) ∷ row) ((j, z) ∷ other)
  front_beside j a z row other scaled b = record {
    same = λ k. elim (eqb_tells j k) [
      | inl t ↦ (
        (λ i. subst IsSome (sym (listed_here (j, a) row k t.0)) refl),
        (λ i. subst IsSome (sym (listed_here (j, z) other k t.0)) refl),
      )
      | inr f ↦ (
        (λ i. subst IsSome (sym (listed_later (j, a) row k f.0))
            ((b.same k).0 (subst IsSome (listed_later (j, z) other k f.0) i))),
        (λ i. subst IsSome (sym (listed_later (j, z) other k f.0))
            ((b.same k).1 (subst IsSome (listed_later (j, a) row k f.0) i))),
      )
    ];
    costs = λ k c d p q. elim (eqb_tells j k) [
      | inl t ↦
          let s : a ≡ c = same_some a c (sym (listed_here (j, a) row k t.0) ∙ p) in
          let u : z ≡ d = same_some z d (sym (listed_here (j, z) other k t.0) ∙ q) in
          subst (λ (y : ℤ). IsScaled e y d) s (subst (IsScaled e a) u scaled)
      | inr f ↦ b.costs k c d (sym (listed_later (j, a) row k f.0) ∙ p) (sym (listed_later (j, z) other k f.0) ∙ q)
    ];
  }

  row_beside : (j : ℕ) (costs : List Float) (units : List Wide) → AreInUnits e costs units →
      IsRowBeside (IsScaled e) (row_of_doubles j costs) (row_from j (map wide_value units))
  row_beside j [] [] a = record {
    same = λ k. ((λ i. i), (λ i. i));
    costs = λ k c d p q. absurd (search rules);
  }
  row_beside j [] (w ∷ units) a = absurd a
  row_beside j (x ∷ costs) [] a = absurd a
  row_beside j (x ∷ costs) (w ∷ units) a =
      let rest = row_beside (j + 1) costs units a.1 in
      subst (λ (o : Option ℤ). IsRowBeside (IsScaled e) (with_cost j o (row_of_doubles (j + 1) costs))
      ((j, wide_value w) ∷ row_from (j + 1) (map wide_value units)))
      (sym (finite_cost x a.0.units.finite))
      (front_beside j (units_of x) (wide_value w) (row_of_doubles (j + 1) costs) (row_from (j + 1) (map wide_value units))
      (sym a.0.units.is) rest)

  taken : (m : ℕ) (costs : List Float) (units : List Wide) → AreInUnits e costs units → AreInUnits e (take m costs) (take m units)
  taken zero costs units a = tt
  taken (suc m) [] [] a = tt
  taken (suc m) [] (w ∷ units) a = absurd a
  taken (suc m) (x ∷ costs) [] a = absurd a
  taken (suc m) (x ∷ costs) (w ∷ units) a = (a.0, taken m costs units a.1)

  dropped : (m : ℕ) (costs : List Float) (units : List Wide) → AreInUnits e costs units → AreInUnits e (drop m costs) (drop m units)
  dropped zero costs units a = a
  dropped (suc m) [] [] a = tt
  dropped (suc m) [] (w ∷ units) a = absurd a
  dropped (suc m) (x ∷ costs) [] a = absurd a
  dropped (suc m) (x ∷ costs) (w ∷ units) a = dropped m costs units a.1

  -- the rows of doubles, and the rows cut from their units
  pub cut_in_units : (n m : ℕ) (costs : List Float) (units : List Wide) → AreInUnits e costs units →
      AreRowsBeside (IsScaled e) (rows_of_doubles m n costs) (rows_cut m n (map wide_value units))
  cut_in_units zero m costs units a = tt
  cut_in_units (suc n) m costs units a = (
    subst (λ (l : List ℤ). IsRowBeside (IsScaled e) (row_of_doubles 1 (take m costs)) (row_from 1 l))
        (sym (take-map wide_value m units)) (row_beside 1 (take m costs) (take m units) (taken m costs units a)),
    subst (λ (l : List ℤ). AreRowsBeside (IsScaled e) (rows_of_doubles m n (drop m costs)) (rows_cut m n l))
        (sym (drop-map wide_value m units)) (cut_in_units n m (drop m costs) (drop m units) (dropped m costs units a)),
  )
