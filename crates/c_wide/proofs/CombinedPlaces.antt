-- Combined costs place by place, and the rows that they make.
use Rattle.std.proofs.Common.{◌≡◌, ℕ, ℤ, pos, zero, suc, ◌+◌, ◌-◌, ◌*◌, ◌<◌, ◌*ℤ◌, List, [], ◌∷◌, Option, None, Some}
use Rattle.std.proofs.Common.{length, get_or, take, drop, refl, arith, ap, sym, ◌∙◌, ◌⊎◌, inl, inr, nat_eq, ◌&&◌, true, false}
use Rattle.std.proofs.Common.{length-take-le, length-drop, get_or-take, get_or-drop}
use Rattle.std.specs.Int.{int_min, int_max}
use Rattle.std.proofs.lemmas.Int.{ints, clamps, by_lt_z}
use Rattle.std.proofs.lemmas.Bool.{cond-true, cond-false}
use Rattle.std.proofs.lemmas.Bool.Decides.{eqb_tells}
use Rattle.assign_core.specs.declared.sense.Sense.{Sense}
use Rattle.assign_core.specs.declared.sense.Sense.TheVariants.{Min, Max}
use Rattle.assign_core.specs.Dense.{row_from, rows_cut}
use Rattle.assign_core.specs.Rows.{Listing}
use Rattle.assign_core.specs.Sparse.{Triple}
use Rattle.cost_lists.specs.Given.{best_given, better_cost, row_given, rows_given, triples_of, with_cost}
use Rattle.double_costs.proofs.Multiples.{in_order}
use Rattle.c_wide.specs.fewest.Changes.{change, combined_row, combined_rows, with_change}
use Rattle.c_wide.proofs.CombinedRows.{combined_cost}

-- the test of a triple's person and object
pair_test : (p o i j : ℕ) → ((nat_eq p i && nat_eq o j ≡ true) × (p ≡ i) × (o ≡ j)) ⊎ (nat_eq p i && nat_eq o j ≡ false)
pair_test p o i j = elim (eqb_tells p i) [
  | inl a ↦ elim (eqb_tells o j) [
    | inl b ↦ inl (rw (a.0, b.0) refl, a.1, b.1)
    | inr b ↦ inr (rw (a.0, b.0) refl)
  ]
  | inr a ↦ inr (rw a.0 refl)
]

module _ (sense : Sense) (n : ℕ) where
  row_combined : (k j : ℕ) (vs cs : List ℤ) → length vs ≡ length cs →
      ((i : ℕ) → i < length cs → get_or vs i (pos 0) ≡ with_change sense n (get_or cs i (pos 0)) (change k (j + i))) →
      row_from j vs ≡ combined_row sense n k (row_from j cs)
  row_combined k j [] [] e h = refl
  row_combined k j [] (c ∷ cs) e h = absurd (omega (arith, e))
  row_combined k j (v ∷ vs) [] e h = absurd (omega (arith, e))
  row_combined k j (v ∷ vs) (c ∷ cs) e h =
      let here : j + 0 ≡ j = omega arith in
      let own : v ≡ with_change sense n c (change k j) = h 0 (omega arith) ∙ ap (λ (i : ℕ). with_change sense n c (change k i)) here in
      ap (λ (z : ℤ). (j, z) ∷ row_from (j + 1) vs) own
      ∙ ap (λ (r : Listing). (j, with_change sense n c (change k j)) ∷ r)
      (row_combined k (j + 1) vs cs (omega (arith, e)) (λ i lt.
      let next : j + suc i ≡ j + 1 + i = omega arith in
      h (suc i) (omega arith) ∙ ap (λ (q : ℕ). with_change sense n (get_or cs i (pos 0)) (change k q)) next))

  -- all costs of the persons and the objects
  pub rows_combined : (m p : ℕ) (kept : List ℕ) (vs cs : List ℤ) → length kept ≡ p → length vs ≡ p * m → length cs ≡ p * m →
      ((i j : ℕ) → i < p → j < m → get_or vs (i * m + j) (pos 0) ≡ with_change sense n (get_or cs (i * m + j) (pos 0)) (change (get_or kept i 0) (j + 1))) →
      rows_cut m p vs ≡ combined_rows sense n kept (rows_cut m p cs)
  rows_combined m zero [] vs cs l e f h = refl
  rows_combined m zero (k ∷ kept) vs cs l e f h = absurd (omega (arith, l))
  rows_combined m (suc p) [] vs cs l e f h = absurd (omega (arith, l))
  rows_combined m (suc p) (k ∷ kept) vs cs l e f h =
      let more : suc p * m ≡ m + p * m = omega arith in
      let tv : length (take m vs) ≡ m = length-take-le m vs (omega arith) in
      let tc : length (take m cs) ≡ m = length-take-le m cs (omega arith) in
      let dv = length-drop m vs in
      let dc = length-drop m cs in
      let row : row_from 1 (take m vs) ≡ combined_row sense n k (row_from 1 (take m cs)) =
      row_combined k 1 (take m vs) (take m cs) (tv ∙ sym tc) (λ i lt.
      let at : 0 * m + i ≡ i = omega arith in
      let next : i + 1 ≡ 1 + i = omega arith in
      get_or-take m vs i (pos 0) (omega arith)
      ∙ ap (λ (q : ℕ). get_or vs q (pos 0)) (sym at)
      ∙ h 0 i (omega arith) (omega arith)
      ∙ ap (λ (q : ℕ). with_change sense n (get_or cs q (pos 0)) (change k (i + 1))) at
      ∙ ap (λ (z : ℤ). with_change sense n z (change k (i + 1))) (sym (get_or-take m cs i (pos 0) (omega arith)))
      ∙ ap (λ (q : ℕ). with_change sense n (get_or (take m cs) i (pos 0)) (change k q)) next) in
      let rest : rows_cut m p (drop m vs) ≡ combined_rows sense n kept (rows_cut m p (drop m cs)) =
      rows_combined m p kept (drop m vs) (drop m cs) (omega (arith, l)) (omega arith) (omega arith) (λ i j li lj.
      let at : m + (i * m + j) ≡ suc i * m + j = omega arith in
      get_or-drop m vs (i * m + j) (pos 0)
      ∙ ap (λ (q : ℕ). get_or vs q (pos 0)) at
      ∙ h (suc i) j (omega arith) lj
      ∙ ap (λ (q : ℕ). with_change sense n (get_or cs q (pos 0)) (change (get_or kept i 0) (j + 1))) (sym at)
      ∙ ap (λ (z : ℤ). with_change sense n z (change (get_or kept i 0) (j + 1))) (sym (get_or-drop m cs (i * m + j) (pos 0)))) in
      ap (λ (r : Listing). r ∷ rows_cut m p (drop m vs)) row
      ∙ ap (λ (r : List Listing). combined_row sense n k (row_from 1 (take m cs)) ∷ r) rest

  -- of two costs of a pair the better stays the better
  better_combined : (s : Sense) (a b : ℤ) (c : ℕ) → better_cost s (with_change s n a c) (Some (with_change s n b c)) ≡ with_change s n (better_cost s a (Some b)) c
  better_combined Min a b c = by_lt_z {P = int_min (with_change Min n a c) (with_change Min n b c) ≡ with_change Min n (int_min a b) c} b a
      (λ lt.
      let o = in_order (n + 1) b a (omega (arith, ints)) in
      let e : int_min a b ≡ b = omega (arith, ints, clamps) in
      let f = ap (λ (z : ℤ). pos (n + 1) *ℤ z) e in
      omega (arith, ints, clamps))
      (λ le.
      let o = in_order (n + 1) a b (omega (arith, ints)) in
      let e : int_min a b ≡ a = omega (arith, ints, clamps) in
      let f = ap (λ (z : ℤ). pos (n + 1) *ℤ z) e in
      omega (arith, ints, clamps))
  better_combined Max a b c = by_lt_z {P = int_max (with_change Max n a c) (with_change Max n b c) ≡ with_change Max n (int_max a b) c} a b
      (λ lt.
      let o = in_order (n + 1) a b (omega (arith, ints)) in
      let e : int_max a b ≡ b = omega (arith, ints, clamps) in
      let f = ap (λ (z : ℤ). pos (n + 1) *ℤ z) e in
      omega (arith, ints, clamps))
      (λ le.
      let o = in_order (n + 1) b a (omega (arith, ints)) in
      let e : int_max a b ≡ a = omega (arith, ints, clamps) in
      let f = ap (λ (z : ℤ). pos (n + 1) *ℤ z) e in
      omega (arith, ints, clamps))

  better_of : (k j : ℕ) (a : ℤ) (o : Option ℤ) →
      better_cost sense (with_change sense n a (change k j)) (combined_cost sense n k j o) ≡ with_change sense n (better_cost sense a o) (change k j)
  better_of k j a None = refl
  better_of k j a (Some b) = better_combined sense a b (change k j)

  -- the best of a pair's combined costs
  best_combined : (kept persons objects : List ℕ) (vs cs : List ℤ) → length objects ≡ length persons → length vs ≡ length persons → length cs ≡ length persons →
      ((q : ℕ) → q < length persons → get_or vs q (pos 0) ≡ with_change sense n (get_or cs q (pos 0)) (change (get_or kept (get_or persons q 0 - 1) 0) (get_or objects q 0))) →
      (i j : ℕ) → best_given sense (triples_of persons objects vs) i j ≡ combined_cost sense n (get_or kept (i - 1) 0) j (best_given sense (triples_of persons objects cs) i j)
  best_combined kept [] objects vs cs eo ev ec h i j = refl
  best_combined kept (p ∷ persons) [] vs cs eo ev ec h i j = absurd (omega (arith, eo))
  best_combined kept (p ∷ persons) (o ∷ objects) [] cs eo ev ec h i j = absurd (omega (arith, ev))
  best_combined kept (p ∷ persons) (o ∷ objects) (v ∷ vs) [] eo ev ec h i j = absurd (omega (arith, ec))
  best_combined kept (p ∷ persons) (o ∷ objects) (v ∷ vs) (c ∷ cs) eo ev ec h i j =
      let rest = best_combined kept persons objects vs cs (omega (arith, eo)) (omega (arith, ev)) (omega (arith, ec)) (λ q lt. h (suc q) (omega arith)) i j in
      let b : Option ℤ = best_given sense (triples_of persons objects cs) i j in
      let a : Option ℤ = best_given sense (triples_of persons objects vs) i j in
      let k : ℕ = get_or kept (i - 1) 0 in
      elim (pair_test p o i j) [
        | inl t ↦
            let own : v ≡ with_change sense n c (change k j) = h 0 (omega arith)
            ∙ ap (λ (q : ℕ). with_change sense n c (change (get_or kept (q - 1) 0) o)) t.1
            ∙ ap (λ (q : ℕ). with_change sense n c (change k q)) t.2 in
            cond-true (nat_eq p i && nat_eq o j) (Some (better_cost sense v a)) a t.0
            ∙ ap (λ (z : ℤ). Some (better_cost sense z a)) own
            ∙ ap (λ (z : Option ℤ). Some (better_cost sense (with_change sense n c (change k j)) z)) rest
            ∙ ap Some (better_of k j c b)
            ∙ ap (combined_cost sense n k j) (sym (cond-true (nat_eq p i && nat_eq o j) (Some (better_cost sense c b)) b t.0))
        | inr t ↦
            cond-false (nat_eq p i && nat_eq o j) (Some (better_cost sense v a)) a t
            ∙ rest
            ∙ ap (combined_cost sense n k j) (sym (cond-false (nat_eq p i && nat_eq o j) (Some (better_cost sense c b)) b t))
      ]

  with_combined : (k j : ℕ) (o : Option ℤ) (row : Listing) → with_cost j (combined_cost sense n k j o) (combined_row sense n k row) ≡ combined_row sense n k (with_cost j o row)
  with_combined k j None row = refl
  with_combined k j (Some c) row = refl

  given_row : (kept : List ℕ) (ts us : List Triple) →
      ((i j : ℕ) → best_given sense ts i j ≡ combined_cost sense n (get_or kept (i - 1) 0) j (best_given sense us i j)) →
      (i j q : ℕ) → row_given sense ts i j q ≡ combined_row sense n (get_or kept (i - 1) 0) (row_given sense us i j q)
  given_row kept ts us h i j zero = refl
  given_row kept ts us h i j (suc q) =
      ap (λ (o : Option ℤ). with_cost j o (row_given sense ts i (j + 1) q)) (h i j)
      ∙ ap (λ (r : Listing). with_cost j (combined_cost sense n (get_or kept (i - 1) 0) j (best_given sense us i j)) r) (given_row kept ts us h i (j + 1) q)
      ∙ with_combined (get_or kept (i - 1) 0) j (best_given sense us i j) (row_given sense us i (j + 1) q)

  given_rows : (kept : List ℕ) (ts us : List Triple) (m : ℕ) →
      ((i j : ℕ) → best_given sense ts i j ≡ combined_cost sense n (get_or kept (i - 1) 0) j (best_given sense us i j)) →
      (i p : ℕ) (own : List ℕ) → length own ≡ p → ((q : ℕ) → q < p → get_or own q 0 ≡ get_or kept (i + q - 1) 0) →
      rows_given sense ts m i p ≡ combined_rows sense n own (rows_given sense us m i p)
  given_rows kept ts us m h i zero [] l o = refl
  given_rows kept ts us m h i zero (k ∷ own) l o = absurd (omega (arith, l))
  given_rows kept ts us m h i (suc p) [] l o = absurd (omega (arith, l))
  given_rows kept ts us m h i (suc p) (k ∷ own) l o =
      let at : i + 0 - 1 ≡ i - 1 = omega arith in
      let here : k ≡ get_or kept (i - 1) 0 = o 0 (omega arith) ∙ ap (λ (q : ℕ). get_or kept q 0) at in
      let row : row_given sense ts i 1 m ≡ combined_row sense n k (row_given sense us i 1 m) =
      given_row kept ts us h i 1 m ∙ ap (λ (q : ℕ). combined_row sense n q (row_given sense us i 1 m)) (sym here) in
      ap (λ (r : Listing). r ∷ rows_given sense ts m (i + 1) p) row
      ∙ ap (λ (r : List Listing). combined_row sense n k (row_given sense us i 1 m) ∷ r)
      (given_rows kept ts us m h (i + 1) p own (omega (arith, l)) (λ q lt.
      let next : i + suc q - 1 ≡ i + 1 + q - 1 = omega arith in
      o (suc q) (omega arith) ∙ ap (λ (w : ℕ). get_or kept w 0) next))

  -- listed pairs
  pub pairs_combined : (m p : ℕ) (kept persons objects : List ℕ) (vs cs : List ℤ) → length kept ≡ p →
      length objects ≡ length persons → length vs ≡ length persons → length cs ≡ length persons →
      ((q : ℕ) → q < length persons → get_or vs q (pos 0) ≡ with_change sense n (get_or cs q (pos 0)) (change (get_or kept (get_or persons q 0 - 1) 0) (get_or objects q 0))) →
      rows_given sense (triples_of persons objects vs) m 1 p ≡ combined_rows sense n kept (rows_given sense (triples_of persons objects cs) m 1 p)
  pairs_combined m p kept persons objects vs cs l eo ev ec h =
      given_rows kept (triples_of persons objects vs) (triples_of persons objects cs) m (best_combined kept persons objects vs cs eo ev ec h) 1 p kept l
      (λ q lt. let e : q ≡ 1 + q - 1 = omega arith in ap (λ (w : ℕ). get_or kept w 0) e)
