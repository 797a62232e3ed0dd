-- Rows at combined costs: what they list, and what a plan costs there.
use Rattle.std.proofs.Common.{◌≡◌, ℕ, ℤ, pos, zero, suc, ◌+◌, ◌≤◌, ◌+ℤ◌, ◌*ℤ◌, List, [], ◌∷◌, Option, None, Some}
use Rattle.std.proofs.Common.{IsSome, length, get_or, unwrap_or, refl, arith, rules, ap, sym, subst, ◌∙◌, inl, inr}
use Rattle.std.proofs.lemmas.Int.{ints}
use Rattle.std.proofs.lemmas.Bool.Decides.{eqb_tells}
use Rattle.std.proofs.Math.IntN.{*ℤ-zero}
use Rattle.std.specs.List.{All}
use Rattle.assign_core.specs.declared.sense.Sense.{Sense}
use Rattle.assign_core.specs.declared.sense.Sense.TheVariants.{Min, Max}
use Rattle.assign_core.specs.Assignment.{AreListed, IsAssignment, total}
use Rattle.assign_core.specs.Hall.{IsHallSet}
use Rattle.assign_core.specs.Numbered.{IsNumber}
use Rattle.assign_core.specs.Rows.{Listing, IsListed, listed_in, listed_or_zero}
use Rattle.assign_core.proofs.Listed.{listed_here, listed_later}
use Rattle.assign_core.proofs.Products.{distributes}
use Rattle.c_wide.specs.fewest.Changes.{change, changed_by, changes, combined_row, combined_rows, with_change}

-- a combined cost, if there is a cost
abbrev pub combined_cost : Sense → ℕ → ℕ → ℕ → Option ℤ → Option ℤ
combined_cost sense n k j None = None
combined_cost sense n k j (Some c) = Some (with_change sense n c (change k j))

change_few : (k j : ℕ) → change k j ≤ 1
change_few k j = elim (eqb_tells k j) [
  | inl t ↦ rw t.0 (omega arith)
  | inr t ↦ rw t.0 (omega arith)
]

pub changes_few : (kept xs : List ℕ) → changes kept xs ≤ length kept
changes_few [] xs = omega arith
changes_few (k ∷ kept) [] = omega arith
changes_few (k ∷ kept) (x ∷ xs) = let a = change_few k x in let b = changes_few kept xs in omega arith

zero_changed : (sense : Sense) (z : ℤ) → z ≡ pos 0 → pos 0 ≡ changed_by sense z 0
zero_changed Min z e = omega (arith, ints)
zero_changed Max z e = omega (arith, ints)

sum_changed : (sense : Sense) (a b : ℤ) (c d : ℕ) → changed_by sense a c +ℤ changed_by sense b d ≡ changed_by sense (a +ℤ b) (c + d)
sum_changed Min a b c d = omega (arith, ints)
sum_changed Max a b c d = omega (arith, ints)

module _ (sense : Sense) (n : ℕ) where
  pub listed_combined : (k : ℕ) (row : Listing) (j : ℕ) → listed_in (combined_row sense n k row) j ≡ combined_cost sense n k j (listed_in row j)
  listed_combined k [] j = refl
  listed_combined k (e ∷ row) j = elim (eqb_tells e.0 j) [
    | inl t ↦
        listed_here (e.0, with_change sense n e.1 (change k e.0)) (combined_row sense n k row) j t.0
        ∙ ap (λ (i : ℕ). Some (with_change sense n e.1 (change k i))) t.1
        ∙ ap (combined_cost sense n k j) (sym (listed_here e row j t.0))
    | inr t ↦
        listed_later (e.0, with_change sense n e.1 (change k e.0)) (combined_row sense n k row) j t.0
        ∙ listed_combined k row j
        ∙ ap (combined_cost sense n k j) (sym (listed_later e row j t.0))
  ]

  some_both : (k j : ℕ) (o : Option ℤ) → (IsSome o → IsSome (combined_cost sense n k j o)) × (IsSome (combined_cost sense n k j o) → IsSome o)
  some_both k j None = ((λ s. s), (λ s. s))
  some_both k j (Some c) = ((λ s. refl), (λ s. refl))

  pair_both : (k : ℕ) (row : Listing) (j : ℕ) →
      (IsSome (listed_in row j) → IsSome (listed_in (combined_row sense n k row) j))
      × (IsSome (listed_in (combined_row sense n k row) j) → IsSome (listed_in row j))
  pair_both k row j =
      let e = listed_combined k row j in
      let b = some_both k j (listed_in row j) in (
        (λ s. subst IsSome (sym e) (b.0 s)),
        (λ s. b.1 (subst IsSome e s)),
      )

  pub listed_both : (kept : List ℕ) (rows : List Listing) (xs : List ℕ) → length kept ≡ length rows →
      (AreListed rows xs → AreListed (combined_rows sense n kept rows) xs) × (AreListed (combined_rows sense n kept rows) xs → AreListed rows xs)
  listed_both [] [] xs e = ((λ l. l), (λ l. l))
  listed_both [] (r ∷ rows) xs e = absurd (omega (arith, e))
  listed_both (k ∷ kept) [] xs e = absurd (omega (arith, e))
  listed_both (k ∷ kept) (r ∷ rows) [] e = ((λ l. absurd l), (λ l. absurd l))
  listed_both (k ∷ kept) (r ∷ rows) (x ∷ xs) e =
      let b = pair_both k r x in
      let i = listed_both kept rows xs (omega (arith, e)) in (
        (λ l. (b.0 l.0, i.0 l.1)),
        (λ l. (b.1 l.0, i.1 l.1)),
      )

  pub assigned_both : (kept : List ℕ) (rows : List Listing) (xs : List ℕ) → length kept ≡ length rows →
      (IsAssignment rows xs → IsAssignment (combined_rows sense n kept rows) xs)
      × (IsAssignment (combined_rows sense n kept rows) xs → IsAssignment rows xs)
  assigned_both kept rows xs e =
      let l = listed_both kept rows xs e in (
        (λ a. record { listed = l.0 a.listed; apart = a.apart }),
        (λ a. record { listed = l.1 a.listed; apart = a.apart }),
      )

  own_of : (k j : ℕ) (o : Option ℤ) → IsSome o → unwrap_or (combined_cost sense n k j o) (pos 0) ≡ with_change sense n (unwrap_or o (pos 0)) (change k j)
  own_of k j None s = absurd (search rules)
  own_of k j (Some c) s = refl

  added : (a b : ℤ) (c d : ℕ) → with_change sense n a c +ℤ with_change sense n b d ≡ with_change sense n (a +ℤ b) (c + d)
  added a b c d =
      sum_changed sense (pos (n + 1) *ℤ a) (pos (n + 1) *ℤ b) c d
      ∙ ap (λ (z : ℤ). changed_by sense z (c + d)) (sym (distributes (pos (n + 1)) a b))

  -- what a plan costs at combined costs
  pub total_combined : (kept : List ℕ) (rows : List Listing) (xs : List ℕ) → length kept ≡ length rows → AreListed rows xs →
      total (combined_rows sense n kept rows) xs ≡ with_change sense n (total rows xs) (changes kept xs)
  total_combined [] [] xs e l = zero_changed sense (pos (n + 1) *ℤ pos 0) (*ℤ-zero (pos (n + 1)))
  total_combined [] (r ∷ rows) xs e l = absurd (omega (arith, e))
  total_combined (k ∷ kept) [] xs e l = absurd (omega (arith, e))
  total_combined (k ∷ kept) (r ∷ rows) [] e l = absurd l
  total_combined (k ∷ kept) (r ∷ rows) (x ∷ xs) e l =
      let own : listed_or_zero (combined_row sense n k r) x ≡ with_change sense n (listed_or_zero r x) (change k x) =
      ap (λ (o : Option ℤ). unwrap_or o (pos 0)) (listed_combined k r x) ∙ own_of k x (listed_in r x) l.0 in
      ap (λ (z : ℤ). z +ℤ total (combined_rows sense n kept rows) xs) own
      ∙ ap (λ (z : ℤ). with_change sense n (listed_or_zero r x) (change k x) +ℤ z) (total_combined kept rows xs (omega (arith, e)) l.1)
      ∙ added (listed_or_zero r x) (total rows xs) (change k x) (changes kept xs)

  pub same_length : (kept : List ℕ) (rows : List Listing) → length kept ≡ length rows → length (combined_rows sense n kept rows) ≡ length rows
  same_length [] [] e = refl
  same_length [] (r ∷ rows) e = absurd (omega (arith, e))
  same_length (k ∷ kept) [] e = absurd (omega (arith, e))
  same_length (k ∷ kept) (r ∷ rows) e = ap suc (same_length kept rows (omega (arith, e)))

  row_both : (kept : List ℕ) (rows : List Listing) (q j : ℕ) → length kept ≡ length rows →
      (IsSome (listed_in (get_or rows q []) j) → IsSome (listed_in (get_or (combined_rows sense n kept rows) q []) j))
      × (IsSome (listed_in (get_or (combined_rows sense n kept rows) q []) j) → IsSome (listed_in (get_or rows q []) j))
  row_both [] [] q j e = ((λ s. s), (λ s. s))
  row_both [] (r ∷ rows) q j e = absurd (omega (arith, e))
  row_both (k ∷ kept) [] q j e = absurd (omega (arith, e))
  row_both (k ∷ kept) (r ∷ rows) zero j e = pair_both k r j
  row_both (k ∷ kept) (r ∷ rows) (suc q) j e = row_both kept rows q j (omega (arith, e))

  numbered_both : (kept : List ℕ) (rows : List Listing) (i j : ℕ) → length kept ≡ length rows →
      (IsListed rows i j → IsListed (combined_rows sense n kept rows) i j) × (IsListed (combined_rows sense n kept rows) i j → IsListed rows i j)
  numbered_both kept rows zero j e = ((λ s. s), (λ s. s))
  numbered_both kept rows (suc q) j e = row_both kept rows q j e

  pub hall_combined : (kept : List ℕ) (rows : List Listing) (persons objects : List ℕ) → length kept ≡ length rows →
      IsHallSet (combined_rows sense n kept rows) persons objects → IsHallSet rows persons objects
  hall_combined kept rows persons objects e h = record {
    persons_rise = h.persons_rise;
    objects_rise = h.objects_rise;
    within = subst (λ (m : ℕ). All (IsNumber m) persons) (same_length kept rows e) h.within;
    neighbours = λ j. (
      (λ c. let w = (h.neighbours j).0 c in (w.0, w.1, (numbered_both kept rows w.0 j e).1 w.2)),
      (λ w. (h.neighbours j).1 (w.0, w.1, (numbered_both kept rows w.0 j e).0 w.2)),
    );
    fewer = h.fewer;
  }
