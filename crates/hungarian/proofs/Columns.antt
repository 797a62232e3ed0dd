-- A person's costs, read from its row or from the pairs of each object.
use Rattle.std.proofs.Common.{◌≡◌, ℕ, zero, suc, ℤ, pos, ◌+◌, ◌-◌, ◌*◌, ◌<◌, List, [], ◌∷◌, Option, None, Some, IsSome, length, replicate, ap, arith, refl, sym, subst, ◌∙◌}
use Rattle.std.proofs.lemmas.List.{get_or-replicate}
use Rattle.assign_core.specs.declared.sense.Sense.{Sense}
use Rattle.assign_core.specs.Numbered.{IsNumber, numbered}
use Rattle.assign_core.specs.Dense.{rows_cut}
use Rattle.assign_core.specs.Rows.{Listing, listed_in, row_of}
use Rattle.assign_core.specs.Sparse.{Triple}
use Rattle.assign_core.proofs.NumberedLemmas.{numbered-next}
use Rattle.cost_lists.specs.declared.source.Pairs.{Pairs}
use Rattle.cost_lists.specs.declared.numbers.TheConstants.{UNLISTED}
use Rattle.cost_lists.specs.ListedCosts.{ListedCosts, AreInLimits}
use Rattle.cost_lists.specs.Given.{best_given, rows_given, triples_of}
use Rattle.cost_lists.specs.Source.{ArePairs, part_of, triples_in}
use Rattle.cost_lists.specs.Own.{AreOwnCosts, minimised, turned_or_unlisted}
use Rattle.cost_lists.proofs.CutRows.{cost_read, cut_row, part_fits, part_long}
use Rattle.cost_lists.proofs.GivenRows.{length-rows_given, rows_list}
use Rattle.cost_lists.proofs.Triples.{triples_among}
use Rattle.hungarian.specs.inside.Plans.{int_at, cost_at, IsRowOf}
use Rattle.assign_core.proofs.Listed.{object_within}
use Rattle.hungarian.proofs.Costs.{within_row}

-- persons and objects change places in pairs
pub best_turned : (sense : Sense) (persons objects : List ℕ) (costs : List ℤ) (i j : ℕ) →
    length objects ≡ length persons → length costs ≡ length persons →
    best_given sense (triples_of objects persons costs) j i ≡ best_given sense (triples_of persons objects costs) i j
best_turned sense [] [] costs i j e g = refl
best_turned sense [] (y ∷ objects) costs i j e g = absurd (omega (arith, e))
best_turned sense (x ∷ persons) [] costs i j e g = absurd (omega (arith, e))
best_turned sense (x ∷ persons) (y ∷ objects) [] i j e g = absurd (omega (arith, g))
best_turned sense (x ∷ persons) (y ∷ objects) (c ∷ costs) i j e g =
    let h = best_turned sense persons objects costs i j (omega (arith, e)) (omega (arith, g)) in
    grind (arith, h)

-- the costs of a person's pairs, as the costs of each object's pairs with that person
pub column_is : (sense : Sense) (n m : ℕ) (pairs : Pairs) (person : ℕ) (own : List ℤ) → ArePairs n m pairs →
    AreOwnCosts sense (rows_given sense (triples_of pairs.objects.now pairs.persons.now pairs.costs.now) n 1 m)
    (replicate m person) own →
    (k : ℕ) → k < m → int_at own k ≡ turned_or_unlisted sense (best_given sense (triples_in pairs) person (k + 1))
column_is sense n m pairs person own are h k lt =
    let triples : List Triple = triples_of pairs.objects.now pairs.persons.now pairs.costs.now in
    let rows : List Listing = rows_given sense triples n 1 m in
    let objects_long = are.objects_long in
    let costs_long = are.costs_long in
    let among = triples_among pairs.objects.now pairs.persons.now pairs.costs.now (sym objects_long)
    (costs_long ∙ sym objects_long) m n are.objects_in are.persons_in are.costs_in in
    let rows_long : length rows ≡ m = length-rows_given sense triples n 1 m in
    let each = h.each (k + 1) (record { first = omega arith; last = omega arith }) in
    let same : numbered (replicate m person) (k + 1) 0 ≡ person = numbered-next (replicate m person) k 0
    ∙ get_or-replicate m k person 0 lt in
    sym (numbered-next own k (pos 0)) ∙ each
    ∙ ap (λ q. turned_or_unlisted sense (listed_in (row_of rows (k + 1)) q)) same
    ∙ ap (turned_or_unlisted sense)
    (rows_list sense triples m n among (k + 1) person
    ∙ best_turned sense pairs.persons.now pairs.objects.now pairs.costs.now person (k + 1) objects_long costs_long)

pub column_long : (sense : Sense) (n m : ℕ) (pairs : Pairs) (person : ℕ) (own : List ℤ) →
    AreOwnCosts sense (rows_given sense (triples_of pairs.objects.now pairs.persons.now pairs.costs.now) n 1 m)
    (replicate m person) own → length own ≡ m
column_long sense n m pairs person own h = h.long
    ∙ length-rows_given sense (triples_of pairs.objects.now pairs.persons.now pairs.costs.now) n 1 m

-- a row of all costs
pub dense_is : (l : ListedCosts) (n i k : ℕ) (costs : List ℤ) → l.rows ≡ rows_cut l.m n costs →
    length costs ≡ n * l.m → i < n → k < l.m →
    minimised l.sense (int_at (part_of l.m i costs) k) ≡ cost_at l (i + 1) (k + 1)
dense_is l n i k costs e long lt less =
    let fits = part_fits n l.m i costs long lt in
    let part_is = part_long l.m i costs fits in
    let read = cost_read (part_of l.m i costs) (k + 1) (record { first = omega arith; last = omega arith }) in
    let place : k + 1 - 1 ≡ k = omega arith in
    ap (turned_or_unlisted l.sense)
    (ap (λ q. Some (int_at (part_of l.m i costs) q)) (sym place) ∙ read
    ∙ ap (λ row. listed_in row (k + 1)) (sym (cut_row n l.m i costs lt)))
    ∙ ap (λ rows. turned_or_unlisted l.sense (listed_in (row_of rows (i + 1)) (k + 1))) (sym e)

-- the costs of a row are in their places
pub row_is : (l : ListedCosts) (i : ℕ) (row : List ℤ) → AreInLimits l → length row ≡ l.m + 1 →
    int_at row 0 ≡ UNLISTED → ((k : ℕ) → k < l.m → int_at row (k + 1) ≡ cost_at l i (k + 1)) → IsRowOf (cost_at l i) row
row_is l i row lim long first each = record { each = λ k lt. place k lt } where
  unlisted : cost_at l i 0 ≡ UNLISTED
  unlisted = none_listed (listed_in (row_of l.rows i) 0) refl where
    none_listed : (o : Option ℤ) → o ≡ listed_in (row_of l.rows i) 0 →
        turned_or_unlisted l.sense (listed_in (row_of l.rows i) 0) ≡ UNLISTED
    none_listed None e = ap (turned_or_unlisted l.sense) (sym e)
    none_listed (Some c) e =
        let s : IsSome (listed_in (row_of l.rows i) 0) = subst IsSome e refl in
        let number = object_within l.m (row_of l.rows i) 0 (within_row l i lim) s in
        let first_is = number.first in absurd (omega arith)

  place : (k : ℕ) → k < length row → int_at row k ≡ cost_at l i k
  place zero lt = first ∙ sym unlisted
  place (suc q) lt =
      let e : q + 1 ≡ suc q = omega arith in
      subst (λ y. int_at row y ≡ cost_at l i y) e (each q (omega arith))

-- a row that is set from all costs
pub dense_row_is : (l : ListedCosts) (person : ℕ) (row costs : List ℤ) → AreInLimits l →
    IsNumber (length l.rows) person → rows_cut l.m (length l.rows) costs ≡ l.rows → length costs ≡ length l.rows * l.m →
    length row ≡ l.m + 1 → int_at row 0 ≡ UNLISTED →
    ((k : ℕ) → k < length (part_of l.m (person - 1) costs) →
    int_at row (k + 1) ≡ minimised l.sense (int_at (part_of l.m (person - 1) costs) k)) →
    IsRowOf (cost_at l person) row
dense_row_is l person row costs lim number e costs_long long first set = row_is l person row lim long first
    (λ k lt. each k lt) where
      below : person - 1 < length l.rows
      below = let a = number.first in let b = number.last in omega arith

      next : person - 1 + 1 ≡ person
      next = let a = number.first in omega arith

      each : (k : ℕ) → k < l.m → int_at row (k + 1) ≡ cost_at l person (k + 1)
      each k lt =
          let part = part_long l.m (person - 1) costs
          (part_fits (length l.rows) l.m (person - 1) costs costs_long below) in
          set k (omega arith) ∙ dense_is l (length l.rows) (person - 1) k costs (sym e) costs_long below lt
          ∙ ap (λ i. cost_at l i (k + 1)) next

-- a row that is set from a person's pairs
pub listed_row_is : (l : ListedCosts) (person : ℕ) (row own : List ℤ) (pairs : Pairs) → AreInLimits l →
    ArePairs (length l.rows) l.m pairs → rows_given l.sense (triples_in pairs) l.m 1 (length l.rows) ≡ l.rows →
    length row ≡ l.m + 1 → int_at row 0 ≡ UNLISTED → length own ≡ l.m →
    ((k : ℕ) → k < l.m → int_at own k ≡ turned_or_unlisted l.sense
    (best_given l.sense (triples_in pairs) person (k + 1))) →
    ((k : ℕ) → k < length own → int_at row (k + 1) ≡ int_at own k) → IsRowOf (cost_at l person) row
listed_row_is l person row own pairs lim are e long first own_long best set = row_is l person row lim long first
    (λ k lt. each k lt) where
      each : (k : ℕ) → k < l.m → int_at row (k + 1) ≡ cost_at l person (k + 1)
      each k lt =
          let among = triples_among pairs.persons.now pairs.objects.now pairs.costs.now are.objects_long are.costs_long
          (length l.rows) l.m are.persons_in are.objects_in are.costs_in in
          set k (omega arith) ∙ best k lt
          ∙ ap (turned_or_unlisted l.sense)
          (sym (rows_list l.sense (triples_in pairs) (length l.rows) l.m among person (k + 1)))
          ∙ ap (λ rows. turned_or_unlisted l.sense (listed_in (row_of rows person) (k + 1))) e
