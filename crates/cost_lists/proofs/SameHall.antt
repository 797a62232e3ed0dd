-- Hall sets don't depend on costs.
use Rattle.std.proofs.Common.{◌≡◌, ℕ, ℤ, ◌+◌, zero, suc, List, [], ◌∷◌, Option, Some, IsSome, Bool, true, false, cond, nat_eq, ◌&&◌, take, drop}
use Rattle.std.proofs.Common.{length, get_or, refl, rules, arith, sym, subst, ◌∙◌, length-take, length-drop}
use Rattle.std.specs.List.{All}
use Rattle.assign_core.specs.declared.sense.Sense.{Sense}
use Rattle.assign_core.specs.Dense.{row_from, rows_cut}
use Rattle.assign_core.specs.Hall.{IsHallSet}
use Rattle.assign_core.specs.Numbered.{IsNumber}
use Rattle.assign_core.specs.Rows.{Listing, IsListed, listed_in, row_of}
use Rattle.assign_core.specs.Sparse.{Triple}
use Rattle.assign_core.proofs.DenseRows.{length-rows_cut}
use Rattle.cost_lists.specs.Given.{best_given, better_cost, rows_given, triples_of}
use Rattle.cost_lists.proofs.GivenRows.{length-rows_given}

some_either : (b : Bool) (x y : ℤ) (o r : Option ℤ) → (IsSome o → IsSome r) → IsSome (cond b (Some x) o) → IsSome (cond b (Some y) r)
some_either true x y o r h s = refl
some_either false x y o r h s = h s

-- pairs with other costs
pub same_given : (sense other : Sense) (persons objects : List ℕ) (costs others : List ℤ) (i j : ℕ) →
    length costs ≡ length persons → length others ≡ length persons →
    IsSome (best_given sense (triples_of persons objects costs) i j) → IsSome (best_given other (triples_of persons objects others) i j)
same_given sense other [] objects costs others i j e f s = s
same_given sense other (p ∷ persons) [] costs others i j e f s = s
same_given sense other (p ∷ persons) (o ∷ objects) [] others i j e f s = absurd (omega (arith, e))
same_given sense other (p ∷ persons) (o ∷ objects) (c ∷ costs) [] i j e f s = absurd (omega (arith, f))
same_given sense other (p ∷ persons) (o ∷ objects) (c ∷ costs) (d ∷ others) i j e f s =
    some_either (nat_eq p i && nat_eq o j)
    (better_cost sense c (best_given sense (triples_of persons objects costs) i j))
    (better_cost other d (best_given other (triples_of persons objects others) i j))
    (best_given sense (triples_of persons objects costs) i j) (best_given other (triples_of persons objects others) i j)
    (same_given sense other persons objects costs others i j (omega (arith, e)) (omega (arith, f))) s

same_row : (k : ℕ) (costs others : List ℤ) (j : ℕ) → length costs ≡ length others → IsSome (listed_in (row_from k costs) j) → IsSome (listed_in (row_from k others) j)
same_row k [] others j e s = absurd (search rules)
same_row k (c ∷ costs) [] j e s = absurd (omega (arith, e))
same_row k (c ∷ costs) (d ∷ others) j e s =
    some_either (nat_eq k j) c d (listed_in (row_from (k + 1) costs) j) (listed_in (row_from (k + 1) others) j) (same_row (k + 1) costs others j (omega (arith, e))) s

same_cut : (m n : ℕ) (costs others : List ℤ) (k j : ℕ) → length costs ≡ length others →
    IsSome (listed_in (get_or (rows_cut m n costs) k []) j) → IsSome (listed_in (get_or (rows_cut m n others) k []) j)
same_cut m zero costs others k j e s = s
same_cut m (suc n) costs others zero j e s =
    let a = length-take m costs in
    let b = length-take m others in
    same_row 1 (take m costs) (take m others) j (omega arith) s
same_cut m (suc n) costs others (suc k) j e s =
    let a = length-drop m costs in
    let b = length-drop m others in
    same_cut m n (drop m costs) (drop m others) k j (omega arith) s

-- rows with other costs
pub same_rows : (m n : ℕ) (costs others : List ℤ) → length costs ≡ length others → (i j : ℕ) →
    IsListed (rows_cut m n costs) i j → IsListed (rows_cut m n others) i j
same_rows m n costs others e zero j s = s
same_rows m n costs others e (suc k) j s = same_cut m n costs others k j e s

-- rows that list the same objects have the same Hall sets
pub hall_same : (rows others : List Listing) (persons objects : List ℕ) → length rows ≡ length others →
    ((i j : ℕ) → IsListed rows i j → IsListed others i j) → ((i j : ℕ) → IsListed others i j → IsListed rows i j) →
    IsHallSet rows persons objects → IsHallSet others persons objects
hall_same rows others persons objects long to from h = record {
  persons_rise = h.persons_rise;
  objects_rise = h.objects_rise;
  within = subst (λ n. All (IsNumber n) persons) long h.within;
  neighbours = λ j. (
    (λ c. let near = (h.neighbours j).0 c in (near.0, near.1, to near.0 j near.2)),
    (λ near. (h.neighbours j).1 (near.0, near.1, from near.0 j near.2)),
  );
  fewer = h.fewer;
}

pub hall_cut : (m n : ℕ) (costs others : List ℤ) (persons objects : List ℕ) → length costs ≡ length others →
    IsHallSet (rows_cut m n costs) persons objects → IsHallSet (rows_cut m n others) persons objects
hall_cut m n costs others persons objects e h =
    hall_same (rows_cut m n costs) (rows_cut m n others) persons objects
    (length-rows_cut m n costs ∙ sym (length-rows_cut m n others)) (same_rows m n costs others e) (same_rows m n others costs (sym e)) h

-- the rows list what is given
abbrev pub ListGiven : Sense → List Triple → ℕ → ℕ → Type 0
ListGiven sense triples n m = (i j : ℕ) → listed_in (row_of (rows_given sense triples m 1 n) i) j ≡ best_given sense triples i j

module _ (sense other : Sense) (of_persons of_objects : List ℕ) (costs others : List ℤ) (n m : ℕ) (persons objects : List ℕ)
    (e : length costs ≡ length of_persons) (f : length others ≡ length of_persons)
    (here : ListGiven sense (triples_of of_persons of_objects costs) n m) (there : ListGiven other (triples_of of_persons of_objects others) n m) where
  pub hall_given : IsHallSet (rows_given sense (triples_of of_persons of_objects costs) m 1 n) persons objects →
      IsHallSet (rows_given other (triples_of of_persons of_objects others) m 1 n) persons objects
  hall_given h =
      hall_same (rows_given sense (triples_of of_persons of_objects costs) m 1 n) (rows_given other (triples_of of_persons of_objects others) m 1 n) persons objects
      (length-rows_given sense (triples_of of_persons of_objects costs) m 1 n ∙ sym (length-rows_given other (triples_of of_persons of_objects others) m 1 n))
      (λ i j s. subst IsSome (sym (there i j)) (same_given sense other of_persons of_objects costs others i j e f (subst IsSome (here i j) s)))
      (λ i j s. subst IsSome (sym (here i j)) (same_given other sense of_persons of_objects others costs i j f e (subst IsSome (there i j) s))) h
