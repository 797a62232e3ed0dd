-- Hall sets of rows of doubles, by places.
use Rattle.std.proofs.Common.{◌≡◌, ℕ, ℤ, ◌<◌, ◌+◌, ◌-◌, ◌*◌, List, Option, None, Some, IsSome, length, get_or}
use Rattle.std.proofs.Common.{Bool, true, false, IsTrue, arith, rules, refl, sym, ap, ◌∙◌, subst}
use Rattle.std.specs.List.{All, Contains}
use Rattle.std.specs.List.Sorted.{IsStrictlyIncreasing}
use Rattle.std.proofs.lemmas.List.{get_or_default}
use lib.Ieee.{Float}
use Rattle.assign_core.specs.Numbered.{IsMarked, IsNumber}
use Rattle.assign_core.specs.Rows.{Listing, IsListed, listed_in}
use Rattle.assign_core.specs.Hall.{IsHallSet, IsNeighbour}
use Rattle.assign_core.proofs.Listed.{listing_within, object_within}
use Rattle.assign_core.proofs.NumberedLemmas.{numbered-next}
use Rattle.double_costs.specs.Units.{is_number}
use Rattle.double_costs.specs.DoubleRows.{row_of_doubles, rows_of_doubles}
use Rattle.double_costs.proofs.DoublePairs.{length-rows_of_doubles, part_length, row_within}
use Rattle.double_checker.specs.inside.Pairs.{at, row_part}
use Rattle.double_checker.specs.inside.Plans.{MarksJust}
use Rattle.double_checker.specs.inside.Halls.{AreAllowed, AreRowsNamed}
use Rattle.double_checker.proofs.PlanRows.{entry_of, listed_at, part_at, row_is}

some_of : (o : Option ℤ) → IsSome o → (c : ℤ) × (o ≡ Some c)
some_of None h = absurd (search rules)
some_of (Some c) h = (c, refl)

pub listed_from : (n m : ℕ) (costs : List Float) (p j : ℕ) → length costs ≡ n * m → IsNumber n p → IsNumber m j →
    IsTrue (is_number (at costs ((p - 1) * m + (j - 1)))) →
    IsListed (rows_of_doubles m n costs) p j
listed_from n m costs p j long np nj f =
    let a = np.first in let b = np.last in let x = nj.first in let y = nj.last in
    let i : p - 1 < n = omega arith in
    let k : j - 1 < m = omega arith in
    let row = row_part m (p - 1) costs in
    let wide : length row ≡ m = part_length n m (p - 1) costs long i in
    let ep : p ≡ p - 1 + 1 = omega arith in
    let ej : j - 1 + 1 ≡ j = omega arith in
    let g : IsTrue (is_number (at row (j - 1))) = subst (λ (z : Float). IsTrue (is_number z))
    (sym (part_at m (p - 1) (j - 1) costs k)) f in
    let l = listed_at row (j - 1) (omega arith) g in
    let s : IsSome (listed_in (row_of_doubles 1 row) (j - 1 + 1)) = rw l (search rules) in
    subst (λ (q : ℕ). IsListed (rows_of_doubles m n costs) q j) (sym ep)
    (subst (λ (r : Listing). IsSome (listed_in r j)) (sym (row_is n m (p - 1) costs i))
    (subst (λ (q : ℕ). IsSome (listed_in (row_of_doubles 1 row) q)) ej s))

pub record IsFree (n m : ℕ) (costs : List Float) (p j : ℕ) : Type 0 where
  pub person : IsNumber n p
  pub object : IsNumber m j
  pub finite : IsTrue (is_number (at costs ((p - 1) * m + (j - 1))))

pub listed_to : (n m : ℕ) (costs : List Float) (p j : ℕ) → length costs ≡ n * m →
    IsListed (rows_of_doubles m n costs) p j → IsFree n m costs p j
listed_to n m costs p j long s =
    let np : IsNumber n p = subst (λ (q : ℕ). IsNumber q p) (length-rows_of_doubles m n costs)
    (listing_within (rows_of_doubles m n costs) p j s) in
    let a = np.first in let b = np.last in
    let i : p - 1 < n = omega arith in
    let row = row_part m (p - 1) costs in
    let wide : length row ≡ m = part_length n m (p - 1) costs long i in
    let ep : p ≡ p - 1 + 1 = omega arith in
    let t : IsSome (listed_in (row_of_doubles 1 row) j) = subst (λ (r : Listing). IsSome (listed_in r j))
    (row_is n m (p - 1) costs i) (subst (λ (q : ℕ). IsListed (rows_of_doubles m n costs) q j) ep s) in
    let k : IsNumber (length row) j = object_within (length row) (row_of_doubles 1 row) j
    (row_within 1 (length row) row (omega arith) (omega arith)) t in
    let x = k.first in let y = k.last in
    let c = some_of (listed_in (row_of_doubles 1 row) j) t in
    let e = entry_of row row j c.0 refl c.1 in
    let place : e.place ≡ j - 1 = (let g = e.number in omega arith) in
    record {
      person = np;
      object = subst (λ (q : ℕ). IsNumber q j) wide k;
      finite = subst (λ (z : Float). IsTrue (is_number z))
          (ap (at row) place ∙ part_at m (p - 1) (j - 1) costs (omega arith)) e.finite;
    }

marked_at : (named : List Bool) (j : ℕ) → get_or named j false ≡ true → IsMarked named (j + 1)
marked_at named j h = numbered-next named j false ∙ h

pub hall_from : (n m : ℕ) (costs : List Float) (persons objects : List ℕ) (named : List Bool) →
    length costs ≡ n * m → length named ≡ m → All (IsNumber n) persons → All (IsNumber m) objects →
    IsStrictlyIncreasing persons → IsStrictlyIncreasing objects → length objects < length persons →
    MarksJust named objects →
    AreRowsNamed costs persons named (length persons) → AreAllowed m costs persons objects (length objects) →
    IsHallSet (rows_of_doubles m n costs) persons objects
hall_from n m costs persons objects named long wide pw ow pr or fewer marks rows allowed = record {
  persons_rise = pr;
  objects_rise = or;
  within = subst (λ (q : ℕ). All (IsNumber q) persons) (sym (length-rows_of_doubles m n costs)) pw;
  neighbours = λ j. (there j, back j);
  fewer = fewer;
} where
  there : (j : ℕ) → Contains objects j → IsNeighbour (rows_of_doubles m n costs) persons j
  there j c =
      let e : get_or objects c.0 0 ≡ j = get_or_default objects c.0 0 j c.1 ∙ c.2 in
      let a = allowed c.0 c.1 in
      let p : ℕ = get_or persons a.0 0 in
      let nj : IsNumber m j = subst (IsNumber m) e (ow c.0 0 c.1) in (
        p,
        (a.0, a.1, get_or_default persons a.0 p 0 a.1),
        listed_from n m costs p j long (pw a.0 0 a.1) nj
            (subst (λ (q : ℕ). IsTrue (is_number (at costs ((p - 1) * m + (q - 1))))) e a.2),
      )

  back : (j : ℕ) → IsNeighbour (rows_of_doubles m n costs) persons j → Contains objects j
  back j (p, c, s) =
      let f = listed_to n m costs p j long s in
      let x = f.object.first in let y = f.object.last in
      let e : get_or persons c.0 0 ≡ p = get_or_default persons c.0 0 p c.1 ∙ c.2 in
      let k : j - 1 < m = omega arith in
      let v : IsTrue (is_number (at (row_part m (p - 1) costs) (j - 1))) =
      subst (λ (z : Float). IsTrue (is_number z)) (sym (part_at m (p - 1) (j - 1) costs k)) f.finite in
      let w : IsTrue (is_number (at (row_part (length named) (get_or persons c.0 0 - 1) costs) (j - 1))) =
      subst (λ (q : ℕ). IsTrue (is_number (at (row_part q (get_or persons c.0 0 - 1) costs) (j - 1)))) (sym wide)
      (subst (λ (q : ℕ). IsTrue (is_number (at (row_part m (q - 1) costs) (j - 1)))) (sym e) v) in
      let g = rows c.0 c.1 (j - 1) (omega arith) w in
      let ej : j - 1 + 1 ≡ j = omega arith in
      (marks j).0 (subst (IsMarked named) ej (marked_at named (j - 1) g))

pub objects_in : (n m : ℕ) (costs : List Float) (persons objects : List ℕ) → length costs ≡ n * m →
    IsHallSet (rows_of_doubles m n costs) persons objects → All (IsNumber m) objects
objects_in n m costs persons objects long h k d lt =
    let a = (h.neighbours (get_or objects k d)).0 (k, lt, get_or_default objects k (get_or objects k d) d lt) in
    (listed_to n m costs a.0 (get_or objects k d) long a.2).object

pub persons_in : (n m : ℕ) (costs : List Float) (persons objects : List ℕ) →
    IsHallSet (rows_of_doubles m n costs) persons objects → All (IsNumber n) persons
persons_in n m costs persons objects h = subst (λ (q : ℕ). All (IsNumber q) persons)
    (length-rows_of_doubles m n costs) h.within

pub hall_rows : (n m : ℕ) (costs : List Float) (persons objects : List ℕ) (named : List Bool) →
    length costs ≡ n * m → length named ≡ m → MarksJust named objects →
    IsHallSet (rows_of_doubles m n costs) persons objects → AreRowsNamed costs persons named (length persons)
hall_rows n m costs persons objects named long wide marks h i lt j room f =
    let p : ℕ = get_or persons i 0 in
    let np : IsNumber n p = persons_in n m costs persons objects h i 0 lt in
    let k : j < m = omega arith in
    let g : IsTrue (is_number (at costs ((p - 1) * m + j))) = subst (λ (z : Float). IsTrue (is_number z))
    (part_at m (p - 1) j costs k) (subst (λ (q : ℕ). IsTrue (is_number (at (row_part q (p - 1) costs) j)))
    wide f) in
    let e : j ≡ j + 1 - 1 = omega arith in
    let s = listed_from n m costs p (j + 1) long np (record { first = omega arith; last = omega arith })
    (subst (λ (q : ℕ). IsTrue (is_number (at costs ((p - 1) * m + q)))) e g) in
    sym (numbered-next named j false)
    ∙ (marks (j + 1)).1 ((h.neighbours (j + 1)).1 (p, (i, lt, get_or_default persons i p 0 lt), s))

pub hall_allowed : (n m : ℕ) (costs : List Float) (persons objects : List ℕ) → length costs ≡ n * m →
    IsHallSet (rows_of_doubles m n costs) persons objects → AreAllowed m costs persons objects (length objects)
hall_allowed n m costs persons objects long h q lt =
    let j : ℕ = get_or objects q 0 in
    let a = (h.neighbours j).0 (q, lt, get_or_default objects q j 0 lt) in
    let c = a.1 in
    let f = listed_to n m costs a.0 j long a.2 in
    let e : a.0 ≡ get_or persons c.0 0 = sym (get_or_default persons c.0 0 a.0 c.1 ∙ c.2) in
    (c.0, c.1, subst (λ (p : ℕ). IsTrue (is_number (at costs ((p - 1) * m + (j - 1))))) e f.finite)
