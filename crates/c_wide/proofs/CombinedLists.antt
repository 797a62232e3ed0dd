-- The problem at combined costs.
use Rattle.std.proofs.Common.{◌≡◌, ℕ, ℤ, pos, suc, ◌+◌, ◌*◌, ◌%◌, ◌≤◌, ◌<◌, List}
use Rattle.std.proofs.Common.{length, map, get_or, arith, ap, sym, subst, ◌∙◌}
use Rattle.std.proofs.lemmas.List.{length-map}
use Rattle.std.proofs.lemmas.Nat.{div-mul-add, mod-mul-add}
use native.Mathlib.Nat.{mul-le-mul_right}
use Rattle.assign_core.specs.declared.sense.Sense.{Sense}
use Rattle.assign_core.specs.Dense.{rows_cut}
use Rattle.assign_core.specs.Rows.{Listing}
use Rattle.assign_core.proofs.DenseRows.{length-rows_cut}
use Rattle.cost_lists.specs.Given.{rows_given, triples_of}
use Rattle.cost_lists.specs.ListedCosts.{ListedCosts}
use Rattle.cost_lists.proofs.GivenRows.{length-rows_given}
use Rattle.c_calls.specs.declared.lists.form.Form.{Form}
use Rattle.c_calls.specs.declared.lists.form.Form.TheVariants.{Dense, Sparse}
use Rattle.c_calls.specs.lists.Input.{HasPairs, InputLists, lists_in, rows_of}
use Rattle.wide_checker.specs.declared.numbers.Wide.{Wide}
use Rattle.wide_checker.specs.WideNumbers.{wide_value}
use Rattle.c_wide.specs.fewest.Changes.{change, combined_lists, combined_rows, with_change}
use Rattle.c_wide.specs.fewest.Combined.{AreCombined, object_at, person_at}
use Rattle.c_wide.proofs.CombinedPlaces.{pairs_combined, rows_combined}

pub place_inside : (i n j m : ℕ) → i < n → j < m → i * m + j < n * m
place_inside i n j m h k =
    let more : suc i * m ≤ n * m = mul-le-mul_right m h in
    let next : suc i * m ≡ i * m + m = omega arith in
    omega arith

module _ (sense : Sense) (g : InputLists) (kept : List ℕ) (long : length kept ≡ g.n) where
  -- rows that are combined from those of the given problem
  same_lists : (n m : ℕ) (given rows : List Listing) → m ≡ g.m → rows_of g.form sense g ≡ given → length given ≡ g.n →
      rows ≡ combined_rows sense g.n kept given →
      record { sense = sense; m = m; rows = rows } ≡ combined_lists kept (lists_in sense g)
  same_lists n m given rows e r l is =
      let count : g.n ≡ length (rows_of g.form sense g) = sym l ∙ ap length (sym r) in
      let all : rows ≡ combined_rows sense (length (rows_of g.form sense g)) kept (rows_of g.form sense g) =
      is ∙ ap (λ (i : ℕ). combined_rows sense i kept given) count
      ∙ ap (λ (o : List Listing). combined_rows sense (length (rows_of g.form sense g)) kept o) (sym r) in
      lists_same m g.m rows (combined_rows sense (length (rows_of g.form sense g)) kept (rows_of g.form sense g)) e all
    where
      lists_same : (a b : ℕ) (o q : List Listing) → a ≡ b → o ≡ q →
          (let x : ListedCosts = record { sense = sense; m = a; rows = o } in let y : ListedCosts = record { sense = sense; m = b; rows = q } in x ≡ y)
      lists_same a b o q e h = cc

  -- the rows of all costs, combined
  pub dense_lists : (n m : ℕ) → n ≡ g.n → m ≡ g.m → g.form ≡ Dense →
      (let l : ListedCosts = record { sense = sense; m = m; rows = combined_rows sense n kept (rows_cut m n g.costs) } in l ≡ combined_lists kept (lists_in sense g))
  dense_lists n m en em f =
      same_lists n m (rows_cut g.m g.n g.costs) (combined_rows sense n kept (rows_cut m n g.costs)) em (ap (λ (h : Form). rows_of h sense g) f)
      (length-rows_cut g.m g.n g.costs)
      (ap (λ (i : ℕ). combined_rows sense i kept (rows_cut m i g.costs)) en ∙ ap (λ (i : ℕ). combined_rows sense g.n kept (rows_cut i g.n g.costs)) em)

  -- all costs, row by row
  rows_are : (n m : ℕ) (vs : List ℤ) → n ≡ g.n → m ≡ g.m → g.form ≡ Dense → HasPairs g.form g → length vs ≡ length g.costs →
      ((i j : ℕ) → i < g.n → j < g.m → get_or vs (i * g.m + j) (pos 0) ≡ with_change sense g.n (get_or g.costs (i * g.m + j) (pos 0)) (change (get_or kept i 0) (j + 1))) →
      (let l : ListedCosts = record { sense = sense; m = m; rows = rows_cut m n vs } in l ≡ combined_lists kept (lists_in sense g))
  rows_are n m vs en em f pairs values_long each =
      let has : HasPairs Dense g = subst (λ (h : Form). HasPairs h g) f pairs in
      let rows : rows_cut g.m g.n vs ≡ combined_rows sense g.n kept (rows_cut g.m g.n g.costs) =
      rows_combined sense g.n g.m g.n kept vs g.costs long (values_long ∙ has.2) has.2 each in
      same_lists n m (rows_cut g.m g.n g.costs) (rows_cut m n vs) em (ap (λ (h : Form). rows_of h sense g) f) (length-rows_cut g.m g.n g.costs)
      (ap (λ (i : ℕ). rows_cut i n vs) em ∙ ap (λ (i : ℕ). rows_cut g.m i vs) en ∙ rows)

module _ (sense : Sense) (g : InputLists) (kept : List ℕ) (costs : List Wide) (long : length kept ≡ g.n)
    (are : AreCombined sense g kept (length g.costs) costs) where
  at_form : (f : Form) → g.form ≡ f → (i : ℕ) → i < length g.costs → get_or (map wide_value costs) i (pos 0)
      ≡ with_change sense g.n (get_or g.costs i (pos 0)) (change (get_or kept (person_at f g i) 0) (object_at f g i))
  at_form f e i lt = are.each i lt
      ∙ ap (λ (h : Form). with_change sense g.n (get_or g.costs i (pos 0)) (change (get_or kept (person_at h g i) 0) (object_at h g i))) e

  values_long : length (map wide_value costs) ≡ length g.costs
  values_long = length-map costs wide_value ∙ are.long

  pub dense_is : (n m : ℕ) → n ≡ g.n → m ≡ g.m → g.form ≡ Dense → HasPairs g.form g →
      (let l : ListedCosts = record { sense = sense; m = m; rows = rows_cut m n (map wide_value costs) } in l ≡ combined_lists kept (lists_in sense g))
  dense_is n m en em f pairs =
      let has : HasPairs Dense g = subst (λ (h : Form). HasPairs h g) f pairs in
      rows_are sense g kept long n m (map wide_value costs) en em f pairs values_long (λ i j li lj.
      let below = place_inside i g.n j g.m li lj in
      let lt : i * g.m + j < length g.costs = (let e = has.2 in omega arith) in
      at_form Dense f (i * g.m + j) lt
      ∙ ap (λ (q : ℕ). with_change sense g.n (get_or g.costs (i * g.m + j) (pos 0)) (change (get_or kept q 0) ((i * g.m + j) % g.m + 1))) (div-mul-add i g.m j lj)
      ∙ ap (λ (q : ℕ). with_change sense g.n (get_or g.costs (i * g.m + j) (pos 0)) (change (get_or kept i 0) (q + 1))) (mod-mul-add i g.m j lj))

  pub pairs_are : (n m : ℕ) → n ≡ g.n → m ≡ g.m → g.form ≡ Sparse → HasPairs g.form g →
      (let l : ListedCosts = record { sense = sense; m = m; rows = rows_given sense (triples_of g.persons g.objects (map wide_value costs)) m 1 n } in
      l ≡ combined_lists kept (lists_in sense g))
  pairs_are n m en em f pairs =
      let has : HasPairs Sparse g = subst (λ (h : Form). HasPairs h g) f pairs in
      let vs : List ℤ = map wide_value costs in
      let ts = triples_of g.persons g.objects vs in
      let us = triples_of g.persons g.objects g.costs in
      let rows : rows_given sense ts g.m 1 g.n ≡ combined_rows sense g.n kept (rows_given sense us g.m 1 g.n) =
      pairs_combined sense g.n g.m g.n kept g.persons g.objects vs g.costs long has.0 (values_long ∙ has.1) has.1
      (λ q lt. at_form Sparse f q (let e = has.1 in omega arith)) in
      same_lists sense g kept long n m (rows_given sense us g.m 1 g.n) (rows_given sense ts m 1 n) em (ap (λ (h : Form). rows_of h sense g) f)
      (length-rows_given sense us g.m 1 g.n)
      (ap (λ (i : ℕ). rows_given sense ts i 1 n) em ∙ ap (λ (i : ℕ). rows_given sense ts g.m 1 i) en ∙ rows)
