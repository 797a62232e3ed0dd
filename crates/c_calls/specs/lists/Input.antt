-- The lists that a caller gives.
use Rattle.std.specs.Prelude.{◌≡◌, ℕ, ◌*◌, ◌⊎◌, ℤ, List, [], length, All, ◌==◌, ◌&&◌, not, if◌then◌else◌}
use Rattle.assign_core.specs.declared.sense.Sense.{Sense}
use Rattle.assign_core.specs.Rows.{Listing}
use Rattle.assign_core.specs.Dense.{rows_cut}
use Rattle.cost_lists.specs.Given.{rows_given, triples_of}
use Rattle.cost_lists.specs.ListedCosts.{ListedCosts}
use Rattle.c_calls.specs.declared.lists.form.Form.{Form}
use Rattle.c_calls.specs.declared.lists.form.Form.TheVariants.{Dense, Sparse}

-- a given problem: the sense and the numbers of persons and objects, as numbers; the lengths of the
-- buffers that need one value for each person, and of those that need one for each object; the
-- persons, the objects and the costs of the pairs; and first prices
pub record InputLists : Type 0 where
  pub form : Form
  pub sense : ℕ
  pub n : ℕ
  pub m : ℕ
  pub by_person : List ℕ
  pub by_object : List ℕ
  pub persons : List ℕ
  pub objects : List ℕ
  pub costs : List ℤ
  pub first : List ℤ

-- dense: no list of pairs, and a cost for each person and each object; sparse: three lists of one length
abbrev pub HasPairs : Form → InputLists → Type 0
HasPairs Dense g = (g.persons ≡ []) × (g.objects ≡ []) × (length g.costs ≡ g.n * g.m)
HasPairs Sparse g = (length g.objects ≡ length g.persons) × (length g.costs ≡ length g.persons)

-- a first price for each object, or none
abbrev pub HasFirst : InputLists → Type 0
HasFirst g = (g.first ≡ []) ⊎ (length g.first ≡ g.m)

-- each list has the right length
pub record HasLengths (g : InputLists) : Type 0 where
  pub pairs : HasPairs g.form g
  pub first : HasFirst g
  pub by_person : All (λ k. k ≡ g.n) g.by_person
  pub by_object : All (λ k. k ≡ g.m) g.by_object

-- without lists of pairs, dense if there are costs; otherwise sparse
abbrev pub either_form : List ℕ → List ℕ → List ℤ → Form
either_form persons objects costs =
    if (length persons == 0) && (length objects == 0) && not (length costs == 0) then Dense else Sparse

-- a problem alone, without first prices and buffers
abbrev pub problem_alone : Form → ℕ → ℕ → ℕ → List ℕ → List ℕ → List ℤ → InputLists
problem_alone form sense n m persons objects costs = record {
  form = form;
  sense = sense;
  n = n;
  m = m;
  by_person = [];
  by_object = [];
  persons = persons;
  objects = objects;
  costs = costs;
  first = [];
}

-- a problem of either form
abbrev pub either : ℕ → ℕ → ℕ → List ℕ → List ℕ → List ℤ → InputLists
either sense n m persons objects costs =
    problem_alone (either_form persons objects costs) sense n m persons objects costs

-- the rows of the problem, one for each person; of several costs of a pair the best counts
abbrev pub rows_of : Form → Sense → InputLists → List Listing
rows_of Dense sense g = rows_cut g.m g.n g.costs
rows_of Sparse sense g = rows_given sense (triples_of g.persons g.objects g.costs) g.m 1 g.n

-- the costs of the problem, under a sense
abbrev pub lists_in : Sense → InputLists → ListedCosts
lists_in sense g = record { sense = sense; m = g.m; rows = rows_of g.form sense g }
