-- The lists that a caller gives, and their faults.
use Rattle.std.specs.Prelude.{◌≡◌, ℕ, List, [], Some, map, All}
use Rattle.assign_core.specs.declared.sense.Sense.{Sense as Wanted}
use Rattle.cost_lists.specs.ListedCosts.{ListedCosts}
use Rattle.c_calls.specs.declared.fault.Fault.{Fault}
use Rattle.c_calls.specs.declared.fault.Fault.TheVariants.{Sense, Size, Length, Person, Object, Cost, Price, Memory}
use Rattle.c_calls.specs.declared.lists.form.Form.{Form}
use Rattle.c_calls.specs.lists.Faults.{AreNumbers, HasFault, HasShape}
use Rattle.c_calls.specs.lists.Input.{InputLists, either_form, lists_in}
use Rattle.c_calls.specs.Sizes.{sense_of}
use Rattle.wide_checker.specs.declared.numbers.Wide.{Wide}
use Rattle.wide_checker.specs.WideNumbers.{IsFirstBeyond, IsWideCost, wide_value}

-- a given problem: the sense and the numbers of persons and objects, as numbers; the lengths of the
-- buffers that need one value for each person, and of those that need one for each object; and the
-- persons, the objects and the costs of the pairs
pub record GivenWide : Type 0 where
  pub form : Form
  pub sense : ℕ
  pub n : ℕ
  pub m : ℕ
  pub by_person : List ℕ
  pub by_object : List ℕ
  pub persons : List ℕ
  pub objects : List ℕ
  pub costs : List Wide

-- the same with costs as whole numbers
abbrev pub as_numbers : GivenWide → InputLists
as_numbers g = record {
  form = g.form;
  sense = g.sense;
  n = g.n;
  m = g.m;
  by_person = g.by_person;
  by_object = g.by_object;
  persons = g.persons;
  objects = g.objects;
  costs = map wide_value g.costs;
  first = [];
}

-- what a caller gives: a problem of either form, and the lengths of its buffers
abbrev pub given_wide : ℕ → ℕ → ℕ → List ℕ → List ℕ → List Wide → List ℕ → List ℕ → GivenWide
given_wide sense n m persons objects costs by_person by_object = record {
  form = either_form persons objects (map wide_value costs);
  sense = sense;
  n = n;
  m = m;
  by_person = by_person;
  by_object = by_object;
  persons = persons;
  objects = objects;
  costs = costs;
}

-- no fault
pub record IsWideWhole (g : GivenWide) : Type 0 where
  pub shape : HasShape (as_numbers g)
  pub numbers : AreNumbers (as_numbers g)
  pub costs : All IsWideCost g.costs

-- the first fault in the order of the variants, by the first place that has it
abbrev pub HasWideFault : GivenWide → Fault → Type 0
HasWideFault g Sense = HasFault (as_numbers g) Sense
HasWideFault g Size = HasFault (as_numbers g) Size
HasWideFault g Length = HasFault (as_numbers g) Length
HasWideFault g (Person k) = HasFault (as_numbers g) (Person k)
HasWideFault g (Object k) = HasFault (as_numbers g) (Object k)
HasWideFault g (Cost k) = HasShape (as_numbers g) × AreNumbers (as_numbers g) × IsFirstBeyond g.costs k
HasWideFault g (Price k) = ⊥
HasWideFault g Memory = IsWideWhole g

-- the costs of the problem, under a sense
abbrev pub wide_lists_in : Wanted → GivenWide → ListedCosts
wide_lists_in sense g = lists_in sense (as_numbers g)

-- what holds of the costs of the given problem, under the requested sense
pub record IsOfWide (g : GivenWide) (Holds : ListedCosts → Type 0) : Type 0 where
  pub sense : Wanted
  pub wanted : sense_of g.sense ≡ Some sense
  pub whole : IsWideWhole g
  pub holds : Holds (wide_lists_in sense g)
