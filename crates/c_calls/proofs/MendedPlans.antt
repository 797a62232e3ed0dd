-- A mended plan is what a search would find.
use Rattle.std.proofs.Common.{◌≡◌, ℕ, [], length, ap, sym, subst, ◌∙◌, arith}
use Rattle.std.specs.List.{All}
use Rattle.assign_core.specs.Assignment.{total}
use Rattle.assign_core.specs.Dense.{rows_cut}
use Rattle.assign_core.specs.Numbered.{IsNumber}
use Rattle.cost_lists.specs.Exact.{IsOptimum, IsPriceInLimits}
use Rattle.list_solver.specs.declared.found.Found.TheVariants.{Best}
use Rattle.list_solver.specs.declared.record.Record.{Record}
use Rattle.plan_repair.specs.Mended.{IsMended}
use Rattle.plan_repair.specs.declared.mended.Mended.{Mended}
use Rattle.c_calls.specs.declared.lists.answer.Searched.{Searched}
use Rattle.c_calls.specs.declared.lists.form.Form.{Form}
use Rattle.c_calls.specs.declared.lists.form.Form.TheVariants.{Dense}
use Rattle.c_calls.specs.declared.size.Shape.{Shape}
use Rattle.c_calls.specs.lists.Answers.{IsSearched}
use Rattle.c_calls.specs.lists.Faults.{AreNumbers}
use Rattle.c_calls.specs.lists.Input.{HasPairs, InputLists, rows_of}
use Rattle.c_calls.specs.lists.Shapes.{IsShape}

-- a dense problem lists no pairs
no_pairs : (g : InputLists) → g.persons ≡ [] → g.objects ≡ [] → AreNumbers g
no_pairs g persons objects = record {
  persons = subst (All (IsNumber g.n)) (sym persons) (λ k d lt. absurd (omega arith));
  objects = subst (All (IsNumber g.m)) (sym objects) (λ k d lt. absurd (omega arith));
}

-- the end of a search that a mended plan spares
abbrev pub ended : Shape → Mended → Record → Searched
ended shape mended begun = record {
  shape = shape;
  state = record { prices = mended.prices; objects = mended.objects; «record» = begun };
  found = Best mended.total;
}

-- a mended plan of a dense problem is an answer that any budget allows
pub mended_searched : (g : InputLists) (shape : Shape) (budget : ℕ) (mended : Mended) (begun : Record) → g.form ≡ Dense →
    IsShape g shape → All IsPriceInLimits g.first → IsMended shape.sense shape.n shape.m g.costs mended →
    IsSearched g budget (ended shape mended begun)
mended_searched g shape budget mended begun dense is first holds =
    let xs = mended.objects.items in
    let prices = mended.prices.items in
    let pairs = subst (λ f. HasPairs f g) dense is.fits.lengths.pairs in
    let Answers : ℕ → ℕ → Type 0 = λ n m.
    IsOptimum (record { sense = shape.sense; m = m; rows = rows_cut m n g.costs }) xs prices
    × (mended.total ≡ total (rows_cut m n g.costs) xs) in
    let Found : Form → Type 0 = λ f.
    IsOptimum (record { sense = shape.sense; m = g.m; rows = rows_of f shape.sense g }) xs prices
    × (mended.total ≡ total (rows_of f shape.sense g) xs) in
    let cut : Answers shape.n shape.m = (holds.best, holds.sum) in
    let persons : Answers g.n shape.m = subst (λ n. Answers n shape.m) is.persons cut in
    let all : Found Dense = subst (λ m. Answers g.n m) is.objects persons in
    record {
      shape = is;
      whole = record { shape = is.fits; numbers = no_pairs g pairs.0 pairs.1; costs = holds.costs_in; first = first };
      lengths = record { objects = holds.objects ∙ is.persons; prices = holds.prices ∙ is.objects };
      answer = subst Found (sym dense) all;
      allowed = tt;
    }
