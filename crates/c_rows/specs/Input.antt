-- What a caller gives: rows, a plan or none, and a tree.
use Rattle.std.specs.Prelude.{◌≡◌, ℕ, zero, suc, ◌+◌, ◌-◌, ◌==◌, nat_lt, ℤ, List, [], ◌∷◌, ◌++◌, Bool, true, not, ◌&&◌, ◌||◌, None, is_none, is_some, length, map}
use Rattle.row_checker.specs.Rows.{LinearRow, Plan}
use Rattle.c_rows.specs.Lists.{IsFirstWrong, bound_above, bound_below, is_named, is_start, natural_at, terms_from, whole_at}

-- the number of variables, the lists of rows, the plan's numbers, and the tree's
pub record InputRows : Type 0 where
  pub n : ℕ
  pub starts : List ℕ
  pub variables : List ℕ
  pub coefficients : List ℤ
  pub least : List ℤ
  pub most : List ℤ
  pub plan : List ℕ
  pub tree : List ℤ

-- the number of rows
abbrev pub rows_in : InputRows → ℕ
rows_in g = length g.starts - 1

-- the lengths of the lists fit; a plan needs a last row, that of its costs
abbrev pub have_lengths : InputRows → Bool
have_lengths g =
    not (length g.starts == 0) && ((length g.coefficients == length g.variables) && ((length g.least == rows_in g)
    && ((length g.most == rows_in g) && ((length g.plan == 0) || ((length g.plan == g.n) && nat_lt 0 (rows_in g))))))

-- with a plan the last row has an upper bound and no lower one: it bounds the plan's costs
abbrev pub has_cost_row : InputRows → Bool
has_cost_row g =
    (length g.plan == 0)
    || (is_none (bound_below (whole_at g.least (rows_in g - 1))) && is_some (bound_above (whole_at g.most (rows_in g - 1))))

-- row r, and the first rows
abbrev pub row_of : InputRows → ℕ → LinearRow
row_of g r = record {
  least = bound_below (whole_at g.least r);
  most = bound_above (whole_at g.most r);
  terms = terms_from g.variables g.coefficients (natural_at g.starts r) (natural_at g.starts (r + 1) - natural_at g.starts r);
}

abbrev pub rows_of : InputRows → ℕ → List LinearRow
rows_of g zero = []
rows_of g (suc r) = rows_of g r ++ row_of g r ∷ []

-- the plan: the variables whose number is 1
abbrev pub plan_of : List ℕ → Plan
plan_of numbers = map (λ (b : ℕ). b == 1) numbers

-- the lists are rows
pub record AreRows (g : InputRows) : Type 0 where
  pub lengths : have_lengths g ≡ true
  pub starts : IsFirstWrong (λ k. is_start g.starts (length g.variables) k) (length g.starts) None
  pub cost_row : has_cost_row g ≡ true
  pub variables : IsFirstWrong (λ k. is_named g.variables g.n k) (length g.variables) None
  pub numbers : IsFirstWrong (λ k. is_named g.plan 2 k) (length g.plan) None
