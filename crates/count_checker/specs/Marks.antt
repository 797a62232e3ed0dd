-- Marks choose among best plans: a small amount that each pair costs more or less.
use Rattle.std.specs.Prelude.{◌≡◌, ◌≤◌, ◌+◌, ◌+ℤ◌, ◌*ℤ◌, ℕ, ℤ, pos, negsuc, List, [], ◌∷◌, Bool, true, false, length, map, not, slice_index_or}
use Rattle.assign_core.specs.Assignment.{IsNoWorse}
use Rattle.assign_core.specs.declared.sense.Sense.{Sense}
use Rattle.assign_core.specs.Sparse.{Triple}
use Rattle.cost_lists.specs.Own.{minimised}
use Rattle.count_checker.specs.Counts.{CountProblem, IsBestPlan}

-- k times the cost of each pair, and its mark more
abbrev pub marked_pairs : ℕ → List ℤ → List Triple → List Triple
marked_pairs k (mark ∷ marks) (t ∷ pairs) = (t.0, t.1, (pos k *ℤ t.2) +ℤ mark) ∷ marked_pairs k marks pairs
marked_pairs k marks pairs = []

-- the same counts and groups at these costs
abbrev pub marked : ℕ → List ℤ → CountProblem → CountProblem
marked k marks p = record {
  sense = p.sense;
  pairs = marked_pairs k marks p.pairs;
  rows = p.rows;
  columns = p.columns;
  groups = p.groups;
}

-- the sum of the marks of the pairs that a plan chooses
abbrev pub mark_sum : List ℤ → List Bool → ℤ
mark_sum (mark ∷ marks) (true ∷ plan) = mark +ℤ mark_sum marks plan
mark_sum (mark ∷ marks) (false ∷ plan) = mark_sum marks plan
mark_sum marks plan = pos 0

-- of the best plans one that is best at marked costs too has the best sum of marks
abbrev pub MarksBreakTies : Type 0
MarksBreakTies =
    (p : CountProblem) (k : ℕ) (marks : List ℤ) (plan : List Bool) → length marks ≡ length p.pairs →
    IsBestPlan p plan → IsBestPlan (marked k marks p) plan →
    (other : List Bool) → IsBestPlan p other → IsNoWorse p.sense (mark_sum marks plan) (mark_sum marks other)

-- the mark of a pair that doesn't count, of one to keep, and of another
abbrev pub mark_of : Sense → Bool → Bool → ℤ
mark_of sense false is_kept = pos 0
mark_of sense true true = minimised sense (negsuc 0)
mark_of sense true false = minimised sense (pos 1)

-- the marks of all pairs: which count, and which are to be kept
abbrev pub marks_of : Sense → List Bool → List Bool → List ℤ
marks_of sense (c ∷ counted) (x ∷ kept) = mark_of sense c x ∷ marks_of sense counted kept
marks_of sense counted kept = []

abbrev pub differs : Bool → Bool → ℕ
differs true true = 0
differs false false = 0
differs x y = 1

-- how many of the pairs that count are in one of two plans alone
abbrev pub differences : List Bool → List Bool → List Bool → ℕ
differences (true ∷ counted) (x ∷ first) (y ∷ second) = differs x y + differences counted first second
differences (false ∷ counted) (x ∷ first) (y ∷ second) = differences counted first second
differences counted first second = 0

-- of the best plans one that is best at marked costs too differs least from the pairs that are to be kept
abbrev pub MarksMeanFewest : Type 0
MarksMeanFewest =
    (p : CountProblem) (k : ℕ) (counted kept plan : List Bool) → length counted ≡ length p.pairs → length kept ≡ length p.pairs →
    IsBestPlan p plan → IsBestPlan (marked k (marks_of p.sense counted kept) p) plan →
    (other : List Bool) → IsBestPlan p other → differences counted kept plan ≤ differences counted kept other

-- if it is best where the pairs to keep are those that it has not, all best plans have the same of the
-- pairs that count
abbrev pub MarksMeanSame : Type 0
MarksMeanSame =
    (p : CountProblem) (k : ℕ) (counted plan : List Bool) → length counted ≡ length p.pairs →
    IsBestPlan p plan → IsBestPlan (marked k (marks_of p.sense counted (map not plan)) p) plan →
    (other : List Bool) → IsBestPlan p other →
    (at : ℕ) → slice_index_or counted at false ≡ true → slice_index_or other at false ≡ slice_index_or plan at false
