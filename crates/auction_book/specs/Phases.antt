-- The opening of a book, and when a phase is over.
use Rattle.std.specs.Prelude.{ℕ, ℤ, zero, suc, pos, List, [], ◌∷◌, ◌++◌, None, Bool, false, not, nat_eq, ◌&&◌, length, replicate, count_by, is_some}
use Rattle.std.specs.Ordering.{int_eq}
use Rattle.scaled_values.specs.Scaled.{ScaledProblem, first_eps, floor_of, greatest_of}
use Rattle.price_log.specs.History.{started}
use Rattle.auction_book.specs.Book.{BookData, persons_of}

-- 1 to n
abbrev pub persons : ℕ → List ℕ
persons zero = []
persons (suc n) = persons n ++ suc n ∷ []

-- a book at the start of a run with these prices
abbrev pub opened : ScaledProblem → List ℤ → ℕ → BookData
opened s prices workers = record {
  base = s;
  ask = record {
    phase = 1;
    eps = first_eps s;
    floor = floor_of s (greatest_of prices) (first_eps s);
  };
  start = prices;
  start_version = 0;
  owners = replicate (length s.problem) None;
  queue = persons (length s.problem);
  claims = replicate workers None;
  counts = replicate workers 0;
  taken = replicate workers 0;
  log = started prices;
  refuted = None;
  stopped = false;
}

-- everybody is assigned
abbrev pub is_assigned : BookData → Bool
is_assigned b = nat_eq (count_by is_some b.owners) (persons_of b)

-- everybody is assigned, and another phase follows
abbrev pub is_over : BookData → Bool
is_over b = is_assigned b && not (int_eq b.ask.eps (pos 1))

-- everybody is assigned in the last phase
abbrev pub is_done : BookData → Bool
is_done b = is_assigned b && int_eq b.ask.eps (pos 1)
