-- What may stand next in a text.
use Rattle.std.specs.Prelude.{ℕ}

-- the size, a cost, a number from 1 to n, or no further token
pub data Wanted : Type 0 where
  Size : Wanted
  Cost : Wanted
  -- a number from 1 to n
  Index : ℕ → Wanted
  -- no further token
  Nothing : Wanted
