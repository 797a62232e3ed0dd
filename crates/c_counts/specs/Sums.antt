-- The sum of a best plan in two numbers.
use Rattle.std.specs.Prelude.{◌≡◌, ℤ, pos, ◌^◌}
use Rattle.std.specs.Int.{int_div_euclid, int_rem_euclid}
use Rattle.c_counts.specs.declared.info.CountsInfo.{CountsInfo}

-- the quotient and the remainder of the sum by 2^64
pub record IsSumIn (info : CountsInfo) (sum : ℤ) : Type 0 where
  pub high : info.total_high ≡ int_div_euclid sum (pos (2 ^ 64))
  pub low : pos info.total_low ≡ int_rem_euclid sum (pos (2 ^ 64))
