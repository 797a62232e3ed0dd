use Rattle.std.proofs.Common.{ℕ, ◌≡◌, ◌<◌, ◌^◌, arith, subst, sym}
use lib.Count.{count_trailing_zeros}
use Rattle.c_wide.proofs.OddParts.{IsOddTimes, few_zeros, odd_quotient, odd_times}
use Rattle.c_wide.proofs.exact.parts.zeros_of.Goals as goal

odd_by : (n t : ℕ) → 0 < n → n < 2 ^ 53 → t ≡ count_trailing_zeros 64 n → IsOddTimes n t
odd_by n t some few e = subst (IsOddTimes n) (sym e) (odd_times 64 n some (omega arith))

pub returns-clause-whole : goal.returns-clause-whole
returns-clause-whole c =
    (odd_quotient c.args.number c.from.result (odd_by c.args.number c.from.result c.requires.some c.requires.few c.from.ensures)).0

pub returns-clause-odd : goal.returns-clause-odd
returns-clause-odd c =
    (odd_quotient c.args.number c.from.result (odd_by c.args.number c.from.result c.requires.some c.requires.few c.from.ensures)).1

pub returns-clause-most : goal.returns-clause-most
returns-clause-most c =
    few_zeros c.args.number c.from.result (odd_by c.args.number c.from.result c.requires.some c.requires.few c.from.ensures) c.requires.few
