use Rattle.std.proofs.Common.{ℕ, ◌≡◌, ◌≤◌, ◌*◌, ◌-◌, ◌%◌, ◌^◌, ◌∙◌, arith, leb-true, le-leb}
use Rattle.std.proofs.lemmas.Nat.{shl_whole}
use Rattle.c_wide.proofs.UnitLaws.{small_by, small_only, small_when}
use Rattle.c_wide.proofs.exact.unit.is_small.Goals as goal

power : (by : ℕ) → by ≤ 100 → (1 * 2 ^ (100 - by)) % 2 ^ 128 ≡ 2 ^ (100 - by)
power by h = shl_whole 1 1 (100 - by) 128 (omega arith) (omega arith) ∙ one (2 ^ (100 - by))
  where
    one : (n : ℕ) → 1 * n ≡ n
    one n = omega arith

pub returns-then-by-le100 : goal.returns-then-by-le100
returns-then-by-le100 c =
    let most : c.args.by ≤ 100 = c.if-by-le100.true in
    let e = power c.args.by most in
    let f = c.from.ensures in (
      (λ t. small_when c.args.significand c.args.by most (let l = leb-true _ _ t in omega arith)),
      (λ h. let l = small_only c.args.significand c.args.by most h in le-leb _ _ (omega arith)),
    )

pub returns-else-by-le100 : goal.returns-else-by-le100
returns-else-by-le100 c =
    let more = c.if-by-le100.false in (
      (λ t. absurd (let l = leb-true _ _ t in omega arith)),
      (λ h. le-leb _ _ (small_by c.args.significand c.args.by c.requires h)),
    )
