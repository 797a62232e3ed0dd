use Rattle.std.proofs.Common.{◌≡◌, ℕ, ℤ, pos, ◌*◌, ◌^◌, ◌%◌, ◌<◌, ◌≤◌, ◌<ℤ◌, arith, ap, sym, ◌∙◌, subst, to_z}
use Rattle.std.specs.Int.{w128}
use Rattle.std.proofs.lemmas.Int.{ints, to_z_pos, fits_signed_from_abs}
use Rattle.std.proofs.lemmas.Nat.{shl_whole}
use Rattle.double_checker.proofs.Scales.{small_shift}
use Rattle.double_checker.proofs.digits.shifted.Goals as goal

whole : (a d k : ℕ) → a ≡ d → d < 2 ^ 53 → k ≤ 70 → (a * 2 ^ k) % 2 ^ 128 ≡ d * 2 ^ k
whole a d k e h l = ap (λ (i : ℕ). (i * 2 ^ k) % 2 ^ 128) e ∙ shl_whole d 53 k 128 h (omega arith)

fits : (n : ℕ) → n < 2 ^ 123 → n < 2 ^ 127
fits n h = omega arith

read : (n m : ℕ) → n ≡ m → m < 2 ^ 123 → to_z w128 n ≡ pos m
read n m e h = ap (to_z w128) e ∙ to_z_pos w128 m (fits m h)

pub overflow_cast-result-2 : goal.overflow_cast-result-2
overflow_cast-result-2 c =
    fits_signed_from_abs w128 (pos (c.from.result * 2 ^ c.args.by % 2 ^ 128))
    (subst (λ (i : ℕ). i < 2 ^ 127)
    (sym (whole c.from.result c.args.digits c.args.by c.from.ensures c.requires.digits c.requires.by))
    (fits (c.args.digits * 2 ^ c.args.by) (small_shift c.args.digits c.args.by c.requires.digits c.requires.by)))

pub returns-clause-value : goal.returns-clause-value
returns-clause-value c =
    read (c.from.result * 2 ^ c.args.by % 2 ^ 128) (c.args.digits * 2 ^ c.args.by)
    (whole c.from.result c.args.digits c.args.by c.from.ensures c.requires.digits c.requires.by)
    (small_shift c.args.digits c.args.by c.requires.digits c.requires.by)

below : (z : ℤ) (m : ℕ) → z ≡ pos m → m < 2 ^ 123 → z <ℤ pos 10633823966279326983230456482242756608
below z m e h = omega (arith, ints)

pub returns-clause-below : goal.returns-clause-below
returns-clause-below c =
    below (to_z w128 (c.from.result * 2 ^ c.args.by % 2 ^ 128)) (c.args.digits * 2 ^ c.args.by)
    (read (c.from.result * 2 ^ c.args.by % 2 ^ 128) (c.args.digits * 2 ^ c.args.by)
    (whole c.from.result c.args.digits c.args.by c.from.ensures c.requires.digits c.requires.by)
    (small_shift c.args.digits c.args.by c.requires.digits c.requires.by))
    (small_shift c.args.digits c.args.by c.requires.digits c.requires.by)
