use Rattle.std.proofs.Common.{◌≡◌, ℕ, pos, ◌*◌, ◌^◌, ◌%◌, ◌<◌, ◌≤◌, arith, ap, sym, ◌∙◌, subst, to_z}
use Rattle.std.specs.Int.{w128}
use Rattle.std.proofs.lemmas.Int.{to_z_pos, fits_signed_from_abs}
use native.Mathlib.Nat.{mod-eq_of_lt}
use Rattle.c_wide.proofs.exact.pairs.shifted.Goals as goal

small : (n : ℕ) → n ≤ 2 ^ 100 → n < 2 ^ 127
small n h = omega arith

fits : (n : ℕ) → n ≤ 2 ^ 100 → n < 2 ^ 128
fits n h = omega arith

whole : (a d k : ℕ) → a ≡ d → d * 2 ^ k ≤ 2 ^ 100 → (a * 2 ^ k) % 2 ^ 128 ≡ d * 2 ^ k
whole a d k e h = ap (λ (i : ℕ). (i * 2 ^ k) % 2 ^ 128) e ∙ mod-eq_of_lt (fits (d * 2 ^ k) h)

read : (n m : ℕ) → n ≡ m → m ≤ 2 ^ 100 → to_z w128 n ≡ pos m
read n m e h = ap (to_z w128) e ∙ to_z_pos w128 m (small m h)

pub overflow_cast-result-2 : goal.overflow_cast-result-2
overflow_cast-result-2 c =
    fits_signed_from_abs w128 (pos (c.from.result * 2 ^ c.args.by % 2 ^ 128))
    (subst (λ (i : ℕ). i < 2 ^ 127) (sym (whole c.from.result c.args.significand c.args.by c.from.ensures c.requires.small))
    (small (c.args.significand * 2 ^ c.args.by) c.requires.small))

pub returns : goal.returns
returns c =
    read (c.from.result * 2 ^ c.args.by % 2 ^ 128) (c.args.significand * 2 ^ c.args.by)
    (whole c.from.result c.args.significand c.args.by c.from.ensures c.requires.small) c.requires.small
