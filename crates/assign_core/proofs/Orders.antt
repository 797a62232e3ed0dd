-- Orders of integers, as facts and as tests.
use Rattle.std.proofs.Common.{◌≡◌, ℤ, ◌≤ℤ◌, ◌<ℤ◌, true, false, arith}
use Rattle.std.specs.Int.Signed.{lt_z}
use Rattle.std.proofs.lemmas.Int.{ints}

pub le_antisymmetric : (a b : ℤ) → a ≤ℤ b → b ≤ℤ a → a ≡ b
le_antisymmetric a b le ge = omega (arith, ints)

pub less : (a b : ℤ) → a <ℤ b → lt_z a b ≡ true
less a b h = grind (arith, ints)

pub not_less : (a b : ℤ) → b ≤ℤ a → lt_z a b ≡ false
not_less a b h = grind (arith, ints)

pub where_not_less : (a b : ℤ) → lt_z a b ≡ false → b ≤ℤ a
where_not_less a b h = grind (arith, ints, h)
