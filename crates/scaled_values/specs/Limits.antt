-- Bounds on the values of any problem.
use Rattle.std.specs.Prelude.{ℤ, pos, neg_ℤ, ◌+ℤ◌, ◌*ℤ◌, ◌+◌, ◌*◌}
use Rattle.assign_core.specs.declared.numbers.TheConstants.{MOST_PERSONS, GREATEST_COST, PRICE_END}
use Rattle.scaled_values.specs.Scaled.{fifth}

-- no spread is above this
abbrev pub most_spread : ℤ
most_spread = pos (2 * (MOST_PERSONS + 1)) *ℤ GREATEST_COST

-- no spread with a slackness added is above this
abbrev pub most_step : ℤ
most_step = most_spread +ℤ fifth most_spread

-- no floor is below this
abbrev pub least_floor : ℤ
least_floor = neg_ℤ (most_spread +ℤ PRICE_END +ℤ (pos MOST_PERSONS *ℤ most_step))
