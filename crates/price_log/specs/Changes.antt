-- How a raise and a trim change a log.
use Rattle.std.specs.Prelude.{ℕ, ℤ, ◌-◌, ◌==◌, if◌then◌else◌, [], ◌∷◌, ◌++◌, length, drop}
use Rattle.price_log.specs.declared.log.TheConstants.{MOST_KEPT}
use Rattle.price_log.specs.History.{History, last_version, table_at}

-- the raises up to a version go into the base
abbrev pub trimmed : History → ℕ → History
trimmed log version = record {
  first_kept = version;
  base = table_at log version;
  raises = drop (version - log.first_kept) log.raises;
}

-- a log that is full is trimmed to its last version
abbrev pub with_room : History → History
with_room log = if length log.raises == MOST_KEPT then trimmed log (last_version log) else log

-- one more raise
abbrev pub with_raise : History → ℕ → ℤ → History
with_raise log object level = record log { raises = log.raises ++ record { object = object; level = level } ∷ [] }

-- a log after its next raise
abbrev pub after_raise : History → ℕ → ℤ → History
after_raise log object level = with_raise (with_room log) object level
