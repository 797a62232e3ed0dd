-- The answer to an outcome that may be a proof.
use Rattle.std.specs.Prelude.{◌≡◌, Option, None, Some}
use Rattle.assign_core.specs.declared.outcome.Outcome.{Outcome}

-- the outcome if it is proved, and none otherwise
abbrev pub IsConfirmed : Type 0 → Outcome → Option Outcome → Type 0
IsConfirmed Proved outcome None = ¬ Proved
IsConfirmed Proved outcome (Some confirmed) = Proved × (confirmed ≡ outcome)
