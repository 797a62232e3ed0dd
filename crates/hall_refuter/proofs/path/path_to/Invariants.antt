use Rattle.std.proofs.Common.{◌≡◌, ℕ, ◌<◌, List, ◌∷◌, ◌++◌, length}
use Rattle.hall_refuter.specs.inside.Found.{Climbs}
use Rattle.hall_refuter.proofs.path.path_to.Given as goal

-- the objects so far, and those from here to the first person, are all
abbrev pub invariant-loop-at : goal.invariant-loop-at
invariant-loop-at l = record {
  within : l.at < length l.found;
  whole : (js : List ℕ) → Climbs l.found l.at js → (ks : List ℕ) × Climbs l.found l.last ks × (l.objects.items ++ js ≡ l.fn.object ∷ ks);
}

abbrev pub decreases-loop-at : goal.decreases-loop-at
decreases-loop-at l = l.at
