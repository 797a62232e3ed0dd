use Rattle.std.proofs.Common.{◌≡◌, ℕ, ◌<◌, Some}
use Rattle.assign_core.specs.Matching.{IsMatching, owner_of}
use Rattle.auction_tests.proofs.refuting.own.Given as goal

-- only persons passed own something
abbrev pub invariant-loop-i : goal.invariant-loop-i
invariant-loop-i l = record {
  matching : IsMatching l.problem l.owners.items;
  passed : (k x : ℕ) → owner_of l.owners.items k ≡ Some x → (1 < x) × (x < l.i);
}
