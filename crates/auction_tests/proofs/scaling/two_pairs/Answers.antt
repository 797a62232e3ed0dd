use Rattle.std.proofs.Common.{ℕ, ℤ, ◌≤◌, pos, ◌-ℤ◌, ◌∷◌, [], arith, SFits, of_z, to_z}
use Rattle.std.proofs.lemmas.Int.{ints, to_z-of_z}
use Rattle.std.proofs.lemmas.List.Elements.{All-nil, All-cons}
use Rattle.std.specs.List.{All}
use Rattle.std.specs.Int.{w64}
use Rattle.assign_core.specs.declared.numbers.TheConstants.{MOST_PERSONS}
use Rattle.assign_core.specs.Rows.{IsCost}
use Rattle.assign_core.specs.Sparse.{IsTriple}
use Rattle.auction_tests.proofs.scaling.two_pairs.Goals as goal

triple_on : (i : ℕ) (cost : ℤ) → 1 ≤ i → i ≤ MOST_PERSONS → IsCost cost → IsTriple MOST_PERSONS (i, i, cost)
triple_on i cost first last h = record { person = record { first = first; last = last }; object = record { first = first; last = last }; cost = h }

triples : (a b : ℤ) → IsCost a → IsCost b → All (IsTriple MOST_PERSONS) ((1, 1, a) ∷ (2, 2, b) ∷ [])
triples a b h k =
    All-cons (IsTriple MOST_PERSONS) (1, 1, a) ((2, 2, b) ∷ []) (triple_on 1 a (omega arith) (omega arith) h)
    (All-cons (IsTriple MOST_PERSONS) (2, 2, b) [] (triple_on 2 b (omega arith) (omega arith) k) (All-nil (IsTriple MOST_PERSONS)))

pub sparse-requires-clause-triples : goal.sparse-requires-clause-triples
sparse-requires-clause-triples c =
    let least = c.requires.least in
    let greatest = c.requires.greatest in
    let fits = c.ranges.cost in
    let negated_fits : SFits w64 (pos 0 -ℤ c.args.cost) = omega (arith, ints) in
    let negated : IsCost (pos 0 -ℤ c.args.cost) = record { least = omega (arith, ints); greatest = omega (arith, ints) } in
    let cost : IsCost c.args.cost = record { least = omega (arith, ints); greatest = omega (arith, ints) } in
    triples (to_z w64 (of_z w64 (pos 0 -ℤ to_z w64 (of_z w64 c.args.cost)))) (to_z w64 (of_z w64 c.args.cost)) (simp to_z-of_z negated) (simp to_z-of_z cost)
