use Rattle.std.proofs.Common.{◌≡◌, [], pos, get_or, length, rules, subst, SFits, w64}
use Rattle.std.proofs.lemmas.Int.{to_z-of_z}
use Rattle.ranking_checker.specs.inside.Adding.{AddsFrom}
use Rattle.ranking_checker.specs.inside.Bases.{IsLow, listed_pair}
use Rattle.ranking_checker.proofs.AddLaws.{none_yet, one_more}
use Rattle.ranking_checker.proofs.low.core_of_pairs.Goals as goal

pub loop-k-init : goal.loop-k-init
loop-k-init c = rw c.new-pairs.ensures.items (none_yet (IsLow c.args.base) (listed_pair c.args.listed) [])

pub loop-k-preserved : goal.loop-k-preserved
loop-k-preserved c =
    let f : SFits w64 (get_or c.args.listed.costs.now c.loop-k.k (pos 0)) = search rules in
    let added = simp to_z-of_z at c.in_ok-add_low.ensures in
    one_more (IsLow c.args.base) (listed_pair c.args.listed) c.loop-k.k [] c.loop-k.pairs.items c.add_low.new.pairs.items
    c.loop-k.invariant added

pub returns : goal.returns
returns c =
    let ended : c.loop-k.k ≡ length c.args.listed.persons.now = search rules in
    subst (λ k. AddsFrom (IsLow c.args.base) (listed_pair c.args.listed) k [] c.loop-k.pairs.items) ended c.loop-k.invariant
