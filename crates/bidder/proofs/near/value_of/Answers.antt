use Rattle.std.proofs.Common.{◌≡◌, ◌<◌, ◌+ℤ◌, ◌∙◌, pos, length, get_or, sym, ap, subst, arith, rules, SFits}
use Rattle.std.specs.Int.{w64}
use Rattle.std.proofs.lemmas.Int.{to_z-of_z}
use Rattle.assign_core.proofs.NumberedLemmas.{numbered-index}
use Rattle.bidder.proofs.near.value_of.Goals as goal

pub returns : goal.returns
returns c =
    let g = c.ranges.benefit in
    let narrow = c.args.narrow.now in
    let place = c.place.result in
    let lt : place < length narrow = omega (arith, c.place.ensures, c.requires.object.first, c.requires.object.last) in
    let n : SFits w64 (get_or narrow place (pos 0)) = search rules in
    let own = numbered-index narrow c.args.object (pos 0) (pos 0) c.requires.object.first c.requires.object.last ∙ ap (λ i. get_or narrow i (pos 0)) (sym c.place.ensures) in
    let v : SFits w64 c.difference.result = search rules in
    let worth = simp to_z-of_z at c.difference.ensures in
    simp to_z-of_z (subst (λ p. c.difference.result +ℤ p ≡ c.args.benefit) (sym own) worth)
