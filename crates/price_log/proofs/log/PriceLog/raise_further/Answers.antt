use Rattle.std.proofs.Common.{◌≡◌, ◌<◌, ◌<ℤ◌, ◌++◌, ◌∷◌, [], length, sym, subst, SFits}
use Rattle.std.specs.Int.{w128}
use Rattle.std.proofs.lemmas.Int.{to_z-of_z}
use Rattle.assign_core.specs.Numbered.{IsNumber}
use Rattle.assign_core.specs.Prices.{price_of}
use Rattle.price_log.specs.History.{History, today}
use Rattle.price_log.specs.declared.raise.Raise.{Raise}
use Rattle.price_log.specs.declared.log.TheConstants.{MOST_KEPT}
use Rattle.price_log.proofs.Histories.{raised_is}
use Rattle.price_log.proofs.log.PriceLog.raise_further.Goals as goal

pub invariant_of-self-2 : goal.invariant_of-self-2
invariant_of-self-2 c =
    let s = c.self.inside in
    let was : History = record { first_kept = s.first_kept; base = s.base; raises = s.raises.items } in
    let is = sym c.self.view_is in
    let f : SFits w128 c.args.level = c.ranges.level in
    let r : Raise = record { object = c.args.object; level = c.args.level } in
    let pushed : c.push_back.new.self.items ≡ s.raises.items ++ r ∷ [] = simp to_z-of_z at c.in_ok-push_back.ensures.items in
    let set = simp to_z-of_z at c.set.ensures in
    rw pushed
    (raised_is was c.args.object c.args.level s.prices c.set.new.self c.self.invariant.0 set c.self.invariant.1
    (subst (λ (l : History). length l.raises < MOST_KEPT) is c.requires.room)
    (subst (λ (l : History). IsNumber (length (today l)) c.args.object) is c.requires.object)
    (subst (λ (l : History). price_of (today l) c.args.object <ℤ c.args.level) is c.requires.above)
    c.requires.price)
