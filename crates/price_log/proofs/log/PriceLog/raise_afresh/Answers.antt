use Rattle.std.proofs.Common.{◌≡◌, ◌-◌, ◌<ℤ◌, ◌++◌, ◌∷◌, [], length, length-drop, drop, sym, ap, ◌∙◌, subst, arith, SFits}
use Rattle.std.specs.Int.{w128}
use Rattle.std.proofs.lemmas.Int.{to_z-of_z}
use Rattle.assign_core.specs.Numbered.{IsNumber}
use Rattle.assign_core.specs.Prices.{price_of}
use Rattle.price_log.specs.History.{History, today, last_version}
use Rattle.price_log.specs.Changes.{trimmed, with_raise}
use Rattle.price_log.specs.declared.raise.Raise.{Raise}
use Rattle.price_log.specs.declared.log.TheConstants.{MOST_KEPT}
use Rattle.price_log.proofs.Versions.{version_fits}
use Rattle.price_log.proofs.Histories.{afresh-trimmed, afresh_is}
use Rattle.price_log.proofs.log.PriceLog.raise_afresh.Goals as goal

pub push_back_reserved-requires : goal.push_back_reserved-requires
push_back_reserved-requires c =
    let s = c.self.inside in
    let full : length s.raises.items ≡ MOST_KEPT = subst (λ (l : History). length l.raises ≡ MOST_KEPT) (sym c.self.view_is) c.requires.full in
    let left : length (drop MOST_KEPT s.raises.items) ≡ length s.raises.items - MOST_KEPT = length-drop MOST_KEPT s.raises.items in
    let e = ap length c.move_raises.ensures.rest in
    let ok = s.raises.ok in
    let now = c.move_raises.new.raises.ok in
    let small = s.raises.small in
    let fits = s.raises.ring_fits in
    let same = c.move_raises.ensures.capacity in
    omega arith

pub overflow_add-self : goal.overflow_add-self
overflow_add-self c =
    let s = c.self.inside in
    let full : length s.raises.items ≡ MOST_KEPT = subst (λ (l : History). length l.raises ≡ MOST_KEPT) (sym c.self.view_is) c.requires.full in
    let few = version_fits (record { first_kept = s.first_kept; base = s.base; raises = s.raises.items }) c.self.invariant.1 in
    record { fits = omega arith }

-- the queue after the raise
pushed : (c : goal.After-set) → c.push_back_reserved.new.self.items ≡ drop MOST_KEPT c.self.inside.raises.items ++
    record { object = c.args.object; level = c.args.level } ∷ []
pushed c =
    let f : SFits w128 c.args.level = c.ranges.level in
    let r : Raise = record { object = c.args.object; level = c.args.level } in
    let items : c.push_back_reserved.new.self.items ≡ c.move_raises.new.raises.items ++ r ∷ [] = simp to_z-of_z at c.push_back_reserved.ensures.items in
    items ∙ ap (λ l. l ++ r ∷ []) c.move_raises.ensures.rest

pub invariant_of-self : goal.invariant_of-self
invariant_of-self c =
    let s = c.self.inside in
    let was : History = record { first_kept = s.first_kept; base = s.base; raises = s.raises.items } in
    let is = sym c.self.view_is in
    let f : SFits w128 c.args.level = c.ranges.level in
    let set = simp to_z-of_z at c.set.ensures in
    rw (c.move_raises.ensures.table, pushed c)
    (afresh_is was c.args.object c.args.level s.prices c.set.new.self c.self.invariant.0 set c.self.invariant.1
    (subst (λ (l : History). length l.raises ≡ MOST_KEPT) is c.requires.full)
    (subst (λ (l : History). IsNumber (length (today l)) c.args.object) is c.requires.object)
    (subst (λ (l : History). price_of (today l) c.args.object <ℤ c.args.level) is c.requires.above)
    c.requires.price)

pub returns : goal.returns
returns c =
    let s = c.self.inside in
    let was : History = record { first_kept = s.first_kept; base = s.base; raises = s.raises.items } in
    let full : length was.raises ≡ MOST_KEPT = subst (λ (l : History). length l.raises ≡ MOST_KEPT) (sym c.self.view_is) c.requires.full in
    rw (c.move_raises.ensures.table, pushed c)
    (afresh-trimmed was c.args.object c.args.level full ∙
    ap (λ (l : History). with_raise (trimmed l (last_version l)) c.args.object c.args.level) c.self.view_is)
