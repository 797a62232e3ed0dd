use Rattle.std.proofs.Common.{◌≡◌, pos, Option, None, true, count_by, drop, length, replicate, unwrap_or, ℕ, refl}
use Rattle.std.proofs.Common.{sym, ap, ◌∙◌, subst, arith, rules, SFits, is_some}
use Rattle.std.specs.Int.{w64, w128}
use Rattle.std.specs.Arc.{arc_value}
use Rattle.std.proofs.lemmas.Int.{to_z-of_z}
use Rattle.std.proofs.lemmas.List.{length-replicate, take_at}
use Rattle.scaled_values.specs.Scaled.{ScaledProblem, IsEps, fifth, floor_of, greatest_of, next_eps}
use Rattle.scaled_values.proofs.EpsList.{IsEps-next, next_is}
use Rattle.auction_book.specs.Book.{BookData, prices_of}
use Rattle.auction_book.specs.Changes.{phased}
use Rattle.auction_book.specs.Free.{IsFree}
use Rattle.auction_book.specs.Stored.{book_of}
use Rattle.auction_book.specs.Phases.{is_over, persons}
use Rattle.price_log.specs.History.{today}
use Rattle.auction_book.proofs.Answering.{over_is}
use Rattle.auction_book.proofs.PhaseBounds.{is_eps}
use Rattle.auction_book.proofs.Opening.{greatest_read, none_counted, phase_few, phased_free, queue_empty}
use Rattle.auction_book.proofs.book.Book.begin_phase.Goals as goal

pub floor-floor-requires-clause-price : goal.floor-floor-requires-clause-price
floor-floor-requires-clause-price c =
    let f : SFits w128 c.greatest-p0.result = search rules in
    simp to_z-of_z (greatest_read c.args.start _ _ c.greatest-p0.ensures c.as_slice.ensures.prices c.as_slice.ensures.table)

pub floor-floor-requires-clause-eps : goal.floor-floor-requires-clause-eps
floor-floor-requires-clause-eps c =
    let s = c.self.inside in
    let f : SFits w64 c.unwrap_or-eps.result = search rules in
    let over = subst (λ b. is_over b ≡ true) (sym c.self.view_is) c.requires.over in
    let next = next_is s.ask.eps (over_is (book_of s) over).more in
    let g : SFits w64 s.ask.eps = search rules in
    let value : c.next_eps.result ≡ next_eps s.ask.eps = simp to_z-of_z at c.next_eps.ensures.value in
    let e : c.unwrap_or-eps.result ≡ fifth s.ask.eps = c.unwrap_or-eps.ensures ∙ ap (λ o. unwrap_or o (pos 1)) (value ∙ next) in
    let is = IsEps-next _ s.ask.eps (fifth s.ask.eps) (is_eps _ _ _ c.self.invariant.3.in_phase) next in
    simp to_z-of_z (subst (λ (b : ScaledProblem). IsEps b c.unwrap_or-eps.result) (sym c.deref.ensures) (subst (IsEps _) (sym e) is))

pub overflow_add-self : goal.overflow_add-self
overflow_add-self c = let f = phase_few _ c.self.invariant.3 in record { fits = omega arith }

pub queue_all-requires-clause-empty : goal.queue_all-requires-clause-empty
queue_all-requires-clause-empty c = queue_empty _ c.self.invariant.3 (subst (λ b. is_over b ≡ true) (sym c.self.view_is) c.requires.over)

pub returns-clause-book : goal.returns-clause-book
returns-clause-book c =
    let s = c.self.inside in
    let g : SFits w64 s.ask.eps = search rules in
    let h : SFits w64 c.unwrap_or-eps.result = search rules in
    let i : SFits w128 c.greatest-p0.result = search rules in
    let j : SFits w128 c.floor-floor.result = search rules in
    let base = c.deref.ensures in
    let over = subst (λ b. is_over b ≡ true) (sym c.self.view_is) c.requires.over in
    let value : c.next_eps.result ≡ next_eps s.ask.eps = simp to_z-of_z at c.next_eps.ensures.value in
    let eps : c.unwrap_or-eps.result ≡ fifth s.ask.eps = c.unwrap_or-eps.ensures ∙ ap (λ o. unwrap_or o (pos 1))
    (value ∙ next_is s.ask.eps (over_is (book_of s) over).more) in
    let start : c.args.start ≡ today s.log = c.requires.start ∙ ap prices_of (sym c.self.view_is) in
    let top : c.greatest-p0.result ≡ greatest_of (today s.log) = c.greatest-p0.ensures ∙ ap greatest_of (c.as_slice.ensures.prices ∙ start) in
    let floor : c.floor-floor.result ≡ floor_of (arc_value s.scaled) (greatest_of (today s.log)) (fifth s.ask.eps) =
    simp to_z-of_z at c.floor-floor.ensures ∙ ap (λ b. floor_of b c.greatest-p0.result c.unwrap_or-eps.result)
    base ∙ ap (λ p. floor_of (arc_value s.scaled) p c.unwrap_or-eps.result) top ∙
    ap (floor_of (arc_value s.scaled) (greatest_of (today s.log))) eps in
    let n : c.n-n.result ≡ length (arc_value s.scaled).problem = c.n-n.ensures.count ∙ ap (λ (b : ScaledProblem). length b.problem) c.deref-2.ensures in
    let long : length s.owners.items ≡ length (arc_value s.scaled).problem = c.self.invariant.3.owners_match.long in
    let free : c.free_all.new.owners ≡ replicate (length (arc_value s.scaled).problem) None = c.free_all.ensures ∙
    ap (λ m. replicate m None) (ap length c.as_mut_slice.ensures.value ∙ long) in
    let whole = take_at c.free_all.new.owners (drop (length c.free_all.new.owners) s.owners.items) s.owners.len
    (ap length free ∙ length-replicate (length (arc_value s.scaled).problem) None ∙ sym long ∙ sym s.owners.ok.0) in
    let owners = whole ∙ free in
    let queue = c.queue_all.ensures.queue ∙ ap persons n in
    let version = c.version-self-inside.ensures in
    simp to_z-of_z (rw (owners, queue, version, eps, floor, start) (ap phased c.self.view_is))

pub invariant_of-self : goal.invariant_of-self
invariant_of-self c =
    let s = c.self.inside in
    let n = length (arc_value s.scaled).problem in
    let book = returns-clause-book c ∙ ap phased (sym c.self.view_is) in
    let owners = ap (λ (b : BookData). b.owners) book in
    let l : length (replicate {A = Option ℕ} n None) ≡ n = length-replicate n None in
    let long = ap length owners ∙ l ∙ sym c.self.invariant.3.owners_match.long in
    let cap = c.queue_all.ensures.capacity in
    let room = c.self.invariant.0 in (
      omega arith,
      sym (ap (count_by is_some) owners ∙ none_counted is_some n refl),
      c.self.invariant.2,
      subst IsFree (sym book) (phased_free _ c.self.invariant.3 (subst (λ b. is_over b ≡ true) (sym c.self.view_is) c.requires.over)),
      c.self.invariant.4,
    )

pub returns-clause-free : goal.returns-clause-free
returns-clause-free c = (invariant_of-self c).3
