use Rattle.std.proofs.Common.{◌≡◌, ◌∙◌, ◌≤ℤ◌, ◌<ℤ◌, ap, sym, subst, rules, SFits}
use Rattle.std.specs.Int.{w64, w128}
use Rattle.std.specs.List.{All}
use Rattle.std.specs.Arc.{arc_value}
use Rattle.std.proofs.lemmas.Int.{to_z-of_z}
use Rattle.assign_core.specs.declared.numbers.TheConstants.{PRICE_END}
use Rattle.scaled_values.specs.Scaled.{greatest_of, top_of}
use Rattle.auction_book.proofs.Accepting.{eps_least, top_fits_of}
use Rattle.auction_book.proofs.Floor.{start_under}
use Rattle.auction_book.proofs.Opening.{greatest_read}
use Rattle.auction_book.proofs.book.Book.phase_bound.Goals as goal

pub top-top-requires-clause-price : goal.top-top-requires-clause-price
top-top-requires-clause-price c =
    let f : SFits w128 c.greatest.result = search rules in
    simp to_z-of_z (greatest_read c.self.inside.start _ _ c.greatest.ensures c.as_slice-start.ensures.prices c.as_slice-start.ensures.table)

top_is : (c : goal.After-top-top) → c.top-top.result ≡ top_of (arc_value c.self.inside.scaled) (greatest_of c.self.inside.start) c.self.inside.ask.eps
top_is c =
    let s = c.self.inside in
    let f : SFits w128 c.greatest.result = search rules in
    let g : SFits w64 s.ask.eps = search rules in
    let e : c.greatest.result ≡ greatest_of s.start = c.greatest.ensures ∙ ap greatest_of c.as_slice-start.ensures.prices in
    simp to_z-of_z at c.top-top.ensures ∙ ap (λ b. top_of b c.greatest.result s.ask.eps) c.deref.ensures ∙ ap (λ p. top_of (arc_value s.scaled) p s.ask.eps) e

pub room_under-requires-clause-top : goal.room_under-requires-clause-top
room_under-requires-clause-top c =
    let h : SFits w128 c.top-top.result = search rules in
    simp to_z-of_z (subst (λ t. t <ℤ PRICE_END) (sym (top_is c)) (top_fits_of _ c.self.invariant.3))

pub room_under-requires-clause-under : goal.room_under-requires-clause-under
room_under-requires-clause-under c =
    let h : SFits w128 c.top-top.result = search rules in
    let under = subst (λ t. All (λ p. p ≤ℤ t) c.self.inside.start) (sym (top_is c)) (start_under _ c.self.invariant.3) in
    simp to_z-of_z (subst (λ xs. All (λ p. p ≤ℤ c.top-top.result) xs) (sym c.as_slice-start.ensures.prices) under)

pub steps_in-requires : goal.steps_in-requires
steps_in-requires c =
    let g : SFits w64 c.self.inside.ask.eps = search rules in
    simp to_z-of_z (eps_least _ c.self.invariant.3)
