use Rattle.std.proofs.Common.{◌≡◌, ℕ, Option, None, count_by, length, replicate, sym, ap, ◌∙◌, subst, refl, arith, rules, SFits, is_some}
use Rattle.std.specs.Int.{w64, w128}
use Rattle.std.specs.Arc.{arc_value}
use Rattle.std.proofs.lemmas.Int.{to_z-of_z}
use Rattle.std.proofs.lemmas.List.{length-replicate}
use Rattle.assign_core.specs.Rows.{IsProblem}
use Rattle.scaled_values.specs.Scaled.{ScaledProblem, first_eps, floor_of, greatest_of}
use Rattle.auction_book.specs.Book.{BookData}
use Rattle.auction_book.specs.Free.{IsFree}
use Rattle.auction_book.specs.Phases.{opened, persons}
use Rattle.auction_book.proofs.Opening.{greatest_read, none_counted, opened_free}
use Rattle.auction_book.proofs.book.Book.open_from.Goals as goal

pub floor-floor-requires-clause-price : goal.floor-floor-requires-clause-price
floor-floor-requires-clause-price c =
    let f : SFits w128 c.greatest-p0.result = search rules in
    simp to_z-of_z (greatest_read c.args.prices _ _ c.greatest-p0.ensures c.as_slice.ensures.prices c.as_slice.ensures.table)

free : (c : goal.In_ok-log) → IsFree (opened (arc_value c.args.scaled) c.args.prices c.args.workers)
free c = opened_free (arc_value c.args.scaled) c.args.prices c.args.workers
    (subst (λ (b : ScaledProblem). IsProblem b.problem) c.deref.ensures c.n-n.ensures.rule) c.as_slice.ensures.table
    c.requires.long c.requires.low

pub returns-clause-book : goal.returns-clause-book
returns-clause-book c =
    let base = arc_value c.args.scaled in
    let h : SFits w64 c.first_eps-eps.result = search rules in
    let i : SFits w128 c.greatest-p0.result = search rules in
    let j : SFits w128 c.floor-floor.result = search rules in
    let n : c.n-n.result ≡ length base.problem = c.n-n.ensures.count ∙ ap (λ (b : ScaledProblem). length b.problem) c.deref.ensures in
    let eps : c.first_eps-eps.result ≡ first_eps base = c.first_eps-eps.ensures.value ∙ ap first_eps c.deref-2.ensures in
    let top : c.greatest-p0.result ≡ greatest_of c.args.prices = c.greatest-p0.ensures ∙ ap greatest_of c.as_slice.ensures.prices in
    let floor : c.floor-floor.result ≡ floor_of base (greatest_of c.args.prices) (first_eps base) =
    simp to_z-of_z at c.floor-floor.ensures ∙ ap (λ b. floor_of b c.greatest-p0.result c.first_eps-eps.result)
    c.deref-3.ensures ∙ ap (λ p. floor_of base p c.first_eps-eps.result) top ∙
    ap (floor_of base (greatest_of c.args.prices)) eps in
    let no_one : c.in_ok-owners.owners.items ≡ replicate c.n-n.result None = search rules in
    let owners : c.in_ok-owners.owners.items ≡ replicate (length base.problem) None = no_one ∙ ap (λ m. replicate m None) n in
    let claims : c.in_ok-claims.claims.items ≡ replicate c.args.workers None = search rules in
    let counts : c.in_ok-counts.counts.items ≡ replicate c.args.workers 0 = search rules in
    let taken : c.in_ok-taken.taken.items ≡ replicate c.args.workers 0 = search rules in
    let queue = c.queue_all.ensures.queue ∙ ap persons n in
    let start = c.in_ok-start.ensures in
    let log = c.in_ok-log.ensures in
    simp to_z-of_z (rw (owners, claims, counts, taken, queue, eps, floor, start, log) refl)

pub invariant_of-result : goal.invariant_of-result
invariant_of-result c =
    let n = length (arc_value c.args.scaled).problem in
    let book = returns-clause-book c in
    let owners = ap (λ (b : BookData). b.owners) book in
    let l : length (replicate {A = Option ℕ} n None) ≡ n = length-replicate n None in
    let long = ap length owners ∙ l in
    let many = c.n-n.ensures.count ∙ ap (λ (b : ScaledProblem). length b.problem) c.deref.ensures in
    let cap = c.queue_all.ensures.capacity in
    let room = c.in_ok-queue.ensures.exact in (
      omega arith,
      sym (ap (count_by is_some) owners ∙ none_counted is_some n refl),
      sym (ap (λ (b : BookData). length b.claims) book ∙ length-replicate c.args.workers None),
      subst IsFree (sym book) (free c),
      c.none-lists.ensures _ _,
    )

pub returns-clause-free : goal.returns-clause-free
returns-clause-free c = (invariant_of-result c).3
