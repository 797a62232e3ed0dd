use Rattle.std.proofs.Common.{◌≡◌, ℕ, List, Option, Some, length, ap, sym, subst, ◌∙◌}
use Rattle.assign_core.specs.Matching.{owner_of}
use Rattle.assign_core.specs.Numbered.{numbered}
use Rattle.auction_book.proofs.Answering.{all_own, answered, certified, done_is}
use Rattle.auction_book.proofs.book.Book.answer.Goals as goal

pub new-requires : goal.new-requires
new-requires c =
    let b = c.args.self.now in
    let free = c.invariant.ensures in
    let complete = done_is b (sym c.is_done.ensures.done ∙ c.if-not-is_done.false) in
    let long = c.in_ok-objects.ensures.long ∙ ap length c.owners.ensures.owners ∙ free.owners_match.long in
    let inverse = subst (λ (owners : List (Option ℕ)). (i j : ℕ) → owner_of owners j ≡ Some i →
    numbered c.in_ok-objects.objects.items i 0 ≡ j) c.owners.ensures.owners c.in_ok-objects.ensures.owned in
    (certified b c.in_ok-objects.objects.items free complete long (all_own b c.in_ok-objects.objects.items free complete inverse)).assigned.apart

pub returns : goal.returns
returns c =
    let b = c.args.self.now in
    let free = c.invariant.ensures in
    let done = sym c.is_done.ensures.done ∙ c.if-not-is_done.false in
    let long = c.in_ok-objects.ensures.long ∙ ap length c.owners.ensures.owners ∙ free.owners_match.long in
    let inverse = subst (λ (owners : List (Option ℕ)). (i j : ℕ) → owner_of owners j ≡ Some i →
    numbered c.in_ok-objects.objects.items i 0 ≡ j) c.owners.ensures.owners c.in_ok-objects.ensures.owned in
    record {
      answer = (
        done,
        answered b c.in_ok-objects.objects.items c.new.result c.in_ok-prices.prices free
            (done_is b done) c.new.ensures (c.in_ok-prices.ensures ∙ c.prices.ensures.prices) long inverse,
      );
    }
