use Rattle.std.proofs.lemmas.List.{length-set}
use Rattle.std.proofs.Common.{◌≡◌, ◌+◌, ◌<◌, ◌≤◌, None, Some, length, get_or, sym, ap, ◌∙◌, subst, arith}
use Rattle.assign_core.specs.Numbered.{IsNumber, numbered}
use Rattle.assign_core.proofs.NumberedLemmas.{renumber-set}
use Rattle.auction_book.specs.Book.{BookData}
use Rattle.auction_book.proofs.OtherChanges.{claimed_free}
use Rattle.auction_book.proofs.book.Book.claim_first.Goals as goal

pub invariant_of-self-2 : goal.invariant_of-self-2
invariant_of-self-2 c =
    let s = c.self.inside in
    let w = c.args.worker in
    let is = sym c.self.view_is in
    let first : 0 < w = c.requires.worker.first in
    let last : w ≤ length s.claims.items = (subst (λ (b : BookData). IsNumber (length b.claims) w) is c.requires.worker).last in
    let none : numbered s.claims.items w None ≡ None = subst (λ (b : BookData). numbered b.claims w None ≡ None) is c.requires.none in
    let items = c.in_ok-person.ensures.items in
    let long : length s.queue.items ≡ length c.pop_front.new.self.items + 1 = ap length items ∙ omega arith in
    let person : c.in_ok-person.person ≡ get_or s.queue.items 0 0 = sym (ap (λ q. get_or q 0 0) items) in (
      rw c.pop_front.ensures.capacity c.self.invariant.0,
      c.self.invariant.1,
      rw length-set c.self.invariant.2,
      rw (
        c.pop_front.ensures.rest,
        person,
        sym (renumber-set s.claims.items w (Some (get_or s.queue.items 0 0))
            first),
      ) (claimed_free _ w c.self.invariant.3 first last none (omega arith)),
      c.self.invariant.4,
    )

pub returns-clause-free : goal.returns-clause-free
returns-clause-free c = (invariant_of-self-2 c).3
