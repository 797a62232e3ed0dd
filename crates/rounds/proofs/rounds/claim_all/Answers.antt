use Rattle.std.proofs.Common.{◌≡◌, ◌+◌, suc, length, ap, subst, sym, ◌∙◌, arith}
use Rattle.scaled_values.specs.Scaled.{ScaledProblem}
use Rattle.auction_book.specs.Book.{persons_of}
use Rattle.rounds.proofs.Claiming.{IsClaiming, claiming_done, claiming_full, claiming_more, claiming_room}
use Rattle.rounds.proofs.rounds.claim_all.Goals as goal

pub loop-i-preserved : goal.loop-i-preserved
loop-i-preserved c =
    let old = c.args.book.now in
    let now = c.loop-i.book in
    let new = c.claim_next.new.book in
    let persons = c.loop-i.persons.items in
    let i = c.loop-i.i in
    let is = c.loop-i.invariant in
    let e = c.in-Some.ensures.some in
    let worker : i + 1 ≡ suc i = omega arith in
    let n : c.n-n.result ≡ persons_of old = c.n-n.ensures.count ∙ ap (λ (s : ScaledProblem). length s.problem) (c.deref.ensures ∙ c.scaled.ensures.scaled) in
    let room = claiming_room old now persons i is (omega arith) in
    subst (λ xs. IsClaiming old new xs (i + 1)) (sym c.in_ok-push-in-Some.ensures.items)
    (claiming_more old now new persons i (i + 1) c.in-Some.person e.0 is worker room e.1 e.2 e.3)

pub returns-after-loop-i-clause-claimed : goal.returns-after-loop-i-clause-claimed
returns-after-loop-i-clause-claimed c =
    let old = c.args.book.now in
    let is = c.loop-i.invariant in
    let n : c.n-n.result ≡ persons_of old = c.n-n.ensures.count ∙ ap (λ (s : ScaledProblem). length s.problem) (c.deref.ensures ∙ c.scaled.ensures.scaled) in
    claiming_done old c.loop-i.book c.loop-i.persons.items c.loop-i.i is
    (claiming_full old c.loop-i.book c.loop-i.persons.items c.loop-i.i c.requires is (omega arith))
