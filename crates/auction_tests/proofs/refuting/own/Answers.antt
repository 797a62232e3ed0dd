use Rattle.std.proofs.Common.{◌≡◌, ℕ, ◌+◌, ◌-◌, ◌<◌, ◌≤◌, zero, suc, rules, List, Option, None, Some, length, replicate, set, arith, sym, ◌∙◌, inl, inr}
use Rattle.std.proofs.lemmas.List.{length-replicate}
use Rattle.assign_core.specs.Numbered.{IsNumber}
use Rattle.assign_core.specs.Rows.{Listing, IsListed}
use Rattle.assign_core.specs.Matching.{IsMatching, owner_of}
use Rattle.assign_core.proofs.Matchings.{matching_more, owner_cases}
use Rattle.assign_core.proofs.NumberedLemmas.{renumber-set}
use Rattle.auction_tests.proofs.refuting.own.Goals as goal

-- a matching in which only persons 2 to i - 1 may own something
record IsOwned (rows : List Listing) (owners : List (Option ℕ)) (i : ℕ) : Type 0 where
  matching : IsMatching rows owners
  passed : (k x : ℕ) → owner_of owners k ≡ Some x → (1 < x) × (x < i)

none_owned : (n k x : ℕ) → owner_of (replicate n None) k ≡ Some x → ⊥
none_owned n zero x e = cc
none_owned zero (suc k) x e = cc
none_owned (suc n) (suc zero) x e = cc
none_owned (suc n) (suc (suc k)) x e = none_owned n (suc k) x e

begun : (rows : List Listing) (owners : List (Option ℕ)) (n : ℕ) → owners ≡ replicate n None → n ≡ length rows → IsOwned rows owners 2
begun rows owners n e long = rw e (record {
  matching = record {
    long = length-replicate n None ∙ long;
    listed = λ i j own. absurd (none_owned n j i own);
    apart = λ i j k own also. absurd (none_owned n j i own);
  };
  passed = λ k x own. absurd (none_owned n k x own);
})

more : (rows : List Listing) (owners : List (Option ℕ)) (i : ℕ) → 1 < i → i ≤ length rows → IsListed rows i i →
    IsOwned rows owners i → IsOwned rows (set owners (i - 1) (Some i)) (i + 1)
more rows owners i low high listed h =
    let long = h.matching.long in
    let number : IsNumber (length owners) i = record { first = omega arith; last = omega arith } in
    rw (sym (renumber-set owners i (Some i) number.first)) (record {
      matching = matching_more rows owners i i number h.matching (λ k own. let p = h.passed k i own in absurd (omega arith)) listed;
      passed = λ k x own. elim (owner_cases owners i k i x number own) [
        | inl here ↦ let same = here.1 in (omega arith, omega arith)
        | inr there ↦ let p = h.passed k x there.1 in (omega arith, omega arith)
      ];
    })

pub loop-i-init : goal.loop-i-init
loop-i-init c =
    let free : c.in_ok-owners.owners.items ≡ replicate c.n-n.result None = search rules in
    let b = begun c.args.problem.now c.in_ok-owners.owners.items c.n-n.result free c.n-n.ensures.count in
    record { matching = b.matching; passed = b.passed }

pub loop-i-preserved : goal.loop-i-preserved
loop-i-preserved c =
    let low = c.loop-i.auto in
    let lt = c.loop-i-test.true in
    let n = c.n-n.ensures.count in
    let h : IsOwned c.args.problem.now c.loop-i.owners.items c.loop-i.i =
    record { matching = c.loop-i.invariant.matching; passed = c.loop-i.invariant.passed } in
    let m = more c.args.problem.now c.loop-i.owners.items c.loop-i.i (omega arith) (omega arith) (c.requires c.loop-i.i (omega arith) (omega arith)) h in
    record { matching = m.matching; passed = m.passed }

pub returns-clause-alone : goal.returns-clause-alone
returns-clause-alone c = λ j own. let p = c.loop-i.invariant.passed j 1 own in absurd (omega arith)
