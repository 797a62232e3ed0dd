-- One more pair after those that were written.
use Rattle.std.proofs.Common.{◌≡◌, ◌≢◌, ℕ, ℤ, pos, ◌+◌, ◌<◌, List, length, get_or, set, drop, arith, ap, sym, ◌∙◌, inl, inr}
use Rattle.std.proofs.lemmas.List.{drop-drop, drop-set-lt, get_or-set_other, get_or-set_same, length-set}
use Rattle.assign_core.proofs.NumberedLemmas.{low_or_same}
use Rattle.cost_lists.specs.ListedCosts.{ListedCosts}
use Rattle.block_checker.specs.Pairs.{AreWritten, IsBetterPair, PairLists}

-- what follows the written part stays after one more entry
pub rest_stays : {A : Type 0} (xs before : List A) (count : ℕ) (x : A) → drop count xs ≡ drop count before → drop (count + 1) (set xs count x) ≡ drop (count + 1) before
rest_stays xs before count x e =
    drop-set-lt (count + 1) xs count x (omega arith) ∙ sym (drop-drop 1 count xs) ∙ ap (drop 1) e ∙ drop-drop 1 count before

pub written_more : (l : ListedCosts) (prices numbers : List ℤ) (count : ℕ) (before after : PairLists) (i j : ℕ) (c : ℤ) →
    AreWritten l prices numbers count before after → length after.objects ≡ length after.persons → length after.costs ≡ length after.persons →
    count < length after.persons → IsBetterPair l prices numbers i j c →
    AreWritten l prices numbers (count + 1) before
    (record { persons = set after.persons count i; objects = set after.objects count j; costs = set after.costs count c })
written_more l prices numbers count before after i j c h objects_long costs_long room pair = record {
  few = let same = length-set after.persons count i in omega arith;
  better = λ q lt. elim (low_or_same q count lt) [
    | inl below ↦
        let other : q ≢ count = omega arith in
        let old = h.better q below in
        let a = get_or-set_other after.persons count q i 0 other in
        let b = get_or-set_other after.objects count q j 0 other in
        let d = get_or-set_other after.costs count q c (pos 0) other in
        rw (a, b, d) old
    | inr same ↦
        let a = ap (λ k. get_or (set after.persons count i) k 0) same ∙ get_or-set_same after.persons count i 0 room in
        let b = ap (λ k. get_or (set after.objects count j) k 0) same ∙ get_or-set_same after.objects count j 0 (omega arith) in
        let d = ap (λ k. get_or (set after.costs count c) k (pos 0)) same ∙ get_or-set_same after.costs count c (pos 0) (omega arith) in
        rw (a, b, d) pair
  ];
  persons = rest_stays after.persons before.persons count i h.persons;
  objects = rest_stays after.objects before.objects count j h.objects;
  costs = rest_stays after.costs before.costs count c h.costs;
}
