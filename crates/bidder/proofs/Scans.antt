-- Rows read from the left, one more object at a time.
use Rattle.std.proofs.Common.{◌≡◌, ◌≢◌, ℕ, ℤ, pos, suc, ◌+ℤ◌, ◌≤ℤ◌, ◌<ℤ◌, ◌+◌, ◌<◌, ◌≤◌, List, [], ◌∷◌, ◌++◌}
use Rattle.std.proofs.Common.{length, take, get_or, refl, ap, arith, sym, ◌∙◌, subst, inl, inr, Option, None, Some}
use Rattle.std.proofs.Common.{length-take-le, get_or-take}
use Rattle.std.specs.List.{All}
use Rattle.std.specs.Int.{int_max}
use Rattle.std.proofs.lemmas.Int.{ints, clamps, by_lt_z}
use Rattle.std.proofs.lemmas.List.Elements.{All-cons, All-nil, All-push}
use Rattle.std.proofs.lemmas.List.{get_or_default, take_more}
use Rattle.std.proofs.lemmas.Bool.{ne_eqb}
use Rattle.std.proofs.lemmas.Bool.Decides.{eqb_tells}
use Rattle.assign_core.specs.Rows.{Listing, listed_in, IsRising}
use Rattle.assign_core.specs.Dense.{row_from}
use Rattle.assign_core.specs.Prices.{price_of}
use Rattle.assign_core.proofs.DenseRows.{length-row_from, row_from-index, row_from-push}
use Rattle.assign_core.proofs.Listed.{listed_first, listed_later, entry_found}
use Rattle.bidder.specs.declared.scan.BestTwo.{BestTwo}
use Rattle.bidder.specs.BestTwo.{IsValue, IsSecond, IsBestTwo, greater_of}

-- an object that a row lists stays listed as the row grows
pub listed_more : (row more : Listing) (j : ℕ) (a : ℤ) → listed_in row j ≡ Some a → listed_in (row ++ more) j ≡ Some a
listed_more [] more j a h = absurd cc
listed_more (e ∷ row) more j a h = elim (eqb_tells e.0 j) [
  | inl t ↦ subst (λ i. listed_in ((e ∷ row) ++ more) i ≡ Some a) t.1 (listed_first e (row ++ more) ∙
      sym (listed_first e row) ∙ ap (listed_in (e ∷ row)) t.1 ∙ h)
  | inr t ↦ listed_later e (row ++ more) j t.0 ∙ listed_more row more j a (sym (listed_later e row j t.0) ∙ h)
]

-- an object that follows a row in which it isn't listed
pub listed_last : (row : Listing) (j : ℕ) (a : ℤ) → All (λ e. e.0 < j) row → listed_in (row ++ (j, a) ∷ []) j ≡ Some a
listed_last [] j a up = listed_first (j, a) []
listed_last (e ∷ row) j a up =
    let first = up 0 e (omega arith) in
    listed_later e (row ++ (j, a) ∷ []) j (ne_eqb e.0 j (λ same. absurd (omega arith))) ∙ listed_last row j a (λ k d lt. up (suc k) d (omega arith))

-- a single object
pub alone : (j : ℕ) (v : ℤ) (q : List ℤ) (a : ℤ) → v +ℤ price_of q j ≡ a → IsBestTwo ((j, a) ∷ []) q record { object = j; best = v; second = None }
alone j v q a worth = record {
  listed = listed_first (j, a) [] ∙ ap Some (sym worth);
  greatest = All-cons (λ e. e.1 ≤ℤ (v +ℤ price_of q e.0)) (j, a) [] (omega (arith, ints)) (All-nil (λ e. e.1 ≤ℤ (v +ℤ price_of q e.0)));
  lowest = All-cons (λ e. e.1 ≡ (v +ℤ price_of q e.0) → j ≤ e.0) (j, a) [] (λ _. omega arith) (All-nil (λ e. e.1 ≡ (v +ℤ price_of q e.0) → j ≤ e.0));
  others = All-cons (λ e. e.0 ≡ j) (j, a) [] refl (All-nil (λ e. e.0 ≡ j));
}

-- the object that follows has a value above all before it
pub new_best : (row : Listing) (q : List ℤ) (b : BestTwo) (j : ℕ) (v a : ℤ) → IsBestTwo row q b →
    All (λ e. e.0 < j) row → v +ℤ price_of q j ≡ a → b.best <ℤ v →
    IsBestTwo (row ++ (j, a) ∷ []) q record { object = j; best = v; second = Some b.best }
new_best row q b j v a is up worth more =
    let below = entry_found (λ e. e.0 < j) row b.object _ up is.listed in
    let other : b.object ≢ j = λ same. absurd (omega arith) in
    record {
      listed = listed_last row j a up ∙ ap Some (sym worth);
      greatest = All-push (λ e. e.1 ≤ℤ (v +ℤ price_of q e.0)) row (j, a) (λ k d lt. let h = is.greatest k d lt in omega (arith, ints)) (omega (arith, ints));
      lowest = All-push (λ e. e.1 ≡ (v +ℤ price_of q e.0) → j ≤ e.0) row (j, a) (λ k d lt same. let h =
          is.greatest k d lt in absurd (omega (arith, ints))) (λ _. omega arith);
      others = (
        All-push (λ e. e.0 ≢ j → e.1 ≤ℤ (b.best +ℤ price_of q e.0)) row (
          j,
          a,
        ) (λ k d lt _. is.greatest k d lt) (λ ne. absurd (ne refl)),
        b.object,
        other,
        listed_more row _ b.object _ is.listed,
      );
    }

pub greater_is : (v w : ℤ) → v ≤ℤ w → w ≡ int_max v w
greater_is v w le = omega (arith, ints, clamps)

-- the second value with one more object, which has value v and isn't the best
second_more : (row : Listing) (q : List ℤ) (best : ℕ) (s : Option ℤ) (j : ℕ) (v a : ℤ) → IsSecond row q best s →
    j ≢ best → All (λ e. e.0 < j) row → v +ℤ price_of q j ≡ a → IsSecond (row ++ (j, a) ∷ []) q best
    (Some (greater_of v s))
second_more row q best None j v a is other up worth = (
  All-push (λ e. e.0 ≢ best → e.1 ≤ℤ (v +ℤ price_of q e.0)) row
      (j, a) (λ k d lt ne. absurd (ne (is k d lt))) (λ _. omega (arith, ints)),
  j,
  other,
  listed_last row j a up ∙
      ap Some (sym worth),
)
second_more row q best (Some w) j v a is other up worth =
    let reached : (k : ℕ) × (k ≢ best) × IsValue (row ++ (j, a) ∷ []) q k (int_max v w) =
    by_lt_z {P = (k : ℕ) × (k ≢ best) × IsValue (row ++ (j, a) ∷ []) q k (int_max v w)} w v
    (λ lt. (j, other, listed_last row j a up ∙ ap Some (taken v w a (price_of q j) worth lt)))
    (λ le. (is.1, is.2, listed_more row _ is.1 _ is.3 ∙ ap (λ z. Some (z +ℤ price_of q is.1)) (greater_is v w le))) in (
      All-push (λ e. e.0 ≢ best → e.1 ≤ℤ (int_max v w +ℤ price_of q e.0)) row (j, a) (λ k d lt ne. let h =
          is.0 k d lt ne in omega (arith, ints, clamps)) (λ _. omega (arith, ints, clamps)),
      reached.0,
      reached.1,
      reached.2,
    ) where
      taken : (v w a p : ℤ) → v +ℤ p ≡ a → w <ℤ v → a ≡ int_max v w +ℤ p
      taken v w a p worth lt = omega (arith, ints, clamps)

-- its value is at most the best
pub new_second : (row : Listing) (q : List ℤ) (b : BestTwo) (j : ℕ) (v a : ℤ) → IsBestTwo row q b →
    All (λ e. e.0 < j) row → v +ℤ price_of q j ≡ a → v ≤ℤ b.best →
    IsBestTwo (row ++ (j, a) ∷ []) q record { object = b.object; best = b.best; second = Some (greater_of v b.second) }
new_second row q b j v a is up worth no_more =
    let below = entry_found (λ e. e.0 < j) row b.object _ up is.listed in
    record {
      listed = listed_more row _ b.object _ is.listed;
      greatest = All-push (λ e. e.1 ≤ℤ (b.best +ℤ price_of q e.0)) row (j, a) is.greatest (omega (arith, ints));
      lowest = All-push (λ e. e.1 ≡ (b.best +ℤ price_of q e.0) → b.object ≤ e.0) row (j, a) is.lowest (λ _. omega arith);
      others = second_more row q b.object b.second j v a is.others (λ same. absurd (omega arith)) up worth;
    }

-- its value is at most the second
pub no_better : (row : Listing) (q : List ℤ) (b : BestTwo) (w : ℤ) (j : ℕ) (v a : ℤ) → IsBestTwo row q b →
    b.second ≡ Some w → All (λ e. e.0 < j) row → v +ℤ price_of q j ≡ a → v ≤ℤ w → IsBestTwo (row ++ (j, a) ∷ []) q b
no_better row q b w j v a is second up worth no_more =
    let next = subst (IsSecond row q b.object) second is.others in
    let under = entry_found (λ e. e.1 ≤ℤ (b.best +ℤ price_of q e.0)) row next.1 _ is.greatest next.3 in
    let below = entry_found (λ e. e.0 < j) row b.object _ up is.listed in
    record {
      listed = listed_more row _ b.object _ is.listed;
      greatest = All-push (λ e. e.1 ≤ℤ (b.best +ℤ price_of q e.0)) row (j, a) is.greatest (omega (arith, ints));
      lowest = All-push (λ e. e.1 ≡ (b.best +ℤ price_of q e.0) → b.object ≤ e.0) row (j, a) is.lowest (λ _. omega arith);
      others = subst (IsSecond (row ++ (j, a) ∷ []) q b.object) (sym second) (
        All-push (λ e. e.0 ≢ b.object →
            e.1 ≤ℤ (w +ℤ price_of q e.0)) row (j, a) next.0 (λ _. omega (arith, ints)),
        next.1,
        next.2,
        listed_more row _ next.1 _ next.3,
      );
    }

-- the entries before entry i are of lower objects
pub taken_below : (row : Listing) (i : ℕ) (d : ℕ × ℤ) → IsRising row → i < length row → All (λ e. e.0 < (get_or row i d).0) (take i row)
taken_below row i d up lt = λ k f below.
    let long = length-take-le i row (omega arith) in
    let before : k < i = omega arith in
    let last : k < length row = omega arith in
    let same : get_or (take i row) k f ≡ get_or row k d = get_or-take i row k f before ∙ get_or_default row k f d last in
    rw same (up k i d before lt)

-- one more entry is read, its object and its benefit separately
pub read_on : (row : Listing) (q : List ℤ) (b : BestTwo) (i : ℕ) (d e : ℕ × ℤ) → i < length row →
    IsBestTwo (take i row ++ ((get_or row i d).0, (get_or row i e).1) ∷ []) q b → IsBestTwo (take (i + 1) row) q b
read_on row q b i d e lt is =
    let same = get_or_default row i e d lt in
    rw (take_more row i d lt) (subst (λ x. IsBestTwo (take i row ++ ((get_or row i d).0, x.1) ∷ []) q b) same is)

-- the first i objects of a full row are below object i + 1
pub full_below : (benefits : List ℤ) (i : ℕ) → i ≤ length benefits → All (λ e. e.0 < i + 1) (row_from 1 (take i benefits))
full_below benefits i le = λ k d lt.
    let long = length-row_from 1 (take i benefits) in
    let taken = length-take-le i benefits le in
    let at = row_from-index 1 k (take i benefits) d (pos 0) (omega arith) in
    rw at (omega arith)

-- one more benefit is read
pub full_on : (benefits q : List ℤ) (b : BestTwo) (i : ℕ) (d : ℤ) → i < length benefits →
    IsBestTwo (row_from 1 (take i benefits) ++ (i + 1, get_or benefits i d) ∷ []) q b →
    IsBestTwo (row_from 1 (take (i + 1) benefits)) q b
full_on benefits q b i d lt is =
    let taken = length-take-le i benefits (omega arith) in
    let same : 1 + length (take i benefits) ≡ i + 1 = omega arith in
    rw (take_more benefits i d lt) (rw (row_from-push 1 (take i benefits) (get_or benefits i d), same) is)

-- a full row rises by object
pub full_rising : (benefits : List ℤ) → IsRising (row_from 1 benefits)
full_rising benefits = λ i k d lt last.
    let long = length-row_from 1 benefits in
    let at = row_from-index 1 i benefits d (pos 0) (omega arith) in
    let above = row_from-index 1 k benefits d (pos 0) (omega arith) in
    rw (at, above) (omega arith)
