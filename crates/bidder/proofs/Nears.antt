-- Rows of pairs read from the left at 64-bit prices.
use Rattle.std.proofs.Common.{◌≡◌, ℕ, ℤ, ◌+ℤ◌, ◌≤ℤ◌, ◌<ℤ◌, ◌<◌, ◌≤◌, ◌+◌, List, [], ◌∷◌, ◌++◌, length, take, get_or, refl, ap, sym, ◌∙◌, subst, arith, None, Some, Bool, true, false, cond, MatchBool}
use Rattle.std.specs.List.{All}
use Rattle.std.specs.Int.{int_max}
use Rattle.std.proofs.lemmas.Int.{ints, clamps}
use Rattle.std.proofs.lemmas.List.{get_or_default, take_all, take_more}
use Rattle.std.proofs.lemmas.List.Elements.{All-cons, All-nil}
use Rattle.assign_core.specs.Rows.{Listing, listed_in}
use Rattle.assign_core.specs.Prices.{IsNarrowed, price_of}
use Rattle.assign_core.proofs.Listed.{entry_found, listed_first}
use Rattle.bidder.specs.declared.near.Near.{Near}
use Rattle.bidder.specs.BestTwo.{IsBestTwo}
use Rattle.bidder.specs.inside.Near.{IsNear, two_of}
use Rattle.bidder.proofs.Scans.{alone, listed_more, listed_last, new_best, new_second, no_better}

below : (i j : ℕ) (a : ℤ) → i < j → All {X = ℕ × ℤ} (λ e. e.0 < j) ((i, a) ∷ [])
below i j a lt = All-cons (λ e. e.0 < j) (i, a) [] lt (All-nil (λ e. e.0 < j))

-- two objects, of which the second has the greater value
pub near_later : (q : List ℤ) (i j : ℕ) (v w a b : ℤ) → i < j → v +ℤ price_of q i ≡ a → w +ℤ price_of q j ≡ b → v <ℤ w →
    IsNear ((i, a) ∷ (j, b) ∷ []) q record { object = j; best = w; other = i; second = v }
near_later q i j v w a b lt first next more = record {
  two = new_best ((i, a) ∷ []) q record { object = i; best = v; second = None } j w b (alone i v q a first) (below i j a lt) next more;
  apart = λ same. absurd (omega arith);
  value = listed_first (i, a) ((j, b) ∷ []) ∙ ap Some (sym first);
}

-- two objects, of which the first has a value as great
pub near_first : (q : List ℤ) (i j : ℕ) (v w a b : ℤ) → i < j → v +ℤ price_of q i ≡ a → w +ℤ price_of q j ≡ b → w ≤ℤ v →
    IsNear ((i, a) ∷ (j, b) ∷ []) q record { object = i; best = v; other = j; second = w }
near_first q i j v w a b lt first next no_more = record {
  two = new_second ((i, a) ∷ []) q record { object = i; best = v; second = None } j w b (alone i v q a first) (below i j a lt) next no_more;
  apart = λ same. absurd (omega arith);
  value = listed_last ((i, a) ∷ []) j b (below i j a lt) ∙ ap Some (sym next);
}

-- the value of the object that follows is at most the second
pub near_kept : (row : Listing) (q : List ℤ) (near : Near) (j : ℕ) (v a : ℤ) → IsNear row q near →
    All (λ e. e.0 < j) row → v +ℤ price_of q j ≡ a → v ≤ℤ near.second → IsNear (row ++ (j, a) ∷ []) q near
near_kept row q near j v a is up worth le = record {
  two = no_better row q (two_of near) near.second j v a is.two refl up worth le;
  apart = is.apart;
  value = listed_more row _ near.other _ is.value;
}

-- it is above the best
pub near_best : (row : Listing) (q : List ℤ) (near : Near) (j : ℕ) (v a : ℤ) → IsNear row q near →
    All (λ e. e.0 < j) row → v +ℤ price_of q j ≡ a → near.best <ℤ v →
    IsNear (row ++ (j, a) ∷ []) q record { object = j; best = v; other = near.object; second = near.best }
near_best row q near j v a is up worth more =
    let below = entry_found (λ e. e.0 < j) row near.object _ up is.two.listed in
    record {
      two = new_best row q (two_of near) j v a is.two up worth more;
      apart = λ same. absurd (omega arith);
      value = listed_more row _ near.object _ is.two.listed;
    }

-- it is above the second alone
pub near_second : (row : Listing) (q : List ℤ) (near : Near) (j : ℕ) (v a : ℤ) → IsNear row q near →
    All (λ e. e.0 < j) row → v +ℤ price_of q j ≡ a → near.second <ℤ v → v ≤ℤ near.best →
    IsNear (row ++ (j, a) ∷ []) q record { object = near.object; best = near.best; other = j; second = v }
near_second row q near j v a is up worth more no_more =
    let below = entry_found (λ e. e.0 < j) row near.object _ up is.two.listed in
    record {
      two = subst (λ s. IsBestTwo (row ++ (j, a) ∷ []) q record { object = near.object; best = near.best; second = Some s })
          (taken v near.second more) (new_second row q (two_of near) j v a is.two up worth no_more);
      apart = λ same. absurd (omega arith);
      value = listed_last row j a up ∙ ap Some (sym worth);
    } where
      taken : (v w : ℤ) → w <ℤ v → int_max v w ≡ v
      taken v w lt = omega (arith, ints, clamps)

-- which of these it is
pub near_with : (row : Listing) (q : List ℤ) (near : Near) (j : ℕ) (v a : ℤ) (above next : Bool) → IsNear row q near →
    All (λ e. e.0 < j) row → v +ℤ price_of q j ≡ a → MatchBool above (near.best <ℤ v) (v ≤ℤ near.best) →
    MatchBool next (near.second <ℤ v) (v ≤ℤ near.second) →
    IsNear (row ++ (j, a) ∷ []) q (cond above (record { object = j; best = v; other = near.object; second = near.best })
    (cond next (record { object = near.object; best = near.best; other = j; second = v }) near))
near_with row q near j v a true next is up worth more _ = near_best row q near j v a is up worth more
near_with row q near j v a false true is up worth no_more more = near_second row q near j v a is up worth more no_more
near_with row q near j v a false false is up worth _ no_more = near_kept row q near j v a is up worth no_more

-- the first two entries of a row
pub near_start : (row : Listing) (q : List ℤ) (near : Near) (d e f g : ℕ × ℤ) → 1 < length row →
    IsNear (((get_or row 0 d).0, (get_or row 0 e).1) ∷ ((get_or row 1 f).0, (get_or row 1 g).1) ∷ []) q near →
    IsNear (take 2 row) q near
near_start [] q near d e f g lt is = absurd (omega arith)
near_start (x ∷ []) q near d e f g lt is = absurd (omega arith)
near_start (x ∷ y ∷ row) q near d e f g lt is = is

-- one more entry is read, its object and its benefit separately
pub near_on : (row : Listing) (q : List ℤ) (near : Near) (i : ℕ) (d e : ℕ × ℤ) → i < length row →
    IsNear (take i row ++ ((get_or row i d).0, (get_or row i e).1) ∷ []) q near → IsNear (take (i + 1) row) q near
near_on row q near i d e lt is =
    let same = get_or_default row i e d lt in
    rw (take_more row i d lt) (subst (λ x. IsNear (take i row ++ ((get_or row i d).0, x.1) ∷ []) q near) same is)

-- all entries are read
pub near_all : (row : Listing) (q : List ℤ) (near : Near) (i : ℕ) → length row ≤ i → IsNear (take i row) q near → IsNear row q near
near_all row q near i le is = subst (λ r. IsNear r q near) (take_all i row le) is

at_most : (a v n p : ℤ) → a ≤ℤ (v +ℤ n) → n ≤ℤ p → a ≤ℤ (v +ℤ p)
at_most a v n p le below = omega (arith, ints)

tied : (a v n p : ℤ) → a ≤ℤ (v +ℤ n) → n ≤ℤ p → a ≡ v +ℤ p → a ≡ v +ℤ n
tied a v n p le below same = omega (arith, ints)

-- where the narrow prices of the best two are their prices, they are the best two at the prices
pub near_exact : (row : Listing) (narrow q : List ℤ) (near : Near) → IsNarrowed narrow q → IsNear row narrow near →
    price_of narrow near.object ≡ price_of q near.object → price_of narrow near.other ≡ price_of q near.other →
    IsBestTwo row q (two_of near)
near_exact row narrow q near small is own other = record {
  listed = subst (λ p. listed_in row near.object ≡ Some (near.best +ℤ p)) own is.two.listed;
  greatest = λ k d lt. at_most _ _ _ _ (is.two.greatest k d lt) (small.below.each (get_or row k d).0);
  lowest = λ k d lt same. is.two.lowest k d lt (tied _ near.best _ _ (is.two.greatest k d lt) (small.below.each (get_or row k d).0) same);
  others = (
    (λ k d lt ne. at_most _ near.second _ _ (is.two.others.0 k d lt ne) (small.below.each (get_or row k d).0)),
    near.other,
    is.apart,
    subst (λ p. listed_in row near.other ≡ Some (near.second +ℤ p)) other is.value,
  );
}
