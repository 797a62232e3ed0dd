-- A row has only one best two, and the recursion gives it.
use Rattle.std.proofs.Common.{◌≡◌, ◌≢◌, ℕ, ℤ, ◌+ℤ◌, ◌-ℤ◌, ◌≤ℤ◌, ◌<ℤ◌, ◌<◌, ◌≤◌, suc, List, [], ◌∷◌, Option, None}
use Rattle.std.proofs.Common.{Some, MatchOption, refl, ap, sym, ◌∙◌, subst, arith}
use Rattle.std.specs.List.{All}
use Rattle.std.specs.Int.{int_max}
use Rattle.std.proofs.lemmas.Int.{ints, clamps, by_lt_z}
use Rattle.std.proofs.lemmas.Bool.{ne_eqb}
use Rattle.std.proofs.lemmas.List.Elements.{All-cons}
use Rattle.assign_core.specs.Rows.{Listing, IsRising}
use Rattle.assign_core.specs.Prices.{price_of}
use Rattle.assign_core.proofs.Orders.{le_antisymmetric, less, not_less}
use Rattle.assign_core.proofs.Listed.{listed_first, listed_later, entry_found}
use Rattle.bidder.specs.declared.scan.BestTwo.{BestTwo}
use Rattle.bidder.specs.BestTwo.{IsValue, IsSecond, IsBestTwo, greater_of, joined, best_two}
use Rattle.bidder.proofs.Scans.{alone, greater_is}

same_value : (v w p : ℤ) → (w +ℤ p) ≤ℤ (v +ℤ p) → w ≤ℤ v
same_value v w p le = omega (arith, ints)

-- there is only one second value
second_once : (row : Listing) (q : List ℤ) (j : ℕ) (s t : Option ℤ) → IsSecond row q j s → IsSecond row q j t → s ≡ t
second_once row q j None None a b = refl
second_once row q j None (Some w) a b = absurd (b.2 (entry_found (λ e. e.0 ≡ j) row b.1 _ a b.3))
second_once row q j (Some v) None a b = absurd (a.2 (entry_found (λ e. e.0 ≡ j) row a.1 _ b a.3))
second_once row q j (Some v) (Some w) a b =
    let up = same_value v w (price_of q b.1) (entry_found (λ e. e.0 ≢ j → e.1 ≤ℤ (v +ℤ price_of q e.0)) row b.1 _ a.0 b.3 b.2) in
    let down = same_value w v (price_of q a.1) (entry_found (λ e. e.0 ≢ j → e.1 ≤ℤ (w +ℤ price_of q e.0)) row a.1 _ b.0 a.3 a.2) in
    ap Some (le_antisymmetric v w down up)

same_two : (a b : BestTwo) → a.object ≡ b.object → a.best ≡ b.best → a.second ≡ b.second → a ≡ b
same_two a b e f g =
    ap (λ j. let x : BestTwo = record { object = j; best = a.best; second = a.second } in x) e
    ∙ ap (λ v. let x : BestTwo = record { object = b.object; best = v; second = a.second } in x) f
    ∙ ap (λ s. let x : BestTwo = record { object = b.object; best = b.best; second = s } in x) g

-- there is only one best two
pub best_two_once : (row : Listing) (q : List ℤ) (a b : BestTwo) → IsBestTwo row q a → IsBestTwo row q b → a ≡ b
best_two_once row q a b x y =
    let up = same_value a.best b.best (price_of q b.object) (entry_found (λ e. e.1 ≤ℤ (a.best +ℤ price_of q e.0)) row b.object _ x.greatest y.listed) in
    let down = same_value b.best a.best (price_of q a.object) (entry_found (λ e. e.1 ≤ℤ (b.best +ℤ price_of q e.0)) row a.object _ y.greatest x.listed) in
    let value = le_antisymmetric a.best b.best down up in
    let left = entry_found (λ e. e.1 ≡ (a.best +ℤ price_of q e.0) → a.object ≤ e.0) row b.object _ x.lowest y.listed
    (ap (λ v. v +ℤ price_of q b.object) (sym value)) in
    let right = entry_found (λ e. e.1 ≡ (b.best +ℤ price_of q e.0) → b.object ≤ e.0) row a.object _ y.lowest
    x.listed (ap (λ v. v +ℤ price_of q a.object) value) in
    let object : a.object ≡ b.object = omega arith in
    same_two a b object value (second_once row q b.object a.second b.second (subst (λ j. IsSecond row q j a.second) object x.others) y.others)

-- the first object is lower than the others
above_first : (e : ℕ × ℤ) (row : Listing) → IsRising (e ∷ row) → All (λ f. e.0 < f.0) row
above_first e row h = λ k d lt. h 0 (suc k) d (omega arith) (omega arith)

-- the first object is the best
first_best : (e : ℕ × ℤ) (row : Listing) (q : List ℤ) (b : BestTwo) → All (λ f. e.0 < f.0) row → IsBestTwo row q b →
    b.best ≤ℤ (e.1 -ℤ price_of q e.0) → IsBestTwo (e ∷ row) q record {
      object = e.0;
      best = e.1 -ℤ price_of q e.0;
      second = Some b.best;
    }
first_best e row q b up is le =
    let v = e.1 -ℤ price_of q e.0 in
    let after = entry_found (λ f. e.0 < f.0) row b.object _ up is.listed in
    record {
      listed = listed_first e row ∙ ap Some (omega (arith, ints));
      greatest = All-cons (λ f. f.1 ≤ℤ (v +ℤ price_of q f.0)) e row (omega (arith, ints)) (λ k d lt. let h = is.greatest k d lt in omega (arith, ints));
      lowest = All-cons (λ f. f.1 ≡ (v +ℤ price_of q f.0) → e.0 ≤ f.0) e row (λ _. omega arith) (λ k d lt _. let h = up k d lt in omega arith);
      others = (
        All-cons (λ f. f.0 ≢ e.0 → f.1 ≤ℤ (b.best +ℤ price_of q f.0)) e row (λ ne. absurd (ne refl))
            (λ k d lt _. is.greatest k d lt),
        b.object,
        (λ same. absurd (omega arith)),
        listed_later e row b.object (ne_eqb e.0 b.object (λ same. absurd (omega arith))) ∙ is.listed,
      );
    }

-- the second value with one more object before the others, which has value v and isn't the best
second_before : (e : ℕ × ℤ) (row : Listing) (q : List ℤ) (best : ℕ) (s : Option ℤ) (v : ℤ) → IsSecond row q best s →
    e.0 ≢ best → All (λ f. e.0 < f.0) row → e.1 ≡ v +ℤ price_of q e.0 →
    IsSecond (e ∷ row) q best (Some (greater_of v s))
second_before e row q best None v is other up worth = (
  All-cons (λ f. f.0 ≢ best → f.1 ≤ℤ (v +ℤ price_of q f.0)) e row (λ _. omega (arith, ints))
      (λ k d lt ne. absurd (ne (is k d lt))),
  e.0,
  other,
  listed_first e row ∙ ap Some worth,
)
second_before e row q best (Some w) v is other up worth =
    let after = entry_found (λ f. e.0 < f.0) row is.1 _ up is.3 in
    let reached : (k : ℕ) × (k ≢ best) × IsValue (e ∷ row) q k (int_max v w) =
    by_lt_z {P = (k : ℕ) × (k ≢ best) × IsValue (e ∷ row) q k (int_max v w)} w v
    (λ lt. (e.0, other, listed_first e row ∙ ap Some (taken v w e.1 (price_of q e.0) worth lt)))
    (λ le. (
      is.1,
      is.2,
      listed_later e row is.1 (ne_eqb e.0 is.1 (λ same. absurd (omega arith))) ∙ is.3 ∙
          ap (λ z. Some (z +ℤ price_of q is.1)) (greater_is v w le),
    )) in (
      All-cons (λ f. f.0 ≢ best → f.1 ≤ℤ (int_max v w +ℤ price_of q f.0)) e row (λ _. omega (arith, ints, clamps))
          (λ k d lt ne. let h = is.0 k d lt ne in omega (arith, ints, clamps)),
      reached.0,
      reached.1,
      reached.2,
    ) where
      taken : (v w a p : ℤ) → a ≡ v +ℤ p → w <ℤ v → a ≡ int_max v w +ℤ p
      taken v w a p worth lt = omega (arith, ints, clamps)

-- the first object isn't the best
first_other : (e : ℕ × ℤ) (row : Listing) (q : List ℤ) (b : BestTwo) → All (λ f. e.0 < f.0) row →
    IsBestTwo row q b → (e.1 -ℤ price_of q e.0) <ℤ b.best → IsBestTwo (e ∷ row) q record {
      object = b.object;
      best =
          b.best;
      second = Some (greater_of (e.1 -ℤ price_of q e.0) b.second);
    }
first_other e row q b up is lt =
    let after = entry_found (λ f. e.0 < f.0) row b.object _ up is.listed in
    record {
      listed = listed_later e row b.object (ne_eqb e.0 b.object (λ same. absurd (omega arith))) ∙ is.listed;
      greatest = All-cons (λ f. f.1 ≤ℤ (b.best +ℤ price_of q f.0)) e row (omega (arith, ints)) is.greatest;
      lowest = All-cons (λ f. f.1 ≡ (b.best +ℤ price_of q f.0) → b.object ≤ f.0) e row (λ same. absurd (omega (arith, ints))) is.lowest;
      others = second_before e row q b.object b.second (e.1 -ℤ price_of q e.0) is.others (λ same. absurd (omega arith)) up (omega (arith, ints));
    }

joined_is : (e : ℕ × ℤ) (row : Listing) (q : List ℤ) (o : Option BestTwo) → IsRising (e ∷ row) →
    MatchOption o (row ≡ []) (IsBestTwo row q) → IsBestTwo (e ∷ row) q (joined e.0 (e.1 -ℤ price_of q e.0) o)
joined_is e row q None up is = subst (λ r. IsBestTwo (e ∷ r) q record {
  object = e.0;
  best = e.1 -ℤ price_of q e.0;
  second = None;
}) (sym is) (alone e.0 (e.1 -ℤ price_of q e.0) q e.1 (omega (arith, ints)))
joined_is e row q (Some b) up is = by_lt_z {P = IsBestTwo (e ∷ row) q (joined e.0 (e.1 -ℤ price_of q e.0) (Some b))} (e.1 -ℤ price_of q e.0) b.best
    (λ lt. rw (less (e.1 -ℤ price_of q e.0) b.best lt) (first_other e row q b (above_first e row up) is lt))
    (λ le. rw (not_less (e.1 -ℤ price_of q e.0) b.best le) (first_best e row q b (above_first e row up) is le))

-- the recursion gives the best two
pub best_two_is : (row : Listing) (q : List ℤ) → IsRising row → MatchOption (best_two row q) (row ≡ []) (IsBestTwo row q)
best_two_is [] q up = refl
best_two_is (e ∷ row) q up = joined_is e row q (best_two row q) up (best_two_is row q (λ i k d a b. up (suc i) (suc k) d (omega arith) (omega arith)))

-- a best two that meets the inequalities is what the recursion gives
pub best_two_same : (row : Listing) (q : List ℤ) (b : BestTwo) → IsRising row → IsBestTwo row q b → Some b ≡ best_two row q
best_two_same [] q b up is = let h = is.listed in absurd cc
best_two_same (e ∷ row) q b up is = ap Some (best_two_once (e ∷ row) q b _ is (best_two_is (e ∷ row) q up))
