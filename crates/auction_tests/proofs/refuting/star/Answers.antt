use Rattle.std.proofs.Common.{◌≡◌, ℕ, ℤ, pos, ◌+◌, ◌<◌, ◌≤◌, ◌&&◌, List, [], ◌∷◌, ◌++◌, Option, Some, IsSome, Bool}
use Rattle.std.proofs.Common.{true, false, cond, nat_eq, refl, arith, sym, subst, inl, inr, eq-eqb}
use Rattle.std.specs.List.{All}
use Rattle.std.proofs.lemmas.Int.{ints}
use Rattle.std.proofs.lemmas.Bool.{and_from}
use Rattle.std.proofs.lemmas.List.Elements.{All-push}
use Rattle.assign_core.specs.declared.numbers.TheConstants.{MOST_PERSONS}
use Rattle.assign_core.specs.Sparse.{Triple, IsTriple, least_given}
use Rattle.assign_core.proofs.NumberedLemmas.{low_or_same}
use Rattle.auction_tests.proofs.refuting.star.Goals as goal

some_more : (b : Bool) (x y : ℤ) (o p : Option ℤ) → (IsSome o → IsSome p) → IsSome (cond b (Some x) o) → IsSome (cond b (Some y) p)
some_more true x y o p more h = refl
some_more false x y o p more h = more h

-- what is given stays given
given_more : (ts : List Triple) (t : Triple) (i j : ℕ) → IsSome (least_given ts i j) → IsSome (least_given (ts ++ t ∷ []) i j)
given_more [] t i j h = absurd cc
given_more (u ∷ ts) t i j h = some_more (nat_eq u.0 i && nat_eq u.1 j) _ _ (least_given ts i j) (least_given (ts ++ t ∷ []) i j) (given_more ts t i j) h

some_here : (b : Bool) (x : ℤ) (o : Option ℤ) → b ≡ true → IsSome (cond b (Some x) o)
some_here true x o e = refl
some_here false x o e = absurd cc

some_later : (b : Bool) (x : ℤ) (o : Option ℤ) → IsSome o → IsSome (cond b (Some x) o)
some_later true x o h = refl
some_later false x o h = h

-- the last triple gives its pair
given_last : (ts : List Triple) (i j : ℕ) (c : ℤ) → IsSome (least_given (ts ++ (i, j, c) ∷ []) i j)
given_last [] i j c = some_here (nat_eq i i && nat_eq j j) _ _ (and_from (nat_eq i i) (nat_eq j j) (eq-eqb i i refl) (eq-eqb j j refl))
given_last (u ∷ ts) i j c = some_later (nat_eq u.0 i && nat_eq u.1 j) _ _ (given_last ts i j c)

-- two more triples
record IsFurther (n i : ℕ) (ts : List Triple) : Type 0 where
  triples : All (IsTriple n) ts
  given : (k : ℕ) → 1 < k → k < i → IsSome (least_given ts k k)

further : (n i : ℕ) (a b c : List Triple) → 1 < i → i ≤ n → b ≡ a ++ (1, i, pos 0) ∷ [] → c ≡ b ++ (i, i, pos 0) ∷ [] → IsFurther n i a → IsFurther n (i + 1) c
further n i a b c low high first second h =
    let u : Triple = (1, i, pos 0) in
    let v : Triple = (i, i, pos 0) in
    let one : IsTriple n u = record {
      person = record { first = omega arith; last = omega arith };
      object =
          record { first = omega arith; last = omega arith };
      cost = record {
        least = omega (arith, ints);
        greatest =
            omega (arith, ints);
      };
    } in
    let two : IsTriple n v = record {
      person = record { first = omega arith; last = omega arith };
      object =
          record { first = omega arith; last = omega arith };
      cost = record {
        least = omega (arith, ints);
        greatest =
            omega (arith, ints);
      };
    } in
    rw (second, first) (record {
      triples = All-push (IsTriple n) (a ++ u ∷ []) v (All-push (IsTriple n) a u h.triples one) two;
      given = λ k some lt. elim (low_or_same k i lt) [
        | inl less ↦ given_more (a ++ u ∷ []) v k k (given_more a u k k (h.given k some less))
        | inr same ↦ subst (λ j. IsSome (least_given ((a ++ u ∷ []) ++ v ∷ []) j j)) (sym same) (given_last (a ++ u ∷ []) i i (pos 0))
      ];
    })

pub loop-i-preserved : goal.loop-i-preserved
loop-i-preserved c =
    let h : IsFurther MOST_PERSONS c.loop-i.i c.loop-i.triples.items = record { triples = c.loop-i.invariant.triples; given = c.loop-i.invariant.given } in
    let low = c.loop-i.auto in
    let lt = c.loop-i-test.true in
    let f = further MOST_PERSONS c.loop-i.i c.loop-i.triples.items c.push.new.self.items
    c.push-in-loop-i.new.self.items (omega arith) (omega arith) c.in_ok-push.ensures.items
    c.in_ok-push-2.ensures.items h in
    record { triples = f.triples; given = f.given }
