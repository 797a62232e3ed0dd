-- The path is flipped step by step.
use Rattle.std.proofs.Common.{◌≡◌, ◌≢◌, ℕ, ℤ, ◌<◌, ap, arith, refl, sym, subst, ◌∙◌, inl, inr}
use Rattle.std.proofs.lemmas.Bool.{cases_eq}
use Rattle.hungarian.specs.inside.Plans.{IsChosen, IsOwner, IsObject, IsPlan}
use Rattle.hungarian.specs.inside.Trees.{IsBack, IsFlip, IsFlipping, IsServed}

module _ (c : ℕ → ℕ → ℤ) (p : ℕ → ℤ) (n m : ℕ) (o0 x0 : ℕ → ℕ) (s e : ℕ) (f r : ℕ → ℕ)
    (flip : IsFlip c p n m o0 x0 s e f r) where
  pub flip_begins : IsFlipping c p n m o0 x0 s r e o0 x0
  flip_begins = record {
    ranked = λ h. flip.last;
    nothing = flip.matched.nothing;
    owned = λ j h ne. flip.matched.owned j h;
    owning = flip.matched.owning;
    away = λ i h same.
        let own = flip.matched.owning i h in
        let a = own.some in let b = own.back in
        let z : o0 (x0 i) ≡ 0 = ap o0 same ∙ flip.free in omega arith;
    chosen = flip.own;
    same = λ i h. refl;
    kept = λ i h. h;
    last = λ z. let g : r e ≡ 0 = ap r z ∙ flip.nobody in let l = flip.last in absurd (omega arith);
    fresh = λ i z ne. z;
    unowned = λ j z. z;
  }

  pub flip_ends : (o x : ℕ → ℕ) → IsFlipping c p n m o0 x0 s r 0 o x → IsPlan c n m p o x × IsServed s x0 x
  flip_ends o x g = (
    record {
      matched = record {
        nothing = g.nothing;
        owned = λ j h. g.owned j h (λ z. let b : o j ≡ 0 = ap o z ∙ g.nothing in omega arith);
        owning = g.owning;
      };
      chosen = g.chosen;
      priced = flip.priced;
      free = λ j z. flip.unowned j (g.unowned j z);
    },
    record { assigned = g.last refl; kept = g.kept; fresh = g.fresh },
  )

  module _ (h : ℕ) (o x o2 x2 : ℕ → ℕ) (g : IsFlipping c p n m o0 x0 s r h o x) (some : 0 < h)
      (gets : x2 (f h) ≡ h) (others : (q : ℕ) → q ≢ f h → x2 q ≡ x q) (owner : o2 h ≡ f h)
      (owners : (j : ℕ) → j ≢ h → o2 j ≡ o j) where
    back : IsBack c p n m x0 s f r h
    back = flip.steps h (g.ranked some)

    was : x (f h) ≡ x0 (f h)
    was = g.same (f h) back.later

    not_h : h ≢ x (f h)
    not_h same = g.away (f h) (omega arith) (sym same)

    one_owner : (q y : ℕ) → 0 < x q → x q ≡ x y → q ≡ y
    one_owner q y h1 same =
        let one = g.owning q h1 in let other = g.owning y (omega arith) in
        sym one.back ∙ ap o same ∙ other.back

    owned_now : (j : ℕ) → 0 < o2 j → j ≢ x (f h) → IsOwner n x2 (o2 j) j
    owned_now j h1 ne = elim (cases_eq j h) [
      | inl same ↦
          let e1 : o2 j ≡ f h = ap o2 same ∙ owner in
          let l = back.last in
          record { last = omega arith; back = ap x2 e1 ∙ gets ∙ sym same }
      | inr other ↦
          let e1 = owners j other in
          let own = g.owned j (omega arith) other in
          let l = own.last in
          let apart : o j ≢ f h = λ z. ne (sym own.back ∙ ap x z) in
          record { last = omega arith; back = ap x2 e1 ∙ others (o j) apart ∙ own.back }
    ]

    owning_now : (q : ℕ) → 0 < x2 q → IsObject m o2 q (x2 q)
    owning_now q h1 = elim (cases_eq q (f h)) [
      | inl same ↦
          let e1 : x2 q ≡ h = ap x2 same ∙ gets in
          let w = back.within in let z = back.some in
          record { some = omega arith; last = omega arith; back = ap o2 e1 ∙ owner ∙ sym same }
      | inr other ↦
          let e1 = others q other in
          let own = g.owning q (omega arith) in
          let a = own.some in let b = own.last in
          record { some = a; last = omega arith; back = ap o2 e1 ∙ owners (x q) (g.away q (omega arith)) ∙ own.back }
    ]

    away_now : (q : ℕ) → 0 < x2 q → x2 q ≢ x (f h)
    away_now q h1 same = elim (cases_eq q (f h)) [
      | inl is ↦ let e1 : x2 q ≡ h = ap x2 is ∙ gets in not_h (sym e1 ∙ same)
      | inr other ↦ let e1 = others q other in other (one_owner q (f h) (omega arith) (sym e1 ∙ same))
    ]

    chosen_now : (q : ℕ) → 0 < x2 q → IsChosen c p q (x2 q)
    chosen_now q h1 = elim (cases_eq q (f h)) [
      | inl same ↦
          let e1 : x2 q ≡ h = ap x2 same ∙ gets in
          subst (λ y. IsChosen c p y (x2 q)) (sym same) (subst (IsChosen c p (f h)) (sym e1) back.chosen)
      | inr other ↦
          let e1 = others q other in
          subst (IsChosen c p q) (sym e1) (g.chosen q (omega arith))
    ]

    falls : r (x (f h)) < r h
    falls = let l = back.later in let z : r (x (f h)) ≡ r (x0 (f h)) = ap r was in omega arith

    pub flip_falls : r (x (f h)) < r h
    flip_falls = falls

    pub flip_goes : IsFlipping c p n m o0 x0 s r (x (f h)) o2 x2
    flip_goes = record {
      ranked = λ h1.
          let z : r (x (f h)) ≡ r (x0 (f h)) = ap r was in
          let w = was in
          let k = back.ranked (omega arith) in omega arith;
      nothing = owners 0 (λ z. omega arith) ∙ g.nothing;
      owned = owned_now;
      owning = owning_now;
      away = away_now;
      chosen = chosen_now;
      same = λ q low.
          let z : r (x (f h)) ≡ r (x0 (f h)) = ap r was in
          let l = falls in
          let ne : q ≢ f h = λ is. let y : r (x0 q) ≡ r (x0 (f h)) = ap (λ k. r (x0 k)) is in omega arith in
          others q ne ∙ g.same q (omega arith);
      kept = λ q h1. elim (cases_eq q (f h)) [
        | inl same ↦ let e1 : x2 q ≡ h = ap x2 same ∙ gets in omega arith
        | inr other ↦ let e1 = others q other in let k = g.kept q h1 in omega arith
      ];
      last = λ z.
          let k = back.first (sym was ∙ z) in
          let e1 : x2 s ≡ h = ap x2 (sym k) ∙ gets in omega arith;
      fresh = λ q z ne.
          let other : q ≢ f h = λ is. ne (is ∙ back.first (ap x0 (sym is) ∙ z)) in
          others q other ∙ g.fresh q z ne;
      unowned = λ j z.
          let ne : j ≢ h = λ is. let y : o2 j ≡ f h = ap o2 is ∙ owner in let k = back.some in omega arith in
          g.unowned j (sym (owners j ne) ∙ z);
    }
