-- After a search that reaches an unowned object, the raised prices let the path be flipped.
use Rattle.std.proofs.Common.{◌≡◌, ◌≢◌, ℕ, ℤ, pos, ◌+◌, ◌*◌, ◌+ℤ◌, ◌-ℤ◌, ◌≤ℤ◌, ◌<ℤ◌, ◌<◌, ◌≤◌, ◌⊎◌, ap, arith, sym, subst, ◌∙◌, inl, inr}
use Rattle.std.proofs.lemmas.Int.{ints}
use Rattle.std.proofs.lemmas.Bool.{cases_eq}
use Rattle.cost_lists.specs.declared.numbers.TheConstants.{UNLISTED}
use Rattle.cost_lists.specs.Exact.{IsPriceInLimits}
use Rattle.hungarian.specs.inside.Plans.{AreCostsOrMarks, IsChosen, IsPlan}
use Rattle.hungarian.specs.inside.Trees.{IsScanned, IsStep, IsTree, IsNearest, IsRaised, IsBack, IsFlip}
use Rattle.hungarian.proofs.Growing.{none_or_some}

module _ (c : ℕ → ℕ → ℤ) (p : ℕ → ℤ) (o x : ℕ → ℕ) (n m s t e : ℕ) (D : ℤ) (d v : ℕ → ℤ) (f r r2 : ℕ → ℕ)
    (costs : AreCostsOrMarks c) (plan : IsPlan c n m p o x) (tree : IsTree c p o x s t D d v f r)
    (near : IsNearest p d f r e)
    (first : s ≤ n) (few : n ≤ 4194304) (before : t < n) (positive : 0 < e) (within : e ≤ m) (free : o e ≡ 0)
    (rank : r2 e ≡ t + 1) (ranks : (k : ℕ) → k ≢ e → r2 k ≡ r k) where
  free_price : p e ≡ pos 0
  free_price = plan.free e free

  -- a ranked object is the last or was scanned
  last_or_passed : (k : ℕ) → 0 < r2 k → (k ≡ e) ⊎ (0 < r k)
  last_or_passed k h = elim (cases_eq k e) [
    | inl same ↦ inl same
    | inr ne ↦ let a = ranks k ne in inr (omega arith)
  ]

  not_e : (k : ℕ) → 0 < r k → k ≢ e
  not_e k h same = let z : r k ≡ 0 = ap r same ∙ near.waits.unscanned in omega arith

  -- the cost of the path to a scanned object is near that of the path to the last one
  spread : (k : ℕ) → 0 < r2 k → (d e -ℤ d k) ≤ℤ pos ((t + 1) * 2000000000000)
  spread k ranked = elim (last_or_passed k ranked) [
    | inl end ↦ let z : d k ≡ d e = ap d end in omega (arith, ints)
    | inr passed ↦
        let owner = plan.matched.owned k ((tree.passed k passed).owned) in
        let b = owner.back in
        let scanned : 0 < r (x (o k)) = subst (λ y. 0 < r y) (sym b) passed in
        let own = subst (IsStep c d v (o k)) b (tree.own (o k) scanned) in
        let old = tree.labelled e near.waits.labelled in
        let w = tree.close (f e) (o k) old.scanned (inr scanned) in
        let sum = own.sum in let sum2 = old.step.sum in
        let one = costs (o k) k own.listed in
        let other = costs (f e) e old.step.listed in
        let one0 = one.least in let one1 = one.greatest in
        let other0 = other.least in let other1 = other.greatest in
        omega (arith, ints)
  ]

  scanned_last : (i : ℕ) → IsScanned s x r i → i ≤ n
  scanned_last i (inl same) = omega arith
  scanned_last i (inr h) =
      let some_object : 0 < x i = elim (none_or_some (x i)) [
        | inl none ↦ let z : r (x i) ≡ r 0 = ap r none in let g = tree.nobody in absurd (omega arith)
        | inr some ↦ some
      ] in
      let own = plan.matched.owning i some_object in
      let a = own.some in let b = own.back in
      let owner = plan.matched.owned (x i) (omega arith) in
      let l = owner.last in omega arith

  scanned_first : (i : ℕ) → IsScanned s x r i → x i ≡ 0 → i ≡ s
  scanned_first i (inl same) none = same
  scanned_first i (inr h) none = let z : r (x i) ≡ r 0 = ap r none in let g = tree.nobody in absurd (omega arith)

  scanned_ranked : (i : ℕ) → IsScanned s x r i → 0 < x i → 0 < r2 (x i)
  scanned_ranked i (inl same) h = let z : x i ≡ 0 = ap x same ∙ tree.alone in absurd (omega arith)
  scanned_ranked i (inr ranked) h = let a = ranks (x i) (not_e (x i) ranked) in omega arith

  -- the rank of the object of the person before
  rank_before : (k : ℕ) → 0 < f k → r2 (x (f k)) ≡ r (x (f k))
  rank_before k h = elim (cases_eq (x (f k)) e) [
    | inl same ↦
        let own = plan.matched.owning (f k) (omega arith) in
        let a = own.some in let b = own.back in
        let z : o (x (f k)) ≡ 0 = ap o same ∙ free in absurd (omega arith)
    | inr ne ↦ ranks (x (f k)) ne
  ]

  rank_low : (k : ℕ) → r k ≤ t
  rank_low k = elim (none_or_some (r k)) [
    | inl none ↦ omega arith
    | inr some ↦ (tree.passed k some).within
  ]

  later_now : (k : ℕ) → 0 < r2 k → 0 < f k → r2 (x (f k)) < r2 k
  later_now k ranked h =
      let same = rank_before k h in
      elim (last_or_passed k ranked) [
        | inl end ↦
            let a : r2 k ≡ t + 1 = ap r2 end ∙ rank in
            let b = rank_low (x (f k)) in omega arith
        | inr passed ↦
            let a = ranks k (not_e k passed) in
            let b = (tree.passed k passed).later in omega arith
      ]

  labelled_from : (k : ℕ) → 0 < r2 k → 0 < f k
  labelled_from k ranked = elim (last_or_passed k ranked) [
    | inl end ↦ let a : f k ≡ f e = ap f end in let b = near.waits.labelled in omega arith
    | inr passed ↦ (tree.passed k passed).labelled
  ]

  within_now : (k : ℕ) → 0 < r2 k → k ≤ m
  within_now k ranked = elim (last_or_passed k ranked) [
    | inl end ↦ omega arith
    | inr passed ↦
        let own = plan.matched.owned k ((tree.passed k passed).owned) in
        let b = own.back in
        let some : 0 < k = elim (none_or_some k) [
          | inl none ↦ let z : r k ≡ r 0 = ap r none in let g = tree.nobody in absurd (omega arith)
          | inr some ↦ some
        ] in
        let object = plan.matched.owning (o k) (omega arith) in
        let l = object.last in omega arith
  ]

  pub may_raise : (k : ℕ) → 0 < r2 k → IsPriceInLimits (d e -ℤ d k)
  may_raise k ranked = record {
    least = elim (last_or_passed k ranked) [
      | inl same ↦ let z : d k ≡ d e = ap d same in omega (arith, ints)
      | inr passed ↦
          let b = (tree.passed k passed).near in
          let w = tree.waiting e near.waits.unscanned near.waits.labelled in
          let q = (plan.priced k).least in
          let g = free_price in omega (arith, ints)
    ];
    greatest = let w = spread k ranked in omega (arith, ints);
  }

  module _ (p2 : ℕ → ℤ) (raised : IsRaised p d r2 e p2) where
    not_below : (k : ℕ) → p k ≤ℤ p2 k
    not_below k = elim (none_or_some (r2 k)) [
      | inl none ↦ let a = raised.others k none in omega (arith, ints)
      | inr ranked ↦
          let a = raised.scanned k ranked in
          elim (last_or_passed k ranked) [
            | inl same ↦
                let z : d k ≡ d e = ap d same in
                let q : p k ≡ p e = ap p same in
                let g = free_price in omega (arith, ints)
            | inr passed ↦
                let b = (tree.passed k passed).near in
                let w = tree.waiting e near.waits.unscanned near.waits.labelled in
                let g = free_price in omega (arith, ints)
          ]
    ]

    -- over a scanned person each listed object costs at least so much
    at_least : (i k : ℕ) → IsScanned s x r i → c i k <ℤ UNLISTED → (d e -ℤ v i) ≤ℤ (c i k +ℤ p2 k)
    at_least i k h listed =
        let cover = tree.covered i k h listed in
        let a = cover.least in
        elim (none_or_some (r2 k)) [
          | inl none ↦
              let b = raised.others k none in
              let ne : k ≢ e = λ same. let z : r2 k ≡ t + 1 = ap r2 same ∙ rank in omega arith in
              let same = ranks k ne in
              let w = near.least k (record { labelled = cover.labelled; unscanned = omega arith }) in
              let g = free_price in omega (arith, ints)
          | inr ranked ↦ let b = raised.scanned k ranked in omega (arith, ints)
        ]

    chosen_step : (i j : ℕ) → IsScanned s x r i → IsStep c d v i j → 0 < r2 j → IsChosen c p2 i j
    chosen_step i j h step ranked = record {
      listed = step.listed;
      least = λ k listed.
          let a = at_least i k h listed in
          let b = raised.scanned j ranked in
          let z = step.sum in omega (arith, ints);
    }

    chosen_still : (i : ℕ) → 0 < x i → r2 (x i) ≡ 0 → IsChosen c p2 i (x i)
    chosen_still i h none =
        let old = plan.chosen i h in
        record {
          listed = old.listed;
          least = λ k listed.
              let a = old.least k listed in
              let b = not_below k in
              let z = raised.others (x i) none in omega (arith, ints);
        }

    own_now : (i : ℕ) → 0 < x i → IsChosen c p2 i (x i)
    own_now i h = elim (none_or_some (r2 (x i))) [
      | inl none ↦ chosen_still i h none
      | inr ranked ↦ elim (last_or_passed (x i) ranked) [
        | inl same ↦
            let own = plan.matched.owning i h in
            let a = own.some in let b = own.back in
            let z : o (x i) ≡ 0 = ap o same ∙ free in absurd (omega arith)
        | inr passed ↦ chosen_step i (x i) (inr passed) (tree.own i passed) ranked
      ]
    ]

    back : (k : ℕ) → 0 < r2 k → IsBack c p2 n m x s f r2 k
    back k ranked =
        let h = labelled_from k ranked in
        let old = tree.labelled k h in
        record {
          some = h;
          last = scanned_last (f k) old.scanned;
          within = within_now k ranked;
          later = later_now k ranked h;
          first = scanned_first (f k) old.scanned;
          ranked = scanned_ranked (f k) old.scanned;
          chosen = chosen_step (f k) k old.scanned old.step ranked;
        }

    priced_now : (k : ℕ) → IsPriceInLimits (p2 k)
    priced_now k = elim (none_or_some (r2 k)) [
      | inl none ↦ subst IsPriceInLimits (sym (raised.others k none)) (plan.priced k)
      | inr ranked ↦
          let a = raised.scanned k ranked in
          let b = not_below k in
          let g = (plan.priced k).least in
          let w = spread k ranked in
          record { least = omega (arith, ints); greatest = omega (arith, ints) }
    ]

    unowned_now : (k : ℕ) → o k ≡ 0 → p2 k ≡ pos 0
    unowned_now k none = elim (none_or_some (r2 k)) [
      | inl unranked ↦ raised.others k unranked ∙ plan.free k none
      | inr ranked ↦ elim (last_or_passed k ranked) [
        | inl end ↦ let z : d k ≡ d e = ap d end in let a = raised.scanned k ranked in omega (arith, ints)
        | inr passed ↦ let own = (tree.passed k passed).owned in absurd (omega arith)
      ]
    ]

    pub may_flip : IsFlip c p2 n m o x s e f r2
    may_flip = record {
      matched = plan.matched;
      last = omega arith;
      free = free;
      nobody = ranks 0 (λ z. omega arith) ∙ tree.nobody;
      alone = tree.alone;
      own = own_now;
      steps = back;
      priced = priced_now;
      unowned = unowned_now;
    }
