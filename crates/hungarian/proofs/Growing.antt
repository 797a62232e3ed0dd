-- One more object and its owner are scanned.
use Rattle.std.proofs.Common.{◌≡◌, ◌≢◌, ℕ, zero, suc, ℤ, pos, ◌+◌, ◌*◌, ◌+ℤ◌, ◌-ℤ◌, ◌≤ℤ◌, ◌<ℤ◌, ◌<◌, ◌≤◌, ◌⊎◌, ap, arith, refl, sym, subst, ◌∙◌, inl, inr}
use Rattle.std.proofs.lemmas.Int.{ints}
use Rattle.std.proofs.lemmas.Bool.{cases_eq}
use Rattle.cost_lists.specs.declared.numbers.TheConstants.{UNLISTED}
use Rattle.hungarian.specs.inside.Plans.{AreCostsOrMarks, IsChosen, IsPlan}
use Rattle.hungarian.specs.inside.Trees.{IsScanned, IsStep, IsPassed, IsCovered, IsLabelled, IsTree, IsNearest, IsScan, IsStepCost}

-- a number is 0 or above
pub none_or_some : (k : ℕ) → (k ≡ 0) ⊎ (0 < k)
none_or_some zero = inl refl
none_or_some (suc k) = inr (omega arith)

-- the path to an object fits 64 bits
pub path_fits : (c : ℕ → ℕ → ℤ) (p : ℕ → ℤ) (o x : ℕ → ℕ) (s t : ℕ) (D : ℤ) (d v : ℕ → ℤ) (f r : ℕ → ℕ) (k : ℕ) →
    AreCostsOrMarks c → IsTree c p o x s t D d v f r → t < 4194304 → 0 < f k → IsStepCost (d k)
path_fits c p o x s t D d v f r k costs tree few h =
    let old = tree.labelled k h in
    let sum = old.step.sum in
    let cost = costs (f k) k old.step.listed in
    let a = cost.least in let b = cost.greatest in
    let z = tree.start in
    let up = tree.close (f k) s old.scanned (inl refl) in
    let down = tree.close s (f k) (inl refl) old.scanned in
    record { least = omega (arith, ints); greatest = omega (arith, ints) }

module _ (c : ℕ → ℕ → ℤ) (p : ℕ → ℤ) (o x : ℕ → ℕ) (n m s t i j : ℕ) (D : ℤ) (d v : ℕ → ℤ) (f r : ℕ → ℕ)
    (d2 v2 : ℕ → ℤ) (f2 r2 : ℕ → ℕ)
    (costs : AreCostsOrMarks c) (plan : IsPlan c n m p o x) (tree : IsTree c p o x s t D d v f r)
    (near : IsNearest p d f r j)
    (positive : 0 < j) (owner : o j ≡ i) (some : 0 < i) (scan : IsScan c t i j d v f r d2 v2 f2 r2) where
  owner_has : x i ≡ j
  owner_has = let h = plan.matched.owned j (omega arith) in ap x (sym owner) ∙ h.back

  -- the new person was not scanned
  not_new : (q : ℕ) → IsScanned s x r q → q ≢ i
  not_new q (inl e) same =
      let z : x i ≡ 0 = ap x (sym same ∙ e) ∙ tree.alone in
      let h = owner_has in omega arith
  not_new q (inr h) same =
      let z : r (x q) ≡ 0 = ap (λ y. r (x y)) same ∙ ap r owner_has ∙ near.waits.unscanned in omega arith

  -- a scanned object is another one
  not_j : (k : ℕ) → 0 < r k → k ≢ j
  not_j k h same = let z : r k ≡ 0 = ap r same ∙ near.waits.unscanned in omega arith

  still : (q : ℕ) → IsScanned s x r q → IsScanned s x r2 q
  still q (inl e) = inl e
  still q (inr h) = let same = scan.ranks (x q) (not_j (x q) h) in inr (omega arith)

  was : (q : ℕ) → IsScanned s x r2 q → IsScanned s x r q ⊎ (q ≡ i)
  was q (inl e) = inl (inl e)
  was q (inr h) = elim (cases_eq (x q) j) [
    | inl same ↦
        let own = plan.matched.owning q (omega arith) in
        let e : o (x q) ≡ i = ap o same ∙ owner in
        inr (sym own.back ∙ e)
    | inr ne ↦ let same = scan.ranks (x q) ne in inl (inr (omega arith))
  ]

  kept_cost : (k : ℕ) → 0 < r2 k → d2 k ≡ d k
  kept_cost k h = elim (scan.relaxed k) [
    | inl kept ↦ kept.cost
    | inr low ↦ let z = low.unscanned in absurd (omega arith)
  ]

  kept_person : (k : ℕ) → 0 < r2 k → f2 k ≡ f k
  kept_person k h = elim (scan.relaxed k) [
    | inl kept ↦ kept.person
    | inr low ↦ let z = low.unscanned in absurd (omega arith)
  ]

  new_rank : 0 < r2 j
  new_rank = let h = scan.rank in omega arith

  -- the step from the new person to its own object
  own_step : IsStep c d2 v2 i j
  own_step = record {
    listed = (subst (λ k. IsChosen c p i k) owner_has (plan.chosen i (let h = owner_has in omega arith))).listed;
    sum = let a = kept_cost j new_rank in let b = scan.cost in omega (arith, ints);
  }

  -- the path over the new person is no nearer than its object
  no_nearer : (k : ℕ) → c i k <ℤ UNLISTED → (d j +ℤ p j) ≤ℤ ((v2 i +ℤ c i k) +ℤ p k)
  no_nearer k listed =
      let h = (subst (λ q. IsChosen c p i q) owner_has (plan.chosen i (let h = owner_has in omega arith))).least k
      listed in
      let b = scan.cost in omega (arith, ints)

  -- an old step
  step_on : (q k : ℕ) → IsScanned s x r q → d2 k ≡ d k → IsStep c d v q k → IsStep c d2 v2 q k
  step_on q k h same step = record {
    listed = step.listed;
    sum = let a = scan.costs q (not_new q h) in let b = step.sum in omega (arith, ints);
  }

  labelled_now : (k : ℕ) → 0 < f2 k → IsLabelled c x s d2 v2 f2 r2 k
  labelled_now k h = elim (scan.relaxed k) [
    | inl kept ↦
        let e = kept.person in
        let old = tree.labelled k (omega arith) in
        let step = step_on (f k) k old.scanned kept.cost old.step in
        record {
          scanned = subst (IsScanned s x r2) (sym e) (still (f k) old.scanned);
          step = subst
              (λ q. IsStep c d2 v2 q k) (sym e) step;
        }
    | inr low ↦
        let e = low.person in
        let step : IsStep c d2 v2 i k = record { listed = low.listed; sum = low.cost } in
        record {
          scanned = subst (IsScanned s x r2) (sym e) (inr (subst (λ y. 0 < r2 y) (sym owner_has) new_rank));
          step = subst (λ q. IsStep c d2 v2 q k) (sym e) step;
        }
  ]

  -- nothing that a path has grows
  on_old : (q k : ℕ) → IsScanned s x r q → c q k <ℤ UNLISTED → IsCovered c d2 v2 f2 q k
  on_old q k h listed =
      let old = tree.covered q k h listed in
      let a = old.labelled in
      let b = old.least in
      let same = scan.costs q (not_new q h) in
      elim (scan.relaxed k) [
        | inl kept ↦
            let e = kept.person in let z = kept.cost in
            record { labelled = omega arith; least = omega (arith, ints) }
        | inr low ↦
            let e = low.person in let z = low.better a in
            record { labelled = omega arith; least = omega (arith, ints) }
      ]

  at_most : (k : ℕ) → 0 < r2 k → (0 < f k) × ((d k +ℤ p k) ≤ℤ (d j +ℤ p j))
  at_most k h = elim (cases_eq k j) [
    | inl same ↦
        let a : f k ≡ f j = ap f same in
        let b : d k ≡ d j = ap d same in
        let e : p k ≡ p j = ap p same in
        let w = near.waits.labelled in
        (omega arith, omega (arith, ints))
    | inr ne ↦
        let a = scan.ranks k ne in
        let old = tree.passed k (omega arith) in
        let b = old.near in
        let w = tree.waiting j near.waits.unscanned near.waits.labelled in
        (old.labelled, omega (arith, ints))
  ]

  on_new : (k : ℕ) → c i k <ℤ UNLISTED → IsCovered c d2 v2 f2 i k
  on_new k listed = elim (scan.relaxed k) [
    | inl kept ↦
        let e = kept.person in let z = kept.cost in
        elim (none_or_some (r2 k)) [
          | inl none ↦
              let a = kept.labelled listed none in let b = kept.least listed none in
              record { labelled = omega arith; least = omega (arith, ints) }
          | inr ranked ↦
              let a = at_most k ranked in
              let a0 = a.0 in let a1 = a.1 in
              let b = no_nearer k listed in
              record { labelled = omega arith; least = omega (arith, ints) }
        ]
    | inr low ↦
        let e = low.person in let z = low.cost in
        record { labelled = omega arith; least = omega (arith, ints) }
  ]

  covered_now : (q k : ℕ) → IsScanned s x r2 q → c q k <ℤ UNLISTED → IsCovered c d2 v2 f2 q k
  covered_now q k h listed = elim (was q h) [
    | inl old ↦ on_old q k old listed
    | inr e ↦ subst (λ y. IsCovered c d2 v2 f2 y k) (sym e) (on_new k (subst (λ y. c y k <ℤ UNLISTED) e listed))
  ]

  -- the rank of the object that a path came from
  before : (k : ℕ) → 0 < f k → r2 (x (f k)) ≡ r (x (f k))
  before k h = elim (cases_eq (x (f k)) j) [
    | inl same ↦
        let old = (tree.labelled k h).scanned in
        let own = plan.matched.owning (f k) (omega arith) in
        absurd (not_new (f k) old (sym own.back ∙ ap o same ∙ owner))
    | inr ne ↦ scan.ranks (x (f k)) ne
  ]

  before_j : r (x (f j)) ≤ t
  before_j = elim (none_or_some (r (x (f j)))) [
    | inl none ↦ omega arith
    | inr some_rank ↦ (tree.passed (x (f j)) some_rank).within
  ]

  passed_now : (k : ℕ) → 0 < r2 k → IsPassed p o x (t + 1) (d j +ℤ p j) d2 f2 r2 k
  passed_now k h =
      let a = at_most k h in
      let a0 = a.0 in let a1 = a.1 in
      let z = kept_cost k h in
      let e = kept_person k h in
      let b = before k a0 in
      let g : r2 (x (f2 k)) ≡ r2 (x (f k)) = ap (λ y. r2 (x y)) e in
      elim (cases_eq k j) [
        | inl same ↦
            let rank : r2 k ≡ t + 1 = ap r2 same ∙ scan.rank in
            let low : r (x (f k)) ≤ t = subst (λ y. r (x (f y)) ≤ t) (sym same) before_j in
            let own : o k ≡ i = ap o same ∙ owner in
            record {
              labelled = omega arith;
              owned = omega arith;
              later = omega arith;
              within = omega arith;
              near = omega (arith, ints);
            }
        | inr ne ↦
            let rank = scan.ranks k ne in
            let old = tree.passed k (omega arith) in
            let l = old.later in let w = old.within in
            record {
              labelled = omega arith;
              owned = old.owned;
              later = omega arith;
              within = omega arith;
              near = omega
                  (arith, ints);
            }
      ]

  waiting_now : (k : ℕ) → r2 k ≡ 0 → 0 < f2 k → (d j +ℤ p j) ≤ℤ (d2 k +ℤ p k)
  waiting_now k none h = elim (cases_eq k j) [
    | inl same ↦ let rank : r2 k ≡ t + 1 = ap r2 same ∙ scan.rank in absurd (omega arith)
    | inr ne ↦
        let rank = scan.ranks k ne in
        elim (scan.relaxed k) [
          | inl kept ↦
              let e = kept.person in let z = kept.cost in
              let least = near.least k (record { labelled = omega arith; unscanned = omega arith }) in
              omega (arith, ints)
          | inr low ↦
              let z = low.cost in let b = no_nearer k low.listed in omega (arith, ints)
        ]
  ]

  own_now : (q : ℕ) → 0 < r2 (x q) → IsStep c d2 v2 q (x q)
  own_now q h = elim (was q (inr h)) [
    | inl old ↦ own_old q h old
    | inr e ↦ subst (λ y. IsStep c d2 v2 y (x y)) (sym e) (subst (IsStep c d2 v2 i) (sym owner_has) own_step)
  ] where
    own_old : (y : ℕ) → 0 < r2 (x y) → IsScanned s x r y → IsStep c d2 v2 y (x y)
    own_old y h2 (inl e) = let z : r2 (x y) ≡ r2 0 = ap r2 (ap x e ∙ tree.alone) in
        let b = scan.ranks 0 (λ e0. let g : 0 ≡ j = e0 in omega arith) in let g = tree.nobody in absurd (omega arith)
    own_old y h2 (inr ranked) = step_on y (x y) (inr ranked) (kept_cost (x y) h2) (tree.own y ranked)

  -- the new person's path costs about as much as that of the person before it
  new_close : IsScanned s x r (f j) × ((v2 i -ℤ v (f j)) ≤ℤ pos 2000000000000) ×
      ((v (f j) -ℤ v2 i) ≤ℤ pos 2000000000000)
  new_close =
      let old = tree.labelled j near.waits.labelled in
      let sum = old.step.sum in
      let b = scan.cost in
      let one = costs (f j) j old.step.listed in
      let other = costs i j own_step.listed in
      let one0 = one.least in let one1 = one.greatest in
      let other0 = other.least in let other1 = other.greatest in
      (old.scanned, omega (arith, ints), omega (arith, ints))

  close_now : (q y : ℕ) → IsScanned s x r2 q → IsScanned s x r2 y → (v2 q -ℤ v2 y) ≤ℤ pos ((t + 1) * 2000000000000)
  close_now q y h g =
      let b = new_close in
      let b1 = b.1 in let b2 = b.2 in
      elim (was q h) [
        | inl old ↦
            let e = scan.costs q (not_new q old) in
            elim (was y g) [
              | inl older ↦ let z = scan.costs y (not_new y older) in let w = tree.close q y old older in
                  omega (arith, ints)
              | inr new ↦ let z : v2 y ≡ v2 i = ap v2 new in let w = tree.close q (f j) old b.0 in omega (arith, ints)
            ]
        | inr new ↦
            let e : v2 q ≡ v2 i = ap v2 new in
            elim (was y g) [
              | inl older ↦ let z = scan.costs y (not_new y older) in let w = tree.close (f j) y b.0 older in
                  omega (arith, ints)
              | inr new2 ↦ let z : v2 y ≡ v2 i = ap v2 new2 in omega (arith, ints)
            ]
      ]

  pub tree_grows : IsTree c p o x s (t + 1) (d j +ℤ p j) d2 v2 f2 r2
  tree_grows = record {
    some = tree.some;
    alone = tree.alone;
    start = scan.costs s (not_new s (inl refl)) ∙ tree.start;
    nobody = scan.ranks 0 (λ e. omega arith) ∙ tree.nobody;
    labelled = labelled_now;
    covered = covered_now;
    passed = passed_now;
    waiting = waiting_now;
    own = own_now;
    close = close_now;
  }
