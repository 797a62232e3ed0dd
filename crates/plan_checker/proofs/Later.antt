-- A pair by one further list after the other.
use Rattle.std.proofs.Common.{◌≡◌, ◌↔◌, ℕ, ℤ, ◌+ℤ◌, ◌≤ℤ◌, ◌<ℤ◌, ◌<◌, inl, inr, arith, subst}
use Rattle.std.proofs.lemmas.Int.{ints}
use Rattle.std.proofs.lemmas.Bool.{cases_lt}
use Rattle.plan_checker.specs.declared.rises.Plan.{Plan}
use Rattle.plan_checker.specs.inside.Rises.{IsHigher, RisesLater, StaysOpen, other_sum, own_other_sum}

module _ (p : Plan) (i k : ℕ) (cost : ℤ) where
  -- list s doesn't show that the pair costs less than the own one, and leaves it open
  abbrev pub IsOpenBy : ℕ → Type 0
  IsOpenBy s = (own_other_sum p s i ≤ℤ other_sum p s k cost) × (other_sum p s k cost <ℤ (own_other_sum p s i +ℤ p.bound))

  abbrev pub IsOpenBefore : ℕ → Type 0
  IsOpenBefore t = (s : ℕ) → s < t → IsOpenBy s

  stays : (t : ℕ) → IsOpenBefore t → StaysOpen p t i k cost
  stays t before s lt = (before s lt).1

  pub cheaper : (t : ℕ) → t < p.count → IsOpenBefore t → other_sum p t k cost <ℤ own_other_sum p t i → RisesLater p i k cost → ⊥
  cheaper t lt before less r = let here = r.proved t lt (stays t before) in omega (arith, ints)

  pub dearer : (t : ℕ) → t < p.count → IsOpenBefore t → own_other_sum p t i ≤ℤ other_sum p t k cost →
      (other_sum p t k cost <ℤ (own_other_sum p t i +ℤ p.bound) → ⊥) → RisesLater p i k cost
  dearer t lt before low far = record {
    proved = λ s room still. elim (cases_lt s t) [
      | inl earlier ↦ (before s earlier).0
      | inr past ↦ elim (cases_lt t s) [
        | inl later ↦ absurd (far (still t later))
        | inr upto ↦ let e : t ≡ s = omega arith in subst (λ z. own_other_sum p z i ≤ℤ other_sum p z k cost) e low
      ]
    ];
    higher = λ still. absurd (far (still t lt));
  }

  pub open_by_all : IsOpenBefore p.count → RisesLater p i k cost ↔ IsHigher p i k
  open_by_all before = ((λ r. r.higher (stays p.count before)), (λ h. record { proved = λ t lt still. (before t lt).0; higher = λ still. h }))
