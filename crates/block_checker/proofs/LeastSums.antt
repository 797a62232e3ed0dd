-- Least sums: of one more cost, and as what persons list.
use Rattle.std.proofs.Common.{◌≡◌, ℕ, ℤ, pos, ◌+◌, ◌≤ℤ◌, ◌<◌, List, length, get_or, set, replicate}
use Rattle.std.proofs.Common.{◌⊎◌, inl, inr, arith, ap, sym, subst, ◌∙◌}
use Rattle.std.specs.Int.{int_min}
use Rattle.std.proofs.lemmas.Bool.Decides.{eqb_tells}
use Rattle.std.proofs.lemmas.Int.{ints, clamps, by_lt_z}
use Rattle.std.proofs.lemmas.List.{get_or-set_other, get_or-set_same, get_or-replicate, length-replicate, length-set}
use Rattle.assign_core.specs.declared.sense.Sense.{Sense}
use Rattle.assign_core.proofs.NumberedLemmas.{low_or_same}
use Rattle.cost_lists.specs.declared.numbers.TheConstants.{UNLISTED}
use Rattle.cost_lists.specs.declared.source.Pairs.{Pairs}
use Rattle.exact_checker.specs.inside.Sums.{sum_at}
use Rattle.block_checker.specs.inside.Least.{AreLeastOf, IsLeastOf, IsLeastOfRow, IsPairOf, sum_of_pair}

-- the lesser of two numbers is one of them, and above none
lesser : (x y r : ℤ) → r ≡ int_min x y → ((r ≡ x) ⊎ (r ≡ y)) × (r ≤ℤ x) × (r ≤ℤ y)
lesser x y r e = by_lt_z {P = ((r ≡ x) ⊎ (r ≡ y)) × (r ≤ℤ x) × (r ≤ℤ y)} y x
    (λ lt. (inr (omega (arith, ints, clamps)), omega (arith, ints, clamps), omega (arith, ints, clamps)))
    (λ le. (inl (omega (arith, ints, clamps)), omega (arith, ints, clamps), omega (arith, ints, clamps)))

-- one more sum of a row
pub row_more : (sense : Sense) (costs prices : List ℤ) (k : ℕ) (least sum new : ℤ) → IsLeastOfRow sense costs prices k least →
    sum ≡ sum_at sense costs prices k → new ≡ int_min least sum → IsLeastOfRow sense costs prices (k + 1) new
row_more sense costs prices k least sum new h is e =
    let l = lesser least sum new e in record {
      none_below = λ j lt. elim (low_or_same j k lt) [
        | inl below ↦ let a = h.none_below j below in let b = l.1 in omega (arith, ints)
        | inr same ↦ let here = ap (sum_at sense costs prices) same in let b = l.2 in omega (arith, ints)
      ];
      reached = elim l.0 [
        | inl old ↦ elim h.reached [
          | inl mark ↦ inl (old ∙ mark)
          | inr at ↦ inr (at.0, omega (arith, at.1), old ∙ at.2)
        ]
        | inr new ↦ inr (k, omega arith, new ∙ is)
      ];
    }

module _ (sense : Sense) (pairs : Pairs) (prices : List ℤ) where
  -- one more pair, of another person
  later : (k i : ℕ) (v : ℤ) → (IsPairOf pairs i k → ⊥) → IsLeastOf sense pairs prices k i v → IsLeastOf sense pairs prices (k + 1) i v
  later k i v other h = record {
    none_below = λ q lt this. elim (low_or_same q k lt) [
      | inl below ↦ h.none_below q below this
      | inr same ↦ absurd (other (subst (IsPairOf pairs i) same this))
    ];
    reached = elim h.reached [ inl mark ↦ inl mark | inr at ↦ inr (at.0, omega (arith, at.1), at.2, at.3) ];
  }

  -- or of this one
  taken : (k i : ℕ) (v w : ℤ) → IsPairOf pairs i k → w ≡ int_min v (sum_of_pair sense pairs prices k) → IsLeastOf sense pairs prices k i v →
      IsLeastOf sense pairs prices (k + 1) i w
  taken k i v w this e h =
      let l = lesser v (sum_of_pair sense pairs prices k) w e in record {
        none_below = λ q lt here. elim (low_or_same q k lt) [
          | inl below ↦ let a = h.none_below q below here in let b = l.1 in omega (arith, ints)
          | inr same ↦ let s = ap (sum_of_pair sense pairs prices) same in let b = l.2 in omega (arith, ints)
        ];
        reached = elim l.0 [
          | inl old ↦ elim h.reached [
            | inl mark ↦ inl (old ∙ mark)
            | inr at ↦ inr (at.0, omega (arith, at.1), at.2, old ∙ at.3)
          ]
          | inr new ↦ inr (k, omega arith, this, new)
        ];
      }

  pub none_read : (n : ℕ) (least : List ℤ) → least ≡ replicate n UNLISTED → AreLeastOf sense pairs prices 0 least
  none_read n least e i lt =
      let few : i < n = let long : length least ≡ n = ap length e ∙ length-replicate n UNLISTED in omega arith in
      record {
        none_below = λ q below. absurd (omega arith);
        reached = inl (ap (λ l. get_or l i (pos 0)) e ∙ get_or-replicate n i UNLISTED (pos 0) few);
      }

  pub one_more : (k p : ℕ) (least : List ℤ) (w : ℤ) → IsPairOf pairs p k → p < length least →
      w ≡ int_min (get_or least p (pos 0)) (sum_of_pair sense pairs prices k) → AreLeastOf sense pairs prices k least →
      AreLeastOf sense pairs prices (k + 1) (set least p w)
  one_more k p least w this room e h i lt =
      let long = length-set least p w in
      elim (eqb_tells i p) [
        | inl s ↦
            let read = ap (λ j. get_or (set least p w) j (pos 0)) s.1 ∙ get_or-set_same least p w (pos 0) room in
            subst (IsLeastOf sense pairs prices (k + 1) i) (sym read)
            (taken k i (get_or least i (pos 0)) w (this ∙ sym s.1) (e ∙ ap (λ j. int_min (get_or least j (pos 0)) (sum_of_pair sense pairs prices k)) (sym s.1))
            (h i (omega arith)))
        | inr s ↦
            subst (IsLeastOf sense pairs prices (k + 1) i) (sym (get_or-set_other least p i w (pos 0) s.1))
            (later k i (get_or least i (pos 0)) (λ other. s.1 (sym other ∙ this)) (h i (omega arith)))
      ]
