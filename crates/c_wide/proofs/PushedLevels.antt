-- Levels of own pairs, one person after another.
use Rattle.std.proofs.Common.{◌≡◌, ℕ, ℤ, List, [], ◌∷◌, ◌++◌, pos, ◌-◌, ◌+◌, get_or, arith, sym, ap, subst, ◌∙◌, inl, inr}
use Rattle.std.proofs.lemmas.List.{length-append, get_or_append_left, get_or-append_right}
use Rattle.assign_core.proofs.NumberedLemmas.{low_or_same}
use Rattle.c_wide.specs.declared.fewest.priced.Priced.{Priced}
use Rattle.c_wide.specs.fewest.Priced.{AreLevels, level_at}

pub level_pushed : (g : Priced) (xs : List ℕ) (k : ℕ) (level : ℤ) (before after : List ℤ) → after ≡ before ++ level ∷ [] →
    AreLevels g xs k before → level ≡ level_at g k (get_or xs k 0 - 1) → AreLevels g xs (k + 1) after
level_pushed g xs k level before after is are here = subst (AreLevels g xs (k + 1)) (sym is) (record {
  long = length-append before (level ∷ []) ∙ ap (λ (q : ℕ). q + 1) are.long;
  each = λ i lt. elim (low_or_same i k lt) [
    | inl less ↦ get_or_append_left before (level ∷ []) (pos 0) i (omega (arith, less, are.long)) ∙ are.each i less
    | inr same ↦
        let none : i - k ≡ 0 = omega (arith, same) in
        get_or-append_right before (level ∷ []) k i (pos 0) are.long (omega (arith, same))
        ∙ ap (λ (q : ℕ). get_or (level ∷ []) q (pos 0)) none
        ∙ here
        ∙ ap (λ (q : ℕ). level_at g q (get_or xs q 0 - 1)) (sym same)
  ];
})
