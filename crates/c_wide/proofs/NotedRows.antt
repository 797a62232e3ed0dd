-- Tight pairs, one object or one person after another.
use Rattle.std.proofs.Common.{ℕ, ℤ, pos, ◌+◌, ◌<ℤ◌, ◌⊎◌, ◌≡◌, ◌++◌, ◌∷◌, [], List, length, get_or, sym, subst, inl, inr}
use Rattle.std.specs.List.{Contains}
use Rattle.std.proofs.lemmas.List.Elements.{Contains-append_left, Contains-push}
use Rattle.assign_core.specs.declared.sense.Sense.{Sense}
use Rattle.assign_core.proofs.NumberedLemmas.{low_or_same}
use Rattle.cost_lists.specs.Source.{part_of}
use Rattle.exact_checker.specs.inside.Sums.{sum_at}
use Rattle.c_wide.specs.declared.fewest.tight.Tight.{Tight}
use Rattle.c_wide.specs.fewest.Tight.{AreNoted, AreTight, IsIn, pair}

still_noted : (sense : Sense) (row prices : List ℤ) (value : ℤ) (person k : ℕ) (before after : List Tight) → IsIn before after →
    AreNoted sense row prices value person k before → AreNoted sense row prices value person k after
still_noted sense row prices value person k before after stays noted j lt = elim (noted j lt) [
  | inl above ↦ inl above
  | inr has ↦ inr (stays (pair person j) has)
]

object_noted : (sense : Sense) (row prices : List ℤ) (value : ℤ) (person k : ℕ) (before after : List Tight) → IsIn before after →
    AreNoted sense row prices value person k before → ((value <ℤ sum_at sense row prices k) ⊎ Contains after (pair person k)) →
    AreNoted sense row prices value person (k + 1) after
object_noted sense row prices value person k before after stays noted here j lt = elim (low_or_same j k lt) [
  | inl less ↦ still_noted sense row prices value person k before after stays noted j less
  | inr same ↦ subst (λ (q : ℕ). (value <ℤ sum_at sense row prices q) ⊎ Contains after (pair person q)) (sym same) here
]

-- a pair that is pushed
pub pair_pushed : (sense : Sense) (row prices : List ℤ) (value : ℤ) (person k : ℕ) (start before after : List Tight) →
    after ≡ before ++ pair person k ∷ [] → AreNoted sense row prices value person k before → IsIn start before →
    AreNoted sense row prices value person (k + 1) after × IsIn start after
pair_pushed sense row prices value person k start before after is noted stays =
    let more : IsIn before after = λ t has. subst (λ (l : List Tight). Contains l t) (sym is) (Contains-append_left before (pair person k ∷ []) t has) in
    let here : Contains after (pair person k) = subst (λ (l : List Tight). Contains l (pair person k)) (sym is) (Contains-push before (pair person k)) in
    (object_noted sense row prices value person k before after more noted (inr here), λ t has. more t (stays t has))

-- a pair that is left out
pub pair_skipped : (sense : Sense) (row prices : List ℤ) (value : ℤ) (person k : ℕ) (before : List Tight) →
    AreNoted sense row prices value person k before → value <ℤ sum_at sense row prices k → AreNoted sense row prices value person (k + 1) before
pair_skipped sense row prices value person k before noted above = object_noted sense row prices value person k before before (λ t has. has) noted (inl above)

pub person_noted : (sense : Sense) (costs prices values : List ℤ) (k : ℕ) (before after : List Tight) → IsIn before after →
    AreTight sense costs prices values k before →
    AreNoted sense (part_of (length prices) k costs) prices (get_or values k (pos 0)) k (length prices) after →
    AreTight sense costs prices values (k + 1) after
person_noted sense costs prices values k before after stays noted here i lt = elim (low_or_same i k lt) [
  | inl less ↦
      still_noted sense (part_of (length prices) i costs) prices (get_or values i (pos 0)) i (length prices) before after stays (noted i less)
  | inr same ↦
      subst (λ (q : ℕ). AreNoted sense (part_of (length prices) q costs) prices (get_or values q (pos 0)) q (length prices) after) (sym same) here
]
