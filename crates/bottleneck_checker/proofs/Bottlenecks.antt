-- Why persons who are short of objects at better costs show a bottleneck, and what a verdict says of an assignment.
use Rattle.std.proofs.Common.{◌≡◌, ◌↔◌, ℕ, ℤ, ◌≤ℤ◌, List, [], length, IsSome, IsTrue, Bool, true, false, rules, arith, sym, refl}
use Rattle.std.proofs.lemmas.Int.{ints, by_lt_z}
use Rattle.assign_core.specs.declared.sense.Sense.{Sense}
use Rattle.assign_core.specs.declared.sense.Sense.TheVariants.{Min, Max}
use Rattle.assign_core.specs.Rows.{Listing, listed_in, row_of}
use Rattle.assign_core.specs.Assignment.{IsAssignment, IsNoWorse}
use Rattle.assign_core.proofs.Listed.{length_zip}
use Rattle.assign_core.proofs.Zips.{pair_number}
use Rattle.dual_checker.specs.Faults.{AreLong, IsFirst, IsGivenTwice, IsUnlisted, own_object}
use Rattle.dual_checker.proofs.Givings.{once_at_most}
use Rattle.cost_lists.specs.ListedCosts.{ListedCosts}
use Rattle.cost_lists.proofs.BlockHall.{few_for_owners}
use Rattle.cost_lists.proofs.ExactDuality.{some_cost}
use Rattle.exact_checker.specs.Faults.{IsBetter}
use Rattle.exact_checker.specs.Verdicts.{IsVerdict}
use Rattle.exact_checker.specs.declared.verdict.Verdict.{Verdict}
use Rattle.exact_checker.specs.declared.verdict.Verdict.TheVariants.{Length, Unlisted, Twice, PriceRange, Slack, Overpriced, Yes}
use Rattle.bottleneck_checker.specs.Bottleneck.{ShortMeansBottleneck, own_cost}

no_worse_unless : (sense : Sense) (b c : ℤ) → (IsBetter sense c b → ⊥) → IsNoWorse sense b c
no_worse_unless Min b c h = by_lt_z {P = b ≤ℤ c} c b (λ lt. absurd (h lt)) (λ le. le)
no_worse_unless Max b c h = by_lt_z {P = c ≤ℤ b} b c (λ lt. absurd (h lt)) (λ le. le)

better_too : (sense : Sense) (a c b : ℤ) → IsNoWorse sense a c → IsBetter sense c b → IsBetter sense a b
better_too Min a c b le lt = omega (arith, ints)
better_too Max a c b le lt = omega (arith, ints)

pub shown_best : ShortMeansBottleneck
shown_best l xs b persons objects s = record {
  assigned = s.assigned;
  worst = s.worst;
  best = λ ys c a w. no_worse_unless l.sense b c (λ better.
      let fewer = s.short.fewer in
      let most = few_for_owners l.rows persons objects ys s.short.persons_rise s.short.persons_in (λ i has number.
      let seen = pair_number (λ row x. IsSome (listed_in row x)) l.rows ys i [] 0 a.listed number.first number.last in
      s.short.only i (own_object ys i) (own_cost l.rows ys i) has (some_cost (listed_in (row_of l.rows i) (own_object ys i)) seen)
      (better_too l.sense (own_cost l.rows ys i) c b (w.none_worse i number) better)) a in
      omega arith);
}

-- verdicts that exclude an assignment
not_long : (l : ListedCosts) (xs : List ℕ) (prices : List ℤ) → length prices ≡ l.m → ¬ AreLong l.m l.rows xs prices → ¬ IsAssignment l.rows xs
not_long l xs prices long h a = h (record { objects = sym (length_zip (λ row j. IsSome (listed_in row j)) l.rows xs a.listed); prices_too = long })

not_unlisted : (rows : List Listing) (xs : List ℕ) (i : ℕ) → IsFirst (IsUnlisted rows xs) (length rows) i → ¬ IsAssignment rows xs
not_unlisted rows xs i f a = f.here (pair_number (λ row j. IsSome (listed_in row j)) rows xs i [] 0 a.listed f.number.first f.number.last)

not_twice : (rows : List Listing) (xs : List ℕ) (n j : ℕ) → IsFirst (IsGivenTwice xs) n j → ¬ IsAssignment rows xs
not_twice rows xs n j f a = let once = once_at_most xs j a.apart in let more = f.here in omega arith

abbrev is_assigned : Verdict → Bool
is_assigned Length = false
is_assigned (Unlisted i) = false
is_assigned (Twice j) = false
is_assigned v = true

pub assigned_by : (l : ListedCosts) (xs : List ℕ) (prices : List ℤ) (v : Verdict) → length prices ≡ l.m → IsVerdict l xs prices v →
    IsTrue (is_assigned v) ↔ IsAssignment l.rows xs
assigned_by l xs prices Length long h = ((λ e. absurd (search rules)), (λ a. absurd (not_long l xs prices long h a)))
assigned_by l xs prices (Unlisted i) long h = ((λ e. absurd (search rules)), (λ a. absurd (not_unlisted l.rows xs i h.1 a)))
assigned_by l xs prices (Twice j) long h = ((λ e. absurd (search rules)), (λ a. absurd (not_twice l.rows xs l.m j h.2 a)))
assigned_by l xs prices (PriceRange j) long h = ((λ e. h.1), (λ a. refl))
assigned_by l xs prices (Slack i k) long h = ((λ e. h.0.assigned), (λ a. refl))
assigned_by l xs prices (Overpriced j) long h = ((λ e. h.0.assigned), (λ a. refl))
assigned_by l xs prices Yes long h = ((λ e. h.assigned), (λ a. refl))
