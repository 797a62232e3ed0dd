-- Each verdict excludes the others.
use Rattle.std.proofs.Common.{◌≡◌, ℕ, ℤ, pos, List, [], length, map, nat_eq, All, arith, ap, ◌∙◌, sym, refl, subst, IsSome}
use Rattle.std.proofs.lemmas.List.{length-map}
use Rattle.std.specs.List.{IsDistinct}
use Rattle.assign_core.specs.declared.sense.Sense.{Sense}
use Rattle.assign_core.specs.Rows.{Listing, listed_in, row_of}
use Rattle.assign_core.specs.Assignment.{AreListed}
use Rattle.assign_core.specs.Benefits.{benefit_row}
use Rattle.assign_core.specs.Prices.{IsPrice}
use Rattle.assign_core.specs.Slackness.{AllSlack, HasSlack}
use Rattle.assign_core.proofs.Listed.{length_zip}
use Rattle.assign_core.proofs.NumberedLemmas.{All-numbered}
use Rattle.assign_core.proofs.Zips.{pair_number}
use Rattle.dual_checker.specs.declared.verdict.Verdict.TheVariants.{Length, Unlisted, Twice, PriceRange, Slack, Yes}
use Rattle.dual_checker.specs.Faults.{IsFirst, AreLong, IsUnlisted, IsGivenTwice, IsOutOfRange, BreaksSlackOf, IsShort, own_object}
use Rattle.dual_checker.specs.declared.verdict.Verdict.{Verdict}
use Rattle.dual_checker.specs.Verdicts.{IsFault, IsSlackAssignment, IsVerdict, VerdictsDiffer}
use Rattle.dual_checker.proofs.Firsts.{firsts_agree}
use Rattle.dual_checker.proofs.Givings.{once_at_most}
use Rattle.dual_checker.proofs.Worths.{slack_unbroken}

long : (sense : Sense) (m : ℕ) (rows : List Listing) (xs : List ℕ) (prices : List ℤ) → IsSlackAssignment sense m rows xs prices → AreLong m rows xs prices
long sense m rows xs prices c = record { objects = sym (length_zip _ rows xs c.assigned.listed); prices_too = c.priced }

not_unlisted : (rows : List Listing) (xs : List ℕ) (i : ℕ) → AreListed rows xs → IsFirst (IsUnlisted rows xs) (length rows) i → ⊥
not_unlisted rows xs i h f = f.here (pair_number (λ row j. IsSome (listed_in row j)) rows xs i [] 0 h f.number.first f.number.last)

not_twice : (xs : List ℕ) (n j : ℕ) → IsDistinct nat_eq xs → IsFirst (IsGivenTwice xs) n j → ⊥
not_twice xs n j h f = let a = once_at_most xs j h in let b = f.here in omega arith

not_out : (prices : List ℤ) (n j : ℕ) → length prices ≡ n → All IsPrice prices → IsFirst (IsOutOfRange prices) n j → ⊥
not_out prices n j l h f = f.here (All-numbered IsPrice prices j (pos 0) h f.number.first (let b = f.number.last in omega arith))

not_short : (sense : Sense) (m : ℕ) (rows : List Listing) (xs : List ℕ) (prices : List ℤ) (i : ℕ) →
    AllSlack (pos 1) prices (map (benefit_row sense m) rows) xs →
    IsFirst (IsShort sense m rows xs prices) (length rows) i → ⊥
not_short sense m rows xs prices i h f =
    let e : length (map (benefit_row sense m) rows) ≡ length rows = simp length-map in
    let slack = pair_number (HasSlack (pos 1) prices) (map (benefit_row sense m) rows) xs i [] 0 h f.number.first (let b = f.number.last in omega arith) in
    slack_unbroken (pos 1) prices (row_of (map (benefit_row sense m) rows) i) (own_object xs i) f.here.0 slack f.here.1

pub faults_differ : (sense : Sense) (m : ℕ) (rows : List Listing) (xs : List ℕ) (prices : List ℤ) (v w : Verdict) →
    IsFault sense m rows xs prices v → IsFault sense m rows xs prices w → v ≡ w
faults_differ s m r x p Length Length a b = refl
faults_differ s m r x p Length (Unlisted j) a b = absurd (a b.0)
faults_differ s m r x p Length (Twice j) a b = absurd (a b.0)
faults_differ s m r x p Length (PriceRange j) a b = absurd (a b.0)
faults_differ s m r x p Length (Slack j k) a b = absurd (a b.0)
faults_differ s m r x p Length Yes a b = absurd (a (long s m r x p b))
faults_differ s m r x p (Unlisted i) Length a b = absurd (b a.0)
faults_differ s m r x p (Unlisted i) (Unlisted j) a b = ap Unlisted (firsts_agree _ _ i j a.1 b.1)
faults_differ s m r x p (Unlisted i) (Twice j) a b = absurd (not_unlisted r x i b.1 a.1)
faults_differ s m r x p (Unlisted i) (PriceRange j) a b = absurd (not_unlisted r x i b.1.listed a.1)
faults_differ s m r x p (Unlisted i) (Slack j k) a b = absurd (not_unlisted r x i b.1.listed a.1)
faults_differ s m r x p (Unlisted i) Yes a b = absurd (not_unlisted r x i b.assigned.listed a.1)
faults_differ s m r x p (Twice i) Length a b = absurd (b a.0)
faults_differ s m r x p (Twice i) (Unlisted j) a b = absurd (not_unlisted r x j a.1 b.1)
faults_differ s m r x p (Twice i) (Twice j) a b = ap Twice (firsts_agree _ _ i j a.2 b.2)
faults_differ s m r x p (Twice i) (PriceRange j) a b = absurd (not_twice x _ i b.1.apart a.2)
faults_differ s m r x p (Twice i) (Slack j k) a b = absurd (not_twice x _ i b.1.apart a.2)
faults_differ s m r x p (Twice i) Yes a b = absurd (not_twice x _ i b.assigned.apart a.2)
faults_differ s m r x p (PriceRange i) Length a b = absurd (b a.0)
faults_differ s m r x p (PriceRange i) (Unlisted j) a b = absurd (not_unlisted r x j a.1.listed b.1)
faults_differ s m r x p (PriceRange i) (Twice j) a b = absurd (not_twice x _ j a.1.apart b.2)
faults_differ s m r x p (PriceRange i) (PriceRange j) a b = ap PriceRange (firsts_agree _ _ i j a.2 b.2)
faults_differ s m r x p (PriceRange i) (Slack j k) a b = absurd (not_out p _ i b.0.prices_too b.2 a.2)
faults_differ s m r x p (PriceRange i) Yes a b = absurd (not_out p _ i b.priced b.in_range a.2)
faults_differ s m r x p (Slack i l) Length a b = absurd (b a.0)
faults_differ s m r x p (Slack i l) (Unlisted j) a b = absurd (not_unlisted r x j a.1.listed b.1)
faults_differ s m r x p (Slack i l) (Twice j) a b = absurd (not_twice x _ j a.1.apart b.2)
faults_differ s m r x p (Slack i l) (PriceRange j) a b = absurd (not_out p _ j a.0.prices_too a.2 b.2)
faults_differ s m r x p (Slack i l) (Slack j k) a b =
    let e = firsts_agree _ _ i j a.3 b.3 in
    let o = firsts_agree (BreaksSlackOf s m r x p j) m l k (subst (λ q. IsFirst (BreaksSlackOf s m r x p q) m l) e a.4) b.4 in
    ap (λ q. Slack q l) e ∙ ap (λ q. Slack j q) o
faults_differ s m r x p (Slack i l) Yes a b = absurd (not_short s m r x p i b.slack a.3)
faults_differ s m r x p Yes Length a b = absurd (b (long s m r x p a))
faults_differ s m r x p Yes (Unlisted j) a b = absurd (not_unlisted r x j a.assigned.listed b.1)
faults_differ s m r x p Yes (Twice j) a b = absurd (not_twice x _ j a.assigned.apart b.2)
faults_differ s m r x p Yes (PriceRange j) a b = absurd (not_out p _ j a.priced a.in_range b.2)
faults_differ s m r x p Yes (Slack j k) a b = absurd (not_short s m r x p j a.slack b.3)
faults_differ s m r x p Yes Yes a b = refl

-- a verdict is the first fault, and the first fault is the verdict
pub fault_of : (sense : Sense) (rows : List Listing) (xs : List ℕ) (prices : List ℤ) (v : Verdict) → IsVerdict sense rows xs prices v →
    IsFault sense (length rows) rows xs prices v
fault_of s r x p Length h = h
fault_of s r x p (Unlisted i) h = h
fault_of s r x p (Twice j) h = h
fault_of s r x p (PriceRange j) h = h
fault_of s r x p (Slack i k) h = h
fault_of s r x p Yes h = record { assigned = h.assigned; priced = h.priced; in_range = h.in_range; slack = h.slack }

pub verdict_of : (sense : Sense) (rows : List Listing) (xs : List ℕ) (prices : List ℤ) (v : Verdict) →
    IsFault sense (length rows) rows xs prices v → IsVerdict sense rows xs prices v
verdict_of s r x p Length h = h
verdict_of s r x p (Unlisted i) h = h
verdict_of s r x p (Twice j) h = h
verdict_of s r x p (PriceRange j) h = h
verdict_of s r x p (Slack i k) h = h
verdict_of s r x p Yes h = record { assigned = h.assigned; priced = h.priced; in_range = h.in_range; slack = h.slack }

pub differ : VerdictsDiffer
differ s r x p v w a b = faults_differ s (length r) r x p v w (fault_of s r x p v a) (fault_of s r x p w b)
