-- Sums over pairs, and their counts by row and by column.
use Rattle.std.proofs.Common.{◌≡◌, ℕ, ℤ, pos, negsuc, neg_ℤ, ◌+ℤ◌, ◌-ℤ◌, ◌*ℤ◌, ◌≤ℤ◌, ◌+◌, ◌*◌, ◌-◌, ◌<◌, ◌≤◌, zero, suc, List, [], ◌∷◌}
use Rattle.std.proofs.Common.{Bool, true, false, cond, nat_eq, refl, ap, sym, ◌∙◌, arith, inl, inr}
use Rattle.std.specs.List.{Contains, count_by}
use Rattle.std.proofs.lemmas.Int.{ints}
use Rattle.std.proofs.lemmas.List.Sums.{sum_by-cons}
use Rattle.std.proofs.lemmas.Bool.{cond-true, cond-false}
use Rattle.std.proofs.lemmas.Bool.Decides.{eqb_tells}
use borrow.Author.Differences.{up, down}
use lib.IntN.{*ℤ-one, *ℤ-zero, zero-*ℤ}
use Rattle.assign_core.specs.Assignment.{IsNoWorse}
use Rattle.assign_core.specs.Numbered.{IsNumber}
use Rattle.assign_core.specs.declared.sense.Sense.{Sense}
use Rattle.assign_core.specs.declared.sense.Sense.TheVariants.{Min, Max}
use Rattle.cost_lists.specs.Own.{minimised}
use Rattle.assign_core.specs.Sparse.{Triple}
use Rattle.assign_core.proofs.Products.{distributes, opposite}
use Rattle.assign_core.proofs.Distinct.{up_to}
use Rattle.assign_core.proofs.Members.{contains_first, contains_later}
use Rattle.count_checker.specs.Counts.{cost_of, Bounds, IsCount}
use Rattle.count_checker.specs.CountPrices.{IsTight}

-- the sum of f over pairs
abbrev pub sum_t : (Triple → ℤ) → List Triple → ℤ
sum_t f [] = pos 0
sum_t f (t ∷ ts) = f t +ℤ sum_t f ts

negated_sum : (a b : ℤ) → neg_ℤ (a +ℤ b) ≡ neg_ℤ a +ℤ neg_ℤ b
negated_sum a b = omega (arith, ints)

-- a sum of costs, each negated under Max
minimised_cost : (sense : Sense) (t : Triple) (ts : List Triple) → minimised sense (cost_of (t ∷ ts)) ≡ minimised sense t.2 +ℤ minimised sense (cost_of ts)
minimised_cost Min t ts = refl
minimised_cost Max t ts = negated_sum t.2 (cost_of ts)

minimised_none : (sense : Sense) → minimised sense (pos 0) ≡ pos 0
minimised_none Min = refl
minimised_none Max = refl

-- costs as what is left and two sums of numbers
pub cost_parts : (sense : Sense) (a b : Triple → ℤ) (ts : List Triple) →
    minimised sense (cost_of ts) ≡ sum_t (λ t. minimised sense t.2 -ℤ a t -ℤ b t) ts +ℤ (sum_t a ts +ℤ sum_t b ts)
cost_parts sense a b [] = let e = minimised_none sense in omega (arith, ints)
cost_parts sense a b (t ∷ ts) = let h = cost_parts sense a b ts in let e = minimised_cost sense t ts in omega (arith, ints)

-- the order of costs that are to be minimised
pub no_worse : (sense : Sense) (a b : ℤ) → minimised sense a ≤ℤ minimised sense b → IsNoWorse sense a b
no_worse Min a b h = h
no_worse Max a b h = omega (arith, ints)

pub sum_t-add : (f g : Triple → ℤ) (ts : List Triple) → sum_t (λ t. f t +ℤ g t) ts ≡ sum_t f ts +ℤ sum_t g ts
sum_t-add f g [] = refl
sum_t-add f g (t ∷ ts) = let h = sum_t-add f g ts in omega (arith, ints)

pub sum_t-zero : (ts : List Triple) → sum_t (λ t. pos 0) ts ≡ pos 0
sum_t-zero [] = refl
sum_t-zero (t ∷ ts) = let h = sum_t-zero ts in omega (arith, ints)

pub sum_t-order : (f g : Triple → ℤ) (ts : List Triple) → ((t : Triple) → Contains ts t → f t ≤ℤ g t) → sum_t f ts ≤ℤ sum_t g ts
sum_t-order f g [] h = omega (arith, ints)
sum_t-order f g (t ∷ ts) h =
    let a = h t (contains_first t ts) in
    let b = sum_t-order f g ts (λ u at. h u (contains_later t ts u at)) in
    omega (arith, ints)

-- sums over the numbers from 1 to n
up_to-add : (f g : ℕ → ℤ) (n : ℕ) → up_to (λ i. f i +ℤ g i) n ≡ up_to f n +ℤ up_to g n
up_to-add f g zero = refl
up_to-add f g (suc n) = let h = up_to-add f g n in omega (arith, ints)

up_to-same : (f g : ℕ → ℤ) (n : ℕ) → ((i : ℕ) → f i ≡ g i) → up_to f n ≡ up_to g n
up_to-same f g zero h = refl
up_to-same f g (suc n) h = let a = h (suc n) in let b = up_to-same f g n h in omega (arith, ints)

pub up_to-order : (f g : ℕ → ℤ) (n : ℕ) → ((i : ℕ) → IsNumber n i → f i ≤ℤ g i) → up_to f n ≤ℤ up_to g n
up_to-order f g zero h = omega (arith, ints)
up_to-order f g (suc n) h =
    let a = h (suc n) (record { first = omega arith; last = omega arith }) in
    let b = up_to-order f g n (λ i k. h i (record { first = k.first; last = let l = k.last in omega arith })) in
    omega (arith, ints)

pub up_to-zero : (f : ℕ → ℤ) (n : ℕ) → ((i : ℕ) → f i ≡ pos 0) → up_to f n ≡ pos 0
up_to-zero f zero h = refl
up_to-zero f (suc n) h = let a = h (suc n) in let b = up_to-zero f n h in omega (arith, ints)

-- f x at x, 0 elsewhere
abbrev only : (ℕ → ℤ) → ℕ → ℕ → ℤ
only f x i = cond (nat_eq x i) (f i) (pos 0)

only_below : (f : ℕ → ℤ) (x n : ℕ) → n < x → up_to (only f x) n ≡ pos 0
only_below f x zero lt = refl
only_below f x (suc n) lt =
    let h = only_below f x n (omega arith) in
    elim (eqb_tells x (suc n)) [
      | inl e ↦ let same = e.1 in absurd (omega arith)
      | inr e ↦ let z = cond-false (nat_eq x (suc n)) (f (suc n)) (pos 0) e.0 in omega (arith, ints)
    ]

only_one : (f : ℕ → ℤ) (x n : ℕ) → 0 < x → x ≤ n → up_to (only f x) n ≡ f x
only_one f x zero some most = absurd (omega arith)
only_one f x (suc n) some most = elim (eqb_tells x (suc n)) [
  | inl e ↦
      let same = e.1 in
      let z = cond-true (nat_eq x (suc n)) (f (suc n)) (pos 0) e.0 in
      let b = only_below f x n (omega arith) in
      let there : f x ≡ f (suc n) = ap f same in
      omega (arith, ints)
  | inr e ↦
      let z = cond-false (nat_eq x (suc n)) (f (suc n)) (pos 0) e.0 in
      let ne = e.1 in
      let h = only_one f x n some (omega arith) in
      omega (arith, ints)
]

-- a product with one more where the test holds
one_more : (f : ℕ → ℤ) (i a : ℕ) (b : Bool) → f i *ℤ pos (cond b 1 0 + a) ≡ cond b (f i) (pos 0) +ℤ (f i *ℤ pos a)
one_more f i a true =
    let d = distributes (f i) (pos 1) (pos a) in
    let o : f i *ℤ pos 1 ≡ f i = unfold lib.IntN.one in *ℤ-one (f i) in
    let e : f i *ℤ pos (1 + a) ≡ f i *ℤ (pos 1 +ℤ pos a) = ap (λ z. f i *ℤ z) (let q : pos (1 + a) ≡ pos 1 +ℤ pos a = omega (arith, ints) in q) in
    omega (arith, ints)
one_more f i a false =
    let e : f i *ℤ pos (0 + a) ≡ f i *ℤ pos a = ap (λ m. f i *ℤ pos m) (let q : 0 + a ≡ a = omega arith in q) in
    omega (arith, ints)

-- the sum of numbers over pairs is that of number * count
pub sum_counts : (key : Triple → ℕ) (f : ℕ → ℤ) (n : ℕ) (ts : List Triple) → ((t : Triple) → Contains ts t → IsNumber n (key t)) →
    sum_t (λ t. f (key t)) ts ≡ up_to (λ i. f i *ℤ pos (count_by (λ t. nat_eq (key t) i) ts)) n
sum_counts key f n [] within = sym (up_to-zero (λ i. f i *ℤ pos 0) n (λ i. *ℤ-zero (f i)))
sum_counts key f n (t ∷ ts) within =
    let count = λ (i : ℕ). count_by (λ u. nat_eq (key u) i) ts in
    let h : sum_t (λ u. f (key u)) ts ≡ up_to (λ i. f i *ℤ pos (count i)) n = sum_counts key f n ts (λ u at. within u (contains_later t ts u at)) in
    let k = within t (contains_first t ts) in
    let one = only_one f (key t) n k.first k.last in
    let split : up_to (λ i. f i *ℤ pos (count_by (λ u. nat_eq (key u) i) (t ∷ ts))) n ≡ up_to (λ i. only f (key t) i +ℤ (f i *ℤ pos (count i))) n = up_to-same (λ i. f i *ℤ pos (count_by (λ u. nat_eq (key u) i) (t ∷ ts))) (λ i. only f (key t) i +ℤ (f i *ℤ pos (count i))) n (λ i. ap (λ k. f i *ℤ pos k) (sum_by-cons (λ u. cond (nat_eq (key u) i) 1 0) t ts) ∙ one_more f i (count i) (nat_eq (key t) i)) in
    let add = up_to-add (only f (key t)) (λ i. f i *ℤ pos (count i)) n in
    let right : up_to (λ i. f i *ℤ pos (count_by (λ u. nat_eq (key u) i) (t ∷ ts))) n ≡ f (key t) +ℤ up_to (λ i. f i *ℤ pos (count i)) n =
    split ∙ add ∙ ap (λ z. z +ℤ up_to (λ i. f i *ℤ pos (count i)) n) one in
    ap (λ z. f (key t) +ℤ z) h ∙ sym right

pub in_order : (n : ℕ) (a b : ℤ) → a ≤ℤ b → (pos n *ℤ a) ≤ℤ (pos n *ℤ b)
in_order n a b h =
    let k : ℕ = up b + down a - (up a + down b) in
    let e : b ≡ a +ℤ pos k = omega (arith, ints) in
    let m : pos n *ℤ b ≡ (pos n *ℤ a) +ℤ (pos n *ℤ pos k) = ap (λ z. pos n *ℤ z) e ∙ distributes (pos n) a (pos k) in
    let q : pos n *ℤ pos k ≡ pos (n * k) = refl in
    omega (arith, ints)

turned : (n : ℕ) (a b : ℤ) → a ≤ℤ b → (negsuc n *ℤ b) ≤ℤ (negsuc n *ℤ a)
turned n a b h =
    let x = opposite n a in
    let y = opposite n b in
    let m = in_order (suc n) a b h in
    omega (arith, ints)

-- a tight number times its count is at most that number times any count within the bounds
tight_below : (b : Bounds) (k count other : ℕ) (price : ℤ) → IsTight b k count price → IsCount b k other → (price *ℤ pos count) ≤ℤ (price *ℤ pos other)
tight_below b k count other (pos zero) t c = let x = zero-*ℤ (pos count) in let y = zero-*ℤ (pos other) in omega (arith, ints)
tight_below b k count other (pos (suc n)) t c =
    let e = t.above (omega (arith, ints)) in
    let l = c.least in
    in_order (suc n) (pos count) (pos other) (omega (arith, ints))
tight_below b k count other (negsuc n) t c =
    let e = t.below (omega (arith, ints)) in
    let l = c.most in
    turned n (pos other) (pos count) (omega (arith, ints))

-- so it is with the sums over the numbers from 1 to n
pub tight_sums : (b : Bounds) (f : ℕ → ℤ) (n : ℕ) (first other : ℕ → ℕ) → ((k : ℕ) → IsNumber n k → IsTight b k (first k) (f k)) →
    ((k : ℕ) → IsNumber n k → IsCount b k (other k)) → up_to (λ k. f k *ℤ pos (first k)) n ≤ℤ up_to (λ k. f k *ℤ pos (other k)) n
tight_sums b f n first other tight counts =
    up_to-order (λ k. f k *ℤ pos (first k)) (λ k. f k *ℤ pos (other k)) n (λ k is. tight_below b k (first k) (other k) (f k) (tight k is) (counts k is))
