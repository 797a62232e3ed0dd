-- The range of benefits, one value or one row at a time.
use Rattle.std.proofs.Common.{◌≡◌, ℕ, ℤ, pos, neg_ℤ, ◌≤ℤ◌, ◌<ℤ◌, ◌<◌, ◌+◌, ◌-◌, List, [], ◌∷◌, length, drop, get_or, map, refl, arith, sym, ◌∙◌, ap}
use Rattle.std.specs.List.{All, fold}
use Rattle.std.specs.Int.{int_min, int_max}
use Rattle.std.proofs.lemmas.Int.{ints, clamps}
use Rattle.std.proofs.lemmas.List.{drop_more, get_or-map, length-map}
use Rattle.std.proofs.lemmas.List.Elements.{All-head}
use Rattle.std.proofs.lemmas.List.Sums.{fold-append}
use Rattle.assign_core.specs.declared.sense.Sense.{Sense}
use Rattle.assign_core.specs.Rows.{Listing, row_of}
use Rattle.assign_core.specs.Benefits.{benefit, benefit_row, IsBenefit}
use Rattle.assign_core.proofs.RowLemmas.{row_of-index}
use Rattle.scaled_values.specs.declared.range.Range.{Range}
use Rattle.scaled_values.specs.declared.range.TheConstants.{FAR}
use Rattle.scaled_values.specs.inside.Range.{joined, no_range, widened, range_with}
use Rattle.scaled_values.specs.Scaled.{values_in, least_of, greatest_of}
use Rattle.scaled_values.proofs.BenefitRange.{least-le-greatest}

-- what is left of the rows of benefits begins with the benefits of the next row
pub rows_next : (sense : Sense) (n : ℕ) (rows : List Listing) (i : ℕ) → i < length rows →
    drop i (map (benefit_row sense n) rows) ≡ benefit_row sense n (row_of rows (i + 1)) ∷ drop (i + 1) (map (benefit_row sense n) rows)
rows_next sense n rows i lt =
    let all : List Listing = map (benefit_row sense n) rows in
    let long : length (map (benefit_row sense n) rows) ≡ length rows = simp length-map in
    let back : i + 1 - 1 ≡ i = omega arith in
    let at : row_of rows (i + 1) ≡ get_or rows i [] = row_of-index rows (i + 1) (omega arith) ∙ ap (λ k. get_or rows k []) back in
    drop_more all i [] (omega arith)
    ∙ ap (λ r. r ∷ drop (i + 1) all) (get_or-map (benefit_row sense n) rows i [] [] lt ∙ ap (benefit_row sense n) (sym at))

-- what is left of the benefits of a row begins with that of the next pair
pub values_next : (sense : Sense) (n : ℕ) (row : Listing) (i : ℕ) (e : ℕ × ℤ) → i < length row → e ≡ get_or row i e →
    map (λ f. f.1) (benefit_row sense n (drop i row)) ≡ benefit sense n e.1 ∷ map (λ f. f.1) (benefit_row sense n (drop (i + 1) row))
values_next sense n row i e lt at =
    ap (λ l. map (λ f. f.1) (benefit_row sense n l)) (drop_more row i e lt ∙ ap (λ f. f ∷ drop (i + 1) row) (sym at))

-- the range of what was passed, with one more pair
pub range_next : (sense : Sense) (n : ℕ) (row : Listing) (i : ℕ) (e : ℕ × ℤ) (range wider : Range) (b : ℤ) →
    i < length row → e ≡ get_or row i e → b ≡ benefit sense n e.1 → wider ≡ widened range b →
    range_with wider (map (λ f. f.1) (benefit_row sense n (drop (i + 1) row))) ≡ range_with range (map (λ f. f.1) (benefit_row sense n (drop i row)))
range_next sense n row i e range wider b lt at value h =
    let rest : List ℤ = map (λ f. f.1) (benefit_row sense n (drop (i + 1) row)) in
    ap (λ r. range_with r rest) (h ∙ ap (widened range) value)
    ∙ sym (ap (range_with range) (values_next sense n row i e lt at))

-- the range of what was passed, with one more row
pub range_row : (sense : Sense) (n : ℕ) (rows : List Listing) (i : ℕ) (range wider : Range) → i < length rows →
    wider ≡ range_with range (map (λ e. e.1) (benefit_row sense n (row_of rows (i + 1)))) →
    range_with wider (values_in (drop (i + 1) (map (benefit_row sense n) rows))) ≡ range_with range (values_in (drop i (map (benefit_row sense n) rows)))
range_row sense n rows i range wider lt h =
    let rest : List ℤ = values_in (drop (i + 1) (map (benefit_row sense n) rows)) in
    let front : List ℤ = map (λ e. e.1) (benefit_row sense n (row_of rows (i + 1))) in
    ap (λ r. range_with r rest) h
    ∙ sym (fold-append widened range front rest)
    ∙ ap (λ l. range_with range (values_in l)) (sym (rows_next sense n rows i lt))

-- a range joined with one that is widened
joined_one : (r q : Range) (x : ℤ) → joined r (widened q x) ≡ widened (joined r q) x
joined_one r q x =
    let R : ℤ → ℤ → Range = λ a b. record { least = a; greatest = b } in
    let low : int_min r.least (int_min q.least x) ≡ int_min (int_min r.least q.least) x = omega (arith, ints, clamps) in
    let high : int_max r.greatest (int_max q.greatest x) ≡ int_max (int_max r.greatest q.greatest) x = omega (arith, ints, clamps) in
    ap (λ a. R a (int_max r.greatest (int_max q.greatest x))) low ∙ ap (R (int_min (int_min r.least q.least) x)) high

joined_all : (r q : Range) (xs : List ℤ) → joined r (range_with q xs) ≡ range_with (joined r q) xs
joined_all r q [] = refl
joined_all r q (x ∷ xs) = joined_all r (widened q x) xs ∙ ap (λ p. range_with p xs) (joined_one r q x)

-- no wider than the range of no benefits
pub record IsWide (r : Range) : Type 0 where
  pub least : r.least ≤ℤ FAR
  pub greatest : neg_ℤ FAR ≤ℤ r.greatest

joined_none : (r : Range) → IsWide r → joined r no_range ≡ r
joined_none r h =
    let R : ℤ → ℤ → Range = λ a b. record { least = a; greatest = b } in
    let l = h.least in
    let g = h.greatest in
    let low : int_min r.least FAR ≡ r.least = omega (arith, ints, clamps) in
    let high : int_max r.greatest (neg_ℤ FAR) ≡ r.greatest = omega (arith, ints, clamps) in
    ap (λ a. R a (int_max r.greatest (neg_ℤ FAR))) low ∙ ap (R r.least) high

-- a range joined with the range of some benefits is widened by these
pub range_joined : (r : Range) (xs : List ℤ) → IsWide r → joined r (range_with no_range xs) ≡ range_with r xs
range_joined r xs h = joined_all r no_range xs ∙ ap (λ p. range_with p xs) (joined_none r h)

pub IsWide-joined : (r q : Range) → IsWide r → IsWide (joined r q)
IsWide-joined r q h =
    let l = h.least in
    let g = h.greatest in
    record { least = omega (arith, ints, clamps); greatest = omega (arith, ints, clamps) }

-- a range holds the least and the greatest
range_from : (a b : ℤ) (xs : List ℤ) → range_with (record { least = a; greatest = b }) xs ≡ record { least = fold int_min a xs; greatest = fold int_max b xs }
range_from a b [] = refl
range_from a b (x ∷ xs) = range_from (int_min a x) (int_max b x) xs

min_far : (x : ℤ) → IsBenefit x → int_min FAR x ≡ x
min_far x h = let g = h.greatest in omega (arith, ints, clamps)

max_far : (x : ℤ) → IsBenefit x → int_max (neg_ℤ FAR) x ≡ x
max_far x h = let l = h.least in omega (arith, ints, clamps)

first_range : (x : ℤ) → IsBenefit x → widened no_range x ≡ record { least = x; greatest = x }
first_range x h =
    let R : ℤ → ℤ → Range = λ a b. record { least = a; greatest = b } in
    ap (λ a. R a (int_max (neg_ℤ FAR) x)) (min_far x h) ∙ ap (R x) (max_far x h)

pub record IsRangeOf (xs : List ℤ) (r : Range) : Type 0 where
  pub least : r.least ≡ least_of xs
  pub greatest : r.greatest ≡ greatest_of xs

-- the result of a range of benefits, or 0 and 0 if there are none
pub range_is : (xs : List ℤ) (found r : Range) → All IsBenefit xs → found ≡ range_with no_range xs →
    (found.least ≤ℤ found.greatest → r ≡ found) → (found.greatest <ℤ found.least → r ≡ record { least = pos 0; greatest = pos 0 }) → IsRangeOf xs r
range_is [] found r h e some none =
    let low : found.least ≡ FAR = ap (λ q. q.least) e in
    let high : found.greatest ≡ neg_ℤ FAR = ap (λ q. q.greatest) e in
    let zeros = none (omega (arith, ints)) in
    record { least = ap (λ q. q.least) zeros; greatest = ap (λ q. q.greatest) zeros }
range_is (x ∷ xs) found r h e some none =
    let known : found ≡ record { least = fold int_min x xs; greatest = fold int_max x xs } =
    e ∙ ap (λ q. range_with q xs) (first_range x (All-head IsBenefit x xs h)) ∙ range_from x x xs in
    let low : found.least ≡ fold int_min x xs = ap (λ q. q.least) known in
    let high : found.greatest ≡ fold int_max x xs = ap (λ q. q.greatest) known in
    let order : fold int_min x xs ≤ℤ fold int_max x xs = least-le-greatest (x ∷ xs) in
    let same = some (rw (low, high) order) in
    record { least = ap (λ q. q.least) same ∙ low; greatest = ap (λ q. q.greatest) same ∙ high }
