-- Why a Hall set rules out an assignment: its persons would need as many different objects.
use Rattle.std.proofs.Common.{◌≡◌, ℕ, ◌<◌, ◌≤◌, zero, suc, List, [], ◌∷◌, IsSome, length, get_or, map, nat_eq, false, arith, sym, ◌∙◌}
use Rattle.std.specs.List.{All, Contains, IsDistinct}
use Rattle.std.specs.List.Sorted.{IsStrictlyIncreasing}
use Rattle.std.proofs.lemmas.Bool.{eqb-true}
use Rattle.std.proofs.lemmas.Cmp.{nat_eq_equiv}
use Rattle.std.proofs.lemmas.List.{get_or-map, length-map}
use Rattle.std.proofs.lemmas.List.Elements.{Contains-get_or}
use Rattle.std.proofs.lemmas.Map.Keys.{apart_from_distinct, IsDistinct-from_apart, below_from_sorted, sorted_from_strictly_increasing}
use Rattle.std.proofs.lemmas.Map.Made.{length-le_from_is_member}
use Rattle.std.proofs.lemmas.Map.Views.{Contains-from_any, list_any-from_Contains}
use Rattle.std.proofs.lemmas.Slice.Zip.{AllZip-long}
use Rattle.assign_core.specs.Numbered.{IsNumber, numbered}
use Rattle.assign_core.specs.Rows.{Listing, listed_in, IsListed}
use Rattle.assign_core.specs.Assignment.{AreListed, IsAssignment}
use Rattle.assign_core.specs.Hall.{IsHallSet}
use Rattle.assign_core.specs.Outcomes.{IsDecided, IsProof}
use Rattle.assign_core.specs.declared.sense.Sense.{Sense}
use Rattle.assign_core.specs.declared.outcome.Outcome.{Outcome}
use Rattle.assign_core.specs.declared.outcome.Outcome.TheVariants.{Best, Hall}

-- different numbers that are all in a list are at most as many as its elements
pub few_among : (xs ys : List ℕ) → IsDistinct nat_eq xs → ((x : ℕ) → Contains xs x → Contains ys x) → length xs ≤ length ys
few_among xs ys d h =
    length-le_from_is_member nat_eq_equiv xs ys d
    (λ q e. list_any-from_Contains nat_eq_equiv q ys (h q (Contains-from_any (λ x y k. eqb-true x y k) q xs e)))

-- the object of each person is listed
listed_at : (rows : List Listing) (xs : List ℕ) (i : ℕ) → AreListed rows xs → i < length rows → IsSome (listed_in (get_or rows i []) (get_or xs i 0))
listed_at [] xs i h lt = absurd (omega arith)
listed_at (row ∷ rows) [] i h lt = absurd h
listed_at (row ∷ rows) (x ∷ xs) zero h lt = h.0
listed_at (row ∷ rows) (x ∷ xs) (suc i) h lt = listed_at rows xs i h.1 (omega arith)

given_listed : (rows : List Listing) (xs : List ℕ) (i : ℕ) → IsAssignment rows xs → 0 < i → i ≤ length rows → IsListed rows i (numbered xs i 0)
given_listed rows xs zero a some last = absurd (omega arith)
given_listed rows xs (suc i) a some last = listed_at rows xs i a.listed (omega arith)

-- two persons have different objects
given_apart : (xs : List ℕ) (i k : ℕ) → IsDistinct nat_eq xs → 0 < i → i < k → k ≤ length xs → nat_eq (numbered xs i 0) (numbered xs k 0) ≡ false
given_apart xs zero k d some lt last = absurd (omega arith)
given_apart xs (suc i) zero d some lt last = absurd (omega arith)
given_apart xs (suc i) (suc k) d some lt last = apart_from_distinct nat_eq xs i k 0 d (omega arith) (omega arith)

-- the objects that these persons have
abbrev given : List ℕ → List ℕ → List ℕ
given xs persons = map (λ i. numbered xs i 0) persons

given_at : (xs persons : List ℕ) (k d : ℕ) → k < length persons → get_or (given xs persons) k d ≡ numbered xs (get_or persons k 0) 0
given_at xs persons k d lt = get_or-map (λ i. numbered xs i 0) persons k 0 d lt

given_distinct : (n : ℕ) (xs persons : List ℕ) → IsDistinct nat_eq xs → length xs ≡ n →
    IsStrictlyIncreasing persons → All (IsNumber n) persons → IsDistinct nat_eq (given xs persons)
given_distinct n xs persons d long rise within =
    IsDistinct-from_apart nat_eq (given xs persons) (λ i k z lt last.
    let same : length (given xs persons) ≡ length persons = simp length-map in
    let low : i < length persons = omega arith in
    let high : k < length persons = omega arith in
    let a = given_at xs persons i z low in
    let b = given_at xs persons k z high in
    let below = below_from_sorted persons i k 0 (sorted_from_strictly_increasing persons rise) lt high in
    let first = within i 0 low in
    let second = within k 0 high in
    rw (a, b) (given_apart xs (get_or persons i 0) (get_or persons k 0) d first.first below (omega arith)))

given_among : (rows : List Listing) (persons objects xs : List ℕ) → IsHallSet rows persons objects →
    IsAssignment rows xs → (j : ℕ) → Contains (given xs persons) j → Contains objects j
given_among rows persons objects xs hall a j h =
    let same : length (given xs persons) ≡ length persons = simp length-map in
    let lt : h.0 < length persons = omega arith in
    let i : ℕ = get_or persons h.0 0 in
    let at : j ≡ numbered xs i 0 = sym h.2 ∙ given_at xs persons h.0 j lt in
    let within = hall.within h.0 0 lt in
    rw at ((hall.neighbours (numbered xs i 0)).1 (i, Contains-get_or persons h.0 0 lt, given_listed rows xs i a within.first within.last))

pub no_assignment : (rows : List Listing) (persons objects xs : List ℕ) → IsHallSet rows persons objects → IsAssignment rows xs → ⊥
no_assignment rows persons objects xs hall a =
    let long : length xs ≡ length rows = AllZip-long _ rows xs a.listed in
    let d = given_distinct (length rows) xs persons a.apart long hall.persons_rise hall.within in
    let few = few_among (given xs persons) objects d (given_among rows persons objects xs hall a) in
    let same : length (given xs persons) ≡ length persons = simp length-map in
    let fewer = hall.fewer in
    omega arith

pub decides : (sense : Sense) (rows : List Listing) (outcome : Outcome) → IsProof sense rows outcome → IsDecided rows outcome
decides sense rows (Best c) proof = (c.assignment, proof.assigned)
decides sense rows (Hall h) proof = λ xs a. no_assignment rows h.persons h.objects xs proof a
