-- A person has only one refutation.
use Rattle.std.proofs.Common.{◌≡◌, ℕ, ◌<◌, ◌↔◌, List, [], ◌∷◌, Option, Less, ap, arith, refl, sym, subst, ◌∙◌, inl, inr}
use Rattle.std.specs.List.{Contains}
use Rattle.std.specs.List.Sorted.{IsStrictlyIncreasing, IsStrictlySortedBy}
use Rattle.std.specs.Ordering.{nat_cmp}
use Rattle.std.proofs.lemmas.Bool.Decides.{nat_tests}
use Rattle.std.proofs.lemmas.List.Elements.{All-contains}
use Rattle.std.proofs.lemmas.Map.Keys.{sorted_from_strictly_increasing, sorted_tail}
use Rattle.std.proofs.lemmas.Map.Views.{All-after_first}
use Rattle.assign_core.specs.Rows.{Listing}
use Rattle.assign_core.specs.Hall.{HallLists, IsNeighbour}
use Rattle.assign_core.proofs.Members.{contains_first, contains_later, first_or_later}
use Rattle.hall_refuter.specs.Search.{IsRefuted}

-- all that follow the first number are above it
above_first : (x : ℕ) (xs : List ℕ) (z : ℕ) → IsStrictlySortedBy nat_cmp (x ∷ xs) → Contains xs z → x < z
above_first x xs z h c = below x z (All-contains (λ y. nat_cmp x y ≡ Less) xs z (All-after_first nat_cmp x xs h) c) where
  below : (a b : ℕ) → nat_cmp a b ≡ Less → a < b
  below a b e = grind (arith, nat_tests)

-- rising lists of the same numbers begin with the same one
same_first : (x y : ℕ) (xs ys : List ℕ) → IsStrictlySortedBy nat_cmp (x ∷ xs) → IsStrictlySortedBy nat_cmp (y ∷ ys)
    → ((z : ℕ) → Contains (x ∷ xs) z ↔ Contains (y ∷ ys) z) → x ≡ y
same_first x y xs ys h k same = elim (first_or_later y ys x ((same x).0 (contains_first x xs))) [
  | inl e ↦ sym e
  | inr in_ys ↦ elim (first_or_later x xs y ((same y).1 (contains_first y ys))) [
    | inl e ↦ e
    | inr in_xs ↦
        let down = above_first y ys x k in_ys in
        let up = above_first x xs y h in_xs in
        absurd (omega arith)
  ]
]

-- what follows the first elements of one list follows those of the other
later_same : (x y : ℕ) (xs ys : List ℕ) (z : ℕ) → x ≡ y → IsStrictlySortedBy nat_cmp (x ∷ xs) →
    (Contains (x ∷ xs) z → Contains (y ∷ ys) z) → Contains xs z → Contains ys z
later_same x y xs ys z e h to c = elim (first_or_later y ys z (to (contains_later x xs z c))) [
  | inl same ↦ let up = above_first x xs z h c in absurd (omega arith)
  | inr there ↦ there
]

-- rising lists of the same numbers are the same
same_rising : (xs ys : List ℕ) → IsStrictlySortedBy nat_cmp xs → IsStrictlySortedBy nat_cmp ys → ((z : ℕ) → Contains xs z ↔ Contains ys z) → xs ≡ ys
same_rising [] [] h k same = refl
same_rising [] (y ∷ ys) h k same = let none = ((same y).1 (contains_first y ys)).1 in absurd (omega arith)
same_rising (x ∷ xs) [] h k same = let none = ((same x).0 (contains_first x xs)).1 in absurd (omega arith)
same_rising (x ∷ xs) (y ∷ ys) h k same =
    let first = same_first x y xs ys h k same in
    let rest = same_rising xs ys (sorted_tail nat_cmp x xs h) (sorted_tail nat_cmp y ys k)
    (λ z. (later_same x y xs ys z first h (same z).0, later_same y x ys xs z (sym first) k (same z).1)) in
    ap (λ w. w ∷ xs) first ∙ ap (λ ws. y ∷ ws) rest

increasing_same : (xs ys : List ℕ) → IsStrictlyIncreasing xs → IsStrictlyIncreasing ys → ((z : ℕ) → Contains xs z ↔ Contains ys z) → xs ≡ ys
increasing_same xs ys h k same = same_rising xs ys (sorted_from_strictly_increasing xs h) (sorted_from_strictly_increasing ys k) same

through : (A B C : Type 0) → A ↔ C → B ↔ C → A ↔ B
through A B C f g = ((λ a. g.1 (f.0 a)), (λ b. f.1 (g.0 b)))

same_lists : (a b : HallLists) → a.persons ≡ b.persons → a.objects ≡ b.objects → a ≡ b
same_lists a b e f =
    ap (λ xs. let l : HallLists = record { persons = xs; objects = a.objects } in l) e
    ∙ ap (λ xs. let l : HallLists = record { persons = b.persons; objects = xs } in l) f

-- a person has only one refutation
pub refuted_once : (rows : List Listing) (owners : List (Option ℕ)) (i : ℕ) (a b : HallLists) → IsRefuted rows owners i a → IsRefuted rows owners i b → a ≡ b
refuted_once rows owners i a b x y =
    let persons : a.persons ≡ b.persons =
    increasing_same a.persons b.persons x.hall.persons_rise y.hall.persons_rise
    (λ z. through _ _ _ (x.reached z) (y.reached z)) in
    let objects : a.objects ≡ b.objects = increasing_same a.objects b.objects x.hall.objects_rise y.hall.objects_rise
    (λ j. through _ _ _ (x.hall.neighbours j) (subst (λ xs. Contains b.objects j ↔ IsNeighbour rows xs j) (sym persons) (y.hall.neighbours j))) in
    same_lists a b persons objects
