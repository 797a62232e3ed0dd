-- One more mark.
use Rattle.std.proofs.Common.{◌≡◌, ℕ, ◌+◌, List, Bool, true, false, cond, length, ap, arith, sym, subst, ◌∙◌, inl, inr}
use Rattle.std.specs.List.{count_by}
use Rattle.std.proofs.lemmas.Bool.{cases_eq}
use Rattle.assign_core.specs.Numbered.{IsNumber, numbered, renumbered, IsMarked}
use Rattle.assign_core.proofs.NumberedLemmas.{numbered-same, numbered-other, count-renumbered}

pub marked_same : (marks : List Bool) (j : ℕ) → IsNumber (length marks) j → IsMarked (renumbered marks j true) j
marked_same marks j number = numbered-same marks j true false number.first number.last

pub marked_kept : (marks : List Bool) (j i : ℕ) → IsNumber (length marks) j → IsMarked marks i → IsMarked (renumbered marks j true) i
marked_kept marks j i number m = elim (cases_eq i j) [
  | inl e ↦ subst (IsMarked (renumbered marks j true)) (sym e) (marked_same marks j number)
  | inr other ↦ numbered-other marks j i true false other ∙ m
]

-- a mark that is set counts
pub count_more : (marks : List Bool) (j : ℕ) → IsNumber (length marks) j → numbered marks j false ≡ false →
    count_by (λ b. b) (renumbered marks j true) ≡ count_by (λ b. b) marks + 1
count_more marks j number clear =
    let s = count-renumbered (λ b. b) marks j true false number.first number.last in
    let z : cond {A = ℕ} (numbered marks j false) 1 0 ≡ 0 = ap (λ b. cond {A = ℕ} b 1 0) clear in
    omega arith
