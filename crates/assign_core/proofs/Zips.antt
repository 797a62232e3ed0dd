-- Lists that go pair by pair, by place and by number.
use Rattle.std.proofs.Common.{◌≡◌, ℕ, ◌<◌, ◌≤◌, zero, suc, List, [], ◌∷◌, length, get_or, arith, sym}
use Rattle.std.specs.List.{AllZip}
use Rattle.assign_core.specs.Numbered.{numbered}
use Rattle.assign_core.proofs.Matchings.{zip_from_places}

pub zip_at : {A B : Type 0} (R : A → B → Type 0) (xs : List A) (ys : List B) (k : ℕ) (d : A) (e : B) →
    AllZip R xs ys → k < length xs → R (get_or xs k d) (get_or ys k e)
zip_at R [] ys k d e h lt = absurd (omega arith)
zip_at R (x ∷ xs) [] k d e h lt = absurd h
zip_at R (x ∷ xs) (y ∷ ys) zero d e h lt = h.0
zip_at R (x ∷ xs) (y ∷ ys) (suc k) d e h lt = zip_at R xs ys k d e h.1 (omega arith)

pub pair_number : {A B : Type 0} (R : A → B → Type 0) (xs : List A) (ys : List B) (j : ℕ) (d : A) (e : B) →
    AllZip R xs ys → 0 < j → j ≤ length xs → R (numbered xs j d) (numbered ys j e)
pair_number R xs ys zero d e h some last = absurd (omega arith)
pair_number R xs ys (suc k) d e h some last = zip_at R xs ys k d e h (omega arith)

pub pairs_from : {A B : Type 0} (R : A → B → Type 0) (xs : List A) (ys : List B) (d : A) (e : B) →
    length xs ≡ length ys → ((j : ℕ) → 0 < j → j ≤ length xs → R (numbered xs j d) (numbered ys j e)) → AllZip R xs ys
pairs_from R xs ys d e long h = zip_from_places R xs ys d e (sym long) (λ k lt. h (suc k) (omega arith) (omega arith))
