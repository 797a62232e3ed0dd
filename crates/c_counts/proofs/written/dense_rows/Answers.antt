use Rattle.std.proofs.Common.{◌≡◌, ◌+◌, ◌/◌, ◌++◌, ℕ, List, [], ◌∷◌, map, arith}
use Rattle.std.specs.List.{range_with_len}
use Rattle.std.proofs.lemmas.List.FromFn.{map-range_with_len_more}
use Rattle.c_counts.proofs.written.dense_rows.Goals as goal

one_more : (xs ys zs : List ℕ) (f : ℕ → ℕ) (k x : ℕ) → xs ≡ map f (range_with_len 0 k) → x ≡ f k → ys ≡ xs ++ x ∷ [] → ys ≡ map f (range_with_len 0 (k + 1))
one_more xs ys zs f k x a b e = let more = map-range_with_len_more f 0 k k (omega arith) in cc

pub loop-place-preserved : goal.loop-place-preserved
loop-place-preserved c =
    let items = rw c.in_ok-push.was at c.push.ensures.items in
    one_more c.loop-place.rows.items c.push.new.self.items [] (λ i. i / c.args.m + 1) c.loop-place.place c.row_in.result c.loop-place.invariant c.row_in.ensures items
