use Rattle.std.proofs.Common.{◌≡◌, ℕ, ◌<◌, ◌+◌, List, [], ◌∷◌, min, max, arith, ap, ◌∙◌}
use Rattle.assign_core.proofs.Members.{contains_first, contains_later}
use Rattle.double_checker.specs.inside.Sizes.{low_shift, size_of}
use Rattle.double_checker.proofs.Spread.{IsHigh, IsLow, far_apart, high_is, low_is, of_max, of_min}
use Rattle.double_checker.proofs.exact.is_at_most.Goals as goal

low_shift_of : (a b x y p q r la lb lx ly : ℕ) → a ≡ la → b ≡ lb → x ≡ lx → y ≡ ly → p ≡ min a b → q ≡ min x y →
    r ≡ min p q → r ≡ min (min la lb) (min lx ly)
low_shift_of a b x y p q r la lb lx ly e f g h i j k = k ∙ ap (λ z. min z q) i ∙ ap (λ z. min (min a b) z) j ∙
    ap (λ z. min (min z b) (min x y)) e ∙ ap (λ z. min (min la z) (min x y)) f ∙ ap (λ z. min (min la lb) (min z y))
    g ∙ ap (λ z. min (min la lb) (min lx z)) h

high_shift_of : (a b x y p q r : ℕ) → p ≡ max a b → q ≡ max x y → r ≡ max p q → r ≡ max (max a b) (max x y)
high_shift_of a b x y p q r i j k = k ∙ ap (λ z. max z q) i ∙ ap (λ z. max (max a b) z) j

over : (l h x y : ℕ) → l ≡ x → h ≡ y → l + 70 < h → 70 + x < y
over l h x y e f t = omega (arith, e, f)

pub returns-then-high-low : goal.returns-then-high-low
returns-then-high-low c =
    let sizes : List ℕ = size_of c.args.a ∷ size_of c.args.b ∷ size_of c.args.c ∷ size_of c.args.d ∷ [] in
    let in_a = contains_first (size_of c.args.a) (size_of c.args.b ∷ size_of c.args.c ∷ size_of c.args.d ∷ []) in
    let in_b = contains_later (size_of c.args.a) (size_of c.args.b ∷ size_of c.args.c ∷ size_of c.args.d ∷ [])
    (size_of c.args.b) (contains_first (size_of c.args.b) (size_of c.args.c ∷ size_of c.args.d ∷ [])) in
    let in_c = contains_later (size_of c.args.a) (size_of c.args.b ∷ size_of c.args.c ∷ size_of c.args.d ∷ [])
    (size_of c.args.c) (contains_later (size_of c.args.b) (size_of c.args.c ∷ size_of c.args.d ∷ [])
    (size_of c.args.c) (contains_first (size_of c.args.c) (size_of c.args.d ∷ []))) in
    let in_d = contains_later (size_of c.args.a) (size_of c.args.b ∷ size_of c.args.c ∷ size_of c.args.d ∷ [])
    (size_of c.args.d) (contains_later (size_of c.args.b) (size_of c.args.c ∷ size_of c.args.d ∷ [])
    (size_of c.args.d) (contains_later (size_of c.args.c) (size_of c.args.d ∷ []) (size_of c.args.d)
    (contains_first (size_of c.args.d) []))) in
    let da = c.digits_of-a.result in
    let db = c.digits_of-b.result in
    let dc = c.digits_of-c.result in
    let dd = c.digits_of-d.result in
    let low : IsLow sizes (min (min (low_shift da) (low_shift db)) (min (low_shift dc) (low_shift dd))) =
    of_min (IsLow sizes) (min (low_shift da) (low_shift db)) (min (low_shift dc) (low_shift dd))
    (of_min (IsLow sizes) (low_shift da) (low_shift db) (low_is sizes c.args.a da c.digits_of-a.ensures in_a)
    (low_is sizes c.args.b db c.digits_of-b.ensures in_b))
    (of_min (IsLow sizes) (low_shift dc) (low_shift dd) (low_is sizes c.args.c dc c.digits_of-c.ensures in_c)
    (low_is sizes c.args.d dd c.digits_of-d.ensures in_d)) in
    let high : IsHigh sizes (max (max da.shift db.shift) (max dc.shift dd.shift)) =
    of_max (IsHigh sizes) (max da.shift db.shift) (max dc.shift dd.shift)
    (of_max (IsHigh sizes) da.shift db.shift (high_is sizes c.args.a da c.digits_of-a.ensures in_a)
    (high_is sizes c.args.b db c.digits_of-b.ensures in_b))
    (of_max (IsHigh sizes) dc.shift dd.shift (high_is sizes c.args.c dc c.digits_of-c.ensures in_c)
    (high_is sizes c.args.d dd c.digits_of-d.ensures in_d)) in
    let test = c.if-high-low.true in
    let l = low_shift_of c.low_shift.result c.low_shift-2.result c.low_shift-3.result c.low_shift-4.result
    c.min.result c.min-2.result c.min-low.result
    (low_shift da) (low_shift db) (low_shift dc) (low_shift dd) c.low_shift.ensures c.low_shift-2.ensures
    c.low_shift-3.ensures c.low_shift-4.ensures c.min.ensures c.min-2.ensures c.min-low.ensures in
    let h = high_shift_of da.shift db.shift dc.shift dd.shift c.max.result c.max-2.result c.max-high.result
    c.max.ensures c.max-2.ensures c.max-high.ensures in
    far_apart sizes (min (min (low_shift da) (low_shift db)) (min (low_shift dc) (low_shift dd)))
    (max (max da.shift db.shift) (max dc.shift dd.shift)) low high
    (over c.min-low.result c.max-high.result _ _ l h test)
