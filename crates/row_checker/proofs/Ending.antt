-- What a leaf shows, from its sums.
use Rattle.std.proofs.Common.{◌≡◌, ℕ, ℤ, pos, negsuc, ◌<◌, ◌^◌, ◌-◌, min, List, ◌&&◌, refl, ap, sym, ◌∙◌, arith, SFits}
use Rattle.std.specs.Prelude.{if◌then◌else◌, int_lt}
use Rattle.std.specs.Int.{w128}
use Rattle.std.proofs.lemmas.Bool.{lt-ltb}
use Rattle.std.proofs.lemmas.Bool.Decides.{nat_tests}
use Rattle.row_checker.specs.declared.row.Multiple.{Multiple}
use Rattle.row_checker.specs.declared.leaf.LeafEnd.TheVariants.{Shows, TooGreat, Lacks}
use Rattle.row_checker.specs.Rows.{LinearRow}
use Rattle.row_checker.specs.Leaves.{bound, end_of, greatest, has_sides, size, weight}

-- a sum that is cut off far above a bound is below it just if the whole sum is
same_below : (whole cut : ℕ) (b : ℤ) → cut ≡ min whole (2 ^ 128 - 1) → SFits w128 b → int_lt (pos cut) b ≡ int_lt (pos whole) b
same_below whole cut (pos n) e f = let h = f.sfits in grind (arith, nat_tests)
same_below whole cut (negsuc n) e f = refl

pub end_is : (n : ℕ) (rows : List LinearRow) (ms : List Multiple) (most : ℕ) (b : ℤ) → size rows ms < 2 ^ 127 →
    most ≡ min (greatest n (weight rows ms)) (2 ^ 128 - 1) → b ≡ bound rows ms → SFits w128 b →
    (if has_sides rows ms && int_lt (pos most) b then Shows else Lacks) ≡ end_of n rows ms
end_is n rows ms most b small cut is fits =
    let whole : ℕ = greatest n (weight rows ms) in
    ap (λ t. if has_sides rows ms && t then Shows else Lacks) (same_below whole most b cut fits ∙ ap (λ v. int_lt (pos whole) v) is)
    ∙ ap (λ t. if t then (if has_sides rows ms && int_lt (pos whole) (bound rows ms) then Shows else Lacks) else
    TooGreat) (sym (lt-ltb (size rows ms) (2 ^ 127) small))
