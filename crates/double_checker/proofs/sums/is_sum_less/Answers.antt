use Rattle.std.proofs.Common.{refl, arith, sym, subst}
use Rattle.std.proofs.lemmas.Int.{ints}
use Rattle.std.proofs.lemmas.Float.{T_from_true}
use mathlib.Core.Bool.{true≢false}
use lib.Dec.{T}
use Rattle.double_costs.proofs.RoundedSums.{sums_tell}
use Rattle.double_checker.proofs.Finite.{number_neg, units_neg}
use Rattle.double_checker.proofs.sums.is_sum_less.Goals as goal

pub returns-then-left-right : goal.returns-then-left-right
returns-then-left-right c =
    let w = c.well_formed in (
      (λ h. sums_tell c.args.a c.args.b c.args.c c.args.d (subst T (sym w.0.1) tt) (subst T (sym w.1.0.1) tt)
          (subst T (sym w.1.1.0.1) tt) (subst T (sym w.1.1.1.0.1) tt) c.requires.a c.requires.b c.requires.c c.requires.d
          (T_from_true _ c.if-left-right.true)),
      (λ h. refl),
    )

pub returns-then-right-left : goal.returns-then-right-left
returns-then-right-left c =
    let w = c.well_formed in
    let less = sums_tell c.args.c c.args.d c.args.a c.args.b (subst T (sym w.1.1.0.1) tt) (subst T (sym w.1.1.1.0.1) tt)
    (subst T (sym w.0.1) tt) (subst T (sym w.1.0.1) tt) c.requires.c c.requires.d c.requires.a c.requires.b
    (T_from_true _ c.if-right-left.true) in
    ((λ h. absurd (true≢false (sym h))), (λ h. absurd (omega (arith, ints))))

pub is_sum_negative-requires-clause-c : goal.is_sum_negative-requires-clause-c
is_sum_negative-requires-clause-c c = number_neg c.args.c c.requires.c

pub is_sum_negative-requires-clause-d : goal.is_sum_negative-requires-clause-d
is_sum_negative-requires-clause-d c = number_neg c.args.d c.requires.d

pub returns : goal.returns
returns c =
    let x = units_neg c.args.c in
    let y = units_neg c.args.d in
    let n = c.is_sum_negative.ensures in
    ((λ h. let l = n.0 h in omega (arith, ints)), (λ h. n.1 (omega (arith, ints))))
