use mathlib.Core.Path.{sym, subst}
use lib.Dec.{T}
use Rattle.double_checker.proofs.Shown.{sums_at_most, differences_at_most}
use Rattle.double_checker.proofs.pairs.is_seen.Goals as goal

pub returns-then-a-b : goal.returns-then-a-b
returns-then-a-b c h =
    let w = c.well_formed in
    sums_at_most c.args.a c.args.b c.args.c c.args.d (subst T (sym w.0.1) tt) (subst T (sym w.1.0.1) tt)
    (subst T (sym w.1.1.0.1) tt) (subst T (sym w.1.1.1.0.1) tt)
    c.requires.a c.requires.b c.requires.c c.requires.d h

pub returns-else-a-b : goal.returns-else-a-b
returns-else-a-b c h =
    let w = c.well_formed in
    differences_at_most c.args.a c.args.b c.args.c c.args.d (subst T (sym w.0.1) tt) (subst T (sym w.1.0.1) tt)
    (subst T (sym w.1.1.0.1) tt) (subst T (sym w.1.1.1.0.1) tt)
    c.requires.a c.requires.b c.requires.c c.requires.d h
