use Rattle.std.proofs.Common.{◌≡◌, ℕ, length, get_or, subst, sym, arith}
use Rattle.assign_core.specs.Numbered.{IsNumber}
use Rattle.double_checker.proofs.Given.{AreApart, AreGiven, AreMarked, apart_distinct, apart_more, given_first}
use Rattle.double_checker.proofs.Given.{given_more, marked_more, marks_just}
use Rattle.double_checker.proofs.objects.first_given_before.Goals as goal

pub returns-then-owned-place : goal.returns-then-owned-place
returns-then-owned-place c =
    let i = c.loop-i.i in
    let l : length c.loop-i.owned ≡ length c.args.owned.now = c.loop-i.auto.owned in
    let n : IsNumber (length c.loop-i.owned) (get_or c.args.objects.now i 0) =
    subst (λ (q : ℕ). IsNumber q (get_or c.args.objects.now i 0)) (sym l)
    (c.requires.within i 0 c.loop-i-test.true) in
    given_first c.args.objects.now c.loop-i.owned i c.loop-i-test.true n c.if-owned-place.true
    c.loop-i.invariant.apart c.loop-i.invariant.given

pub loop-i-preserved : goal.loop-i-preserved
loop-i-preserved c =
    let i = c.loop-i.i in
    let l : length c.loop-i.owned ≡ length c.args.owned.now = c.loop-i.auto.owned in
    let n : IsNumber (length c.loop-i.owned) (get_or c.args.objects.now i 0) =
    subst (λ (q : ℕ). IsNumber q (get_or c.args.objects.now i 0)) (sym l)
    (c.requires.within i 0 c.loop-i-test.true) in
    record {
      apart = apart_more c.args.objects.now c.loop-i.owned i n c.if-owned-place.false c.loop-i.invariant.apart
          c.loop-i.invariant.marked;
      given = given_more c.args.objects.now c.loop-i.owned i n c.loop-i.invariant.given;
      marked = marked_more c.args.objects.now c.loop-i.owned i n c.loop-i.invariant.marked;
    }

pub returns : goal.returns
returns c =
    let xs = c.args.objects.now in
    let e : c.loop-i.i ≡ length xs = (let a = c.loop-i-test.false in let b = c.loop-i.auto.i-end in omega arith) in (
      apart_distinct xs (subst (AreApart xs) e c.loop-i.invariant.apart),
      marks_just xs c.loop-i.owned (subst (AreGiven c.loop-i.owned xs) e c.loop-i.invariant.given)
          (subst (AreMarked c.loop-i.owned xs) e c.loop-i.invariant.marked),
    )
