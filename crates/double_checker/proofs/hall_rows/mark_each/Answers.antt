use Rattle.std.proofs.Common.{◌≡◌, ℕ, length, get_or, subst, sym, arith}
use Rattle.assign_core.specs.Numbered.{IsNumber}
use Rattle.double_checker.proofs.Given.{AreGiven, AreMarked, given_more, marked_more, marks_just}
use Rattle.double_checker.proofs.hall_rows.mark_each.Goals as goal

pub loop-i-preserved : goal.loop-i-preserved
loop-i-preserved c =
    let i = c.loop-i.i in
    let l : length c.loop-i.named ≡ length c.args.named.now = c.loop-i.auto.named in
    let n : IsNumber (length c.loop-i.named) (get_or c.args.objects.now i 0) =
    subst (λ (q : ℕ). IsNumber q (get_or c.args.objects.now i 0)) (sym l)
    (c.requires.within i 0 c.loop-i-test.true) in
    record {
      given = given_more c.args.objects.now c.loop-i.named i n c.loop-i.invariant.given;
      marked = marked_more c.args.objects.now c.loop-i.named i n c.loop-i.invariant.marked;
    }

pub returns : goal.returns
returns c =
    let xs = c.args.objects.now in
    let e : c.loop-i.i ≡ length xs = (let a = c.loop-i-test.false in let b = c.loop-i.auto.i-end in omega arith) in
    marks_just xs c.loop-i.named (subst (AreGiven c.loop-i.named xs) e c.loop-i.invariant.given)
    (subst (AreMarked c.loop-i.named xs) e c.loop-i.invariant.marked)
