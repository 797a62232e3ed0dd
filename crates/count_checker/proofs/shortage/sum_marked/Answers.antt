use Rattle.std.proofs.Common.{ℕ, get_or, false, arith, rules, Fits, w32, sym, ◌∙◌}
use Rattle.std.proofs.lemmas.Bool.{cond-true, cond-false}
use Rattle.count_checker.proofs.Taking.{marked_more}
use Rattle.count_checker.proofs.shortage.sum_marked.Goals as goal
use Rattle.count_checker.proofs.shortage.sum_marked.Goals.{then-has, else-has}

pub loop-k-preserved : goal.loop-k-preserved
loop-k-preserved c =
    let k = c.loop-k.k in
    let marks = c.args.marks.now in
    let xs = c.args.numbers.now in
    let x : ℕ = get_or xs k 0 in
    let fits : Fits w32 x = search rules in
    let small = fits.fits in
    let before = c.loop-k.invariant.so_far in
    let few = c.loop-k.invariant.small in
    let more = marked_more marks xs k c.loop-k-test.true (let e = c.requires.long in let t = c.loop-k-test.true in omega arith) in
    elim c.if-has.branch [
      | then-has w ↦
          let on = cond-true (get_or marks k false) x 0 (sym c.has.ensures ∙ w.if-has.true) in
          record { so_far = let e = w.sum-is in omega arith; small = let e = w.sum-is in omega arith }
      | else-has w ↦
          let off = cond-false (get_or marks k false) x 0 (sym c.has.ensures ∙ w.if-has.false) in
          record { so_far = let e = w.sum-is in omega arith; small = let e = w.sum-is in omega arith }
    ]
