use Rattle.std.proofs.Common.{◌≡◌, List, [], ◌∷◌, ◌++◌, pos, ◌<ℤ◌, ap, refl, ◌∙◌, get_or, rules, IsTrue, SFits, w64}
use Rattle.std.proofs.lemmas.Int.{to_z-of_z}
use Rattle.exact_checker.specs.inside.Sums.{sum_at}
use Rattle.c_wide.specs.declared.fewest.tight.Tight.{Tight}
use Rattle.c_wide.specs.fewest.Tight.{pair}
use Rattle.c_wide.proofs.NotedRows.{pair_pushed, pair_skipped}
use Rattle.c_wide.proofs.fewest.tight.note_part.Goals as goal
use Rattle.c_wide.proofs.fewest.tight.note_part.Goals.{then-not-is_above+in_ok-push, else-not-is_above}

pub loop-j-preserved : goal.loop-j-preserved
loop-j-preserved c =
    let sense = c.args.sense in
    let row = c.args.row.now in
    let prices = c.args.prices.now in
    let value = c.args.value in
    let person = c.args.person in
    let j = c.loop-j.j in
    let before : List Tight = c.loop-j.tight.items in
    let after : List Tight = c.if-not-is_above.tight.items in
    let range = c.ranges.value in
    let x : SFits w64 (get_or row j (pos 0)) = search rules in
    let y : SFits w64 (get_or prices j (pos 0)) = search rules in
    let far = simp to_z-of_z at c.is_above.ensures in
    let noted = simp to_z-of_z at c.loop-j.invariant.noted in
    elim c.if-not-is_above.branch [
      | then-not-is_above+in_ok-push w ↦
          let is : after ≡ before ++ pair person j ∷ [] = ap (λ v. v.items) w.tight-is ∙ w.in_ok-push.ensures.items in
          let both = pair_pushed sense row prices value person j c.args.tight.now.items before after is noted c.loop-j.invariant.before in
          simp to_z-of_z (record { noted = both.0; before = both.1 })
      | else-not-is_above w ↦
          let yes : IsTrue c.is_above.result = rw w.if-not-is_above.false refl in
          let above : value <ℤ sum_at sense row prices j = far yes in
          let same : after ≡ before = ap (λ v. v.items) w.tight-is in
          simp to_z-of_z (record {
            noted = rw same (pair_skipped sense row prices value person j before noted above);
            before = rw same c.loop-j.invariant.before;
          })
    ]
