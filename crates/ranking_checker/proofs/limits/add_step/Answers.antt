use Rattle.std.proofs.Common.{◌≢◌}
use Rattle.std.proofs.lemmas.List.Elements.{All-push}
use Rattle.ranking_checker.specs.inside.Trees.{object_in}
use Rattle.ranking_checker.proofs.TreeLaws.{keep_more, left_back, parted_back}
use Rattle.ranking_checker.proofs.limits.add_step.Goals as goal

pub returns-then-u-part-clause-obey : goal.returns-then-u-part-clause-obey
returns-then-u-part-clause-obey c = λ ys at obey.
    let back = parted_back c.args.tree ys c.args.u c.args.part c.requires.u.0 at c.if-u-part.true in (
      back.0,
      record {
        keep = obey.keep;
        avoid = rw (c.in_ok-push.ensures.items, c.plan_at.ensures.plan) (All-push (λ x. object_in ys x.person ≢ x.object) _ _ obey.avoid back.1);
      },
    )

pub returns-then-parent-part-clause-obey : goal.returns-then-parent-part-clause-obey
returns-then-parent-part-clause-obey c = λ ys at obey.
    let back = left_back c.args.tree ys c.args.u c.args.part c.requires.u.0 at c.if-u-part.false in
    let same = back.1 c.if-parent-part.true in (
      back.0,
      record {
        keep = rw c.plan_at-then-parent-part.ensures.plan (keep_more ys _ _ _ obey.keep same);
        avoid = obey.avoid;
      },
    )
