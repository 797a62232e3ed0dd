use Rattle.std.proofs.Common.{rules, inr, ◌∙◌, SFits}
use Rattle.std.specs.Int.{w32}
use Rattle.std.proofs.lemmas.Int.{to_z-of_z}
use Rattle.c_blocks.proofs.Refusals.{memory_refused}
use Rattle.c_blocks.proofs.block.block_on.Goals as goal

pub returns-in-Err-show : goal.returns-in-Err-show
returns-in-Err-show c =
    let fits : SFits w32 c.refuse-in-Err-show.result = search rules in
    let stays = c.in-Err-show.ensures.stays in
    simp to_z-of_z (inr (memory_refused c.args.input.now
    (record {
      least = c.args.least.now;
      own = c.args.own.now;
      better = record { persons = c.args.better_persons.now; objects = c.args.better_objects.now; costs = c.args.better_costs.now };
      info = c.args.info.now;
    })
    (record {
      least = c.show.new.least;
      own = c.show.new.own;
      better = record { persons = c.show.new.better_persons; objects = c.show.new.better_objects; costs = c.show.new.better_costs };
      info = c.refuse-in-Err-show.new.info;
    })
    c.refuse-in-Err-show.result c.in-Ok.ensures.whole c.refuse-in-Err-show.ensures.code
    stays.0 stays.1 stays.2 stays.3 stays.4 (c.refuse-in-Err-show.ensures.place ∙ stays.5)))
