use Rattle.std.proofs.Common.{◌≡◌, rules, inl, inr, refl, SFits}
use Rattle.std.specs.Int.{w32}
use Rattle.std.proofs.lemmas.Int.{to_z-of_z}
use Rattle.c_blocks.specs.DoubleBlocks.{Numbers, Shown, shown_in}
use Rattle.c_blocks.proofs.DoubleBlocks.{memory_refused, shown}
use Rattle.c_blocks.proofs.doubles.doubles_block_on.Goals as goal

pub returns-in-Ok-show : goal.returns-in-Ok-show
returns-in-Ok-show c =
    let fits : SFits w32 c.report.result = search rules in
    let same : c.input.inside.costs.now ≡ c.args.input.now.costs = search rules in
    let lengths = c.in-Ok.ensures.shape.fits.lengths in
    let numbers : Numbers = record {
      objects = c.args.objects.now;
      of_costs = c.args.number_costs.now;
      of_prices = c.args.number_prices.now;
      prices = c.args.prices.now;
    } in
    let before : Shown = shown_in c.args.least_objects.now c.args.least_costs.now c.args.own.now
    c.args.better_persons.now c.args.better_objects.now c.args.better_costs.now c.args.info.now in
    let after : Shown = shown_in c.show.new.least_objects c.show.new.least_costs c.show.new.own
    c.show.new.better_persons c.show.new.better_objects c.show.new.better_costs c.report.new.info in
    simp to_z-of_z (inl (shown c.args.input.now c.in-Ok.shape.sense numbers c.args.most c.in-Ok-show.looked.count before after
    c.report.result c.in-Ok-show.looked.first c.input.inside.costs.now c.in-Ok.ensures.whole same (c.requires.objects lengths)
    (c.requires.number_costs lengths) (c.requires.prices lengths) (c.in_default.ensures.0)
    (c.in_default-first_infinite.ensures.0) (c.in_default-first_infinite.ensures.1) c.in-Ok-show.ensures.least
    c.in-Ok-show.ensures.own c.in-Ok-show.ensures.first c.in-Ok-show.ensures.better c.report.ensures))

pub returns-in-Err-show : goal.returns-in-Err-show
returns-in-Err-show c =
    let stays = c.in-Err-show.ensures.stays in
    let numbers : Numbers = record {
      objects = c.args.objects.now;
      of_costs = c.args.number_costs.now;
      of_prices = c.args.number_prices.now;
      prices = c.args.prices.now;
    } in
    let before : Shown = shown_in c.args.least_objects.now c.args.least_costs.now c.args.own.now
    c.args.better_persons.now c.args.better_objects.now c.args.better_costs.now c.args.info.now in
    let after : Shown = shown_in c.show.new.least_objects c.show.new.least_costs c.show.new.own
    c.show.new.better_persons c.show.new.better_objects c.show.new.better_costs c.args.info.now in
    inr (inr (inr (inr (memory_refused c.args.input.now c.in-Ok.shape.sense numbers before after c.in-Ok.ensures.whole
    c.in_default.ensures.0 c.in_default-first_infinite.ensures.0 c.in_default-first_infinite.ensures.1
    stays.0 stays.1 stays.2 stays.3 stays.4 stays.5 refl))))
