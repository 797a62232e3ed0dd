use Rattle.std.proofs.Common.{refl, ◌∙◌, get_or}
use Rattle.std.proofs.lemmas.List.{length-set}
use Rattle.hungarian.proofs.Rooms.{flips_begin, flips_end, flips_fall, flips_go, owner_room, path_room, person_room}
use Rattle.hungarian.proofs.augmenting.augment.Goals as goal

pub loop-object-init : goal.loop-object-init
loop-object-init c = record {
  objects_long = refl;
  owners_long = refl;
  flipping = flips_begin c.args.owners.now c.args.objects.now c.args.predecessors.now c.args.ranks.now c.args.end;
}

pub bounds-predecessors-object : goal.bounds-predecessors-object
bounds-predecessors-object c =
    let l = c.loop-object in
    path_room c.args.owners.now c.args.objects.now c.args.predecessors.now c.args.ranks.now c.args.end c.requires
    l.object l.owners l.objects c.loop-object-test.true l.invariant.owners_long l.invariant.objects_long
    l.invariant.flipping

pub bounds-objects-person : goal.bounds-objects-person
bounds-objects-person c =
    let l = c.loop-object in
    person_room c.args.owners.now c.args.objects.now c.args.predecessors.now c.args.ranks.now c.args.end c.requires
    l.object l.owners l.objects c.loop-object-test.true l.invariant.owners_long l.invariant.objects_long
    l.invariant.flipping

pub bounds-objects-person-in-loop-object : goal.bounds-objects-person-in-loop-object
bounds-objects-person-in-loop-object c =
    let l = c.loop-object in
    person_room c.args.owners.now c.args.objects.now c.args.predecessors.now c.args.ranks.now c.args.end c.requires
    l.object l.owners l.objects c.loop-object-test.true l.invariant.owners_long l.invariant.objects_long
    l.invariant.flipping

pub bounds-owners-object : goal.bounds-owners-object
bounds-owners-object c =
    let l = c.loop-object in
    owner_room c.args.owners.now c.args.objects.now c.args.predecessors.now c.args.ranks.now c.args.end c.requires
    l.object l.owners l.objects c.loop-object-test.true l.invariant.owners_long l.invariant.objects_long
    l.invariant.flipping

pub loop-object-preserved : goal.loop-object-preserved
loop-object-preserved c =
    let l = c.loop-object in
    let person = get_or c.args.predecessors.now l.object 0 in
    record {
      objects_long = length-set l.objects person l.object ∙ l.invariant.objects_long;
      owners_long = length-set l.owners l.object person ∙ l.invariant.owners_long;
      flipping =
          flips_go c.args.owners.now c.args.objects.now c.args.predecessors.now c.args.ranks.now c.args.end c.requires
          l.object l.owners l.objects c.loop-object-test.true l.invariant.owners_long l.invariant.objects_long
          l.invariant.flipping;
    }

pub loop-object-smaller : goal.loop-object-smaller
loop-object-smaller c =
    let l = c.loop-object in
    flips_fall c.args.owners.now c.args.objects.now c.args.predecessors.now c.args.ranks.now c.args.end c.requires
    l.object l.owners l.objects c.loop-object-test.true l.invariant.owners_long l.invariant.objects_long
    l.invariant.flipping

pub returns : goal.returns
returns c =
    let l = c.loop-object in
    flips_end c.args.owners.now c.args.objects.now c.args.predecessors.now c.args.ranks.now c.args.end
    l.object l.owners l.objects c.loop-object-test.false l.invariant.flipping
