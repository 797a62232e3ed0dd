use Rattle.std.proofs.Common.{◌≡◌, ◌+◌, set, ap, sym, arith, ◌∙◌, Vec, Global}
use Rattle.assign_core.specs.Numbered.{renumbered}
use Rattle.assign_core.specs.declared.numbers.Object.{Object}
use Rattle.assign_core.proofs.NumberedLemmas.{length-renumbered, renumber-set}
use Rattle.auction_book.proofs.Answering.{inverse_more, inverse_on, read_owner}
use Rattle.auction_book.proofs.book.answering.objects_of.Goals as goal
use Rattle.auction_book.proofs.book.answering.objects_of.Goals.{in-Some, in_default}

pub place-requires : goal.place-requires
place-requires c = (c.requires.within c.in-Some.person (c.loop-place.place + 1)
    (read_owner c.args.owners.now c.loop-place.place _ _ c.loop-place-test.true c.in-Some.is)).first

pub index_mut-requires : goal.index_mut-requires
index_mut-requires c =
    let number = c.requires.within c.in-Some.person (c.loop-place.place + 1)
    (read_owner c.args.owners.now c.loop-place.place _ _ c.loop-place-test.true c.in-Some.is) in
    let first = number.first in
    let last = number.last in
    let e = c.place.ensures in
    let long = c.loop-place.invariant.long in
    let ok = c.loop-place.objects.ok in
    omega arith

pub loop-place-preserved : goal.loop-place-preserved
loop-place-preserved c =
    let owners = c.args.owners.now in
    let place = c.loop-place.place in
    let objects = c.loop-place.objects.items in
    let long = c.loop-place.invariant.long in
    elim c.match-owners-place.branch [
      | in-Some w ↦
          let p = w.in-Some.person in
          let own = read_owner owners place _ _ c.loop-place-test.true w.in-Some.is in
          let number = c.requires.within p (place + 1) own in
          let items : c.match-owners-place.objects.items ≡ renumbered objects p (place + 1) =
          ap (λ (v : Vec Object Global). v.items) w.objects-is ∙ ap (λ k. set objects k (place + 1))
          w.place.ensures ∙ sym (renumber-set objects p (place + 1) number.first) in
          rw items (record {
            long = length-renumbered objects p (place + 1) ∙ long;
            inverse = inverse_more owners objects place p c.requires.apart (record {
              first = number.first;
              last =
                  let l = number.last in omega arith;
            }) own c.loop-place.invariant.inverse;
          })
      | in_default w ↦
          rw w.objects-is (record {
            long = long;
            inverse =
                inverse_on owners objects place (read_owner owners place _ _ c.loop-place-test.true w.in_default.is)
                c.loop-place.invariant.inverse;
          })
    ]
