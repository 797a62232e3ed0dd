use Rattle.std.proofs.Common.{◌∙◌, ap}
use Rattle.async_workers.specs.Desk.{DeskData}
use Rattle.async_workers.specs.Turns.{without_claim}
use Rattle.async_workers.proofs.Turning.{let_go_hand}
use Rattle.async_workers.proofs.place.leaving.let_go.Goals as goal

pub returns-clause-hand : goal.returns-clause-hand
returns-clause-hand c taken hand =
    let number = ap (λ (d : DeskData). d.known.number) c.desk.view_is in
    let_go_hand c.args.desk.now taken c.args.held.now.book c.give_up.new.self hand (c.give_up.ensures.book ∙
    (λ i. without_claim (c.book_mut.ensures.value i) (number i))) c.give_up.ensures.free
