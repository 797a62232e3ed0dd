use Rattle.std.proofs.Common.{◌≡◌, ◌∙◌, ap, sym}
use Rattle.async_workers.specs.declared.rule.Known.{Known}
use Rattle.async_workers.specs.Desk.{DeskData, HeldData}
use Rattle.async_workers.specs.inside.Hand.{IsInHand}
use Rattle.async_workers.specs.Turns.{Leaving, Serves}
use Rattle.async_workers.proofs.Hands.{hand_taken, serves, serves_on}
use Rattle.async_workers.proofs.Turning.{can_turn_without, leaves_so, steps_out}
use Rattle.async_workers.proofs.place.leaving.step_out.Given as given
use Rattle.async_workers.proofs.place.leaving.step_out.Goals as goal
use Rattle.async_workers.proofs.place.leaving.step_out.Goals.{After-give, After-stop_if, After-take-held}

-- the book in hand after the take
taken : (g : given.Over) (c : After-take-held g) → IsInHand c.take-held.new.self c.take-held.result.book c.take-held.result.book
taken g c =
    let a = c.requires.1 in
    hand_taken c.args.desk.now c.take-held.new.self c.take-held.result.book a.0 a.1 a.2 c.take-held.ensures.took c.take-held.ensures.same

pub let_go-requires : goal.let_go-requires
let_go-requires g c = record { hand = (c.take-held.result.book, taken g (goal.at.let_go-requires g c).After-take-held) }

pub stop_if-requires : goal.stop_if-requires
stop_if-requires g c =
    let b = c.take-held.result.book in
    record { hand = (b, c.let_go.ensures.hand b (taken g (goal.at.stop_if-requires g c).After-take-held)) }

-- the book in hand before the give
last : (g : given.Over) (c : After-stop_if g) →
    IsInHand c.take-held.new.self c.take-held.result.book c.take-held.result.book →
    IsInHand c.stop_if.new.desk c.take-held.result.book c.stop_if.new.held.book
last g c hand = let b = c.take-held.result.book in c.stop_if.ensures.hand b (c.let_go.ensures.hand b hand)

pub give-requires-clause-held : goal.give-requires-clause-held
give-requires-clause-held g c =
    let at = goal.at.give-requires-clause-held g c in
    let hand = last g at.After-stop_if (taken g at.After-take-held) in
    (c.take-held.result.book, (hand.told, hand.holding, hand.same_number), hand.may)

pub give-requires-clause-number : goal.give-requires-clause-number
give-requires-clause-number g c =
    let at = goal.at.give-requires-clause-number g c in
    (last g at.After-stop_if (taken g at.After-take-held)).in_range

-- the whole session
served : (g : given.Over) (c : After-give g) →
    IsInHand c.stop_if.new.desk c.take-held.result.book c.stop_if.new.held.book →
    Serves c.args.desk.now c.give.new.desk (Leaving c.args.stopping c.args.desk.now.known)
served g c hand =
    let d = c.args.desk.now in
    let e = c.take-held.new.self in
    let a = c.requires.1 in
    let f = c.stop_if.new.desk in
    let held = c.stop_if.new.held in
    let same = c.take-held.ensures.same in
    let known = c.stop_if.ensures.desk in
    let is_f : f ≡ record e { known = f.known } = known ∙ ap (λ (k : Known). record e { known = k }) (sym (ap (λ (d : DeskData). d.known) known)) in
    let ends = leaves_so c.args.stopping d e f c.take-held.result c.let_go.new.held held same
    (ap (λ (h : HeldData). h.caught_up) c.take-held.ensures.held) c.let_go.ensures.held c.stop_if.ensures.held
    known in
    serves (Leaving c.args.stopping d.known) d e f c.give.new.desk c.take-held.result.book held.book held.caught_up
    a.0 a.1 a.2 c.take-held.ensures.took same is_f hand ends c.give.ensures.gave c.give.ensures.same

pub returns-clause-can_turn : goal.returns-clause-can_turn
returns-clause-can_turn g c =
    let at = goal.at.returns-clause-can_turn g c in
    let s = served g at.After-give (last g at.After-stop_if (taken g at.After-take-held)) in
    can_turn_without c.args.place.now _ c.args.desk.now c.give.new.desk s (steps_out c.args.stopping c.args.desk.now c.give.new.desk s).no_claim c.requires.0

pub returns-clause-out : goal.returns-clause-out
returns-clause-out g c =
    let at = goal.at.returns-clause-out g c in
    steps_out c.args.stopping c.args.desk.now c.give.new.desk (served g at.After-give (last g at.After-stop_if (taken g at.After-take-held)))

pub returns-clause-works : goal.returns-clause-works
returns-clause-works g c =
    let at = goal.at.returns-clause-works g c in
    serves_on _ c.args.desk.now c.give.new.desk (served g at.After-give (last g at.After-stop_if (taken g at.After-take-held)))
