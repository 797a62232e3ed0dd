use Rattle.std.proofs.Common.{◌∙◌, sym, subst, Some, arith}
use Rattle.std.specs.List.{All}
use Rattle.std.proofs.lemmas.List.Elements.{All-pop, All-push}
use Rattle.async_workers.specs.Desk.{IsReady, IsTrueOf, session_by}
use Rattle.async_workers.proofs.place.closing.meet_all.Goals as goal

pub meet-requires-clause-closing : goal.meet-requires-clause-closing
meet-requires-clause-closing c = let h = c.requires.closing in (h.0, h.1, c.loop-desk.invariant.closing h.0 h.1 h.2)

pub meet-requires-clause-away : goal.meet-requires-clause-away
meet-requires-clause-away c =
    let ready = All-pop (IsReady c.args.queue.now.table.shared.table_id) c.loop-desk.desks.items
    c.pop.new.self.items (Some c.in-Some.desk) c.in-Some.ensures.items c.loop-desk.invariant.ready in
    (session_by c.in-Some.desk ready.1.1.0 ready.1.1.1, c.into_pass.ensures.view ∙ ready.1.1.2)

pub loop-desk-preserved : goal.loop-desk-preserved
loop-desk-preserved c =
    let desk = c.in-Some.desk in
    let inv = c.loop-desk.invariant in
    let items = c.in-Some.ensures.items in
    let ready = All-pop (IsReady c.args.queue.now.table.shared.table_id) c.loop-desk.desks.items c.pop.new.self.items (Some desk) items inv.ready in
    let m = c.meet.ensures in
    record {
      same = (m.queue.0 ∙ inv.same.0, m.queue.1 ∙ inv.same.1, m.queue.2 ∙ inv.same.2);
      closing = λ t taken cl. m.closing t taken (inv.closing t taken cl);
      ready = ready.0;
      told = λ t taken cl all. inv.told t taken cl (subst (All (IsTrueOf taken)) (sym items) (All-push (IsTrueOf taken) c.pop.new.self.items desk all
          (λ a put away. m.current t taken (session_by desk a put) (inv.closing t taken cl) (c.into_pass.ensures.view ∙ away))));
    }

pub returns : goal.returns
returns c t taken cl = c.loop-desk.invariant.told t taken cl (λ k d lt. let none = c.in_default.ensures.cases.0 in
    absurd (omega (arith, none, c.loop-desk.desks.ok)))
