use Rattle.std.proofs.Common.{◌∙◌, ap, sym}
use Rattle.async_workers.specs.declared.rule.View.TheVariants.{Away}
use Rattle.async_workers.specs.Views.{session_at}
use Rattle.async_workers.specs.Desk.{DeskData}
use Rattle.async_workers.proofs.place.Held.give.Goals as goal

pub returns-clause-gave : goal.returns-clause-gave
returns-clause-gave g c t taken e number =
    let is = c.desk.view_is in
    c.put_back.ensures.gave t taken (ap (λ (d : DeskData). d.view) is ∙ e) (number ∙
    sym (ap (λ (d : DeskData). d.known.number) is)) ∙
    (λ i. Away (session_at (is i).known taken (c.self.view_is i).book))
