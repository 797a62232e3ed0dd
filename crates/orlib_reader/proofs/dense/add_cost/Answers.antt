use Rattle.std.proofs.Common.{length, to_z-of_z, ap, ◌∙◌, sym, refl}
use Rattle.std.proofs.lemmas.List.{length-map}
use Rattle.orlib_reader.proofs.Kept.{kept_moved, kept_grown, kept_lost}
use Rattle.orlib_reader.proofs.dense.add_cost.Goals as goal

pub returns-in_err-push-2-clause-kept : goal.returns-in_err-push-2-clause-kept
returns-in_err-push-2-clause-kept c = rw (c.in_err-push-2.ensures.items, c.replace-full.ensures.after, c.new.ensures.items) (kept_lost _ _ _ c.requires.kept)

pub returns-in_ok-push-2-clause-kept : goal.returns-in_ok-push-2-clause-kept
returns-in_ok-push-2-clause-kept c =
    let value = c.replace-full.ensures.value in
    let x = c.ranges.cost in
    rw (c.in_ok-push-2.ensures.items, c.replace-full.ensures.after, c.new.ensures.items)
    (kept_moved (λ r. r.items) _ _ _ _ c.len.result c.args.cost c.requires.kept c.requires.room c.requires.cost
    (c.len.ensures ∙ c.take_room.new.row.ok.0 ∙ ap length c.take_room.ensures)
    (rw (value, c.in_ok-push.ensures.items, c.take_room.ensures) (simp to_z-of_z refl))
    (rw value (sym c.push.new.self.ok.0 ∙ sym c.len-2.ensures ∙ c.if-len-n.true)))

pub returns-else-len-n-clause-kept : goal.returns-else-len-n-clause-kept
returns-else-len-n-clause-kept c =
    let x = c.ranges.cost in
    kept_grown _ _ c.args.row.now.items _ c.len.result c.args.cost c.requires.kept (rw length-map c.requires.room) c.requires.cost
    (c.len.ensures ∙ c.take_room.new.row.ok.0 ∙ ap length c.take_room.ensures)
    (rw (c.in_ok-push.ensures.items, c.take_room.ensures) (simp to_z-of_z refl))
    (λ e. c.if-len-n.false (c.len-2.ensures ∙ c.push.new.self.ok.0 ∙ e))
