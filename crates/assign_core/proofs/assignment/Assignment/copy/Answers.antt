use Rattle.std.proofs.Common.{◌≡◌, ◌∙◌}
use Rattle.assign_core.proofs.assignment.Assignment.copy.Goals as goal

same : (c : goal.In_ok-objects) → c.in_ok-objects.objects.items ≡ c.self.inside.objects.items
same c = c.in_ok-objects.ensures.items_if_clones_equal (λ x y h. h) ∙ c.as_slice.ensures.value

pub invariant_of-result : goal.invariant_of-result
invariant_of-result c = rw (same c) c.self.invariant

pub returns : goal.returns
returns c = same c ∙ c.self.view_is
