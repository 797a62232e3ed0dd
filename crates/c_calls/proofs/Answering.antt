-- What holds of the costs that a caller gives.
use Rattle.std.proofs.Common.{◌≡◌, subst}
use Rattle.cost_lists.specs.ListedCosts.{ListedCosts}
use Rattle.c_calls.specs.declared.size.Shape.{Shape}
use Rattle.c_calls.specs.lists.Faults.{IsOfInput, IsWhole}
use Rattle.c_calls.specs.lists.Input.{InputLists, lists_in}
use Rattle.c_calls.specs.lists.Shapes.{IsShape}

-- what holds of the costs in these lists holds of what is given
pub of_input : (g : InputLists) (shape : Shape) (l : ListedCosts) (Holds : ListedCosts → Type 0) → IsShape g shape →
    IsWhole g → l ≡ lists_in shape.sense g → Holds l → IsOfInput g Holds
of_input g shape l Holds is whole same h = record {
  sense = shape.sense;
  wanted = is.wanted;
  whole = whole;
  holds = subst Holds same h;
}
