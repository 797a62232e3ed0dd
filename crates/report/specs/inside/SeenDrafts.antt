-- The drafts of the program as plain data.
use Rattle.report.specs.declared.draft.Draft.{Draft}
use Rattle.report.specs.declared.draft.Draft.TheVariants.{Nothing, WithSense, WithRows, WithPrices, Infeasible, WithPersons, WithObjects}
use Rattle.report.specs.Order as order
use Rattle.report.specs.Order.{nothing, with_sense, with_rows, with_prices, infeasible, with_persons, with_objects}

abbrev pub seen_draft : Draft → order.Draft
seen_draft Nothing = nothing
seen_draft (WithSense sense) = with_sense sense
seen_draft (WithRows sense cost rows) = with_rows sense cost rows.items
seen_draft (WithPrices sense cost rows prices) = with_prices sense cost rows.items prices.items
seen_draft (Infeasible sense) = infeasible sense
seen_draft (WithPersons sense persons) = with_persons sense persons.items
seen_draft (WithObjects sense persons objects) = with_objects sense persons.items objects.items
