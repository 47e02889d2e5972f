-- The grid's marks, and how many anchors were found, as those of the steps. Assumes nothing.
use Rattle.std.specs.Prelude.{◌≡◌}
use Rattle.order_theory.specs.Tables.{Marked}
use Rattle.order.specs.declared.grid.Grid.{Grid}

abbrev pub steps_of : {B : Type 0} → Grid B → Marked
steps_of g = record { marks = g.marks; anchors = g.anchors }

-- nothing else of a grid changes
abbrev pub RestStays : {B : Type 0} → Grid B → Grid B → Type 0
RestStays old new = new ≡ record old { marks = new.marks; anchors = new.anchors }
