-- Cells of two bodies, of which those with different addresses were kept.
use Rattle.std.specs.Prelude.{◌≡◌, ◌≤◌}
use Rattle.dump_io.specs.Limits.{usual}
use Rattle.cell_records.specs.Order.{AreAllFirst, AreRanked}
use Rattle.heap_cells.specs.Cells.{cells_of, own_count}
use Rattle.heap_cells.specs.declared.texts.Texts.{Texts}
use Rattle.heap_cells.specs.Inner.Gathering.{HoldsCells}
use Rattle.heap_cells.specs.Inner.Texts.{weight_in}
use Rattle.heap_graph.specs.declared.settling.Ordered.{Ordered}
use Rattle.heap_graph.specs.Held.{addresses_of, IsSmall}

-- the cells of a heap are held, with their addresses in order
pub record IsSettledIn (texts : Texts) (ordered : Ordered) : Type 0 where
  pub holds : HoldsCells texts ordered.settled.held (cells_of texts.enc texts.heap.items texts.literals.items)
  pub own_is : ordered.settled.own ≡ own_count texts.enc texts.heap.items
  pub weight : weight_in texts ≤ usual.dense
  pub small : IsSmall ordered.settled.held
  pub ranked : AreRanked (addresses_of ordered.settled.held.parts.items) ordered.ranks
  pub distinct : AreAllFirst (addresses_of ordered.settled.held.parts.items)
