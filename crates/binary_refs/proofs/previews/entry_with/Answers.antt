use Rattle.std.proofs.Common.{◌≡◌, Some, sym, ◌∙◌, ap}
use Rattle.binary_refs.specs.Previews.{entry_at}
use Rattle.binary_refs.proofs.EntryFacts.{point-within, point-entry, entry-cell}
use Rattle.binary_refs.proofs.previews.entry_with.Goals as goal

pub bounds-entries-count_below : goal.bounds-entries-count_below
bounds-entries-count_below c = point-within c.args.entries.now c.args.n c.count_below.result c.count_below.ensures.point c.requires.some

-- the entry that is read is the one that is looked up
found : (c : goal.After-index-entries-count_below) → entry_at c.args.entries.now c.args.n ≡ Some c.index-entries-count_below.result
found c =
    let inside = point-within c.args.entries.now c.args.n c.count_below.result c.count_below.ensures.point c.requires.some in
    point-entry c.args.entries.now c.args.n c.count_below.result c.index-entries-count_below.result c.requires.sorted c.count_below.ensures.point c.requires.some inside
    ∙ ap Some (sym c.index-entries-count_below.is)

pub returns-clause-entry : goal.returns-clause-entry
returns-clause-entry c = found c

pub returns-clause-cell : goal.returns-clause-cell
returns-clause-cell c = entry-cell c.args.entries.now c.args.n c.index-entries-count_below.result (found c)
