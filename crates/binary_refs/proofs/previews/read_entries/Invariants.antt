use Rattle.std.proofs.Common.{◌≡◌, ℕ, ◌*◌, List, length, map}
use Rattle.dump_io.specs.Dumps.{told, ReadsAtMost}
use Rattle.binary_refs.specs.Previews.{by_number, preview_entry, stated, stating}
use Rattle.binary_refs.proofs.previews.read_entries.Given as goal

-- the entries of the cells so far
abbrev pub invariant-loop-n : goal.invariant-loop-n
invariant-loop-n g l =
    let d = g.D.Dumps in
    record {
      reads : ReadsAtMost (d.state l.initial.dumps) (d.state l.dumps) (128 * length (by_number stated l.heap.cells l.n));
      stated : map stating l.entries.items ≡ by_number stated l.heap.cells l.n;
      entries : (dump : List ℕ) → (d.state l.initial.dumps).now ≡ told dump → l.entries.items ≡ by_number (preview_entry dump l.places l.heap.enc l.heap.cells) l.heap.cells l.n;
    }
