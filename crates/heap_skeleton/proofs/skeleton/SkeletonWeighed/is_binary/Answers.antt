use Rattle.std.proofs.Common.{false, ◌∙◌, sym, ap}
use Rattle.std.specs.Option.{option_map}
use Rattle.std.proofs.lemmas.Option.{get_or_from_slice_get, slice_get-map}
use Rattle.heap_graph.specs.Binaries.{binaries_among, is_binary_kind}
use Rattle.heap_skeleton.proofs.skeleton.SkeletonWeighed.is_binary.Goals as goal

pub returns : goal.returns
returns c =
    let kinds = c.args.self.now.kinds in
    c.is_binary_kind.ensures
    ∙ sym (get_or_from_slice_get (binaries_among kinds) c.args.cell (is_binary_kind c.kind.result) false (slice_get-map is_binary_kind kinds c.args.cell ∙ ap (option_map is_binary_kind) c.kind.ensures))
