use Rattle.std.proofs.Common.{sym}
use Rattle.std.proofs.lemmas.List.Sorted.{IsPermutation-map, list_any-IsPermutation}
use Rattle.link_graph.specs.Kinds.{is_same_kind}
use Rattle.link_graph.specs.Seen.{shown_kind}
use Rattle.link_graph.proofs.kind_set.KindSet.of.Goals as goal

pub returns : goal.returns
returns c = λ wanted.
    sym (list_any-IsPermutation (is_same_kind (shown_kind wanted)) _ _ (IsPermutation-map shown_kind _ _ c.sort_unstable.ensures.permutation))
