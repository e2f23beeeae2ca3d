use Rattle.std.proofs.Common.{◌≡◌, ◌+◌, List, [], ◌∷◌, ℕ, length, take, ap₂, subst, arith}
use Rattle.std.specs.Prelude.{IfOk}
use Rattle.heap_graph.specs.Binaries.{binaries_among}
use Rattle.heap_weights.specs.Shares.{AreShares}
use Rattle.heap_levels.specs.Levels.{kind_cells, with_kinds}
use Rattle.heap_levels.proofs.KindFacts.{shares-weighed}
use Rattle.heap_levels.proofs.kind_graph.weigh_kinds.Goals as goal

pub returns : goal.returns
returns c =
    let heap = c.args.skeleton.now in
    let n = length heap.leads in
    let graph = with_kinds heap.leads c.args.stack.now.parts c.args.dict.now.parts c.args.mail.now.parts in
    let binaries = binaries_among heap.kinds in
    let last : c.in-Some.last ≡ n + 2 = omega (arith, c.in-Some.ensures, c.cells-own.ensures.graph) in
    let roots : c.cells-own.result ∷ (c.cells-own.result + 1) ∷ c.in-Some.last ∷ [] ≡ kind_cells heap.leads = ap₂ (λ a b. a ∷ (a + 1) ∷ b ∷ []) c.cells-own.ensures.graph last in
    shares-weighed graph heap.words binaries n heap.own (kind_cells heap.leads) c.weigh.result c.own_is_within.ensures
    (subst (λ (l : List ℕ). IfOk c.weigh.result (AreShares graph (take n heap.words) (take n binaries) heap.own l)) roots c.weigh.ensures)
