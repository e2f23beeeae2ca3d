use Rattle.std.proofs.Common.{◌++◌, ◌∙◌, []}
use Rattle.root_views.specs.declared.kinds.RootKind.TheVariants.{Dict, Stack}
use Rattle.root_views.specs.Kinds.{roots_in}
use Rattle.term_text.specs.Reach.{root_elements}
use Rattle.heap_commands.proofs.reach.add_all.Goals as goal

pub returns-clause-heap : goal.returns-clause-heap
returns-clause-heap c = c.add_roots-3.ensures.heap ∙ c.add_roots-2.ensures.heap ∙ c.add_roots.ensures.heap

pub returns-clause-roots : goal.returns-clause-roots
returns-clause-roots c =
    let stack = root_elements (roots_in Stack c.args.roots.now.stack.bytes.items) in
    let dict = root_elements (roots_in Dict c.args.roots.now.dict.bytes.items) in
    let one = rw c.as_slice.ensures.value at (c.add_roots.ensures.roots [] c.requires) in
    let two = rw c.as_slice-2.ensures.value at (c.add_roots-2.ensures.roots stack one) in
    rw c.as_slice-3.ensures.value at (c.add_roots-3.ensures.roots (stack ++ dict) two)
