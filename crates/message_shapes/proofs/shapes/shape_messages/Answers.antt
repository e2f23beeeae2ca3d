use Rattle.std.proofs.Common.{length}
use Rattle.message_shapes.proofs.ShownFacts.{mail-shown}
use Rattle.message_shapes.proofs.shapes.shape_messages.Goals as goal

pub returns-clause-messages : goal.returns-clause-messages
returns-clause-messages g c = λ dump is.
    mail-shown c.args.pids dump c.args.index.now c.args.pid.now c.args.skeleton.now c.args.heard c.in_ok-cells.cells c.in_ok-shapes.shapes
    (c.requires.skeleton dump is) (c.requires.heard dump is)
    c.in_ok-cells.ensures.ascending c.in_ok-cells.ensures.all
    (c.in_ok-shapes.ensures.shapes dump is)

pub cell_shapes_with-requires-clause-cells : goal.cell_shapes_with-requires-clause-cells
cell_shapes_with-requires-clause-cells g c = c.in_ok-cells.ensures.within (length c.args.skeleton.now.leads) c.requires.cells
