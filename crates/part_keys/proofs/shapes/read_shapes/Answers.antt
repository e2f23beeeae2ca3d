use Rattle.std.proofs.Common.{◌∙◌, ap, length}
use Rattle.std.proofs.lemmas.List.{length-map}
use Rattle.part_keys.specs.Inner.KeyTexts.{key_text}
use Rattle.part_keys.specs.Inner.PartTexts.{part_text}
use Rattle.part_keys.proofs.PartFacts.{labels-shown, parts-shown}
use Rattle.part_keys.proofs.shapes.read_shapes.Goals as goal

pub load-requires-clause-cells : goal.load-requires-clause-cells
load-requires-clause-cells g c = c.in_ok-cells.ensures.within (length c.args.skeleton.now.leads) c.requires.keys c.requires.parts

pub returns-clause-count : goal.returns-clause-count
returns-clause-count g c =
    ap length c.in_ok-texts.ensures.labels ∙ length-map c.args.keys.now (key_text c.args.skeleton.now c.in_ok-firsts.firsts c.in_ok-tuples.tuples)

pub returns-clause-parts_count : goal.returns-clause-parts_count
returns-clause-parts_count g c =
    ap length c.in_ok-texts.ensures.shapes ∙ length-map c.args.parts.now (part_text c.args.skeleton.now c.in_ok-firsts.firsts c.in_ok-tuples.tuples)

pub returns-clause-labels : goal.returns-clause-labels
returns-clause-labels g c = λ dump is.
    labels-shown dump c.args.index.now c.args.pid.now c.args.keys.now c.args.parts.now c.args.skeleton.now c.in_ok-cells.field-0.most c.in_ok-firsts.firsts c.in_ok-tuples.tuples
    (record {
      skeleton = c.requires.skeleton dump is;
      among = c.in_ok-cells.ensures.most;
      numbers = c.in_ok-cells.field-0.cells;
      rising = c.in_ok-cells.ensures.ascending;
      all = c.in_ok-cells.ensures.all;
      cells = c.in_ok-firsts.ensures.cells;
      firsts = c.in_ok-firsts.ensures.fronts dump is;
      others = c.in_ok-others.others;
      others_rising = c.in_ok-others.ensures.ascending;
      all_others = c.in_ok-others.ensures.all;
      other_cells = c.in_ok-tuples.ensures.cells;
      fronts = c.in_ok-tuples.ensures.fronts dump (c.in_ok-firsts.ensures.reads.same_now ∙ is);
    })
    c.in_ok-texts.texts.labels c.in_ok-texts.ensures.labels

pub returns-clause-shapes : goal.returns-clause-shapes
returns-clause-shapes g c = λ dump is.
    parts-shown dump c.args.index.now c.args.pid.now c.args.keys.now c.args.parts.now c.args.skeleton.now c.in_ok-cells.field-0.most c.in_ok-firsts.firsts c.in_ok-tuples.tuples
    (record {
      skeleton = c.requires.skeleton dump is;
      among = c.in_ok-cells.ensures.most;
      numbers = c.in_ok-cells.field-0.cells;
      rising = c.in_ok-cells.ensures.ascending;
      all = c.in_ok-cells.ensures.all;
      cells = c.in_ok-firsts.ensures.cells;
      firsts = c.in_ok-firsts.ensures.fronts dump is;
      others = c.in_ok-others.others;
      others_rising = c.in_ok-others.ensures.ascending;
      all_others = c.in_ok-others.ensures.all;
      other_cells = c.in_ok-tuples.ensures.cells;
      fronts = c.in_ok-tuples.ensures.fronts dump (c.in_ok-firsts.ensures.reads.same_now ∙ is);
    })
    c.in_ok-texts.texts.shapes c.in_ok-texts.ensures.shapes
