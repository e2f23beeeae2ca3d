use Rattle.serde_json.proofs.FreeTexts.{text_of_value}
use Rattle.json_report.specs.Inner.Parts.{tree_of}
use Rattle.json_report.proofs.ReadingBack.{whole-tree}
use Rattle.json_report.proofs.building.written.Goals as goal

pub returns-in-Ok-clause-text : goal.returns-in-Ok-clause-text
returns-in-Ok-clause-text c =
    let found = c.args.found.now in
    let sent = c.in-Ok.ensures.events in
    text_of_value (tree_of found) sent.0 _ sent.1.0 sent.2 (whole-tree found.processes found.found found.state)
