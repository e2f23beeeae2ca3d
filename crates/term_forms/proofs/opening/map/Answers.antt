use Rattle.std.proofs.Common.{[]}
use Rattle.term_forms.proofs.Ends.{end-behind}
use Rattle.term_forms.proofs.opening.map.Goals as goal

pub flat-requires : goal.flat-requires
flat-requires c = end-behind c.args.text.now c.args.rest.now [] c.in_ok-kind.rest.now c.in_ok-kind.kind.now c.requires c.in_ok-kind.ensures.cases.0

pub hash-requires : goal.hash-requires
hash-requires c = end-behind c.args.text.now c.args.rest.now [] c.in_ok-kind.rest.now c.in_ok-kind.kind.now c.requires c.in_ok-kind.ensures.cases.0

pub counted-requires : goal.counted-requires
counted-requires c = end-behind c.args.text.now c.args.rest.now [] c.in_ok-kind.rest.now c.in_ok-kind.kind.now c.requires c.in_ok-kind.ensures.cases.0
