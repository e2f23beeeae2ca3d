use Rattle.std.proofs.Common.{sym, ap, ◌∙◌}
use Rattle.dump_audit.specs.FindingViews.{kind_in}
use Rattle.dump_audit.proofs.EntryFacts.{kind-there}
use Rattle.dump_audit.proofs.views.kind.Goals as goal

pub returns : goal.returns
returns c = sym (ap kind_in c.entry-entry.ensures) ∙ kind-there c.args.graph.now c.args.procs.now.processes c.args.p c.args.entry c.requires.graph
