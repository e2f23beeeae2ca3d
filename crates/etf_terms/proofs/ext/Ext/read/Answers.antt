use Rattle.etf_terms.proofs.Whole.{bad-judged, external-judged}
use Rattle.etf_terms.proofs.ext.Ext.read.Goals as goal

pub returns-in-Err-clause-fault : goal.returns-in-Err-clause-fault
returns-in-Err-clause-fault c = bad-judged c.args.bytes.now c.in-Err.at c.in-Err.ensures

pub returns-in-Err-judged-clause-fault : goal.returns-in-Err-judged-clause-fault
returns-in-Err-judged-clause-fault c = external-judged c.args.bytes.now c.in-Ok.ensures
