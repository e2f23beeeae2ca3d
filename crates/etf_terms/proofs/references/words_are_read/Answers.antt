use Rattle.etf_terms.proofs.ReferenceFacts.{reads-references}
use Rattle.etf_terms.proofs.references.words_are_read.Goals as goal

pub returns : goal.returns
returns c = reads-references
