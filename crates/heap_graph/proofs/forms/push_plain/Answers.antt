use Rattle.term_forms.specs.SeenForms.{heap_form}
use Rattle.heap_graph.proofs.ReadFacts.{plain-read}
use Rattle.heap_graph.proofs.forms.push_plain.Goals as goal

pub returns-clause-read : goal.returns-clause-read
returns-clause-read c =
    plain-read (heap_form c.args.form.now) c.kind_of-kind.result c.kind_words.result c.payload_words.result c.requires c.kind_of-kind.ensures c.kind_words.ensures.value c.payload_words.ensures.value
