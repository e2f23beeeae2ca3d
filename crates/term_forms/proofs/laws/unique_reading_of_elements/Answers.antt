use Rattle.term_forms.proofs.OfElements.{one_element}
use Rattle.term_forms.proofs.laws.unique_reading_of_elements.Goals as goal

pub returns : goal.returns
returns c = one_element
