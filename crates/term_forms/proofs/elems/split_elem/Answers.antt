use Rattle.std.proofs.Common.{[], refl}
use Rattle.term_forms.proofs.elems.split_elem.Goals as goal

pub first_in-requires-clause-end : goal.first_in-requires-clause-end
first_in-requires-clause-end c = record { before = []; split = refl }
