use Rattle.std.proofs.Common.{length, sym, ◌∙◌, ap}
use Rattle.dump_sections.specs.Index.{sections_in}
use Rattle.dump_sections.specs.Laws.{length-sections_of}
use Rattle.dump_sections.proofs.index.Index.len.Goals as goal

pub returns-clause-sections : goal.returns-clause-sections
returns-clause-sections c =
    c.len.ensures ∙ sym (length-sections_of c.self.inside.headers c.self.inside.size) ∙ ap (λ index. length (sections_in index)) c.self.view_is
