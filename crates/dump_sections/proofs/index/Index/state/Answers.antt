use Rattle.std.proofs.Common.{true, false, sym, ◌∙◌, ap, arith}
use Rattle.std.specs.Str.{bytes_eq}
use Rattle.dump_sections.specs.Index.{Contents, dump_state}
use Rattle.dump_sections.proofs.PlaceFacts.{state_of-last}
use Rattle.dump_sections.proofs.index.Index.state.Goals as goal

pub returns-then-eq-clause-value : goal.returns-then-eq-clause-value
returns-then-eq-clause-value c =
    let tag = c.tag_and_id.result.0.now in
    let whole = sym c.if-eq.true ∙ c.eq.ensures ∙ ap (bytes_eq tag) c.as_slice.ensures in
    sym (state_of-last c.self.inside.headers _ _ tag true (omega arith) c.header-header.ensures c.tag_and_id.ensures.tag whole)
    ∙ ap (λ (index : Contents). dump_state index.headers) c.self.view_is

pub returns-else-eq-clause-value : goal.returns-else-eq-clause-value
returns-else-eq-clause-value c =
    let tag = c.tag_and_id.result.0.now in
    let whole = sym c.if-eq.false ∙ c.eq.ensures ∙ ap (bytes_eq tag) c.as_slice.ensures in
    sym (state_of-last c.self.inside.headers _ _ tag false (omega arith) c.header-header.ensures c.tag_and_id.ensures.tag whole)
    ∙ ap (λ (index : Contents). dump_state index.headers) c.self.view_is
