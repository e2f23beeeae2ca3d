use Rattle.std.specs.List.{between}
use Rattle.std.proofs.Common.{◌∙◌, ap, is_some}
use Rattle.heap_cells.specs.Places.{place_with}
use Rattle.heap_parts.proofs.BinaryFacts.{binaries-heard}
use Rattle.heap_parts.proofs.HearFacts.{all-heard, binaries-taken}
use Rattle.heap_parts.proofs.line_table.hear_lines.Goals as goal

pub returns-in-Ok-clause-lines : goal.returns-in-Ok-clause-lines
returns-in-Ok-clause-lines g c = λ dump is.
    let body = c.in-Ok.ensures.hears in
    all-heard c.number_is_in_front.ensures.found c.number_is_in_front.ensures.none _ c.hear_body.new.sink c.args.from
    (between c.args.from c.args.upto dump) body.lines body.heard c.new.ensures.items (body.are dump is)

pub returns-in-Ok-clause-binaries : goal.returns-in-Ok-clause-binaries
returns-in-Ok-clause-binaries g c = λ dump is address some.
    let body = c.in-Ok.ensures.hears in
    let bytes = between c.args.from c.args.upto dump in
    ap (λ places. is_some (place_with places address)) (binaries-taken _ c.hear_body.new.sink c.args.from bytes body.lines body.heard c.new-2.ensures.items (body.are dump is))
    ∙ binaries-heard c.number_is_in_front.ensures.found c.number_is_in_front.ensures.none c.number_is_read.ensures c.args.from address bytes some
