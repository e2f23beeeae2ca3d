use Rattle.std.proofs.Common.{◌+◌, ◌*◌, ◌≤◌, ◌∙◌, ap, length, subst}
use Rattle.dump_sections.specs.Bodies.{body_size, section_in}
use Rattle.dump_sections.specs.Index.{sections_in}
use Rattle.heap_cells.specs.Loading.{enc_of, literals_section}
use Rattle.heap_parts.specs.Wholes.{cells_in, text_size}
use Rattle.heap_parts.specs.declared.heap_lines.HeapLines.{HeapLines}
use Rattle.heap_parts.proofs.WholeFacts.{lines-lawful, lines-loaded, lines-sized}
use Rattle.heap_parts.proofs.heap_lines.HeapLines.load.Goals as goal

pub returns-clause-lines : goal.returns-clause-lines
returns-clause-lines g c =
    let index = c.args.index.now in
    lines-loaded (g.D.Dumps.state c.args.dumps.now).now (g.D.Dumps.state c.body_lines.new.dumps).now index c.args.pid.now
    (section_in index c.first-heap_at.result) (section_in index c.first_tag-literals_at.result)
    (record { heap = c.in_ok-heap.heap; literals = c.in_ok-literals.literals; enc = c.enc_of.result }) c.requires.over
    c.in_ok-heap.ensures.reads.same_now c.first-heap_at.ensures.section c.first_tag-literals_at.ensures.section (c.enc_of.ensures ∙ ap enc_of c.version.ensures) c.in_ok-heap.ensures.lines c.in_ok-literals.ensures.lines

pub returns-clause-known : goal.returns-clause-known
returns-clause-known g c = λ dump is.
    lines-lawful (record { heap = c.in_ok-heap.heap; literals = c.in_ok-literals.literals; enc = c.enc_of.result }) (g.D.Dumps.state c.args.dumps.now).now (cells_in c.args.pid.now dump)
    (returns-clause-lines g c dump is)

pub returns-clause-size : goal.returns-clause-size
returns-clause-size g c =
    let index = c.args.index.now in
    let lines : HeapLines = record { heap = c.in_ok-heap.heap; literals = c.in_ok-literals.literals; enc = c.enc_of.result } in
    let size = lines-sized (g.D.Dumps.state c.args.dumps.now).now (g.D.Dumps.state c.body_lines.new.dumps).now (section_in index c.first-heap_at.result)
    (section_in index c.first_tag-literals_at.result) lines c.in_ok-heap.ensures.lines c.in_ok-literals.ensures.lines in
    λ all has. subst (λ s. text_size lines ≤ (body_size s + body_size (literals_section (sections_in index))) + 2 * length all) c.first-heap_at.ensures.section
    (subst (λ s. text_size lines ≤ (body_size (section_in index c.first-heap_at.result) + body_size s) + 2 * length all) c.first_tag-literals_at.ensures.section (size all has))
