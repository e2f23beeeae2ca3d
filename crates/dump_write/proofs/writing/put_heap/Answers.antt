use Rattle.std.proofs.Common.{◌^◌, ◌<◌, ◌∙◌, rules}
use Rattle.term_forms.specs.Forms.{plain_form}
use Rattle.term_forms.specs.SeenForms.{heap_form}
use Rattle.dump_write.specs.Written.{heap_text}
use Rattle.dump_write.proofs.OneLine.{IsOneLine-line, is_header-line}
use Rattle.dump_write.proofs.LineTexts.{is_line_text-led, led_is_no_header}
use Rattle.dump_write.proofs.writing.put_heap.Goals as goal

pub returns-clause-one : goal.returns-clause-one
returns-clause-one c =
    let form = heap_form c.args.f.now in
    let below : c.args.addr < 2 ^ 64 = search (rules, c.ranges.addr) in
    IsOneLine-line (heap_text c.args.addr form) (is_line_text-led c.args.addr (plain_form form) below c.requires)

pub returns-clause-no_header : goal.returns-clause-no_header
returns-clause-no_header c =
    let form = heap_form c.args.f.now in
    let below : c.args.addr < 2 ^ 64 = search (rules, c.ranges.addr) in
    is_header-line (heap_text c.args.addr form) (is_line_text-led c.args.addr (plain_form form) below c.requires) ∙ led_is_no_header c.args.addr (plain_form form) below
