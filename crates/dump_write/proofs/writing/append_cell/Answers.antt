use Rattle.std.proofs.Common.{[], ◌∷◌, ◌++◌, Some, subst}
use Rattle.dump_io.specs.Laws.Puts.{WritesAll-then, WritesAll-stopped}
use Rattle.dump_io.specs.Lines.{lf}
use Rattle.dump_io.specs.Sinks.{WritesAll}
use Rattle.term_forms.specs.Forms.{plain_form}
use Rattle.term_forms.specs.SeenForms.{heap_form}
use Rattle.dump_write.proofs.LineTexts.{led_line}
use Rattle.dump_write.proofs.writing.append_cell.Goals as goal

pub returns-in_err-append_pieces : goal.returns-in_err-append_pieces
returns-in_err-append_pieces c =
    let plain = plain_form (heap_form c.args.f.now) in
    subst (λ text. WritesAll (Some c.args.into.now.items) (Some c.append_pieces.new.into.items) text c.from_residual.result) (led_line c.args.addr plain)
    (WritesAll-stopped (plain ++ lf ∷ []) c.from_residual.ensures.0 c.in_err-append_pieces.ensures)

pub returns-in_err-put_form : goal.returns-in_err-put_form
returns-in_err-put_form c =
    let plain = plain_form (heap_form c.args.f.now) in
    let result = c.from_residual-in_err-put_form.result in
    subst (λ text. WritesAll (Some c.args.into.now.items) (Some c.put_form.new.into.items) text result) (led_line c.args.addr plain)
    (WritesAll-then c.in_ok-append_pieces.ensures (WritesAll-stopped (lf ∷ []) c.from_residual-in_err-put_form.ensures.0 c.in_err-put_form.ensures))

pub returns : goal.returns
returns c =
    let plain = plain_form (heap_form c.args.f.now) in
    subst (λ text. WritesAll (Some c.args.into.now.items) (Some c.append.new.into.items) text c.append.result) (led_line c.args.addr plain)
    (WritesAll-then c.in_ok-append_pieces.ensures (WritesAll-then c.in_ok-put_form.ensures c.append.ensures))
