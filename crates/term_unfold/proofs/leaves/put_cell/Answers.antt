use Rattle.std.proofs.Common.{false, sym, ◌∙◌, ap}
use Rattle.std.specs.Option.{is_some, option_and_then, option_map_or}
use Rattle.dump_io.specs.Laws.Puts.{Puts-as}
use Rattle.heap_cells.specs.Targets.{number}
use Rattle.term_unfold.specs.Maps.{address_of}
use Rattle.binary_refs.specs.Previews.{stated}
use Rattle.term_forms.specs.SeenForms.{heap_form}
use Rattle.term_unfold.specs.Inner.Openings.{is_leaf_form}
use Rattle.term_unfold.specs.Inner.Rest.{cell_text}
use Rattle.term_unfold.specs.Leaves.{form_text, leaf_text, preview_of}
use Rattle.term_unfold.proofs.Previewed.{preview-is}
use Rattle.term_unfold.proofs.leaves.put_cell.Goals as goal

pub put_form-requires-clause-entry : goal.put_form-requires-clause-entry
put_form-requires-clause-entry g c =
    let n = number c.args.ix in
    c.requires.previews n ∙ ap (λ form. is_some (option_and_then (stated n) form)) (sym c.in-Some.ensures.form)

pub put_form-requires-clause-leaf : goal.put_form-requires-clause-leaf
put_form-requires-clause-leaf g c =
    let leaf = c.requires.leaf in
    ap (λ form. option_map_or is_leaf_form form false) (c.in-Some.ensures.form ∙ leaf.form_is) ∙ leaf.is_leaf

pub returns : goal.returns
returns g c =
    let heap = c.args.heap.now in
    let n = number c.args.ix in
    let previews = c.args.previews.now in
    let address = address_of heap.cells n in
    let form = heap_form c.in-Some.form in
    Puts-as (ap (λ enc. form_text enc (preview_of previews n) form) c.enc.ensures
    ∙ (ap (λ preview. form_text heap.enc preview form) (preview-is heap.cells previews n c.requires.bounded.distinct c.requires.leaf.cell)
    ∙ ap (cell_text (leaf_text heap.enc heap.cells previews) address) c.in-Some.ensures.form)) c.put_form.ensures
