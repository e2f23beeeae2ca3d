use Rattle.std.proofs.Common.{sym, ◌∙◌, ap, subst}
use Rattle.dump_io.specs.Laws.Puts.{Puts-as}
use Rattle.term_forms.specs.Seen.{element}
use Rattle.term_unfold.specs.Inner.Rest.{child_text, HasText}
use Rattle.term_unfold.specs.Leaves.{leaf_text}
use Rattle.term_unfold.specs.Rules.{Term}
use Rattle.term_unfold.proofs.Stepping.{immediate-is}
use Rattle.term_unfold.proofs.printing.put_root.Goals as goal

pub put_cell-requires : goal.put_cell-requires
put_cell-requires g c =
    record {
      leaf = subst (HasText c.args.heap.now.cells (Term (element c.args.root.now))) c.in-Leaf.is c.requires.text;
      bounded = c.requires.bounded;
      previews = c.requires.previews;
    }

pub put_element-requires : goal.put_element-requires
put_element-requires g c =
    let child = Term (element c.args.root.now) in
    immediate-is child (element c.args.root.now) (subst (HasText c.args.heap.now.cells child) c.in-Immediate.is c.requires.text)

pub returns-in-Immediate : goal.returns-in-Immediate
returns-in-Immediate g c =
    let heap = c.args.heap.now in
    Puts-as (sym (ap (child_text (leaf_text heap.enc heap.cells c.args.previews.now) heap.cells (Term (element c.args.root.now))) c.in-Immediate.is)) c.put_element.ensures

pub returns-in-Leaf : goal.returns-in-Leaf
returns-in-Leaf g c =
    let heap = c.args.heap.now in
    Puts-as (sym (ap (child_text (leaf_text heap.enc heap.cells c.args.previews.now) heap.cells (Term (element c.args.root.now))) c.in-Leaf.is)) c.put_cell.ensures

pub returns-in-Bad : goal.returns-in-Bad
returns-in-Bad g c =
    let heap = c.args.heap.now in
    Puts-as (sym (ap (child_text (leaf_text heap.enc heap.cells c.args.previews.now) heap.cells (Term (element c.args.root.now))) c.in-Bad.is)) c.put_bad.ensures

pub returns-in-Node : goal.returns-in-Node
returns-in-Node g c =
    let heap = c.args.heap.now in
    Puts-as (c.bracket_text.ensures ∙ sym (ap (child_text (leaf_text heap.enc heap.cells c.args.previews.now) heap.cells (Term (element c.args.root.now))) c.in-Node.is)) c.write_all.ensures.puts
