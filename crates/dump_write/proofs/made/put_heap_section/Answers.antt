use Rattle.std.proofs.Common.{◌≡◌, [], ◌∷◌, ◌++◌, take, drop, subst, codes, decimal, OnOk}
use Rattle.std.specs.List.{concat}
use Rattle.dump_write.specs.Made.{cells}
use Rattle.dump_write.specs.Written.{lines_of}
use Rattle.dump_write.proofs.Appends.{lines_then}
use Rattle.dump_write.proofs.made.put_heap_section.Goals as goal

pub returns : goal.returns
returns c =
    let header = concat (codes "=proc_heap:<0." ∷ decimal c.args.i ∷ codes ".0>" ∷ []) in
    let texts = header ∷ cells c.args.i c.args.queue c.heap_of-first.result in
    let old = c.args.into.now.items in
    let first = c.append_lines.new.into.items in
    let second = c.put_second_cell.new.into.items in
    let new = c.append_lines-2.new.into.items in
    let result = c.append_lines-2.result in
    subst (λ heap. OnOk result (new ≡ old ++ lines_of (header ∷ cells c.args.i c.args.queue heap))) c.heap_of-first.ensures
    (lines_then old first new (take 2 texts) (drop 2 texts) result c.in_ok-append_lines.ensures
    (lines_then first second new (take 1 (drop 2 texts)) (drop 3 texts) result c.in_ok-put_second_cell.ensures c.append_lines-2.ensures))
