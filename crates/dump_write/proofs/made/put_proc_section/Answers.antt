use Rattle.std.proofs.Common.{take, drop}
use Rattle.dump_write.specs.Made.{proc_section}
use Rattle.dump_write.proofs.Appends.{lines_then}
use Rattle.dump_write.proofs.made.put_proc_section.Goals as goal

pub returns : goal.returns
returns c =
    let texts = proc_section c.args.i c.args.queue c.args.next c.args.previous in
    let old = c.args.into.now.items in
    let first = c.append_lines.new.into.items in
    let second = c.put_link_list.new.into.items in
    let new = c.append_lines-2.new.into.items in
    let result = c.append_lines-2.result in
    lines_then old first new (take 4 texts) (drop 4 texts) result c.in_ok-append_lines.ensures
    (lines_then first second new (take 1 (drop 4 texts)) (drop 5 texts) result c.in_ok-put_link_list.ensures c.append_lines-2.ensures)
