use Rattle.std.proofs.Common.{◌≡◌, [], ◌++◌, ap, subst, ◌∙◌}
use Rattle.std.specs.List.{flat_map, range_with_len}
use Rattle.dump_write.specs.Made.{first_sections, made_process, last_sections, made}
use Rattle.dump_write.specs.Written.{lines_of}
use Rattle.dump_write.proofs.Appends.{lines_behind}
use Rattle.dump_write.proofs.made.make.Goals as goal

pub returns : goal.returns
unfolding made
returns c =
    let seed = c.args.seed in
    let count = c.from-count.result in
    let first = first_sections seed count in
    let processes = flat_map (made_process seed count) (range_with_len 1 count) in
    let new = c.put_last_sections.new.into.items in
    subst (λ n. new ≡ made seed n) c.from-count.ensures
    (lines_behind [] c.put_first_sections.new.into.items new first (processes ++ last_sections)
    (c.in_ok-put_first_sections.ensures ∙ ap (λ l. l ++ lines_of first) c.new-dump.ensures.items)
    (lines_behind c.put_first_sections.new.into.items c.put_processes.new.into.items new processes last_sections c.in_ok-put_processes.ensures c.in_ok-put_last_sections.ensures))
