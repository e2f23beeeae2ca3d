use Rattle.std.proofs.Common.{◌++◌}
use Rattle.dump_write.specs.Made.{queue_of, next_of, previous_of, proc_section, stack_section, dictionary_section, messages_section, made_heap}
use Rattle.dump_write.proofs.Appends.{lines_then}
use Rattle.dump_write.proofs.made.put_process.Goals as goal

pub returns : goal.returns
returns c =
    let i = c.args.i in
    let queue = queue_of c.args.seed i in
    let proc = proc_section i queue (next_of c.args.count i) (previous_of c.args.count i) in
    let stack = stack_section i in
    let dictionary = dictionary_section i in
    let messages = messages_section i queue in
    let heap = made_heap i queue in
    let old = c.args.into.now.items in
    let first = c.put_proc_section.new.into.items in
    let second = c.put_stack_section.new.into.items in
    let third = c.put_dictionary_section.new.into.items in
    let fourth = c.put_messages_section.new.into.items in
    let new = c.put_heap_section.new.into.items in
    let result = c.put_heap_section.result in
    lines_then old first new proc (stack ++ (dictionary ++ (messages ++ heap))) result c.in_ok-put_proc_section.ensures
    (lines_then first second new stack (dictionary ++ (messages ++ heap)) result c.in_ok-put_stack_section.ensures
    (lines_then second third new dictionary (messages ++ heap) result c.in_ok-put_dictionary_section.ensures
    (lines_then third fourth new messages heap result c.in_ok-put_messages_section.ensures c.put_heap_section.ensures)))
