use Rattle.std.proofs.Common.{◌+◌, ◌-◌, arith}
use Rattle.dump_write.specs.Made.{made_process}
use Rattle.dump_write.proofs.Appends.{lines_more}
use Rattle.dump_write.proofs.made.put_processes.Goals as goal

pub loop-i-preserved : goal.loop-i-preserved
loop-i-preserved c =
    lines_more c.args.into.now.items c.loop-i.into.items c.put_process.new.into.items (made_process c.args.seed c.args.count) c.loop-i.i (c.loop-i.i + 1 - 1)
    c.loop-i.auto.i (omega arith) c.loop-i.invariant c.in_ok-put_process.ensures

pub returns : goal.returns
returns c = absurd (omega (arith, c.loop-i-test.false, c.loop-i.auto.i-end, c.requires.some))

pub returns-in_ok-put_process : goal.returns-in_ok-put_process
returns-in_ok-put_process c =
    lines_more c.args.into.now.items c.loop-i.into.items c.put_process.new.into.items (made_process c.args.seed c.args.count) c.loop-i.i c.args.count
    c.loop-i.auto.i (omega arith) c.loop-i.invariant c.in_ok-put_process.ensures
