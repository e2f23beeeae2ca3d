use Rattle.std.proofs.Common.{arith}
use Rattle.dump_io.specs.Laws.Reads.{ReadsAtMost-then, ReadsAtMost-within}
use Rattle.heap_commands.proofs.PartLoads.{IfErr-halted}
use Rattle.dump_questions.specs.Laws.Reading.{StopsFor-reading}
use Rattle.heap_commands.proofs.peek.load_over.Goals as goal

pub returns-in_err-heap-clause-reads : goal.returns-in_err-heap-clause-reads
returns-in_err-heap-clause-reads g c =
    record { count = 0; reads = ReadsAtMost-within (omega arith) c.in_err-heap.ensures.reads; few = λ all has. omega arith }

pub returns-in_err-heap-clause-stops : goal.returns-in_err-heap-clause-stops
returns-in_err-heap-clause-stops g c =
    let state = g.D.Dumps.state in
    IfErr-halted _ c.from_residual.result _ c.from_residual.ensures.1 (StopsFor-reading (state c.args.dumps.now) (state c.load_part.new.dumps) (λ why. ⊥) _ c.in_err-heap.ensures.fault)

pub returns-in_err-previews-clause-reads : goal.returns-in_err-previews-clause-reads
returns-in_err-previews-clause-reads g c =
    record {
      count = _;
      reads = ReadsAtMost-then c.in_ok-heap.ensures.reads c.in_err-previews.ensures.reads;
      few = λ all has. (c.in_ok-heap.ensures.enough all has).fewer;
    }
