use Rattle.std.proofs.Common.{refl, sym}
use Rattle.binary_holders.specs.declared.heap_sink.HeapSink.{HeapSink}
use Rattle.binary_holders.specs.Inner.HeapSinks.{cut_references}
use Rattle.binary_holders.specs.Inner.Lines.{line_references}
use Rattle.body_lines.specs.Lines.{cut_lines}
use Rattle.binary_holders.proofs.SinkFacts.{Hears-more, cut-references}
use Rattle.binary_holders.proofs.CountFacts.{Adds-as}
use Rattle.binary_holders.proofs.heap_sink.HeapSinkLineSink.lines.Goals as goal

pub returns-clause-hears : goal.returns-clause-hears
returns-clause-hears c =
    let old = c.args.self.now in
    let run = c.args.run.now in
    let new : HeapSink = record old { counts = c.count_lines.new.counts } in
    let lines = cut_lines 72 c.args.at run in
    Hears-more old new lines (record {
      keeps = record { enc = refl; targets = refl; room = c.count_lines.ensures.room };
      adds = Adds-as old.targets.now old.counts new.counts (line_references old.enc run) (cut_references old.enc lines)
          (sym (cut-references old.enc c.number_is_read.ensures c.form_is_read.ensures.found c.args.at run)) c.count_lines.ensures.adds;
    })
