use Rattle.std.proofs.Common.{[], ◌∷◌, refl, sym}
use Rattle.body_lines.specs.Lines.{CutLine}
use Rattle.binary_holders.specs.Inner.HeapSinks.{cut_references}
use Rattle.binary_holders.proofs.SinkFacts.{Hears-more, long-none}
use Rattle.binary_holders.proofs.CountFacts.{Adds-as, Adds-none}
use Rattle.binary_holders.proofs.heap_sink.HeapSinkLineSink.long_line.Goals as goal

pub returns-clause-hears : goal.returns-clause-hears
returns-clause-hears c =
    let sink = c.args.self.now in
    let line : CutLine = record { at = c.args.at; front = c.args.front.now; size = c.args.size } in
    Hears-more sink sink (line ∷ []) (record {
      keeps = record { enc = refl; targets = refl; room = record { turn = refl; seen = refl; holders = refl } };
      adds = Adds-as sink.targets.now sink.counts sink.counts [] (cut_references sink.enc (line ∷ []))
          (sym (long-none sink.enc c.number_is_read.ensures c.form_is_read.ensures.found line c.requires.kept)) (Adds-none sink.targets.now sink.counts);
    })
