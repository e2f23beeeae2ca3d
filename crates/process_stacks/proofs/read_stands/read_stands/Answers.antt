use Rattle.std.proofs.Common.{◌≡◌, ◌+◌, ◌<◌, [], ◌∷◌, ◌++◌, get_or, length, map, take, sym, ◌∙◌, ap, subst, arith}
use Rattle.std.proofs.lemmas.List.{map_more, length-append}
use Rattle.std.proofs.lemmas.Option.{unwrap_or-slice_get}
use Rattle.dump_io.specs.Dumps.{ReadsAtMost}
use Rattle.dump_io.specs.Laws.Reads.{ReadsAtMost-both, ReadsAtMost-then}
use Rattle.section_rows.specs.Rows.{Row, row_at}
use Rattle.process_stacks.specs.Groups.{stand_of}
use Rattle.process_stacks.proofs.ReadFacts.{stacks-more, stacks-upto}
use Rattle.process_stacks.proofs.read_stands.read_stands.Goals as goal

pub loop-p-preserved : goal.loop-p-preserved
loop-p-preserved g c =
    let d = g.D.Dumps in
    let before = c.loop-p.invariant in
    let one = c.in_ok-stand.ensures in
    let stand = c.in_ok-stand.stand in
    let rows = c.args.procs.now in
    let p = c.loop-p.p in
    let none : Row = record { at = 0; cells = [] } in
    let inside : p < length rows = omega (arith, c.loop-p-test.true) in
    let here : row_at rows p ≡ get_or rows p none = unwrap_or-slice_get rows p none in
    record {
      reads = subst (ReadsAtMost (d.state c.args.dumps.now) (d.state c.read_stand.new.dumps)) (sym (stacks-more c.args.index.now rows p inside)) (ReadsAtMost-then before.reads one.reads);
      count = ap length c.in_ok-push_stand.ensures.stands ∙ length-append c.loop-p.all.items (stand ∷ []) ∙ ap (λ n. n + 1) before.count;
      stands = λ dump is.
          let stand_in = stand_of dump c.args.index.now in
          c.in_ok-push_stand.ensures.stands
          ∙ ap (λ l. l ++ stand ∷ []) (before.stands dump is)
          ∙ ap (λ s. map stand_in (take p rows) ++ s ∷ []) (one.stand dump (before.reads.same_now ∙ is) ∙ ap stand_in here)
          ∙ sym (map_more stand_in rows p none inside);
    }

pub returns-in_err-stand-clause-reads : goal.returns-in_err-stand-clause-reads
returns-in_err-stand-clause-reads g c =
    ReadsAtMost-both c.loop-p.invariant.reads c.in_err-stand.ensures.reads (stacks-upto c.args.index.now c.args.procs.now c.loop-p.p (omega (arith, c.loop-p-test.true)))

pub returns-in_err-push_stand-clause-reads : goal.returns-in_err-push_stand-clause-reads
returns-in_err-push_stand-clause-reads g c =
    ReadsAtMost-both c.loop-p.invariant.reads c.in_ok-stand.ensures.reads (stacks-upto c.args.index.now c.args.procs.now c.loop-p.p (omega (arith, c.loop-p-test.true)))
