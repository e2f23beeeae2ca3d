use Rattle.std.proofs.Common.{◌≡◌, ◌+◌, ◌∷◌, length, drop, take, sym, ◌∙◌, ap, arith, length-drop}
use Rattle.std.proofs.lemmas.List.{length-take}
use Rattle.dump_io.specs.Lines.{raw_lines}
use Rattle.heap_graph.specs.Laws.Gains.{TookFront-more, TookFront-none}
use Rattle.heap_graph.proofs.gathering.gather_run.Goals as goal

pub loop-rest-init : goal.loop-rest-init
loop-rest-init c = record { small = c.requires.small; took = TookFront-none c.args.enc c.args.held.now c.args.at c.args.run.now }

pub loop-rest-preserved : goal.loop-rest-preserved
loop-rest-preserved c =
    let rest = c.loop-rest.rest.now in
    let size = c.line_len-size.result in
    let within = c.line_len-size.ensures.within in
    let front : length (take size rest) ≡ size = let n = length-take size rest in omega (arith, n, within) in
    let behind : length (drop size rest) + size ≡ length rest = let n = length-drop size rest in omega (arith, n, within) in
    let first : raw_lines rest ≡ take size rest ∷ raw_lines c.bytes_from-rest.result.now = c.line_len-size.ensures.first ∙ ap (λ l. take size rest ∷ raw_lines l) (sym c.bytes_from-rest.ensures) in
    record {
      small = c.in_ok-gather_line.ensures.small;
      took = TookFront-more c.args.enc c.args.held.now c.loop-rest.held c.gather_line.new.held c.args.at c.args.run.now c.loop-rest.line rest (take size rest) c.bytes_from-rest.result.now
          (c.loop-rest.line + size) first (ap (λ n. c.loop-rest.line + n) (sym front)) (omega (arith, front, behind, ap length c.bytes_from-rest.ensures)) c.loop-rest.invariant.took
          c.in_ok-gather_line.ensures.gains;
    }
