use Rattle.std.proofs.Common.{◌+◌, ◌++◌, sym, ◌∙◌, ap, append-nil}
use Rattle.std.proofs.lemmas.List.{drop_all}
use Rattle.body_lines.specs.Lines.{cut_lines}
use Rattle.heap_parts.specs.Inner.Hearing.{heard_binaries, heard_places}
use Rattle.heap_parts.proofs.HearFacts.{hears-lines, stops-any}
use Rattle.heap_parts.proofs.address_sink.AddressSinkLineSink.lines.Goals as goal

pub returns-in_err-done-clause-stops : goal.returns-in_err-done-clause-stops
returns-in_err-done-clause-stops c = stops-any c.args.self.now c.first_line.new.self (cut_lines 17 c.args.at c.args.run.now) c.from_residual.result

pub returns-clause-hears : goal.returns-clause-hears
returns-clause-hears c =
    let places = c.loop-done.self.lines.items in
    let binaries = c.loop-done.self.binaries.items in
    let over = sym (drop_all c.loop-done.done c.args.run.now c.loop-done-test.false) in
    hears-lines c.args.self.now c.loop-done.self (cut_lines 17 c.args.at c.args.run.now) (record {
      taken = sym (append-nil places) ∙ ap (λ l. places ++ heard_places (cut_lines 17 (c.args.at + c.loop-done.done) l)) over ∙ c.loop-done.invariant.heard;
      binaries = sym (append-nil binaries) ∙ ap (λ l. binaries ++ heard_binaries (cut_lines 17 (c.args.at + c.loop-done.done) l)) over ∙ c.loop-done.invariant.binaries;
    })
