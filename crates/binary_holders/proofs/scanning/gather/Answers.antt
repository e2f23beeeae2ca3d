use Rattle.std.proofs.Common.{◌++◌, take, sym, ◌∙◌, ap, append_assoc, arith}
use Rattle.std.specs.Option.{option_to_list}
use Rattle.binary_holders.specs.Inner.Lines.{line_references}
use Rattle.binary_holders.proofs.scanning.gather.Goals as goal

pub loop-count-preserved : goal.loop-count-preserved
loop-count-preserved c =
    let before = c.loop-count.invariant in
    let found = c.in-Some.ensures.found in
    let short = c.in-Some.ensures.shorter in
    let room = c.loop-count-test.true in
    let put = c.put_reference-count.ensures in
    let more = line_references c.args.enc c.in-Some.behind.now in
    let gathered = take c.loop-count.count c.loop-count.references in
    record {
      few = omega (arith, put.few, put.size, room);
      size = put.size ∙ before.size;
      found = before.found ∙ ap (λ l. gathered ++ l) found ∙ sym (append_assoc gathered (option_to_list c.in-Some.reference) more) ∙ ap (λ l. l ++ more) (sym put.put);
      within = omega (arith, short, before.within);
      shorter = λ some. omega (arith, short, before.within);
    }
