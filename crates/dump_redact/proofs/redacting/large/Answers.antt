use Rattle.std.proofs.Common.{◌<◌, length, sym, ◌∙◌, arith}
use Rattle.dump_sections.specs.Bodies.{section_at}
use Rattle.dump_sections.specs.Index.{sections_in}
use Rattle.dump_redact.proofs.Offsets.{found-here, passed-here, place-at, size-some}
use Rattle.dump_redact.proofs.redacting.large.Goals as goal

pub returns-in-Some-clause-refusal : goal.returns-in-Some-clause-refusal
returns-in-Some-clause-refusal c =
    let index = c.args.index.now in
    let i = c.loop-i.i in
    let inside : i < length (sections_in index) = omega (arith, c.len-i-end.ensures.sections, c.loop-i-test.true) in
    sym (found-here c.args.limits.now.section (sections_in index) i (section_at index i) (place-at index i inside) c.in-Some.fault (sym c.in-Some.ensures)) ∙ c.loop-i.invariant

pub loop-i-preserved : goal.loop-i-preserved
loop-i-preserved c =
    let index = c.args.index.now in
    let i = c.loop-i.i in
    let inside : i < length (sections_in index) = omega (arith, c.len-i-end.ensures.sections, c.loop-i-test.true) in
    sym (passed-here c.args.limits.now.section (sections_in index) i (section_at index i) (place-at index i inside) (sym c.in_default.ensures)) ∙ c.loop-i.invariant

pub returns-in-Some-clause-some : goal.returns-in-Some-clause-some
returns-in-Some-clause-some c =
    let index = c.args.index.now in
    let bounded = c.len-i-end.ensures.bounded in
    size-some index.headers index.size bounded.some bounded.tiled

pub returns-clause-some : goal.returns-clause-some
returns-clause-some c =
    let index = c.args.index.now in
    let bounded = c.len-i-end.ensures.bounded in
    size-some index.headers index.size bounded.some bounded.tiled
