use Rattle.std.proofs.Common.{◌≡◌, ◌≤◌, ◌+◌, length, take, sym, ◌∙◌, ap, arith}
use Rattle.std.proofs.lemmas.List.{take_all, length-take-le}
use Rattle.line_source.proofs.Walk.{last_by, heard_by, long_by}
use Rattle.line_source.proofs.Stretches.{other_line, heard_by-quiet, long_by-quiet, last_by-start, Nowhere-front}
use Rattle.line_source.proofs.Scans.{StandsFor-more, new_headers-walked, last_by-all}
use Rattle.line_source.proofs.line_scan.LineScan.pass.Goals as goal

pub returns-in-Some-clause-stands : goal.returns-in-Some-clause-stands
returns-in-Some-clause-stands c stream stands =
    let scan = c.args.self.now in
    let rest = c.args.rest.now in
    let at = c.in-Some.at in
    let begun = c.has_begun.result in
    let first = c.in-Some.ensures.0 in
    let here = c.in-Some.ensures.1 in
    let other : scan.last ≡ other_line begun = c.has_begun.ensures in
    let now = c.pass_lines.ensures in
    let upto : at ≤ length rest = omega (arith, first.high) in
    let size : length (take at rest) ≡ at = length-take-le at rest upto in
    StandsFor-more scan c.pass_lines.new.self stream (take at rest) stands (ap (λ s. s.limit) now)
    (ap (λ s. s.offset) now ∙ omega (arith, size))
    (ap (λ s. s.last) now ∙ sym (last_by-start begun rest at upto first.before here.1) ∙ ap (λ l. last_by l (take at rest)) (sym other))
    (ap (λ l. long_by scan.limit scan.offset l (take at rest)) other
    ∙ long_by-quiet scan.limit scan.offset begun (take at rest) (Nowhere-front begun rest at upto first.before))

pub returns-in-Some-clause-silent : goal.returns-in-Some-clause-silent
returns-in-Some-clause-silent c stream stands =
    let scan = c.args.self.now in
    let rest = c.args.rest.now in
    let at = c.in-Some.at in
    let begun = c.has_begun.result in
    let first = c.in-Some.ensures.0 in
    let other : scan.last ≡ other_line begun = c.has_begun.ensures in
    let upto : at ≤ length rest = omega (arith, first.high) in
    new_headers-walked scan stream (take at rest) stands
    ∙ ap (λ l. heard_by scan.offset l (take at rest)) other
    ∙ heard_by-quiet scan.offset begun (take at rest) (Nowhere-front begun rest at upto first.before)

pub returns-in-Some-clause-header : goal.returns-in-Some-clause-header
returns-in-Some-clause-header c = λ _. (ap (λ s. s.last) c.pass_lines.ensures, c.in-Some.ensures.1.0)

pub returns-in-None-clause-stands : goal.returns-in-None-clause-stands
returns-in-None-clause-stands c stream stands =
    let scan = c.args.self.now in
    let rest = c.args.rest.now in
    let begun = c.has_begun.result in
    let quiet = c.in-None.ensures in
    let other : scan.last ≡ other_line begun = c.has_begun.ensures in
    let now = c.pass_all.ensures in
    let whole : take (length rest) rest ≡ rest = take_all (length rest) rest (omega arith) in
    StandsFor-more scan c.pass_all.new.self stream (take (length rest) rest) stands (ap (λ s. s.limit) now)
    (ap (λ s. s.offset) now ∙ ap (λ p. scan.offset + length p) (sym whole))
    (ap (λ s. s.last) now ∙ sym (last_by-all begun rest c.requires.some quiet) ∙ ap (λ l. last_by l rest) (sym other) ∙ ap (last_by scan.last) (sym whole))
    (ap (long_by scan.limit scan.offset scan.last) whole ∙ ap (λ l. long_by scan.limit scan.offset l rest) other
    ∙ long_by-quiet scan.limit scan.offset begun rest quiet)

pub returns-in-None-clause-silent : goal.returns-in-None-clause-silent
returns-in-None-clause-silent c stream stands =
    let scan = c.args.self.now in
    let rest = c.args.rest.now in
    let other : scan.last ≡ other_line c.has_begun.result = c.has_begun.ensures in
    let whole : take (length rest) rest ≡ rest = take_all (length rest) rest (omega arith) in
    new_headers-walked scan stream (take (length rest) rest) stands
    ∙ ap (heard_by scan.offset scan.last) whole
    ∙ ap (λ l. heard_by scan.offset l rest) other
    ∙ heard_by-quiet scan.offset c.has_begun.result rest c.in-None.ensures
