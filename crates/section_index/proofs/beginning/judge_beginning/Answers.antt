use Rattle.std.proofs.Common.{◌<◌, ◌≤◌, ◌++◌, sym, ◌∙◌, subst, lit≤}
use Rattle.line_source.specs.Streams.{length_before_lf}
use Rattle.dump_sections.specs.Versions.{first_line, signature}
use Rattle.section_index.specs.Opening.{gzip_mark}
use Rattle.section_index.proofs.Beginnings.{starts-front, judge-unsigned, judge-long, judge-version}
use Rattle.section_index.proofs.beginning.judge_beginning.Goals as goal

pub returns-then-not-starts_with-clause-judged : goal.returns-then-not-starts_with-clause-judged
returns-then-not-starts_with-clause-judged c more is =
    let first = c.args.first.now in
    let plain = c.if-starts_with.ensures {u = tt} in
    let other = c.if-not-starts_with.ensures {u = tt} in
    judge-unsigned (first ++ more) c.args.limits.now
    (starts-front first more gzip_mark (lit≤ tt) is ∙ sym plain.value) (starts-front first more signature (lit≤ tt) is ∙ sym other.value)

pub returns-in-Some-clause-judged : goal.returns-in-Some-clause-judged
returns-in-Some-clause-judged c more is =
    let first = c.args.first.now in
    let plain = c.if-starts_with.ensures {u = tt} in
    let signed = c.if-not-starts_with.ensures {u = tt} in
    let line = c.in-Some.ensures {u = tt} more is in
    judge-version (first ++ more) c.in-Some.text.now c.args.limits.now c.version_in.result
    (starts-front first more gzip_mark (lit≤ tt) is ∙ sym plain.value) (starts-front first more signature (lit≤ tt) is ∙ sym signed.value)
    (subst (λ n. length_before_lf (first_line (first ++ more)) ≤ n) c.header.ensures.value line.0) line.1 c.version_in.ensures

pub returns-in-None-clause-judged : goal.returns-in-None-clause-judged
returns-in-None-clause-judged c more is =
    let first = c.args.first.now in
    let plain = c.if-starts_with.ensures {u = tt} in
    let signed = c.if-not-starts_with.ensures {u = tt} in
    judge-long (first ++ more) c.args.limits.now
    (starts-front first more gzip_mark (lit≤ tt) is ∙ sym plain.value) (starts-front first more signature (lit≤ tt) is ∙ sym signed.value)
    (subst (λ n. n < length_before_lf (first_line (first ++ more))) c.header.ensures.value (c.in-None.ensures {u = tt} more is))
