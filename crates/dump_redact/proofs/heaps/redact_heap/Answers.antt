use Rattle.std.proofs.Common.{◌≡◌, ◌+◌, ◌-◌, ◌≤◌, ◌∷◌, ◌++◌, length, take, drop, ◌∙◌, ap, subst, arith}
use Rattle.std.proofs.lemmas.List.{take_all, length-drop}
use borrow.Rule.Slice.PartMut.{put_mid}
use Rattle.dump_io.specs.Lines.{raw_lines}
use Rattle.dump_redact.specs.declared.parts.Part.TheVariants.{Heap}
use Rattle.dump_redact.specs.Bodies.{redacted_body}
use Rattle.dump_redact.specs.Redacted.{blanked_line}
use Rattle.dump_redact.proofs.PlainLines.{passed, IsDone, one-line}
use Rattle.dump_redact.proofs.heaps.redact_heap.Goals as goal

pub loop-at-preserved : goal.loop-at-preserved
loop-at-preserved c =
    let body = c.loop-at.body in
    let at = c.loop-at.at in
    let enc = c.args.enc in
    let len = c.line_len-len.result in
    let rest = drop at body in
    let e : at + len - at ≡ len = omega arith in
    let whole : take (length body - at) rest ≡ rest = take_all (length body - at) rest (omega (arith, length-drop at body)) in
    let new = put_mid at (at + len - at) body c.redact_line.new.raw in
    let line : IsDone enc (at + len) c.args.body.now new =
    one-line enc at len (at + len - at) c.args.body.now body c.redact_line.new.raw c.loop-at.invariant e
    (subst (λ l. len ≤ length l) whole c.line_len-len.ensures.within)
    (subst (λ l. raw_lines l ≡ take len l ∷ raw_lines (drop len l)) whole c.line_len-len.ensures.first)
    (c.redact_line.ensures ∙ ap (λ k. blanked_line enc Heap (take k rest)) e) in
    let n = c.plain_len-at-in-loop-at.result in
    let behind = drop (at + len) new in
    let all : take (length new - (at + len)) behind ≡ behind = take_all (length new - (at + len)) behind (omega (arith, length-drop (at + len) new)) in
    passed enc (at + len) n c.args.body.now new line
    (subst (λ l. n ≤ length l) all c.plain_len-at-in-loop-at.ensures.within)
    (subst (λ l. redacted_body enc Heap l ≡ take n l ++ redacted_body enc Heap (drop n l)) all c.plain_len-at-in-loop-at.ensures.plain)
