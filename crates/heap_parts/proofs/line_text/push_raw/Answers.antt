use Rattle.std.proofs.Math.Seq.{take-append-add}
use Rattle.std.proofs.Common.{◌≡◌, ◌+◌, ◌-◌, ◌≤◌, ◌++◌, length, length-drop, take, refl, ◌∙◌, ap, arith, subst}
use Rattle.std.proofs.lemmas.List.{length-take-le}
use Rattle.std.specs.List.{between}
use Rattle.dump_io.specs.Laws.Reads.{ReadsAtMost-both}
use Rattle.heap_parts.specs.Inner.Pieces.{BeginsLine, IsFirstLine}
use Rattle.heap_parts.proofs.ReadFacts.{piece-behind, read-more, read-line, read-end}
use Rattle.heap_parts.proofs.line_text.push_raw.Given.{Over}
use Rattle.heap_parts.proofs.line_text.push_raw.Goals as goal

-- the line ends in what was appended, which is cut off behind it
cut-within : (g : Over) (c : goal.After-truncate g)
    → (length c.truncate.new.self.items ≡ length c.loop-at.lines.items + c.in-Some.end) × (c.in-Some.end ≤ c.piece_len-count.result) × (c.piece_len-count.result ≤ c.args.limit - length c.loop-at.lines.items)
cut-within g c =
    let grown = c.push_piece.new.lines.items in
    let kept : c.len-kept.result ≡ length c.loop-at.lines.items = cc (c.len-kept.ensures, c.loop-at.lines.ok.0) in
    let inside : c.in-Some.end ≤ c.piece_len-count.result =
    omega (arith, c.in-Some.ensures.1, length-drop c.len-kept.result c.deref.result.now, ap length c.deref.ensures.value, c.in_ok-push_piece.ensures.longer, kept) in (
      omega (arith, ap length c.truncate.ensures.items, kept, inside, length-take-le (c.len-kept.result + c.in-Some.end) grown (omega (arith, inside, kept, c.in_ok-push_piece.ensures.longer))),
      inside,
      omega (arith, c.piece_len-count.ensures.room, kept),
    )

pub returns-in-Some-clause-longer : goal.returns-in-Some-clause-longer
returns-in-Some-clause-longer g c = omega (arith, c.loop-at.invariant.longer, (cut-within g c).0)

pub returns-in-Some-clause-few : goal.returns-in-Some-clause-few
returns-in-Some-clause-few g c = let within = cut-within g c in omega (arith, c.loop-at.invariant.few, within.0, within.1, within.2)

pub returns-in-Some-clause-spent : goal.returns-in-Some-clause-spent
returns-in-Some-clause-spent g c =
    let before = c.loop-at.invariant in
    let start : c.len-start.result ≡ length c.args.lines.now.items = cc (c.len-start.ensures, c.args.lines.now.ok.0) in
    let kept : c.len-kept.result ≡ length c.loop-at.lines.items = cc (c.len-kept.ensures, c.loop-at.lines.ok.0) in
    ReadsAtMost-both before.reads c.in_ok-push_piece.ensures.reads (omega (arith, before.longer, (cut-within g c).0, c.piece_len-count.ensures.grown, start, kept))

pub returns-in-Some-clause-pushed : goal.returns-in-Some-clause-pushed
returns-in-Some-clause-pushed g c = λ dump is.
    let before = c.loop-at.invariant in
    let lines = c.loop-at.lines.items in
    let grown = c.push_piece.new.lines.items in
    let count = c.piece_len-count.result in
    let end = c.in-Some.end in
    let piece = between c.loop-at.at (c.loop-at.at + count) dump in
    let kept : c.len-kept.result ≡ length lines = cc (c.len-kept.ensures, c.loop-at.lines.ok.0) in
    let pushed : grown ≡ lines ++ piece = c.in_ok-push_piece.ensures.pushed dump (before.same ∙ is) in
    let behind = piece-behind lines grown c.deref.result.now piece c.len-kept.result kept c.deref.ensures.value pushed in
    read-line c.args.lines.now.items lines c.truncate.new.self.items piece dump c.args.from c.loop-at.at count c.args.upto end before.order
    (omega (arith, c.piece_len-count.ensures.left, c.loop-at-test.true)) (before.read dump is) refl (subst (λ p. IsFirstLine (take end p)) behind c.in-Some.ensures.2)
    (c.truncate.ensures.items ∙ ap (λ n. take (n + end) grown) kept ∙ ap (take (length lines + end)) pushed ∙ take-append-add lines piece end)

pub loop-at-preserved : goal.loop-at-preserved
loop-at-preserved g c =
    let before = c.loop-at.invariant in
    let lines = c.loop-at.lines.items in
    let grown = c.push_piece.new.lines.items in
    let count = c.piece_len-count.result in
    let kept : c.len-kept.result ≡ length lines = cc (c.len-kept.ensures, c.loop-at.lines.ok.0) in
    let pushed = c.in_ok-push_piece.ensures in
    record {
      same = pushed.reads.same_now ∙ before.same;
      order = omega (arith, before.order);
      inside = omega (arith, c.piece_len-count.ensures.left, c.loop-at-test.true);
      few = omega (arith, pushed.longer, kept, c.piece_len-count.ensures.room, before.few);
      longer = omega (arith, before.longer, pushed.longer);
      reads = ReadsAtMost-both before.reads pushed.reads (omega (arith, before.longer, pushed.longer));
      read = λ dump is.
          let piece = between c.loop-at.at (c.loop-at.at + count) dump in
          let is_pushed : grown ≡ lines ++ piece = pushed.pushed dump (before.same ∙ is) in
          let behind = piece-behind lines grown c.deref.result.now piece c.len-kept.result kept c.deref.ensures.value is_pushed in
          read-more c.args.lines.now.items lines grown piece dump c.args.from c.loop-at.at count before.order (before.read dump is) refl
          (subst BeginsLine behind c.in_default.ensures) is_pushed;
    }

pub returns-clause-pushed : goal.returns-clause-pushed
returns-clause-pushed g c = λ dump is.
    let before = c.loop-at.invariant in
    read-end c.args.lines.now.items c.loop-at.lines.items dump c.args.from c.loop-at.at c.args.upto (omega (arith, before.inside, c.loop-at-test.false)) (before.read dump is)
