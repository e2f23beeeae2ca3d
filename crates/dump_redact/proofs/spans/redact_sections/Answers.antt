use Rattle.std.proofs.Common.{◌≡◌, ◌+◌, ◌-◌, ◌<◌, ◌++◌, length, append-nil, ◌∙◌, ap, arith}
use Rattle.std.proofs.lemmas.List.Edits.{between_none}
use Rattle.dump_sections.specs.Bodies.{section_at}
use Rattle.dump_sections.specs.Sections.{tag_of}
use Rattle.heap_cells.specs.Loading.{enc_of}
use Rattle.dump_redact.specs.Redacted.{part_of, redacted}
use Rattle.dump_redact.specs.Inner.Places.{offset_of, text_between, redacted_between}
use Rattle.dump_redact.proofs.Offsets.{at-offset, end-offset, offset-rise, one-more-section}
use Rattle.dump_redact.proofs.spans.redact_sections.Goals as goal

pub redact_section-requires-clause-begins : goal.redact_section-requires-clause-begins
redact_section-requires-clause-begins c =
    let index = c.args.index.now in
    let all = c.loop-k.invariant in
    let k = c.loop-k.k in
    let inside : k < length index.headers = omega (arith, c.loop-k-test.true, c.requires.within) in
    omega (arith, c.offset-from.ensures.value, at-offset index k inside, offset-rise index c.offset-from.ensures.bounded c.args.i k all.low (omega (arith, inside)))

pub redact_section-requires-clause-ends : goal.redact_section-requires-clause-ends
redact_section-requires-clause-ends c =
    let index = c.args.index.now in
    let all = c.loop-k.invariant in
    let k = c.loop-k.k in
    let next = c.args.next in
    let bounded = c.offset-from.ensures.bounded in
    let inside : k < length index.headers = omega (arith, c.loop-k-test.true, c.requires.within) in
    omega (
      arith,
      c.offset-from.ensures.value,
      all.size,
      c.requires.size,
      end-offset index k inside,
      offset-rise index bounded c.args.i (k + 1) (omega (arith, all.low)) (omega (arith, inside)),
      offset-rise index bounded (k + 1) next (omega (arith, c.loop-k-test.true)) c.requires.within,
    )

pub loop-k-preserved : goal.loop-k-preserved
loop-k-preserved c =
    let index = c.args.index.now in
    let all = c.loop-k.invariant in
    let k = c.loop-k.k in
    let s = section_at index k in
    record {
      low = omega (arith, all.low);
      high = omega (arith, c.loop-k-test.true);
      size = c.redact_section.auto.piece ∙ all.size;
      redacts = λ dump of is.
          c.redact_section.ensures
          ∙ ap (λ a. redacted_between (enc_of index.version) (part_of (tag_of s.text)) (s.body - a) (s.end - a) c.loop-k.piece) c.offset-from.ensures.value
          ∙ one-more-section index c.offset-from.ensures.bounded c.args.i k c.args.next all.low c.loop-k-test.true c.requires.within dump c.loop-k.piece of (all.redacts dump of is);
    }

pub returns : goal.returns
returns c dump of is =
    let index = c.args.index.now in
    let i = c.args.i in
    let next = c.args.next in
    let all = c.loop-k.invariant in
    let ends : c.loop-k.k ≡ next = omega (arith, all.high, c.loop-k-test.false) in
    let whole = text_between index i next (redacted dump) in
    all.redacts dump of is
    ∙ ap (λ n. text_between index i n (redacted dump) ++ text_between index n next dump) ends
    ∙ ap (λ l. whole ++ l) (between_none dump (offset_of index next))
    ∙ append-nil whole
