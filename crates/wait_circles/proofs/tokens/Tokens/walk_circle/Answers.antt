use Rattle.std.proofs.Common.{arith, ◌≡◌, ◌++◌, sum_by, length, sym, ◌∙◌, ap}
use Rattle.std.specs.Prelude.{None, Some, slice_index}
use Rattle.std.proofs.lemmas.List.{get_or_read}
use Rattle.wait_circles.specs.Circles.{members}
use Rattle.wait_circles.specs.Inner.Leading.{onto}
use Rattle.wait_circles.specs.Inner.Meeting.{is_on}
use Rattle.wait_circles.proofs.PeelFacts.{fewer-left}
use Rattle.wait_circles.proofs.WalkFacts.{walk-fits, walk-inside, walking-end, walking-next}
use Rattle.wait_circles.proofs.tokens.Tokens.walk_circle.Goals as goal

pub index-requires : goal.index-requires
index-requires c =
    let old = c.args.self.now in
    let now = c.loop-next.self in
    let w = c.loop-next.invariant.walking in
    let t = c.requires.telling.telling in
    omega (arith, walk-inside old.leads.items old.left.items now.left.items old.counts.items c.args.home c.loop-next.v c.loop-next.total c.args.circle c.args.on.now.items c.loop-next.on.items t c.requires.left.0 c.requires.left.1 w, w.left_size, t.left_size, now.left.ok.0)

pub index_mut-requires : goal.index_mut-requires
index_mut-requires c =
    let old = c.args.self.now in
    let now = c.loop-next.self in
    let w = c.loop-next.invariant.walking in
    let t = c.requires.telling.telling in
    omega (arith, walk-inside old.leads.items old.left.items now.left.items old.counts.items c.args.home c.loop-next.v c.loop-next.total c.args.circle c.args.on.now.items c.loop-next.on.items t c.requires.left.0 c.requires.left.1 w, w.left_size, t.left_size, now.left.ok.0)

pub index-requires-in-Some : goal.index-requires-in-Some
index-requires-in-Some c =
    let old = c.args.self.now in
    let now = c.loop-next.self in
    let w = c.loop-next.invariant.walking in
    let t = c.requires.telling.telling in
    omega (arith, walk-inside old.leads.items old.left.items now.left.items old.counts.items c.args.home c.loop-next.v c.loop-next.total c.args.circle c.args.on.now.items c.loop-next.on.items t c.requires.left.0 c.requires.left.1 w, t.enough, now.counts.ok.0, ap length c.loop-next.invariant.counts)

pub overflow_add-total : goal.overflow_add-total
overflow_add-total c =
    let old = c.args.self.now in
    let now = c.loop-next.self in
    let w = c.loop-next.invariant.walking in
    let t = c.requires.telling.telling in
    let v = c.loop-next.v in
    let inside = walk-inside old.leads.items old.left.items now.left.items old.counts.items c.args.home v c.loop-next.total c.args.circle c.args.on.now.items c.loop-next.on.items t c.requires.left.0 c.requires.left.1 w in
    let at : onto now.left.items v ≡ Some c.in-Some.next = sym (get_or_read now.left.items v c.index.result.now (omega (arith, inside, w.left_size, t.left_size)) c.index.ensures None) ∙ c.in-Some.is in
    let count : c.index-in-Some.result.now ≡ slice_index old.counts.items v = get_or_read now.counts.items v c.index-in-Some.result.now (omega (arith, inside, t.enough, ap length c.loop-next.invariant.counts)) c.index-in-Some.ensures 0
    ∙ ap (λ l. slice_index l v) c.loop-next.invariant.counts in
    omega (arith, count, c.requires.few, walk-fits old.leads.items old.left.items now.left.items old.counts.items c.args.home v c.loop-next.total c.args.circle c.args.on.now.items c.loop-next.on.items t c.requires.left.0 c.requires.left.1 w c.in-Some.next at)

pub loop-next-smaller : goal.loop-next-smaller
loop-next-smaller c =
    let old = c.args.self.now in
    let now = c.loop-next.self in
    let w = c.loop-next.invariant.walking in
    let t = c.requires.telling.telling in
    let v = c.loop-next.v in
    let inside = walk-inside old.leads.items old.left.items now.left.items old.counts.items c.args.home v c.loop-next.total c.args.circle c.args.on.now.items c.loop-next.on.items t c.requires.left.0 c.requires.left.1 w in
    let at : onto now.left.items v ≡ Some c.in-Some.next = sym (get_or_read now.left.items v c.index.result.now (omega (arith, inside, w.left_size, t.left_size)) c.index.ensures None) ∙ c.in-Some.is in
    fewer-left now.left.items v c.in-Some.next at

pub loop-next-preserved : goal.loop-next-preserved
loop-next-preserved c =
    let old = c.args.self.now in
    let now = c.loop-next.self in
    let w = c.loop-next.invariant.walking in
    let t = c.requires.telling.telling in
    let v = c.loop-next.v in
    let inside = walk-inside old.leads.items old.left.items now.left.items old.counts.items c.args.home v c.loop-next.total c.args.circle c.args.on.now.items c.loop-next.on.items t c.requires.left.0 c.requires.left.1 w in
    let at : onto now.left.items v ≡ Some c.in-Some.next = sym (get_or_read now.left.items v c.index.result.now (omega (arith, inside, w.left_size, t.left_size)) c.index.ensures None) ∙ c.in-Some.is in
    let count : c.index-in-Some.result.now ≡ slice_index old.counts.items v = get_or_read now.counts.items v c.index-in-Some.result.now (omega (arith, inside, t.enough, ap length c.loop-next.invariant.counts)) c.index-in-Some.ensures 0
    ∙ ap (λ l. slice_index l v) c.loop-next.invariant.counts in
    let s = walking-next old.leads.items old.left.items now.left.items old.counts.items c.args.home v c.loop-next.total c.args.circle c.args.on.now.items c.loop-next.on.items t c.requires.left w c.in-Some.next c.index-in-Some.result.now at count in
    record {
      leads = c.loop-next.invariant.leads;
      counts = c.loop-next.invariant.counts;
      walking = record {
        rest = s.rest;
        walked = s.walked;
        to_come = s.to_come;
        ring = s.ring;
        parts = s.parts;
        next = s.next;
        left_size = s.left_size;
        gone = s.gone;
        out = s.out;
        sum = s.sum;
        all = c.in_ok-push.ensures.items ∙ s.all;
      };
    }

pub returns : goal.returns
returns c =
    let old = c.args.self.now in
    let now = c.loop-next.self in
    let w = c.loop-next.invariant.walking in
    let t = c.requires.telling.telling in
    let v = c.loop-next.v in
    let inside = walk-inside old.leads.items old.left.items now.left.items old.counts.items c.args.home v c.loop-next.total c.args.circle c.args.on.now.items c.loop-next.on.items t c.requires.left.0 c.requires.left.1 w in
    let at : onto now.left.items v ≡ None = sym (get_or_read now.left.items v c.index.result.now (omega (arith, inside, w.left_size, t.left_size)) c.index.ensures None) ∙ c.in_default.is in
    let whole = walking-end old.leads.items old.left.items now.left.items old.counts.items c.args.home v c.loop-next.total c.args.circle c.args.on.now.items c.loop-next.on.items t c.requires.left w at in
    record {
      rest = w.rest;
      ring = w.ring;
      leads = c.loop-next.invariant.leads;
      counts = c.loop-next.invariant.counts;
      left_size = w.left_size;
      gone = λ q on. w.gone q (ap (is_on q) (sym whole) ∙ on);
      out = λ q off. w.out q (ap (is_on q) (sym whole) ∙ off);
      sum = w.sum ∙ ap (sum_by (slice_index old.counts.items)) (sym whole);
      all = w.all ∙ ap (λ l. c.args.on.now.items ++ members c.args.circle l) (sym whole);
    }
