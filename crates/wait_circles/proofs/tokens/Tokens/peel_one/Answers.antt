use Rattle.std.proofs.Common.{arith, ◌≡◌, ℕ, ◌<◌, length, refl, sym, ◌∙◌}
use Rattle.std.specs.Prelude.{None, Some, slice_index}
use Rattle.std.proofs.lemmas.List.{get_or_read}
use Rattle.wait_circles.specs.Inner.Leading.{onto, tokens}
use Rattle.wait_circles.specs.Inner.Peeling.{ArePeeling}
use Rattle.wait_circles.specs.declared.tokens.Tokens.{Tokens}
use Rattle.wait_circles.proofs.PeelFacts.{below-next, fewer-left, led-there, moved-fits, next-counted, peeled-upto, peels-to}
use Rattle.wait_circles.proofs.tokens.Tokens.peel_one.Goals as goal

none-in : (t : Tokens) (v : ℕ) → ArePeeling t → v < length t.leads.items → slice_index t.incoming.items v ≡ 0 → tokens t.left.items v ≡ 0
none-in t v are inside none = sym (are.peeling.come_in v (omega (arith, inside, are.peeling.enough, are.peeling.counts_size))) ∙ none

pub overflow_add-index_mut : goal.overflow_add-index_mut
overflow_add-index_mut c =
    let t = c.args.self.now in
    let v = c.args.v in
    let next = c.in_ok-next.next in
    let p = c.requires.peeling.peeling in
    let none = none-in t v c.requires.peeling c.requires.within c.requires.none in
    let here : v < length t.left.items = omega (arith, c.requires.within, p.left_size) in
    let at : onto t.left.items v ≡ Some next = sym (get_or_read t.left.items v c.index.result.now here c.index.ensures None) ∙ c.in_ok-next.was in
    let below = below-next t.leads.items t.left.items t.counts.items t.incoming.items p v next at none in
    let one : c.index_mut-2.result.now ≡ slice_index t.counts.items next = get_or_read t.counts.items next c.index_mut-2.result.now below c.index_mut-2.ensures.value 0 in
    let other : c.index-2.result.now ≡ slice_index t.counts.items v = get_or_read t.counts.items v c.index-2.result.now (omega (arith, c.requires.within, p.enough)) c.index-2.ensures 0 in
    omega (arith, moved-fits t.leads.items t.left.items t.counts.items t.incoming.items p v next at none, c.requires.few, one, other)

pub overflow_sub-index_mut : goal.overflow_sub-index_mut
overflow_sub-index_mut c =
    let t = c.args.self.now in
    let v = c.args.v in
    let next = c.in_ok-next.next in
    let p = c.requires.peeling.peeling in
    let none = none-in t v c.requires.peeling c.requires.within c.requires.none in
    let here : v < length t.left.items = omega (arith, c.requires.within, p.left_size) in
    let at : onto t.left.items v ≡ Some next = sym (get_or_read t.left.items v c.index.result.now here c.index.ensures None) ∙ c.in_ok-next.was in
    let below = below-next t.leads.items t.left.items t.counts.items t.incoming.items p v next at none in
    let third : c.index_mut-3.result.now ≡ slice_index t.incoming.items next = get_or_read t.incoming.items next c.index_mut-3.result.now (omega (arith, below, p.counts_size)) c.index_mut-3.ensures.value 0 in
    omega (arith, next-counted t.leads.items t.left.items t.counts.items t.incoming.items p v next at none, third)

pub returns : goal.returns
returns c =
    let t = c.args.self.now in
    let v = c.args.v in
    let next = c.in_ok-next.next in
    let are = c.requires.peeling in
    let p = are.peeling in
    let none = none-in t v are c.requires.within c.requires.none in
    let here : v < length t.left.items = omega (arith, c.requires.within, p.left_size) in
    let at : onto t.left.items v ≡ Some next = sym (get_or_read t.left.items v c.index.result.now here c.index.ensures None) ∙ c.in_ok-next.was in
    let below = below-next t.leads.items t.left.items t.counts.items t.incoming.items p v next at none in
    let one : c.index_mut-2.result.now ≡ slice_index t.counts.items next = get_or_read t.counts.items next c.index_mut-2.result.now below c.index_mut-2.ensures.value 0 in
    let other : c.index-2.result.now ≡ slice_index t.counts.items v = get_or_read t.counts.items v c.index-2.result.now (omega (arith, c.requires.within, p.enough)) c.index-2.ensures 0 in
    let third : c.index_mut-3.result.now ≡ slice_index t.incoming.items next = get_or_read t.incoming.items next c.index_mut-3.result.now (omega (arith, below, p.counts_size)) c.index_mut-3.ensures.value 0 in
    record {
      peels = record {
        leads = refl;
        peeling = record {
          within = are.within;
          peeling = peels-to t v next c.index_mut-2.result.now c.index-2.result.now c.index_mut-3.result.now are c.requires.within at none one other third;
        };
        inside = are.within.each v next (led-there t.leads.items t.left.items t.counts.items t.incoming.items p v next at);
        before = peeled-upto t.leads.items t.left.items t.counts.items t.incoming.items p v next at none;
        fewer = fewer-left t.left.items v next at;
      };
    }
