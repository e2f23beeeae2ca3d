use Rattle.std.proofs.Common.{arith, ◌∷◌, ◌≡◌, ◌<◌, ◌∙◌, map, length, ap, sym, subst}
use Rattle.std.specs.Prelude.{All, drop}
use Rattle.wait_circles.specs.declared.on_circle.OnCircle.{OnCircle}
use Rattle.wait_circles.proofs.WalkFacts.{behind-is, is-left, isnt-left, members-are, ring-counted, takes-none, takes-some, total-some}
use Rattle.wait_circles.proofs.tokens.Tokens.take_circle.Goals as goal

pub returns-then-is_none : goal.returns-then-is_none
returns-then-is_none c =
    let old = c.args.self.now in
    let inside : c.args.home < length old.left.items = omega (arith, c.requires.within, c.requires.telling.telling.left_size) in
    takes-none old c.args.home c.requires.telling c.args.circle c.args.on.now.items (isnt-left old.left.items c.args.home c.index.result.now c.is_none.result inside c.index.ensures c.is_none.ensures c.if-is_none.true)

pub overflow_sub-total : goal.overflow_sub-total
overflow_sub-total c =
    let old = c.args.self.now in
    let inside : c.args.home < length old.left.items = omega (arith, c.requires.within, c.requires.telling.telling.left_size) in
    let at = is-left old.left.items c.args.home c.index.result.now c.is_none.result inside c.index.ensures c.is_none.ensures c.if-is_none.false in
    total-some old c.args.home c.requires.telling c.walk_circle.new.self c.args.circle c.in_ok-total.total at.0 c.args.on.now.items c.walk_circle.new.on.items at.1 c.in_ok-total.ensures

pub tell_circle-requires : goal.tell_circle-requires
tell_circle-requires c =
    let old = c.args.self.now in
    let inside : c.args.home < length old.left.items = omega (arith, c.requires.within, c.requires.telling.telling.left_size) in
    let at = is-left old.left.items c.args.home c.index.result.now c.is_none.result inside c.index.ensures c.is_none.ensures c.if-is_none.false in
    let walks = c.in_ok-total.ensures in
    let start : c.len-start.result ≡ length c.args.on.now.items = c.len-start.ensures ∙ c.args.on.now.ok.0 in
    subst (All (λ (one : OnCircle). one.process < length c.walk_circle.new.self.counts.items))
    (sym (c.behind.ensures ∙ ap (drop c.len-start.result) c.deref.ensures.value ∙ behind-is c.args.on.now.items c.walk_circle.new.on.items c.args.circle c.len-start.result (c.args.home ∷ walks.rest) walks.all start))
    (ring-counted old c.walk_circle.new.self c.args.home c.args.circle c.in_ok-total.total c.args.on.now.items c.walk_circle.new.on.items c.requires.telling at.0 at.1 walks)

pub returns : goal.returns
returns c =
    let old = c.args.self.now in
    let inside : c.args.home < length old.left.items = omega (arith, c.requires.within, c.requires.telling.telling.left_size) in
    let at = is-left old.left.items c.args.home c.index.result.now c.is_none.result inside c.index.ensures c.is_none.ensures c.if-is_none.false in
    let walks = c.in_ok-total.ensures in
    let start : c.len-start.result ≡ length c.args.on.now.items = c.len-start.ensures ∙ c.args.on.now.ok.0 in
    let those : map (λ (one : OnCircle). one.process) c.behind.result.now ≡ c.args.home ∷ walks.rest =
    ap (map (λ (one : OnCircle). one.process)) (c.behind.ensures ∙ ap (drop c.len-start.result) c.deref.ensures.value ∙ behind-is c.args.on.now.items c.walk_circle.new.on.items c.args.circle c.len-start.result (c.args.home ∷ walks.rest) walks.all start)
    ∙ members-are c.args.circle (c.args.home ∷ walks.rest) in
    takes-some old c.args.home c.requires.telling c.walk_circle.new.self c.tell_circle.new.self c.args.circle c.in_ok-total.total at.0 c.args.on.now.items c.walk_circle.new.on.items at.1 walks
    (map (λ (one : OnCircle). one.process) c.behind.result.now) those c.tell_circle.ensures
