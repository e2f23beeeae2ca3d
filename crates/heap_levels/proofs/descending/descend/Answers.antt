use Rattle.std.proofs.Common.{◌≡◌, suc, ◌+◌, ◌-◌, length, sym, ◌∙◌, arith}
use Rattle.heap_levels.specs.declared.levels.Subject.TheVariants as of
use Rattle.heap_levels.proofs.LevelFacts.{descending-begun, descending-ended, descending-last, descending-more, descending-none, within-pushed}
use Rattle.heap_levels.proofs.descending.descend.Goals as goal

pub loop-level-init : goal.loop-level-init
loop-level-init c =
    descending-begun c.args.most c.args.skeleton.now c.args.total (of.OfKind c.args.kind) c.args.first c.no_levels-found.result c.requires.over c.no_levels-found.ensures.levels c.no_levels-found.ensures.last

pub weigh_level-requires : goal.weigh_level-requires
weigh_level-requires c = c.loop-level.invariant.over

pub returns-then-len-eq0 : goal.returns-then-len-eq0
returns-then-len-eq0 c = record {
  within = c.loop-level.invariant.within;
  levels = descending-none c.args.most c.args.skeleton.now c.args.total c.requires.some (19 - c.loop-level._level) (of.OfKind c.args.kind) c.args.first c.loop-level.found c.loop-level.subject c.loop-level.parts
      c.loop-level.invariant (sym c.len.ensures ∙ c.if-len-eq0.true);
}

pub returns-in_default : goal.returns-in_default
returns-in_default c =
    let n_is : 19 - c.loop-level._level ≡ suc (19 - (c.loop-level._level + 1)) = omega (arith, c.loop-level-test.true) in
    let weighed = c.in_ok-weighed.weighed in
    record {
      within = within-pushed (length c.args.skeleton.now.leads) c.loop-level.found c.push.new.self weighed c.loop-level.invariant.within c.in_ok-weighed.ensures.keys c.in_ok-weighed.ensures.parts
          c.in_ok-push.ensures.levels c.in_ok-push.ensures.last;
      levels = descending-last c.args.most c.args.skeleton.now c.args.total c.requires.some (19 - c.loop-level._level) (19 - (c.loop-level._level + 1)) (of.OfKind c.args.kind) c.args.first c.loop-level.found
          c.push.new.self c.loop-level.subject c.loop-level.parts weighed c.loop-level.invariant n_is (λ is. c.if-len-eq0.false (c.len.ensures ∙ is)) c.in_ok-weighed.ensures.level
          (sym c.in_default.is ∙ c.next_below-next.ensures) c.in_ok-push.ensures.levels c.in_ok-push.ensures.last;
    }

pub loop-level-preserved : goal.loop-level-preserved
loop-level-preserved c =
    let n_is : 19 - c.loop-level._level ≡ suc (19 - (c.loop-level._level + 1)) = omega (arith, c.loop-level-test.true) in
    let weighed = c.in_ok-weighed.weighed in
    descending-more c.args.most c.args.skeleton.now c.args.total c.requires.some (19 - c.loop-level._level) (19 - (c.loop-level._level + 1)) (of.OfKind c.args.kind) c.args.first c.loop-level.found c.push.new.self
    c.loop-level.subject c.loop-level.parts c.in_ok-parts.parts weighed c.in-Some.address c.loop-level.invariant n_is (λ is. c.if-len-eq0.false (c.len.ensures ∙ is)) c.in_ok-weighed.ensures.level
    (within-pushed (length c.args.skeleton.now.leads) c.loop-level.found c.push.new.self weighed c.loop-level.invariant.within c.in_ok-weighed.ensures.keys c.in_ok-weighed.ensures.parts
    c.in_ok-push.ensures.levels c.in_ok-push.ensures.last)
    (sym c.in-Some.is ∙ c.next_below-next.ensures) c.in_ok-push.ensures.levels c.in_ok-push.ensures.last c.in_ok-parts.ensures.over c.in_ok-parts.ensures.parts

pub returns : goal.returns
returns c =
    let ended : 19 - c.loop-level._level ≡ 0 = omega (arith, c.loop-level-test.false) in
    record {
      within = c.loop-level.invariant.within;
      levels = descending-ended c.args.most c.args.skeleton.now c.args.total c.requires.some (19 - c.loop-level._level) (of.OfKind c.args.kind) c.args.first c.loop-level.found c.loop-level.subject c.loop-level.parts
          c.loop-level.invariant ended;
    }
