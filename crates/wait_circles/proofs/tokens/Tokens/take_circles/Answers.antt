use Rattle.std.proofs.Common.{arith, refl, sym, ◌∙◌, ◌+◌, subst, length}
use Rattle.wait_circles.proofs.TellFacts.{telling-first}
use Rattle.wait_circles.proofs.WalkFacts.{HasCircles, circles-more, circles-none}
use Rattle.wait_circles.proofs.tokens.Tokens.take_circles.Goals as goal

pub loop-home-init : goal.loop-home-init
loop-home-init c =
    let t = c.args.self.now in record {
      leads = refl;
      telling = record { telling = telling-first t.leads.items t.left.items t.counts.items t.incoming.items c.requires.peeling.peeling (length t.leads.items) (omega arith) c.requires.all };
      has = circles-none t.leads.items c.args.count c.new-on.result.items c.new-on.ensures.items;
    }

pub loop-home-preserved : goal.loop-home-preserved
loop-home-preserved c =
    let takes = c.in_ok-is_one.ensures in
    let more = circles-more c.loop-home.self c.take_circle.new.self c.args.self.now.leads.items c.args.count c.loop-home.home c.loop-home.circles c.loop-home.on.items c.take_circle.new.on.items c.in_ok-is_one.is_one
    c.loop-home.invariant.has c.loop-home.invariant.leads c.requires.below takes in
    record {
      leads = takes.leads ∙ c.loop-home.invariant.leads;
      telling = takes.telling;
      has = subst (λ n. HasCircles c.args.self.now.leads.items c.args.count (c.loop-home.home + 1) n c.take_circle.new.on.items) (sym c.counted-circles.ensures) more;
    }
