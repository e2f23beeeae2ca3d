use Rattle.std.proofs.Common.{◌^◌, ◌<◌, [], length, sym, ◌∙◌, ap, arith, rules, subst}
use Rattle.std.specs.Prelude.{All}
use Rattle.dump_io.specs.Dumps.{size_of}
use Rattle.binary_holders.specs.Usage.{NamesProcess}
use Rattle.binary_holders.specs.Inner.Counting.{is_listed}
use Rattle.binary_holders.specs.Inner.Places.{numbers_at, references_at}
use Rattle.binary_holders.proofs.HoldingFacts.{held-more, few-lines-at, named-more}
use Rattle.binary_holders.proofs.heap_holders.count_process.Goals as goal

pub returns-clause-held : goal.returns-clause-held
returns-clause-held g c = λ dump is before heaps place had so_far.
    let owner = c.args.owner.now in
    let lines = references_at dump c.args.index.now owner.heap in
    let small : size_of (g.D.Dumps.state c.args.dumps.now).now < 2 ^ 64 = search rules in
    let few : length lines < 2 ^ 64 = let size = ap size_of is in omega (arith, small, size, few-lines-at dump c.args.index.now owner.heap) in
    let adds = c.in_ok-count_section.ensures.adds dump is in
    c.in_ok-push_holding.ensures.pushed
    ∙ held-more (is_listed c.args.listed) c.args.sink.now.targets.now before heaps lines c.args.held.now.items c.count_section.new.sink.counts owner.process owner.counted so_far place
    (adds.numbers.later heaps [] had) (adds.heap [] c.requires.heap) few

pub returns-clause-counted : goal.returns-clause-counted
returns-clause-counted g c = λ dump is before had.
    c.turn.ensures.counted c.args.sink.now.targets.now before (numbers_at dump c.args.index.now c.args.owner.now.heap) ((c.in_ok-count_section.ensures.adds dump is).numbers.later before [] had)

pub returns-clause-named : goal.returns-clause-named
returns-clause-named g c = λ count inside named.
    let owner = c.args.owner.now in
    subst (All (NamesProcess count)) (sym c.in_ok-push_holding.ensures.pushed)
    (named-more (is_listed c.args.listed) count owner.process owner.counted c.args.held.now.items c.count_section.new.sink.counts inside named)

pub returns-clause-lines : goal.returns-clause-lines
returns-clause-lines g c = λ dump is before had. c.turn.ensures.lines ∙ (c.in_ok-count_section.ensures.adds dump is).lines before had
