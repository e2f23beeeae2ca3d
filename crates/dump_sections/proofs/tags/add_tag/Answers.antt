use Rattle.std.proofs.Common.{length, refl, sym, ◌∙◌, ap, Some, arith}
use Rattle.dump_sections.specs.Inner.Counting.{counts_of, place_in}
use Rattle.dump_sections.proofs.Counts.{one_more-new, place-push, counts-push, update-same, length-counts}
use Rattle.dump_sections.proofs.ByMarks.{marked-more}
use Rattle.dump_sections.proofs.tags.add_tag.Goals as goal

pub returns-clause-counts : goal.returns-clause-counts
returns-clause-counts c =
    counts-push c.args.tag.now c.args.counts.now.items c.push.new.self.items _ c.in_ok-push.ensures.items c.in_ok-text.ensures.items
    ∙ sym (one_more-new c.args.tag.now (counts_of c.args.counts.now.items) c.requires.new)

pub returns-clause-numbered : goal.returns-clause-numbered
returns-clause-numbered c = λ other.
    let tag = c.args.tag.now in
    let counts = counts_of c.args.counts.now.items in
    marked-more tag (c.mark_of.result, c.args.tag) c.args.numbers.now c.insert.new.self (Some c.len.result) c.mark_of.ensures refl c.in_ok-insert.ensures.updates other
    ∙ update-same tag other _ (λ t. place_in t counts) _ (length counts) c.requires.numbered (omega (arith, c.len.ensures, length-counts c.args.counts.now.items, c.args.counts.now.ok.0))
    ∙ sym (place-push other tag counts c.requires.new)
    ∙ ap (place_in other) (sym (counts-push tag c.args.counts.now.items c.push.new.self.items _ c.in_ok-push.ensures.items c.in_ok-text.ensures.items))
