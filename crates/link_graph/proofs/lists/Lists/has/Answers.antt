use Rattle.std.proofs.Common.{sym, ◌∙◌, ap}
use Rattle.std.specs.List.{between}
use Rattle.link_graph.specs.Lists.{has_kind}
use Rattle.link_graph.specs.Seen.{shown_kind}
use Rattle.link_graph.proofs.Spanned.{links-shown}
use Rattle.link_graph.proofs.lists.Lists.has.Goals as goal

pub returns-else-span-gt-SHORT : goal.returns-else-span-gt-SHORT
returns-else-span-gt-SHORT c =
    let span = c.index-span.result.now in
    let wanted = shown_kind c.args.wanted.now in
    c.is_among.ensures
    ∙ ap (λ entries. has_kind wanted (between span.from span.upto entries)) c.deref.ensures.value
    ∙ sym (ap (λ l. has_kind wanted l.entries) (links-shown c.args.self.now c.args.p span c.requires.place c.index-span.ensures))
