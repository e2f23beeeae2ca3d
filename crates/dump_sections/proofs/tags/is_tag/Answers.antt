use Rattle.std.proofs.Common.{Some, sym, ◌∙◌, ap, arith}
use Rattle.std.specs.Str.{bytes_eq}
use Rattle.std.proofs.lemmas.Option.{slice_get-get_or}
use Rattle.dump_sections.specs.Inner.Counting.{counts_of}
use Rattle.dump_sections.proofs.Counts.{place-apart, count-at}
use Rattle.dump_sections.proofs.tags.is_tag.Goals as goal

pub returns-in-Some : goal.returns-in-Some
returns-in-Some c same =
    let tag = c.args.tag.now in
    let count = c.in-Some.count.now in
    let found = c.in-Some.ensures.lookup in
    place-apart tag (counts_of c.args.counts.now) c.args.number (count.tag.items, count.count) c.requires
    (count-at c.args.counts.now c.args.number count
    (slice_get-get_or c.args.counts.now c.args.number count (omega (arith, found)) ∙ ap Some (sym found.1)))
    (ap (bytes_eq tag) (sym c.as_slice.ensures.value) ∙ sym c.eq.ensures ∙ same)
