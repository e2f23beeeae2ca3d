use Rattle.std.proofs.Common.{◌≡◌, ◌+◌, ◌<◌, ◌^◌, length, Some, sym, ◌∙◌, ap, subst, arith, set}
use Rattle.std.specs.Prelude.{slice_get}
use Rattle.std.proofs.lemmas.Option.{slice_get-get_or}
use Rattle.dump_sections.specs.Inner.Counting.{counts_of, one_more}
use Rattle.dump_sections.specs.declared.tags.TagCount.{TagCount}
use Rattle.dump_sections.proofs.Counts.{place-within, one_more-set, count-few, length-counts}
use Rattle.dump_sections.proofs.tags.add_one.Goals as goal

pub index_mut-requires : goal.index_mut-requires
index_mut-requires c =
    let counts = c.args.counts.now.items in
    omega (arith, place-within c.args.tag.now (counts_of counts) c.args.number c.requires.place, length-counts counts, c.args.counts.now.ok.0)

pub overflow_add-index_mut : goal.overflow_add-index_mut
overflow_add-index_mut c =
    let counts = c.args.counts.now.items in
    let count = c.index_mut.result.now in
    let inside : c.args.number < length counts = omega (arith, place-within c.args.tag.now (counts_of counts) c.args.number c.requires.place, length-counts counts) in
    let at : slice_get counts c.args.number ≡ Some count = slice_get-get_or counts c.args.number count inside ∙ ap Some (sym c.index_mut.ensures.value) in
    omega (arith, count-few counts c.args.number (2 ^ 64) count c.requires.few at)

pub returns : goal.returns
returns c =
    let counts = c.args.counts.now.items in
    let count = c.index_mut.result.now in
    let tag = c.args.tag.now in
    subst (λ (x : TagCount). counts_of (set counts c.args.number (record { tag = x.tag; count = x.count + 1 })) ≡ one_more tag (counts_of counts))
    (sym c.index_mut.ensures.value) (one_more-set tag counts c.args.number count c.requires.place)
