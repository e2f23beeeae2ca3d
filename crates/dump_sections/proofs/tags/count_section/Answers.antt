use Rattle.std.proofs.Common.{◌≡◌, ◌+◌, ◌<◌, ◌≤◌, ◌^◌, ℕ, List, All, sym, ◌∙◌, ap, subst, Some, slice_get, take, length, arith}
use Rattle.std.specs.Prelude.{option_map}
use Rattle.std.proofs.lemmas.Option.{slice_get-map}
use Rattle.std.proofs.lemmas.List.{length-take}
use Rattle.std.proofs.lemmas.List.Elements.{All-weaker}
use Rattle.dump_sections.specs.Index.{Contents, sections_in}
use Rattle.dump_sections.specs.Sections.{Section, section, tag_of}
use Rattle.dump_sections.specs.Tags.{tags_in, tag_counts}
use Rattle.dump_sections.specs.Inner.Counting.{counts_of, one_more, AreApart, place_in}
use Rattle.dump_sections.proofs.Counts.{tag_counts-more, tag_counts-apart, tag_counts-few, place-stays}
use Rattle.dump_sections.proofs.tags.count_section.Goals as goal

-- the tag of the section at the place
tag_at : (index : Contents) (i at body end : ℕ) (text tag : List ℕ) → slice_get (sections_in index) i ≡ Some (section at body end text) → tag ≡ tag_of text
    → slice_get (tags_in index) i ≡ Some tag
tag_at index i at body end text tag place is =
    slice_get-map (λ (s : Section). tag_of s.text) (sections_in index) i ∙ ap (option_map (λ (s : Section). tag_of s.text)) place ∙ ap Some (sym is)

-- the counts with the section
counted : (index : Contents) (i at body end : ℕ) (text tag : List ℕ) (before after : List (List ℕ × ℕ)) → slice_get (sections_in index) i ≡ Some (section at body end text) → tag ≡ tag_of text
    → before ≡ tag_counts (take i (tags_in index)) → after ≡ one_more tag before → after ≡ tag_counts (take (i + 1) (tags_in index))
counted index i at body end text tag before after place is were more =
    more ∙ ap (one_more tag) were ∙ sym (tag_counts-more (tags_in index) i tag (tag_at index i at body end text tag place is))

pub number_of-requires-clause-apart : goal.number_of-requires-clause-apart
number_of-requires-clause-apart c =
    subst AreApart (sym (ap counts_of c.deref.ensures.value ∙ c.requires.before.counted)) (tag_counts-apart (take c.args.i (tags_in c.args.index.now)))

pub add_one-requires-clause-few : goal.add_one-requires-clause-few
add_one-requires-clause-few c =
    let tags = take c.args.i (tags_in c.args.index.now) in
    subst (All (λ (count : List ℕ × ℕ). count.1 + 1 < 2 ^ 64)) (sym c.requires.before.counted)
    (All-weaker (λ (count : List ℕ × ℕ). count.1 ≤ length tags) (λ count. count.1 + 1 < 2 ^ 64)
    (λ count few. omega (arith, few, length-take c.args.i (tags_in c.args.index.now), c.requires.fits)) (tag_counts tags) (tag_counts-few tags))

pub returns-in-Some : goal.returns-in-Some
returns-in-Some c = record {
  counted = counted c.args.index.now c.args.i _ _ _ _ _ _ _ c.section.ensures.place c.section.ensures.tag c.requires.before.counted c.add_one.ensures;
  numbered =
      λ other.
      cc (
        c.requires.before.numbered other,
        c.add_one.ensures,
        place-stays other c.section.result.tag.now (counts_of c.args.counts.now.items) c.in-Some.number (ap (λ counts. place_in c.section.result.tag.now (counts_of counts)) (sym c.deref.ensures.value) ∙ sym c.number_of.ensures ∙ c.in-Some.is),
      );
}

pub returns-in_ok-add_tag-in-None : goal.returns-in_ok-add_tag-in-None
returns-in_ok-add_tag-in-None c = record {
  counted = counted c.args.index.now c.args.i _ _ _ _ _ _ _ c.section.ensures.place c.section.ensures.tag c.requires.before.counted c.in_ok-add_tag-in-None.ensures.counts;
  numbered = c.in_ok-add_tag-in-None.ensures.numbered;
}
