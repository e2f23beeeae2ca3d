-- What a look-up looks for.
use Rattle.std.specs.Prelude.{ℕ, Bool, List}
use Rattle.std.specs.Option.{option_copied}
use Rattle.dump_sections.specs.declared.lookups.Wanted.{Wanted}
use Rattle.dump_sections.specs.declared.lookups.Wanted.TheVariants.{Named, Tagged, Hex}
use Rattle.dump_sections.specs.Lookups.{has_tag, is_named, has_hex}

-- whether a header's text is one that is looked for
abbrev pub is_wanted : Wanted → List ℕ → Bool
is_wanted (Named tag id) text = is_named tag.now (option_copied id) text
is_wanted (Tagged tag) text = has_tag tag.now text
is_wanted (Hex tag n) text = has_hex tag.now n text
