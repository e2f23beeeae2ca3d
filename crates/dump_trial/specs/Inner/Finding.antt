-- What is looked up for each process.
use Rattle.std.specs.Prelude.{◌≡◌, ℕ, ◌<◌, List, length, Option, codes, IfSome}
use Rattle.dump_sections.specs.Bodies.{section_in}
use Rattle.dump_sections.specs.Index.{Contents, sections_in}
use Rattle.dump_sections.specs.Firsts.{Firsts}
use Rattle.heap_cells.specs.Loading.{literals_section}
use Rattle.root_views.specs.Kinds.{roots_tag}
use Rattle.root_views.specs.declared.kinds.RootKind.TheVariants.{Stack, Dict, Mail}

-- the first sections of a tag in an index
abbrev pub firsts : Contents → List ℕ → Firsts
firsts index tag = record { tag = tag; index = index }

-- heaps, roots and binaries are looked up in this index, and its literals are at this place
pub record AreFound (index : Contents) (heaps stacks dictionaries mailboxes : Firsts) (literals : Option ℕ) (binaries : Contents) : Type 0 where
  pub own : heaps ≡ firsts index (codes "proc_heap")
  pub stack : stacks ≡ firsts index (roots_tag Stack)
  pub dictionary : dictionaries ≡ firsts index (roots_tag Dict)
  pub mail : mailboxes ≡ firsts index (roots_tag Mail)
  pub shared : section_in index literals ≡ literals_section (sections_in index)
  pub within : IfSome literals (λ i. i < length index.headers)
  pub outside : binaries ≡ index
