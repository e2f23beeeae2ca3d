-- The sections that hold roots of a process.
use Rattle.std.specs.Prelude.{ℕ, List, ◌++◌, Option}
use Rattle.std.specs.Option.{option_to_list}
use Rattle.dump_sections.specs.Lookups.{first_named}
use Rattle.dump_sections.specs.Sections.{Section}
use Rattle.root_views.specs.Kinds.{roots_tag}
use Rattle.root_views.specs.declared.kinds.RootKind.{RootKind}
use Rattle.root_views.specs.declared.kinds.RootKind.TheVariants.{Stack, Dict, Mail}

-- the first section with roots of this kind whose id is this pid
abbrev pub root_section : RootKind → List ℕ → List Section → Option Section
root_section kind pid sections = first_named (roots_tag kind) pid sections

-- the stack, the dictionary and the mailbox of a process, as far as there are such sections
abbrev pub root_bodies : List ℕ → List Section → List Section
root_bodies pid sections = (option_to_list (root_section Stack pid sections) ++ option_to_list (root_section Dict pid sections)) ++ option_to_list (root_section Mail pid sections)
