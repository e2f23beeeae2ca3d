-- The frames of a stack, which say where a process stands.
use Rattle.std.specs.Prelude.{ℕ, List, map, take, Option, None, Some}
use Rattle.std.specs.List.{filter_map}
use Rattle.root_views.specs.Roots.{Content, Info, stack_roots}
use Rattle.text_groups.specs.Cut.{cut_text}

-- the text of a root, if it is an info
abbrev pub info_in : Content → Option (List ℕ)
info_in (Info text) = Some text
info_in content = None

-- the infos among the roots of a stack with this body, in their order
abbrev pub infos : List ℕ → List (List ℕ)
infos body = filter_map (λ root. info_in root.content) (stack_roots body)

-- the frames: the first 20 infos, of each at most the first 255 bytes
abbrev pub frames : List ℕ → List (List ℕ)
frames body = map cut_text (take 20 (infos body))
