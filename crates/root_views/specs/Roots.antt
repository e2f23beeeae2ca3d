-- The roots of a process: what its stack, its dictionary and its mailbox hold. Offsets are counted in bytes of the body,
-- from 0.
use Rattle.std.specs.Prelude.{ℕ, ◌+◌, ◌<◌, Bool, ◌&&◌, nat_eq, nat_lt, List, [], ◌∷◌, length, drop, map, filter, flat_map, count_by, codes, Option, None, Some, option_map, option_and_then, unwrap_or, if◌then◌else◌}
use Rattle.std.specs.List.{before_last, after_last, starts_with}
use Rattle.std.specs.Option.{option_or, option_map_or}
use Rattle.std.specs.Str.{bytes_eq}
use Rattle.dump_io.specs.Colons.{is_colon, has_colon, before_colon, after_colon}
use Rattle.field_lines.specs.Lines.{TextLine, text_lines}
use Rattle.term_forms.specs.Elements.{Element}
use Rattle.term_forms.specs.Reading.{front, whole_of}

-- what a root is: an element, a word of the stack that is
-- none, a message in the external format, or what isn't read
pub data Content : Type 0 where
  Term : Element → Content
  Info : List ℕ → Content
  Dist : List ℕ → Content
  Unread : Content

-- the element of a root, if it is a term
abbrev pub term_in : Content → List Element
term_in (Term e) = e ∷ []
term_in content = []

-- where a root stands in the body, its label, and what it is
pub record BodyRoot : Type 0 where
  pub at : ℕ
  pub label : List ℕ
  pub content : Content

-- a line with an empty text gives no root
abbrev pub has_text : TextLine → Bool
has_text line = nat_lt 0 (length line.text)

-- lines with an empty text give no root
abbrev pub root_lines : List ℕ → List TextLine
root_lines body = filter has_text (text_lines body)

-- ---- the stack

-- after the label: an info is what follows an `S`, and a term is a text that is wholly an element
abbrev pub stack_content : List ℕ → Option Content
stack_content text =
    if starts_with nat_eq text (codes "S") then Some (Info (drop 1 text)) else option_map Term (whole_of text)

-- a root with its label, or an unread one, whose label is empty
abbrev pub labelled : ℕ → List ℕ → Option Content → BodyRoot
labelled at label None = record { at = at; label = []; content = Unread }
labelled at label (Some content) = record { at = at; label = label; content = content }

-- a line of the stack: the label stands before the first colon, and the content after it
abbrev pub stack_root : TextLine → BodyRoot
stack_root line =
    labelled line.at (before_colon line.text) (if has_colon line.text then stack_content (after_colon line.text) else None)

-- the roots of a `proc_stack` body
abbrev pub stack_roots : List ℕ → List BodyRoot
stack_roots body = map stack_root (root_lines body)

-- ---- the dictionary

-- a line of the dictionary: a text that is wholly an element, with the label `e`
abbrev pub dict_root : TextLine → BodyRoot
dict_root line = record { at = line.at; label = codes "e"; content = option_map_or Term (whole_of line.text) Unread }

-- the roots of a `proc_dictionary` body
abbrev pub dict_roots : List ℕ → List BodyRoot
dict_roots body = map dict_root (root_lines body)

-- ---- the mailbox

-- a message is placed where its line begins, and its token where the token's text begins
abbrev pub message : ℕ → Content → BodyRoot
message at content = record { at = at; label = codes "m"; content = content }

-- the token of a message, placed where its text begins
abbrev pub token : ℕ → Element → BodyRoot
token at e = record { at = at; label = codes "t"; content = Term e }

-- a message in the external format begins with `D`, which is
-- kept, and its token is the whole element after the last colon
abbrev pub dist_roots : TextLine → Option (List BodyRoot)
dist_roots line =
    let dist = before_last is_colon line.text in
    if starts_with nat_eq line.text (codes "D") && has_colon line.text
    then option_map (λ e. message line.at (Dist dist) ∷ token (line.at + length dist + 1) e ∷ []) (whole_of (after_last is_colon line.text))
    else None

-- what follows a colon that begins the text
abbrev pub behind_colon : List ℕ → Option (List ℕ)
behind_colon text = if starts_with nat_eq text (codes ":") then Some (drop 1 text) else None

-- any other message is the element at the beginning of the text; a
-- colon follows it, and its token is the whole element after that
abbrev pub pair_roots : TextLine → Option (List BodyRoot)
pair_roots line =
    option_and_then (λ found. option_map (λ e. message line.at (Term found.0) ∷ token (line.at + found.1 + 1) e ∷ [])
    (option_and_then whole_of (behind_colon (drop found.1 line.text)))) (front line.text)

-- a line of the mailbox: a message and its token, or a message that isn't read
abbrev pub mail_line : TextLine → List BodyRoot
mail_line line = unwrap_or (option_or (dist_roots line) (pair_roots line)) (message line.at Unread ∷ [])

-- the roots of a `proc_messages` body
abbrev pub mail_roots : List ℕ → List BodyRoot
mail_roots body = flat_map mail_line (root_lines body)

-- whether a root is a message
abbrev pub is_message : BodyRoot → Bool
is_message root = bytes_eq root.label (codes "m")

-- how many messages a mailbox has: its roots without the tokens
abbrev pub message_count : List ℕ → ℕ
message_count body = count_by is_message (mail_roots body)

-- ---- where roots stand

-- the root begins inside the body
abbrev pub IsInside : List ℕ → BodyRoot → Type 0
IsInside body root = root.at < length body
