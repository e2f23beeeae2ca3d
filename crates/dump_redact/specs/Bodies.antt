-- What the body of a section is with its payloads made zero.
use Rattle.std.specs.Prelude.{ℕ, List, ◌∷◌, map}
use Rattle.std.specs.List.{concat}
use Rattle.dump_io.specs.Lines.{raw_lines}
use Rattle.binary_payloads.specs.declared.enc.Enc.{Enc}
use Rattle.dump_redact.specs.declared.parts.Part.{Part}
use Rattle.dump_redact.specs.declared.parts.Part.TheVariants.{Heap, Binary}
use Rattle.dump_redact.specs.Redacted.{blanked_line}

-- the lines of a body, by the part that its header begins: all those of a heap
-- change, of a binary only the first does, and any others stay
abbrev pub body_lines : Enc → Part → List (List ℕ) → List (List ℕ)
body_lines enc Heap raws = map (blanked_line enc Heap) raws
body_lines enc Binary (raw ∷ raws) = blanked_line enc Binary raw ∷ raws
body_lines enc part raws = raws

-- the body
abbrev pub redacted_body : Enc → Part → List ℕ → List ℕ
redacted_body enc part body = concat (body_lines enc part (raw_lines body))
