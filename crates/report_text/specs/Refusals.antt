-- The lines that say why a command is refused.
use Rattle.std.specs.Prelude.{ℕ, List, [], ◌∷◌, decimal, codes}
use Rattle.dump_io.specs.Numbers.{hexadecimal}
use Rattle.section_index.specs.declared.opening.OpenFault.TheVariants.{Compressed, NotADump, Version, TooLarge, HeaderTooLong, TooManySections, HeadersTooLarge, Read, Memory}
use Rattle.report_lines.specs.Lines.{line_of, word_space}
use Rattle.report_text.specs.declared.refusals.Refusal.{Refusal}
use Rattle.report_text.specs.declared.refusals.Refusal.TheVariants.{Open, NoProcess, SectionTooLarge, TooDense, NoAddress, NotExt, BadExt, NoBinary, BadBinary}

-- what follows `refused:`: the cause, and the offset, the size or the text that it
-- names; a fault of the device or of memory refuses no dump, and is no cause
abbrev pub cause_of : Refusal → List (List ℕ)
cause_of (Open Compressed) = codes "compressed" ∷ []
cause_of (Open NotADump) = codes "not a dump" ∷ []
cause_of (Open (Version text)) = codes "version" ∷ text ∷ []
cause_of (Open (TooLarge size)) = codes "dump too large" ∷ decimal size ∷ []
cause_of (Open (HeaderTooLong at)) = codes "header too long at" ∷ decimal at ∷ []
cause_of (Open (TooManySections at)) = codes "too many sections at" ∷ decimal at ∷ []
cause_of (Open (HeadersTooLarge at)) = codes "headers too large at" ∷ decimal at ∷ []
cause_of (Open fault) = []
cause_of (NoProcess pid) = codes "no process" ∷ pid ∷ []
cause_of (SectionTooLarge at len) = codes "section too large at" ∷ decimal at ∷ codes "length" ∷ decimal len ∷ []
cause_of (TooDense count) = codes "heap too dense" ∷ decimal count ∷ []
cause_of (NoAddress addr) = codes "no address" ∷ hexadecimal addr ∷ []
cause_of (NotExt addr) = codes "not external" ∷ hexadecimal addr ∷ []
cause_of (BadExt addr at) = codes "bad external" ∷ hexadecimal addr ∷ codes "at" ∷ decimal at ∷ []
cause_of (NoBinary addr) = codes "no binary" ∷ hexadecimal addr ∷ []
cause_of (BadBinary at) = codes "bad binary at" ∷ decimal at ∷ []

-- the line of a refusal
abbrev pub refusal_line : Refusal → List ℕ
refusal_line refusal = line_of word_space (codes "refused:" ∷ cause_of refusal)

-- a refusal that has a cause
abbrev pub IsRefusal : Refusal → Type 0
IsRefusal (Open Read) = ⊥
IsRefusal (Open Memory) = ⊥
IsRefusal refusal = Unit {0}
