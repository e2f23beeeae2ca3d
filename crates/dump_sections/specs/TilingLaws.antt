-- The sections of a dump tile its bytes.
use Rattle.std.proofs.Common.{◌≡◌, ℕ, suc, ◌+◌, ◌<◌, ◌≤◌, Bool, true, false, ◌&&◌, List, [], ◌∷◌, length, take, map, filter, if◌then◌else◌, refl, sym, ◌∙◌, ap, subst, length-append, arith}
use Rattle.std.specs.Prelude.{nat_eq, All}
use Rattle.std.specs.List.{concat, starts_with}
use Rattle.std.proofs.lemmas.Bool.{and_parts, eqb-true}
use Rattle.std.proofs.lemmas.List.Elements.{All-head, All-tail}
use Rattle.dump_io.specs.Lines.{equals_sign, is_header, Header, lines_from, header_of, Line}
use Rattle.dump_io.specs.Laws.Lines.{AreLines-raw}
use Rattle.dump_sections.specs.Versions.{signature}
use Rattle.dump_sections.specs.Sections.{sections_of, sections, Section}
use Rattle.dump_sections.specs.Tiling.{Tile}

-- what is tiled ends no earlier than it begins
pub Tile-size : (from size : ℕ) (sections : List Section) → Tile from size sections → from ≤ size
Tile-size from size [] tile = omega (arith, tile)
Tile-size from size (section ∷ rest) tile = omega (arith, tile.0, tile.1, tile.2, Tile-size section.end size rest tile.3)

-- a raw line, and how many bytes stand before it
abbrev pub line_at : ℕ → List ℕ → Line
line_at at raw = record { at = at; raw = raw }

-- the headers among some lines
abbrev pub headers_in : List Line → List Header
headers_in lines = map header_of (filter (λ line. is_header line.raw) lines)

-- whether a line begins with an equals sign
abbrev begins : ℕ → Bool
begins c = starts_with nat_eq (c ∷ []) (equals_sign ∷ [])

-- what is left of a line begins as the line
chosen : (a b : Bool) (c m n : ℕ) (bytes : List ℕ)
    → starts_with nat_eq (if a then take (suc m) (c ∷ bytes) else (if b then take (suc n) (c ∷ bytes) else c ∷ bytes)) (equals_sign ∷ []) ≡ begins c
chosen a b c m n bytes = grind arith

-- what is left of a line of at most two bytes, which may be nothing, begins as the line
chosen_short : (a b : Bool) (c : ℕ) (bytes : List ℕ) → (a ≡ true → begins c ≡ false)
    → starts_with nat_eq (if a then take 0 (c ∷ bytes) else (if b then take 1 (c ∷ bytes) else c ∷ bytes)) (equals_sign ∷ []) ≡ begins c
chosen_short a b c bytes none = grind arith

chosen_alone : (a b : Bool) (c : ℕ) → (b ≡ true → begins c ≡ false)
    → starts_with nat_eq (if a && false then take 0 (c ∷ []) else (if b then take 0 (c ∷ []) else c ∷ [])) (equals_sign ∷ []) ≡ begins c
chosen_alone a b c none = grind arith

-- a byte other than an equals sign begins no header
other_byte : (c d : ℕ) → begins d ≡ false → nat_eq d c && true ≡ true → begins c ≡ false
other_byte c d unlike same = ap begins (sym (eqb-true d c (and_parts (nat_eq d c) true same).0)) ∙ unlike

-- a header is a line that begins with an equals sign
pub is_header-first : (c : ℕ) (line : List ℕ) → is_header (c ∷ line) ≡ begins c
is_header-first c line = grind (arith, chosen_alone, other_byte, chosen_short, eqb-true, and_parts, chosen)

-- headers from an offset on tile the bytes from the first of them
abbrev pub Behind : ℕ → ℕ → List Header → Type 0
Behind from size [] = from ≤ size
Behind from size (header ∷ rest) = (from ≤ header.at) × Tile header.at size (sections_of (header ∷ rest) size)

Tile-header : (header : Header) (rest : List Header) (size : ℕ) → header.at < header.body → Behind header.body size rest
    → Tile header.at size (sections_of (header ∷ rest) size)
Tile-header header [] size some behind = (refl, some, behind, refl)
Tile-header header (next ∷ rest) size some behind = (refl, some, behind.0, behind.1)

-- the headers of lines
lines_tile : (at size : ℕ) (raws : List (List ℕ)) → All (λ raw. 0 < length raw) raws → at + length (concat raws) ≡ size
    → Behind at size (headers_in (lines_from at raws))
lines_tile at size [] some all = omega arith
lines_tile at size (raw ∷ raws) some all = grind (arith, lines_tile (at + length raw) size raws (All-tail (λ r. 0 < length r) raw raws some) (omega (arith, length-append raw (concat raws))))

-- where the first line is a header they tile all the bytes
raws_tile : (raws : List (List ℕ)) (bytes : List ℕ) → concat raws ≡ bytes → All (λ raw. 0 < length raw) raws
    → starts_with nat_eq bytes (equals_sign ∷ []) ≡ true → Tile 0 (length bytes) (sections_of (headers_in (lines_from 0 raws)) (length bytes))
raws_tile [] bytes all some is = ap length all
raws_tile ([] ∷ raws) bytes all some is = absurd (omega (arith, All-head (λ r. 0 < length r) [] raws some))
raws_tile ((c ∷ line) ∷ raws) bytes all some is =
    let raw : List ℕ = c ∷ line in
    let header_is : is_header (c ∷ line) ≡ true = is_header-first c line ∙ ap (λ l. starts_with nat_eq l (equals_sign ∷ [])) all ∙ is in
    let more : List Line = lines_from (0 + length raw) raws in
    let behind : Behind (0 + length raw) (length bytes) (headers_in more) =
    lines_tile (0 + length raw) (length bytes) raws (All-tail (λ r. 0 < length r) raw raws some) (omega (arith, ap length all, length-append raw (concat raws))) in
    subst (λ b. Tile 0 (length bytes) (sections_of (map header_of (if b then line_at 0 raw ∷ filter (λ l. is_header l.raw) more else filter (λ l. is_header l.raw) more)) (length bytes)))
    (sym header_is) (Tile-header (header_of (line_at 0 raw)) (headers_in more) (length bytes) (omega arith) behind)

-- the sections of what begins as a dump tile it
pub sections_tile : (bytes : List ℕ) → starts_with nat_eq bytes signature ≡ true → Tile 0 (length bytes) (sections bytes)
sections_tile bytes is = grind (arith, AreLines-raw, raws_tile, and_parts)
