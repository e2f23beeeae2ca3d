-- The entries of a link list: which text is of which kind.
use Rattle.std.specs.Str.{bytes_eq}
use Rattle.std.specs.Prelude.{◌≡◌, ℕ, true, false, ◌&&◌, Bool, List, ◌++◌, codes}
use Rattle.link_graph.specs.Texts.{is_pid, is_port, is_reference, is_braced}

-- the kind of an entry, regardless of where its texts lie in memory
pub data Kind : Type 0 where
  Link : List ℕ → Kind
  LinkPort : Kind
  To : List ℕ → List ℕ → Kind
  ToPort : Kind
  ToName : List ℕ → Kind
  From : List ℕ → List ℕ → Kind
  FromPort : Kind
  Other : Kind

-- how a monitor by the process begins
abbrev pub to_opening : List ℕ
to_opening = codes "{to,"

-- how a monitor of the process begins
abbrev pub from_opening : List ℕ
from_opening = codes "{from,"

-- the text is an opening, a partner that passes the test, a comma, a reference and `}`
pub record IsMonitor (opening : List ℕ) (is_partner : List ℕ → Bool) (text partner reference : List ℕ) : Type 0 where
  pub spelled : text ≡ opening ++ (partner ++ (codes "," ++ (reference ++ codes "}")))
  pub partner_is : is_partner partner ≡ true
  pub reference_is : is_reference reference ≡ true

-- the texts of each kind but the last
abbrev pub Spells : List ℕ → Kind → Type 0
-- a pid
Spells text (Link pid) = (text ≡ pid) × (is_pid pid ≡ true)
-- a port
Spells text LinkPort = is_port text ≡ true
-- `{to,`, a pid, `,`, a reference, `}`
Spells text (To pid reference) = IsMonitor to_opening is_pid text pid reference
-- `{to,`, a port, `,`, a reference, `}`
Spells text ToPort = (port : List ℕ) × (reference : List ℕ) × IsMonitor to_opening is_port text port reference
-- `{to,`, any bytes in braces, which are a name and its node, `,`, a reference, `}`
Spells text (ToName reference) = (name : List ℕ) × IsMonitor to_opening is_braced text name reference
-- `{from,`, a pid, `,`, a reference, `}`
Spells text (From pid reference) = IsMonitor from_opening is_pid text pid reference
-- `{from,`, a port, `,`, a reference, `}`
Spells text FromPort = (port : List ℕ) × (reference : List ℕ) × IsMonitor from_opening is_port text port reference
Spells text Other = ⊥

-- which kind a text is of: a text that spells no other kind is `Other`
abbrev pub IsKind : List ℕ → Kind → Type 0
IsKind text Other = (kind : Kind) → ¬ Spells text kind
IsKind text kind = Spells text kind

-- whether two kinds are one, with the same texts
abbrev pub is_same_kind : Kind → Kind → Bool
is_same_kind (Link pid) (Link pid') = bytes_eq pid pid'
is_same_kind LinkPort LinkPort = true
is_same_kind (To pid reference) (To pid' reference') = bytes_eq pid pid' && bytes_eq reference reference'
is_same_kind ToPort ToPort = true
is_same_kind (ToName reference) (ToName reference') = bytes_eq reference reference'
is_same_kind (From pid reference) (From pid' reference') = bytes_eq pid pid' && bytes_eq reference reference'
is_same_kind FromPort FromPort = true
is_same_kind Other Other = true
is_same_kind _ _ = false
