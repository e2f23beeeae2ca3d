-- A text is of the kind that is read, and of no other.
use Rattle.std.proofs.Common.{arith, ◌≡◌, ℕ, Bool, true, false, ◌||◌, List, [], ◌∷◌, ◌++◌, Option, Some, None, refl, sym, ◌∙◌, ap, subst, if◌then◌else◌, append_assoc, inl, inr}
use Rattle.std.specs.Prelude.{◌⊎◌, ◌↔◌, codes}
use Rattle.std.specs.Option.{is_some, option_map_or}
use Rattle.std.specs.List.{list_all}
use Rattle.std.specs.Char.{is_ascii_digit}
use Rattle.std.proofs.lemmas.Bool.{false≢true, and_parts}
use Rattle.std.proofs.lemmas.Grind.{common_steps}
use Rattle.link_graph.specs.Texts.{behind, inside, is_dot, is_dotted, is_pid, is_port, is_reference, is_braced}
use Rattle.link_graph.specs.Kinds.{Kind, Link, LinkPort, To, ToPort, ToName, From, FromPort, Other, to_opening, from_opening, IsMonitor, Spells, IsKind}
use Rattle.link_graph.specs.Reading.{is_comma, at_last_comma, parties, to_kind, from_kind, monitor_kind, entry_kind}
use Rattle.link_graph.proofs.Fronts.{inside_around, inside_parts}
use Rattle.link_graph.proofs.Commas.{at_last_comma-more, at_last_comma-parts, at_last_comma-from}
use Rattle.link_graph.proofs.Opening.{kind_opened, monitor_in, brace_is_no_pid, brace_is_no_port}

-- ---- a reference has no comma
no_comma : (c : ℕ) → (is_ascii_digit c || is_dot c) ≡ true → is_comma c ≡ false
no_comma c h = grind arith

dotted_end : (inner : List ℕ) → list_all (λ c. is_ascii_digit c || is_dot c) inner ≡ true → at_last_comma (inner ++ codes ">") ≡ None
unfolding at_last_comma
dotted_end [] h = refl
dotted_end (c ∷ inner) h =
    let parts = and_parts (is_ascii_digit c || is_dot c) (list_all (λ c. is_ascii_digit c || is_dot c) inner) h in
    at_last_comma-more c (inner ++ codes ">") (no_comma c parts.0) (dotted_end inner parts.1)

-- a text that stands in brackets and passes a test
bracketed : (test : List ℕ → Bool) (front back text : List ℕ) → option_map_or test (inside front back text) false ≡ true → (inner : List ℕ) × (text ≡ front ++ (inner ++ back)) × (test inner ≡ true)
bracketed test front back text h = grind (arith, inside_parts)

reference_end : (reference : List ℕ) → is_reference reference ≡ true → at_last_comma reference ≡ None
unfolding is_reference
reference_end reference h = grind (arith, bracketed, dotted_end, at_last_comma-more)

-- ---- what a monitor says
parties_from : (partner reference : List ℕ) → is_reference reference ≡ true → parties (partner ++ 44 ∷ reference) ≡ Some (partner, reference)
unfolding parties
parties_from partner reference is = grind (arith, at_last_comma-from, reference_end)

pub record AreParties (text : List ℕ) (found : List ℕ × List ℕ) : Type 0 where
  pub spelled : text ≡ found.0 ++ 44 ∷ found.1
  pub reference_is : is_reference found.1 ≡ true

parties_are : (text : List ℕ) (found : List ℕ × List ℕ) → parties text ≡ Some found → AreParties text found
unfolding parties
parties_are text found h = grind (arith, at_last_comma-parts)

-- ---- what is spelled is read
-- how a port and a text in braces begin, they are no pid
port_not_pid : (text : List ℕ) → is_port text ≡ true → is_pid text ≡ false
unfolding is_port is_pid inside behind
port_not_pid text h = ap is_pid (bracketed is_dotted (codes "#Port<") (codes ">") text h).1

braced_parts : (text : List ℕ) → is_braced text ≡ true → (inner : List ℕ) × (text ≡ codes "{" ++ (inner ++ codes "}"))
unfolding is_braced
braced_parts text h = of (inside (codes "{") (codes "}") text) refl h
  where
    of : (o : Option (List ℕ)) → inside (codes "{") (codes "}") text ≡ o → is_some o ≡ true → (inner : List ℕ) × (text ≡ codes "{" ++ (inner ++ codes "}"))
    of None e h = absurd (false≢true h)
    of (Some inner) e h = (inner, inside_parts (codes "{") (codes "}") text inner e)

from_not_to : (rest : List ℕ) → inside to_opening (codes "}") (from_opening ++ rest) ≡ None
unfolding inside behind
from_not_to rest = refl

-- the kind of a text that begins with a brace
opened : (text : List ℕ) → entry_kind (123 ∷ text) ≡ monitor_in (123 ∷ text)
opened text = kind_opened (123 ∷ text) refl

-- a monitor by what stands between its opening and its `}`
regrouped : (opening partner reference : List ℕ) → opening ++ (partner ++ (codes "," ++ (reference ++ codes "}"))) ≡ opening ++ ((partner ++ 44 ∷ reference) ++ codes "}")
regrouped opening partner reference = ap (λ t. opening ++ t) (sym (append_assoc partner (44 ∷ reference) (codes "}")))

to_read : (is_partner : List ℕ → Bool) (text partner reference : List ℕ) → IsMonitor to_opening is_partner text partner reference → entry_kind text ≡ to_kind (partner, reference)
unfolding monitor_kind
to_read is_partner text partner reference is =
    let inner = partner ++ 44 ∷ reference in
    let spelled : text ≡ to_opening ++ (inner ++ codes "}") = is.spelled ∙ regrouped to_opening partner reference in
    ap entry_kind spelled ∙ opened (codes "to," ++ (inner ++ codes "}"))
    ∙ ap (λ o. monitor_kind o (inside from_opening (codes "}") (to_opening ++ (inner ++ codes "}")))) (inside_around to_opening (codes "}") inner)
    ∙ ap (λ (o : Option (List ℕ × List ℕ)). option_map_or to_kind o Other) (parties_from partner reference is.reference_is)

from_read : (is_partner : List ℕ → Bool) (text partner reference : List ℕ) → IsMonitor from_opening is_partner text partner reference → entry_kind text ≡ from_kind (partner, reference)
unfolding monitor_kind
from_read is_partner text partner reference is =
    let inner = partner ++ 44 ∷ reference in
    let spelled : text ≡ from_opening ++ (inner ++ codes "}") = is.spelled ∙ regrouped from_opening partner reference in
    ap entry_kind spelled ∙ opened (codes "from," ++ (inner ++ codes "}"))
    ∙ ap (λ o. monitor_kind o (inside from_opening (codes "}") (from_opening ++ (inner ++ codes "}")))) (from_not_to (inner ++ codes "}"))
    ∙ ap (monitor_kind None) (inside_around from_opening (codes "}") inner)
    ∙ ap (λ (o : Option (List ℕ × List ℕ)). option_map_or from_kind o Other) (parties_from partner reference is.reference_is)

pub kind_full : (text : List ℕ) (kind : Kind) → Spells text kind → entry_kind text ≡ kind
unfolding entry_kind to_kind from_kind
kind_full text (Link pid) h = ap (λ b. if b then Link text else (if is_port text then LinkPort else monitor_kind (inside to_opening (codes "}") text) (inside from_opening (codes "}") text))) (ap is_pid h.0 ∙ h.1) ∙ ap Link h.0
kind_full text LinkPort h = grind (arith, port_not_pid)
kind_full text (To pid reference) h =
    to_read is_pid text pid reference h
    ∙ ap (λ b. if b then To pid reference else (if is_port pid then ToPort else (if is_braced pid then ToName reference else Other))) h.partner_is
kind_full text ToPort (port, reference, h) =
    to_read is_port text port reference h
    ∙ ap (λ b. if b then To port reference else (if is_port port then ToPort else (if is_braced port then ToName reference else Other))) (port_not_pid port h.partner_is)
    ∙ ap (λ b. if b then ToPort else (if is_braced port then ToName reference else Other)) h.partner_is
kind_full text (ToName reference) (name, h) =
    let is = braced_parts name h.partner_is in
    let no_pid : is_pid name ≡ false = ap is_pid is.1 ∙ brace_is_no_pid (is.0 ++ codes "}") in
    let no_port : is_port name ≡ false = ap is_port is.1 ∙ brace_is_no_port (is.0 ++ codes "}") in
    to_read is_braced text name reference h
    ∙ ap (λ b. if b then To name reference else (if is_port name then ToPort else (if is_braced name then ToName reference else Other))) no_pid
    ∙ ap (λ b. if b then ToPort else (if is_braced name then ToName reference else Other)) no_port
    ∙ ap (λ b. if b then ToName reference else Other) h.partner_is
kind_full text (From pid reference) h =
    from_read is_pid text pid reference h
    ∙ ap (λ b. if b then From pid reference else (if is_port pid then FromPort else Other)) h.partner_is
kind_full text FromPort (port, reference, h) =
    from_read is_port text port reference h
    ∙ ap (λ b. if b then From port reference else (if is_port port then FromPort else Other)) (port_not_pid port h.partner_is)
    ∙ ap (λ b. if b then FromPort else Other) h.partner_is
kind_full text Other h = absurd h

-- ---- what is read is spelled
abbrev IsSound : List ℕ → Kind → Type 0
IsSound text kind = (kind ≡ Other) ⊎ Spells text kind

to_sound : (text inner : List ℕ) (found : List ℕ × List ℕ) → text ≡ to_opening ++ (inner ++ codes "}") → AreParties inner found → IsSound text (to_kind found)
unfolding to_kind
to_sound text inner found e parties = grind (arith, common_steps)

from_sound : (text inner : List ℕ) (found : List ℕ × List ℕ) → text ≡ from_opening ++ (inner ++ codes "}") → AreParties inner found → IsSound text (from_kind found)
unfolding from_kind
from_sound text inner found e parties = grind (arith, common_steps)

monitor_sound : (text : List ℕ) (to from : Option (List ℕ)) → inside to_opening (codes "}") text ≡ to → inside from_opening (codes "}") text ≡ from → IsSound text (monitor_kind to from)
unfolding monitor_kind
monitor_sound text (Some to) from e d = of (parties to) refl
  where
    of : (o : Option (List ℕ × List ℕ)) → parties to ≡ o → IsSound text (option_map_or to_kind o Other)
    of None p = inl refl
    of (Some found) p = to_sound text to found (inside_parts to_opening (codes "}") text to e) (parties_are to found p)
monitor_sound text None (Some from) e d = of (parties from) refl
  where
    of : (o : Option (List ℕ × List ℕ)) → parties from ≡ o → IsSound text (option_map_or from_kind o Other)
    of None p = inl refl
    of (Some found) p = from_sound text from found (inside_parts from_opening (codes "}") text from d) (parties_are from found p)
monitor_sound text None None e d = inl refl

pub kind_sound : (text : List ℕ) → IsSound text (entry_kind text)
unfolding entry_kind
kind_sound text = grind (arith, monitor_sound)

spelled_other : (text : List ℕ) (kind : Kind) → entry_kind text ≡ Other → Spells text kind → ⊥
spelled_other text kind h spells = let same : kind ≡ Other = sym (kind_full text kind spells) ∙ h in subst (Spells text) same spells

spells_read : (text : List ℕ) (kind : Kind) → entry_kind text ≡ kind → (kind ≡ Other → ⊥) → Spells text kind
spells_read text kind h other = elim (subst (IsSound text) h (kind_sound text)) [ inl e ↦ absurd (other e) | inr spells ↦ spells ]

pub is_kind : (text : List ℕ) (kind : Kind) → (entry_kind text ≡ kind) ↔ IsKind text kind
is_kind text Other = (λ h kind spells. spelled_other text kind h spells, λ none. elim (kind_sound text) [ inl e ↦ e | inr spells ↦ absurd (none (entry_kind text) spells) ])
is_kind text (Link pid) = (λ h. spells_read text (Link pid) h (λ e. cc), kind_full text (Link pid))
is_kind text LinkPort = (λ h. spells_read text LinkPort h (λ e. cc), kind_full text LinkPort)
is_kind text (To pid reference) = (λ h. spells_read text (To pid reference) h (λ e. cc), kind_full text (To pid reference))
is_kind text ToPort = (λ h. spells_read text ToPort h (λ e. cc), kind_full text ToPort)
is_kind text (ToName reference) = (λ h. spells_read text (ToName reference) h (λ e. cc), kind_full text (ToName reference))
is_kind text (From pid reference) = (λ h. spells_read text (From pid reference) h (λ e. cc), kind_full text (From pid reference))
is_kind text FromPort = (λ h. spells_read text FromPort h (λ e. cc), kind_full text FromPort)
