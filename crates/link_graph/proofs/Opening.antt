-- The first byte tells a monitor from a pid and a port.
use Rattle.std.proofs.Common.{arith, ◌≡◌, ℕ, Bool, true, false, List, [], ◌∷◌, refl, ◌∙◌, ap, if◌then◌else◌}
use Rattle.std.specs.Prelude.{codes}
use Rattle.std.proofs.lemmas.Bool.{eqb-true}
use Rattle.link_graph.specs.Texts.{behind, inside, is_pid, is_port}
use Rattle.link_graph.specs.Kinds.{Kind, Link, LinkPort, Other, to_opening, from_opening}
use Rattle.link_graph.specs.Reading.{monitor_kind, entry_kind}
use Rattle.link_graph.specs.Inner.Opening.{is_opened}

pub brace_is_no_pid : (text : List ℕ) → is_pid (123 ∷ text) ≡ false
unfolding is_pid inside behind
brace_is_no_pid text = refl

pub brace_is_no_port : (text : List ℕ) → is_port (123 ∷ text) ≡ false
unfolding is_port inside behind
brace_is_no_port text = refl

-- the kind of a monitor, whatever else the text might be
abbrev pub monitor_in : List ℕ → Kind
monitor_in text = monitor_kind (inside to_opening (codes "}") text) (inside from_opening (codes "}") text)

by_tests : (text : List ℕ) (pid port : Bool) → is_pid text ≡ pid → is_port text ≡ port → entry_kind text ≡ (if pid then Link text else (if port then LinkPort else monitor_in text))
unfolding entry_kind
by_tests text pid port is_the_pid is_the_port = grind arith

-- a text that begins with a brace
pub kind_opened : (text : List ℕ) → is_opened text ≡ true → entry_kind text ≡ monitor_in text
kind_opened [] is = cc
kind_opened (c ∷ text) is =
    let brace : c ≡ 123 = eqb-true c 123 is in
    by_tests (c ∷ text) false false (ap (λ c. is_pid (c ∷ text)) brace ∙ brace_is_no_pid text) (ap (λ c. is_port (c ∷ text)) brace ∙ brace_is_no_port text)

-- and one that doesn't
monitor_none : (text : List ℕ) → is_opened text ≡ false → monitor_in text ≡ Other
unfolding inside behind monitor_kind
monitor_none text other = grind arith

pub kind_pid : (text : List ℕ) → is_pid text ≡ true → entry_kind text ≡ Link text
kind_pid text is = by_tests text true (is_port text) is refl

pub kind_port : (text : List ℕ) → is_pid text ≡ false → is_port text ≡ true → entry_kind text ≡ LinkPort
kind_port text none is = by_tests text false true none is

pub kind_other : (text : List ℕ) → is_opened text ≡ false → is_pid text ≡ false → is_port text ≡ false → entry_kind text ≡ Other
kind_other text other pid port = by_tests text false false pid port ∙ monitor_none text other
