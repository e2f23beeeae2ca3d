-- A reference is what is read as one.
use Rattle.std.proofs.Common.{◌≡◌, ◌↔◌, ℕ, ◌==◌, Bool, true, false, cond, List, [], ◌∷◌, ◌++◌, Option, None, Some, Result, Ok, Err, refl, sym, ap, ◌∙◌, append-nil, subst}
use Rattle.std.specs.Prelude.{if◌then◌else◌, option_and_then}
use Rattle.std.proofs.lemmas.Bool.{cases_Bool, cond-true, eq-eqb, eqb-true, false≢true}
use Rattle.etf_terms.specs.Heads.{Head, Float, Bits, Pid, Port, Ref, Small, Int, Atom, Tuple, Nil, Chars, Linked, Bin, Big, Fun, Export, Pairs}
use Rattle.etf_terms.specs.Layouts.{Layout, end, byte, IsLaid}
use Rattle.etf_terms.specs.References.{IsReference, ReadsReferences, head_in, reference_in, words_in}
use Rattle.etf_terms.specs.Table.{head_layout}
use Rattle.etf_terms.specs.Terms.{IsExternal, IsTerm, node, none}
use Rattle.etf_terms.specs.Inner.Parts.{head_of, only_head, parsed}
use Rattle.etf_terms.specs.Inner.Walks.{Reading, Got, Off, reading}
use Rattle.etf_terms.proofs.Joins.{head-is}

-- ---- what is laid out

pub laid-in : (l : Layout) (bytes : List ℕ) (h : Head) → IsLaid l bytes h → head_in l bytes ≡ Some h
laid-in (end g) [] h laid = ap Some laid
laid-in (end g) (b ∷ bytes) h laid = absurd laid
laid-in (byte test next) [] h laid = absurd laid
laid-in (byte test next) (b ∷ bytes) h laid = cond-true (test b) (head_in (next b) bytes) None laid.0 ∙ laid-in (next b) bytes h laid.1

no-head : (h : Head) → None ≡ Some h → ⊥
no-head h is = cc

in-cond : (t : Bool) (o : Option Head) (h : Head) → cond t o None ≡ Some h → (t ≡ true) × (o ≡ Some h)
in-cond true o h is = (refl, is)
in-cond false o h is = absurd (no-head h is)

pub in-laid : (l : Layout) (bytes : List ℕ) (h : Head) → head_in l bytes ≡ Some h → IsLaid l bytes h
in-laid (end g) [] h is = cc (is)
in-laid (end g) (b ∷ bytes) h is = absurd (no-head h is)
in-laid (byte test next) [] h is = absurd (no-head h is)
in-laid (byte test next) (b ∷ bytes) h is = let parts = in-cond (test b) (head_in (next b) bytes) h is in (parts.0, in-laid (next b) bytes h parts.1)

-- ---- what is read

-- the head of a reading behind which nothing is left
abbrev whole : Reading → Option Head
whole (Got h []) = Some h
whole (Got h (b ∷ rest)) = None
whole (Off rest) = None

whole-cond : (t : Bool) (r : Reading) (rest : List ℕ) → cond t (whole r) None ≡ whole (cond t r (Off rest))
whole-cond true r rest = refl
whole-cond false r rest = refl

pub in-reading : (l : Layout) (bytes : List ℕ) → head_in l bytes ≡ whole (reading l bytes)
in-reading (end g) [] = refl
in-reading (end g) (b ∷ bytes) = refl
in-reading (byte test next) [] = refl
in-reading (byte test next) (b ∷ bytes) = ap (λ o. cond (test b) o None) (in-reading (next b) bytes) ∙ whole-cond (test b) (reading (next b) bytes) (b ∷ bytes)

-- the head that was read, if nothing is left
abbrev pub read_whole : Result (Head × List ℕ) ℕ → Option Head
read_whole (Ok found) = only_head found.0 found.1
read_whole (Err left) = None

whole-parsed : (r : Reading) → whole r ≡ read_whole (parsed r)
whole-parsed (Got h []) = refl
whole-parsed (Got h (b ∷ rest)) = refl
whole-parsed (Off rest) = refl

head-in : (bytes : List ℕ) → head_in head_layout bytes ≡ read_whole (head_of bytes)
head-in bytes = in-reading head_layout bytes ∙ whole-parsed (reading head_layout bytes) ∙ ap read_whole (head-is bytes)

pub head-read : (bytes : List ℕ) (h : Head) (rest : List ℕ) → head_of bytes ≡ Ok (h, rest) → only_head h rest ≡ head_in head_layout bytes
head-read bytes h rest is = sym (head-in bytes ∙ ap read_whole is)

pub head-off : (bytes : List ℕ) (left : ℕ) → head_of bytes ≡ Err left → None ≡ head_in head_layout bytes
head-off bytes left is = sym (head-in bytes ∙ ap read_whole is)

-- ---- references

words-ref : (h : Head) (words : List ℕ) → words_in h ≡ Some words → (name : List ℕ) × (creation : ℕ) × (h ≡ Ref name creation words)
words-ref (Ref name creation found) words is = (name, creation, (let same : found ≡ words = cc (is) in ap (Ref name creation) same))
words-ref h words is = let never : None ≡ Some words = is in cc

external-ref : (b : ℕ) (bytes words : List ℕ) (h : Head) → b ≡ 131 → head_in head_layout bytes ≡ Some h → words_in h ≡ Some words → IsReference (b ∷ bytes) words
external-ref b bytes words h first is words_are =
    let ref = words-ref h words words_are in
    record {
      name = ref.0;
      creation = ref.1;
      spelled = (bytes, ap (λ x. x ∷ bytes) first, (bytes, [], sym (append-nil bytes), in-laid head_layout bytes (Ref ref.0 ref.1 words) (is ∙ ap Some ref.2), refl, refl));
    }

reference-there : (b : ℕ) (bytes words : List ℕ) (o : Option Head) → head_in head_layout bytes ≡ o → b ≡ 131 → option_and_then words_in o ≡ Some words → IsReference (b ∷ bytes) words
reference-there b bytes words None is first found = let never : None ≡ Some words = found in cc
reference-there b bytes words (Some h) is first found = external-ref b bytes words h first is found

-- what is read as a reference is one
pub read-reference : (bytes words : List ℕ) → reference_in bytes ≡ Some words → IsReference bytes words
read-reference [] words is = let never : None ≡ Some words = is in cc
read-reference (b ∷ bytes) words is = by (b == 131) refl is
  where
    by : (t : Bool) → (b == 131) ≡ t → (if t then option_and_then words_in (head_in head_layout bytes) else None) ≡ Some words → IsReference (b ∷ bytes) words
    by true first found = reference-there b bytes words (head_in head_layout bytes) refl (eqb-true b 131 first) found
    by false first found = let never : None ≡ Some words = found in cc

-- a reference is read as one
pub reference-read : (bytes words : List ℕ) → IsReference bytes words → reference_in bytes ≡ Some words
reference-read bytes words is =
    let rest = is.spelled.0 in
    let term = is.spelled.2 in
    let nothing : term.1 ≡ [] = term.5 in
    let front : rest ≡ term.0 = term.2 ∙ ap (λ l. term.0 ++ l) nothing ∙ append-nil term.0 in
    ap reference_in is.spelled.1
    ∙ ap (option_and_then words_in) (ap (head_in head_layout) front ∙ laid-in head_layout term.0 (Ref is.name is.creation words) term.3)

pub reads-references : ReadsReferences
reads-references bytes words = (read-reference bytes words, reference-read bytes words)
