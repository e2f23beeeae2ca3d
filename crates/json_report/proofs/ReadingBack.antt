-- The text of a tree is read back as that tree.
use Rattle.json.specs.Json as json
use Rattle.std.proofs.Common.{◌≡◌, ℕ, suc, ◌+◌, ◌<◌, List, [], ◌∷◌, length, get_or, map, drop, drop-cons, refl, sym, ap, ◌∙◌, subst, arith, ◌≤◌, ◌^◌, false, ◌||◌, Some, codes, option_map, option_and_then, append-nil}
use Rattle.std.specs.Prelude.{All, unwrap_or}
use Rattle.std.proofs.lemmas.List.Elements.{All-head, All-tail}
use Rattle.serde.specs.Event.{Log}
use Rattle.serde_json.specs.Data.{Data, number, string, array, object, Members, no_members, put}
use Rattle.serde_json.specs.Events.{SendsItems, SendsValue, items_len, members_len}
use Rattle.serde_json.specs.View.{items_of}
use Rattle.json.specs.Tree.{json_tokens, HasNumbers, ItemsHaveNumbers, MembersHaveNumbers, depth, items_depth, members_depth}
use Rattle.json.proofs.Printed.Decimals.{IsNumber-decimal}
use Rattle.json.proofs.Printed.Tokens.{tokens-print}
use Rattle.json.proofs.Printed.Trees.{value-json_tokens, ArePrintable-json_tokens}
use Rattle.serde_json.specs.Read.{read, of_json, of_items, of_members, max_depth}
use Rattle.serde_json.specs.Written.{outline, items_outline, members_outline, compact_text, has_float, items_have_float}
use Rattle.serde_json.proofs.Numbers.{number_of-decimal}
use Rattle.serde_json.proofs.Texts.{print-outline}
use Rattle.dump_sections.specs.Index.{Contents, dump_state}
use Rattle.process_table.specs.Processes.{Process}
use Rattle.dump_audit.specs.declared.finding.Finding.{Finding}
use Rattle.dump_audit.specs.declared.finding.Finding.TheVariants.{LinkOneSided, MonitorTo, MonitorFrom, Mailbox, UnreadLinks, UnreadQueue, LinkGone, ToGone, FromGone, QueueCount}
use Rattle.dump_audit.specs.FindingViews.{Named, Nothing, Partner, Monitor, Count, Counts, View, view, view_of}
use Rattle.json_report.specs.Trees.{members, characters, num, text, finding_object, view_members, state_text, tree_object, finding_tree}
use Rattle.json_report.specs.Laws.{Has64Bits, IsReadBack}

pub members_len-members : (ms : List (List ℕ × Data)) → members_len (members ms) ≡ length ms
members_len-members [] = refl
members_len-members ((key, value) ∷ ms) = ap suc (members_len-members ms)

pub items_len-items_of : (ds : List Data) → items_len (items_of ds) ≡ length ds
items_len-items_of [] = refl
items_len-items_of (d ∷ ds) = ap suc (items_len-items_of ds)

-- an item, and then those behind it
pub SendsItems-more : {A : Type 0} (object : A → Data) (xs : List A) (i : ℕ) (d : A) (old mid end : Log) → i < length xs
    → SendsValue (object (get_or xs i d)) old mid → SendsItems (items_of (map object (drop (i + 1) xs))) mid end → SendsItems (items_of (map object (drop i xs))) old end
SendsItems-more show xs i d old mid end inside here later =
    let behind : suc i ≡ i + 1 = omega arith in
    subst (λ ys. SendsItems (items_of (map show ys)) old end) (sym (drop-cons xs i d inside ∙ ap (λ n. get_or xs i d ∷ drop n xs) behind)) (mid, here, later)

-- ---- the text of a tree is read back as that tree

-- a value of at most this depth whose parts are read back
pub record IsPlain (n : ℕ) (d : Data) : Type 0 where
  pub numbers : HasNumbers (outline d)
  pub reads : of_json (outline d) ≡ Some d
  pub shallow : depth (outline d) ≤ n

read-back : (d : Data) → IsPlain max_depth d → read (compact_text d) ≡ Some d
read-back d plain =
    let tokens = json_tokens (outline d) in
    ap read (sym (print-outline d))
    ∙ ap (λ found. option_and_then of_json (option_and_then (λ p. json.if_last p.0 p.1) found))
    (ap (json.value max_depth) (tokens-print tokens (ArePrintable-json_tokens (outline d) plain.numbers) ∙ sym (append-nil tokens))
    ∙ value-json_tokens (outline d) max_depth [] plain.shallow)
    ∙ plain.reads

-- ---- numbers and texts

plain-num : (n : ℕ) → n < 2 ^ 64 → IsPlain 0 (num n)
plain-num n fits = record { numbers = IsNumber-decimal n fits; reads = ap (option_map number) (number_of-decimal n fits); shallow = omega arith }

plain-string : (s : List ℕ) → IsPlain 0 (string s)
plain-string s = record { numbers = tt; reads = refl; shallow = omega arith }

-- ---- objects

abbrev ArePlain : ℕ → List (List ℕ × Data) → Type 0
ArePlain n [] = Unit {0}
ArePlain n (m ∷ ms) = IsPlain n m.1 × ArePlain n ms

-- members that go in one after another
abbrev put_all : List (List ℕ × Data) → Members → Members
put_all [] found = found
put_all (m ∷ ms) found = put_all ms (put m.0 m.1 found)

plain-members : (n : ℕ) (ms : List (List ℕ × Data)) → ArePlain n ms → MembersHaveNumbers (members_outline (members ms)) × (members_depth (members_outline (members ms)) ≤ n)
plain-members n [] p = (tt, omega arith)
plain-members n (m ∷ ms) p = let rest = plain-members n ms p.1 in ((p.0.numbers, rest.0), omega (arith, p.0.shallow, rest.1))

reads-members : (n : ℕ) (ms : List (List ℕ × Data)) (found : Members) → ArePlain n ms → of_members (members_outline (members ms)) found ≡ Some (put_all ms found)
reads-members n [] found p = refl
reads-members n (m ∷ ms) found p =
    ap (option_and_then (λ d. of_members (members_outline (members ms)) (put m.0 d found))) p.0.reads ∙ reads-members n ms (put m.0 m.1 found) p.1

-- an object whose keys stand in their order
plain-object : (n : ℕ) (ms : List (List ℕ × Data)) → ArePlain n ms → put_all ms no_members ≡ members ms → IsPlain (suc n) (object (members ms))
plain-object n ms p ordered = record {
  numbers = (plain-members n ms p).0;
  reads = ap (option_map object) (reads-members n ms no_members p ∙ ap Some ordered);
  shallow = omega (arith, (plain-members n ms p).1);
}

-- ---- arrays

abbrev AllPlain : ℕ → List Data → Type 0
AllPlain n [] = Unit {0}
AllPlain n (d ∷ ds) = IsPlain n d × AllPlain n ds

plain-items : (n : ℕ) (ds : List Data) → AllPlain n ds → ItemsHaveNumbers (items_outline (items_of ds)) × (items_depth (items_outline (items_of ds)) ≤ n)
plain-items n [] p = (tt, omega arith)
plain-items n (d ∷ ds) p = let rest = plain-items n ds p.1 in ((p.0.numbers, rest.0), omega (arith, p.0.shallow, rest.1))

reads-items : (n : ℕ) (ds : List Data) → AllPlain n ds → of_items (items_outline (items_of ds)) ≡ Some (items_of ds)
reads-items n [] p = refl
reads-items n (d ∷ ds) p = rw (p.0.reads, reads-items n ds p.1)

plain-array : (n : ℕ) (ds : List Data) → AllPlain n ds → IsPlain (suc n) (array (items_of ds))
plain-array n ds p = record {
  numbers = (plain-items n ds p).0;
  reads = ap (option_map array) (reads-items n ds p);
  shallow = omega (arith, (plain-items n ds p).1);
}

-- ---- findings

-- the numbers that a finding names have 64 bits
abbrev NamedBits : Named → Type 0
NamedBits (Count messages) = messages < 2 ^ 64
NamedBits (Counts stated found) = (stated < 2 ^ 64) × (found < 2 ^ 64)
NamedBits named = Unit {0}

plain-view : (word pid : List ℕ) (named : Named) (at other : ℕ) → at < 2 ^ 64 → other < 2 ^ 64 → NamedBits named → IsPlain 1 (object (members (view_members (view word pid named at other))))
plain-view word pid Nothing at other a o bits =
    plain-object 0 (view_members (view word pid Nothing at other))
    (plain-num at a, (plain-string word, (plain-num other o, (plain-string (characters pid), tt)))) refl
plain-view word pid (Partner q) at other a o bits =
    plain-object 0 (view_members (view word pid (Partner q) at other))
    (plain-num at a, (plain-string word, (plain-num other o, (plain-string (characters pid), (plain-string (characters q), tt))))) refl
plain-view word pid (Monitor q reference) at other a o bits =
    plain-object 0 (view_members (view word pid (Monitor q reference) at other))
    (plain-num at a, (plain-string word, (plain-num other o, (plain-string (characters pid), (plain-string (characters q), (plain-string (characters reference), tt)))))) refl
plain-view word pid (Count messages) at other a o bits =
    plain-object 0 (view_members (view word pid (Count messages) at other))
    (plain-num at a, (plain-num messages bits, (plain-string word, (plain-num other o, (plain-string (characters pid), tt))))) refl
plain-view word pid (Counts stated found) at other a o bits =
    plain-object 0 (view_members (view word pid (Counts stated found) at other))
    (plain-num at a, (plain-num found bits.1, (plain-string word, (plain-num other o, (plain-string (characters pid), (plain-num stated bits.0, tt)))))) refl

-- the numbers that are told of a finding have 64 bits
record ViewBits (v : View) : Type 0 where
  at : v.at < 2 ^ 64
  other : v.other < 2 ^ 64
  named : NamedBits v.named

view-bits : (ps : List Process) (f : Finding) → Has64Bits f → ViewBits (view_of ps f)
view-bits ps (LinkOneSided p q entry at other) b = record { at = b.0; other = b.1; named = tt }
view-bits ps (MonitorTo p q entry at other) b = record { at = b.0; other = b.1; named = tt }
view-bits ps (MonitorFrom p q entry at other) b = record { at = b.0; other = b.1; named = tt }
view-bits ps (Mailbox p count at other) b = record { at = b.0; other = b.1; named = b.2 }
view-bits ps (UnreadLinks p at other) b = record { at = b.0; other = b.1; named = tt }
view-bits ps (UnreadQueue p at other) b = record { at = b.0; other = b.1; named = tt }
view-bits ps (LinkGone p entry at other) b = record { at = b.0; other = b.1; named = tt }
view-bits ps (ToGone p entry at other) b = record { at = b.0; other = b.1; named = tt }
view-bits ps (FromGone p entry at other) b = record { at = b.0; other = b.1; named = tt }
view-bits ps (QueueCount p stated found at other) b = record { at = b.0; other = b.1; named = (b.2, b.3) }

plain-finding : (ps : List Process) (f : Finding) → Has64Bits f → IsPlain 1 (finding_object ps f)
plain-finding ps f b =
    let v = view_of ps f in
    let bits = view-bits ps f b in
    plain-view v.word v.pid v.named v.at v.other bits.at bits.other bits.named

plain-findings : (ps : List Process) (found : List Finding) → All Has64Bits found → AllPlain 1 (map (finding_object ps) found)
plain-findings ps [] b = tt
plain-findings ps (f ∷ found) b = (plain-finding ps f (All-head Has64Bits f found b), plain-findings ps found (All-tail Has64Bits f found b))

-- ---- the tree

-- the same with room for more depth
plain-deeper : (m n : ℕ) (d : Data) → m ≤ n → IsPlain m d → IsPlain n d
plain-deeper m n d le p = record { numbers = p.numbers; reads = p.reads; shallow = omega (arith, le, p.shallow) }

-- a tree of findings whose numbers have 64 bits, with any state
pub plain-tree : (ps : List Process) (found : List Finding) (state : List ℕ) → length found < 2 ^ 64 → All Has64Bits found
    → IsPlain 3 (tree_object (length found) (items_of (map (finding_object ps) found)) state)
plain-tree ps found state few bits =
    let objects = map (finding_object ps) found in
    plain-object 2 ((codes "count", num (length found)) ∷ (codes "findings", array (items_of objects)) ∷ (codes "state", string state) ∷ [])
    (plain-deeper 0 2 _ (omega arith) (plain-num (length found) few), (plain-array 1 objects (plain-findings ps found bits), (plain-deeper 0 2 _ (omega arith) (plain-string state), tt))) refl

pub reads-back : (index : Contents) (ps : List Process) (found : List Finding) → length found < 2 ^ 64 → All Has64Bits found → IsReadBack (finding_tree index ps found)
reads-back index ps found few bits =
    read-back (finding_tree index ps found) (plain-deeper 3 max_depth _ (omega arith) (plain-tree ps found (state_text index (dump_state index.headers)) few bits))

-- what the text of a tree is read as
pub read-as : (text : List ℕ) (tree d : Data) → text ≡ compact_text tree → IsReadBack tree → read text ≡ Some d → d ≡ tree
read-as text tree d same back is = ap (λ o. unwrap_or o tree) (sym is ∙ ap read same ∙ back)

-- ---- no float

whole-finding : (ps : List Process) (f : Finding) → has_float (finding_object ps f) ≡ false
whole-finding ps f = of (view_of ps f)
  where
    of : (v : View) → has_float (object (members (view_members v))) ≡ false
    of v = elim v.named as (λ named. has_float (object (members (view_members (view v.word v.pid named v.at v.other)))) ≡ false)
        [ Nothing ↦ refl | Partner pid ↦ refl | Monitor pid reference ↦ refl | Count messages ↦ refl | Counts stated found ↦ refl ]

whole-findings : (ps : List Process) (found : List Finding) → items_have_float (items_of (map (finding_object ps) found)) ≡ false
whole-findings ps [] = refl
whole-findings ps (f ∷ found) = ap (λ b. b || items_have_float (items_of (map (finding_object ps) found))) (whole-finding ps f) ∙ whole-findings ps found

-- a tree of findings has no float
pub whole-tree : (ps : List Process) (found : List Finding) (state : List ℕ) → has_float (tree_object (length found) (items_of (map (finding_object ps) found)) state) ≡ false
whole-tree ps found state = ap (λ b. b || false) (whole-findings ps found)
