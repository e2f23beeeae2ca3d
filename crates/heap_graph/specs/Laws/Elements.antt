-- What is kept of elements that are appended, and of the elements of lines.
use Rattle.std.proofs.Common.{◌≡◌, ℕ, zero, suc, ◌+◌, ◌-◌, ◌<◌, ◌==◌, not, List, [], ◌∷◌, ◌++◌, length, take, drop, map, filter, Option, Some, refl, sym, ◌∙◌, ap, ap₂, subst, arith, length-append, append_assoc}
use Rattle.std.specs.Global.{Vec}
use Rattle.std.specs.Prelude.{slice_range}
use Rattle.std.specs.List.{flat_map}
use Rattle.std.proofs.Math.Seq.{take-append_seam, drop-append-add}
use Rattle.std.proofs.lemmas.List.{append-nil, drop-map, length-map, map-append, take-map}
use Rattle.std.proofs.lemmas.List.Concat.{flat_map-append}
use Rattle.heap_graph.specs.declared.elements.Elements.{Elements}
use Rattle.heap_graph.specs.declared.elements.Elements.TheVariants as kept
use Rattle.cell_records.specs.declared.cells.Slot.{Slot}
use Rattle.heap_graph.specs.Cells.{elements_in}
use Rattle.term_forms.specs.Forms.{HeapForm, SubBin}
use Rattle.term_forms.specs.Places.{Placed}
use Rattle.heap_graph.specs.declared.leads.Lead.{Lead}
use Rattle.heap_graph.specs.declared.leads.Lead.TheVariants as lead
use Rattle.heap_graph.specs.declared.leads.Leads.{Leads}
use Rattle.heap_graph.specs.Elements.{Found, address_count, count, elements_at, found_at, found_in, leads_of, references_for, slots_of, slot_for, Appends, AppendsThem, AreIn, IsAlike, IsOfLeads, IsOfSlots, Keeps, KeepsThem}
use Rattle.heap_graph.specs.Held.{HeapLine, kept_references, line_at, line_leads, parts_of, AllInLines, AreInLines, GainsElements, HoldsElements}
use Rattle.heap_graph.specs.Words.{words_in}
use Rattle.heap_graph.specs.Leads.{lead_of, leads_in, mark, marks, nowhere, reference, references, Pushes}

-- ---- elements that are appended

leads-append : (xs ys : List Found) → leads_of (xs ++ ys) ≡ leads_of xs ++ leads_of ys
leads-append xs ys = map-append (λ (f : Found). f.lead) xs ys

slots-append : (xs ys : List Found) → slots_of (xs ++ ys) ≡ slots_of xs ++ slots_of ys
slots-append xs ys = map-append (λ (f : Found). slot_for f.lead f.at f.len) xs ys

marks-append : (xs ys : List Found) → marks (leads_of (xs ++ ys)) ≡ marks (leads_of xs) ++ marks (leads_of ys)
marks-append xs ys = ap marks (leads-append xs ys) ∙ map-append mark (leads_of xs) (leads_of ys)

references-append : (xs ys : List Found) → references (leads_of (xs ++ ys)) ≡ references (leads_of xs) ++ references (leads_of ys)
references-append xs ys = ap references (leads-append xs ys) ∙ flat_map-append reference (leads_of xs) (leads_of ys)

none-them : (a : Elements) → AppendsThem a a []
none-them (kept.Leads leads) = record { marks = sym (append-nil leads.marks.items); references = sym (append-nil leads.references.items) }
none-them (kept.Slots slots) = sym (append-nil slots.items)

then-them : (a b c : Elements) (xs ys : List Found) → AppendsThem a b xs → AppendsThem b c ys → AppendsThem a c (xs ++ ys)
then-them (kept.Leads a) (kept.Leads b) (kept.Leads c) xs ys one other = record {
  marks =
      other.marks ∙ ap (λ l. l ++ marks (leads_of ys)) one.marks ∙ append_assoc a.marks.items (marks (leads_of xs)) (marks (leads_of ys))
      ∙ ap (λ l. a.marks.items ++ l) (sym (marks-append xs ys));
  references =
      other.references ∙ ap (λ l. l ++ references (leads_of ys)) one.references ∙ append_assoc a.references.items (references (leads_of xs)) (references (leads_of ys))
      ∙ ap (λ l. a.references.items ++ l) (sym (references-append xs ys));
}
then-them (kept.Slots a) (kept.Slots b) (kept.Slots c) xs ys one other =
    other ∙ ap (λ l. l ++ slots_of ys) one ∙ append_assoc a.items (slots_of xs) (slots_of ys) ∙ ap (λ l. a.items ++ l) (sym (slots-append xs ys))
then-them (kept.Leads a) (kept.Slots b) c xs ys one other = absurd one
then-them (kept.Slots a) (kept.Leads b) c xs ys one other = absurd one
then-them (kept.Leads a) (kept.Leads b) (kept.Slots c) xs ys one other = absurd other
then-them (kept.Slots a) (kept.Slots b) (kept.Leads c) xs ys one other = absurd other

pub Appends-none : (a : Elements) → Appends a a []
Appends-none a = record { them = none-them a }

pub Appends-then : (a b c : Elements) (xs ys : List Found) → Appends a b xs → Appends b c ys → Appends a c (xs ++ ys)
Appends-then a b c xs ys one other = record { them = then-them a b c xs ys one.them other.them }

count-them : (a b : Elements) (fs : List Found) → AppendsThem a b fs → count b ≡ count a + length fs
count-them (kept.Leads a) (kept.Leads b) fs them =
    ap length them.marks ∙ length-append a.marks.items (marks (leads_of fs))
    ∙ ap (λ n. length a.marks.items + n) (length-map (leads_of fs) mark ∙ length-map fs (λ (f : Found). f.lead))
count-them (kept.Slots a) (kept.Slots b) fs them =
    ap length them ∙ length-append a.items (slots_of fs) ∙ ap (λ n. length a.items + n) (length-map fs (λ (f : Found). slot_for f.lead f.at f.len))
count-them (kept.Leads a) (kept.Slots b) fs them = absurd them
count-them (kept.Slots a) (kept.Leads b) fs them = absurd them

pub appended-count : (a b : Elements) (fs : List Found) → Appends a b fs → count b ≡ count a + length fs
appended-count a b fs appended = count-them a b fs appended.them

keeps-them : (a b : Elements) (gs fs : List Found) → KeepsThem a gs → AppendsThem a b fs → KeepsThem b (gs ++ fs)
keeps-them (kept.Leads a) (kept.Leads b) gs fs had them = (
  them.marks ∙ ap (λ l. l ++ marks (leads_of fs)) had.0 ∙ sym (marks-append gs fs),
  them.references ∙ ap (λ l. l ++ references (leads_of fs)) had.1 ∙ sym (references-append gs fs),
)
keeps-them (kept.Slots a) (kept.Slots b) gs fs had them = them ∙ ap (λ l. l ++ slots_of fs) had ∙ sym (slots-append gs fs)
keeps-them (kept.Leads a) (kept.Slots b) gs fs had them = absurd them
keeps-them (kept.Slots a) (kept.Leads b) gs fs had them = absurd them

pub Keeps-then : (a b : Elements) (gs fs : List Found) → Keeps a gs → Appends a b fs → Keeps b (gs ++ fs)
Keeps-then a b gs fs had appended = record { are = keeps-them a b gs fs had.are appended.them }

kept-them : (a : Elements) (fs : List Found) → KeepsThem a fs → count a ≡ length fs
kept-them (kept.Leads a) fs had = ap length had.0 ∙ length-map (leads_of fs) mark ∙ length-map fs (λ (f : Found). f.lead)
kept-them (kept.Slots a) fs had = ap length had ∙ length-map fs (λ (f : Found). slot_for f.lead f.at f.len)

pub kept-count : (a : Elements) (fs : List Found) → Keeps a fs → count a ≡ length fs
kept-count a fs had = kept-them a fs had.are

-- ---- what is kept stays the same

pub alike-same : (a : Elements) → IsAlike a a
alike-same (kept.Leads a) = tt
alike-same (kept.Slots a) = tt

alike-appended : (a b c : Elements) (fs : List Found) → IsAlike a b → AppendsThem b c fs → IsAlike a c
alike-appended (kept.Leads a) (kept.Leads b) (kept.Leads c) fs alike them = tt
alike-appended (kept.Slots a) (kept.Slots b) (kept.Slots c) fs alike them = tt
alike-appended (kept.Leads a) (kept.Slots b) c fs alike them = absurd alike
alike-appended (kept.Slots a) (kept.Leads b) c fs alike them = absurd alike
alike-appended (kept.Leads a) (kept.Leads b) (kept.Slots c) fs alike them = absurd them
alike-appended (kept.Slots a) (kept.Slots b) (kept.Leads c) fs alike them = absurd them

pub appended-alike : (a b : Elements) (fs : List Found) → Appends a b fs → IsAlike a b
appended-alike a b fs appended = alike-appended a a b fs (alike-same a) appended.them

pub alike-leads : (a b : Elements) → IsAlike a b → IsOfLeads a → IsOfLeads b
alike-leads (kept.Leads a) (kept.Leads b) alike leads = tt
alike-leads (kept.Leads a) (kept.Slots b) alike leads = absurd alike
alike-leads (kept.Slots a) b alike leads = absurd leads

pub appended-leads : (a b : Elements) (fs : List Found) → Appends a b fs → IsOfLeads a → IsOfLeads b
appended-leads a b fs appended leads = alike-leads a b (appended-alike a b fs appended) leads

pub alike-slots : (a b : Elements) → IsAlike a b → IsOfSlots a → IsOfSlots b
alike-slots (kept.Slots a) (kept.Slots b) alike slots = tt
alike-slots (kept.Slots a) (kept.Leads b) alike slots = absurd alike
alike-slots (kept.Leads a) b alike slots = absurd slots

-- so is what is held beside it
pub alike-parts : (a b : Elements) (first : ℕ) (lines : List HeapLine) → IsAlike a b → parts_of a first lines ≡ parts_of b first lines
alike-parts (kept.Leads a) (kept.Leads b) first lines alike = of first lines
  where
    of : (n : ℕ) (ls : List HeapLine) → parts_of (kept.Leads a) n ls ≡ parts_of (kept.Leads b) n ls
    of n [] = refl
    of n (l ∷ ls) = ap (λ ps. record { address = l.cell.address; at = l.at; first = n; size = words_in l.cell.form } ∷ ps) (of (n + length (line_leads l)) ls)
alike-parts (kept.Slots a) (kept.Slots b) first lines alike = of first lines
  where
    of : (n : ℕ) (ls : List HeapLine) → parts_of (kept.Slots a) n ls ≡ parts_of (kept.Slots b) n ls
    of n [] = refl
    of n (l ∷ ls) = ap (λ ps. record { address = l.cell.address; at = l.from; first = n; size = length l.text } ∷ ps) (of (n + length (line_leads l)) ls)
alike-parts (kept.Leads a) (kept.Slots b) first lines alike = absurd alike
alike-parts (kept.Slots a) (kept.Leads b) first lines alike = absurd alike

-- ---- elements that are taken back

pub back-leads : (old : Elements) (before after : Leads) (fs : List Found) (len addresses : ℕ) → Appends old (kept.Leads before) fs → len ≡ count old → addresses ≡ address_count old
    → after.marks.items ≡ take len before.marks.items → after.references.items ≡ take addresses before.references.items → Appends old (kept.Leads after) []
back-leads (kept.Leads old) before after fs len addresses appended len_is addresses_is marks_are references_are = record {
  them = record {
    marks =
        marks_are ∙ ap₂ take len_is appended.them.marks ∙ take-append_seam old.marks.items (marks (leads_of fs)) ∙ sym (append-nil old.marks.items);
    references =
        references_are ∙ ap₂ take addresses_is appended.them.references ∙ take-append_seam old.references.items (references (leads_of fs)) ∙ sym (append-nil old.references.items);
  };
}
back-leads (kept.Slots old) before after fs len addresses appended len_is addresses_is marks_are references_are = absurd appended.them

pub back-slots : (old : Elements) (before after : Vec Slot) (fs : List Found) (len : ℕ) → Appends old (kept.Slots before) fs → len ≡ count old → after.items ≡ take len before.items
    → Appends old (kept.Slots after) []
back-slots (kept.Slots old) before after fs len appended len_is slots_are = record {
  them = slots_are ∙ ap₂ take len_is appended.them ∙ take-append_seam old.items (slots_of fs) ∙ sym (append-nil old.items);
}
back-slots (kept.Leads old) before after fs len appended len_is slots_are = absurd appended.them

-- ---- elements from one up to another

pub range-map : {X Y : Type 0} (f : X → Y) (xs : List X) (m n : ℕ) → slice_range (map f xs) m n ≡ map f (slice_range xs m n)
range-map f xs m n = ap (take (n - m)) (drop-map f m xs) ∙ take-map f (n - m) (drop m xs)

marks-range : (fs : List Found) (m n : ℕ) → slice_range (marks (leads_of fs)) m n ≡ marks (leads_of (slice_range fs m n))
marks-range fs m n = range-map mark (leads_of fs) m n ∙ ap marks (range-map (λ (f : Found). f.lead) fs m n)

count-references : (ls : List Lead) → length (filter (λ m. not (m == nowhere)) (marks ls)) ≡ length (references ls)
count-references [] = refl
count-references (lead.Nowhere ∷ ls) = count-references ls
count-references (lead.Cell address ∷ ls) = ap suc (count-references ls)
count-references (lead.Binary address ∷ ls) = ap suc (count-references ls)

-- the addresses beside them are counted by their marks
pub addresses-counted : (all : Elements) (leads : Leads) (fs : List Found) (m n found : ℕ) → all ≡ kept.Leads leads → Keeps all fs → found ≡ length (filter (λ k. not (k == nowhere)) (slice_range leads.marks.items m n))
    → found ≡ length (references_for all (slice_range fs m n))
addresses-counted all leads fs m n found is keeps found_is =
    let had : KeepsThem (kept.Leads leads) fs = subst (λ (e : Elements). KeepsThem e fs) is keeps.are in
    found_is ∙ ap (λ l. length (filter (λ k. not (k == nowhere)) (slice_range l m n))) had.0
    ∙ ap (λ l. length (filter (λ k. not (k == nowhere)) l)) (marks-range fs m n) ∙ count-references (leads_of (slice_range fs m n))
    ∙ ap (λ (e : Elements). length (references_for e (slice_range fs m n))) (sym is)

-- they are appended
pub range-leads : (all : Elements) (leads old new : Leads) (fs : List Found) (m n : ℕ) (addresses : List ℕ) → all ≡ kept.Leads leads → Keeps all fs → addresses ≡ references_for all (slice_range fs m n)
    → new.marks.items ≡ old.marks.items ++ slice_range leads.marks.items m n → new.references.items ≡ old.references.items ++ addresses → Pushes old new (leads_of (slice_range fs m n))
range-leads all leads old new fs m n addresses is keeps addresses_are marks_are references_are =
    let had : KeepsThem (kept.Leads leads) fs = subst (λ (e : Elements). KeepsThem e fs) is keeps.are in
    record {
      marks = marks_are ∙ ap (λ l. old.marks.items ++ l) (ap (λ l. slice_range l m n) had.0 ∙ marks-range fs m n);
      references = references_are ∙ ap (λ l. old.references.items ++ l) (addresses_are ∙ ap (λ (e : Elements). references_for e (slice_range fs m n)) is);
    }

pub range-slots : (all : Elements) (slots : Vec Slot) (old new : List Slot) (fs : List Found) (m n : ℕ) → all ≡ kept.Slots slots → Keeps all fs → new ≡ old ++ slice_range slots.items m n
    → new ≡ old ++ slots_of (slice_range fs m n)
range-slots all slots old new fs m n is keeps slots_are =
    let had : KeepsThem (kept.Slots slots) fs = subst (λ (e : Elements). KeepsThem e fs) is keeps.are in
    slots_are ∙ ap (λ l. old ++ l) (ap (λ l. slice_range l m n) had ∙ range-map (λ (f : Found). slot_for f.lead f.at f.len) fs m n)

-- ---- the elements of lines

pub AreInLines-none : AreInLines [] []
AreInLines-none = record { each = refl }

in-lines-then : (xs ys : List HeapLine) (fs gs : List Found) → AllInLines xs fs → AllInLines ys gs → AllInLines (xs ++ ys) (fs ++ gs)
in-lines-then [] ys fs gs one other = subst (λ l. AllInLines ys (l ++ gs)) (sym one) other
in-lines-then (x ∷ xs) ys fs gs one other =
    (one.0, one.1 ++ gs, ap (λ l. l ++ gs) one.2 ∙ append_assoc one.0 one.1 gs, one.3, in-lines-then xs ys one.1 gs one.4 other)

pub AreInLines-then : (xs ys : List HeapLine) (fs gs : List Found) → AreInLines xs fs → AreInLines ys gs → AreInLines (xs ++ ys) (fs ++ gs)
AreInLines-then xs ys fs gs one other = record { each = in-lines-then xs ys fs gs one.each other.each }

pub AreInLines-one : (line : HeapLine) (fs : List Found) → AreIn line.from line.text line.cell.form fs → AreInLines (line ∷ []) fs
AreInLines-one line fs are = record { each = (fs, [], sym (append-nil fs), are, refl) }

pub GainsElements-none : (a : Elements) → GainsElements a a []
GainsElements-none a = record { fs = []; are = AreInLines-none; appended = Appends-none a }

pub GainsElements-then : (a b c : Elements) (xs ys : List HeapLine) → GainsElements a b xs → GainsElements b c ys → GainsElements a c (xs ++ ys)
GainsElements-then a b c xs ys one other = record {
  fs = one.fs ++ other.fs;
  are = AreInLines-then xs ys one.fs other.fs one.are other.are;
  appended = Appends-then a b c one.fs other.fs one.appended other.appended;
}

pub HoldsElements-then : (a b : Elements) (xs ys : List HeapLine) → HoldsElements xs a → GainsElements a b ys → HoldsElements (xs ++ ys) b
HoldsElements-then a b xs ys held gains = record {
  fs = held.fs ++ gains.fs;
  are = AreInLines-then xs ys held.fs gains.fs held.are gains.are;
  keeps = Keeps-then a b held.fs gains.fs held.keeps gains.appended;
}

-- ---- where they lead

elements-found : (from : ℕ) (ps : List Placed) → leads_of (map (found_at from) ps) ≡ map lead_of (elements_at ps)
elements-found from [] = refl
elements-found from (p ∷ ps) = ap (λ l. lead_of p.element ∷ l) (elements-found from ps)

form-found : (from : ℕ) (form : Option HeapForm) (ps : List Placed) → elements_at ps ≡ elements_in form → leads_of (found_in from form ps) ≡ leads_in form
form-found from (Some (SubBin address offset size)) ps are = refl
form-found from form ps are = elements-found from ps ∙ ap (map lead_of) are

pub leads-in : (from : ℕ) (text : List ℕ) (form : Option HeapForm) (fs : List Found) → AreIn from text form fs → leads_of fs ≡ leads_in form
leads-in from text form fs are = ap leads_of are.found ∙ form-found from form are.ps are.elements

leads-lines : (lines : List HeapLine) (fs : List Found) → AllInLines lines fs → leads_of fs ≡ flat_map line_leads lines
leads-lines [] fs all = ap leads_of all
leads-lines (line ∷ lines) fs all =
    ap leads_of all.2 ∙ leads-append all.0 all.1 ∙ ap₂ (λ a b. a ++ b) (leads-in line.from line.text line.cell.form all.0 all.3) (leads-lines lines all.1 all.4)

pub leads-are : (lines : List HeapLine) (fs : List Found) → AreInLines lines fs → leads_of fs ≡ flat_map line_leads lines
leads-are lines fs are = leads-lines lines fs are.each

-- how many they are
pub lines-size : (lines : List HeapLine) (fs : List Found) → AreInLines lines fs → length fs ≡ length (flat_map line_leads lines)
lines-size lines fs are = sym (length-map fs (λ (f : Found). f.lead)) ∙ ap length (leads-are lines fs are)

pub gained-count : (a b : Elements) (lines : List HeapLine) → GainsElements a b lines → count b ≡ count a + length (flat_map line_leads lines)
gained-count a b lines gains = appended-count a b gains.fs gains.appended ∙ ap (λ n. count a + n) (lines-size lines gains.fs gains.are)

pub held-size : (lines : List HeapLine) (a : Elements) → HoldsElements lines a → count a ≡ length (flat_map line_leads lines)
held-size lines a held = kept-count a held.fs held.keeps ∙ lines-size lines held.fs held.are

-- ---- the elements of one line among those of all

range-front : (xs ys : List Found) (n : ℕ) → n ≡ length xs → slice_range (xs ++ ys) 0 n ≡ xs
range-front xs ys n is = let size : n - 0 ≡ length xs = omega (arith, is) in ap (λ m. take m (xs ++ ys)) size ∙ take-append_seam xs ys

range-behind : (xs ys : List Found) (size m n : ℕ) → length xs ≡ size → slice_range (xs ++ ys) (size + m) (size + n) ≡ slice_range ys m n
range-behind xs ys size m n is =
    let many : size + n - (size + m) ≡ n - m = omega arith in
    ap (λ k. take k (drop (size + m) (xs ++ ys))) many
    ∙ ap (λ k. take (n - m) (drop (k + m) (xs ++ ys))) (sym is) ∙ ap (take (n - m)) (drop-append-add xs ys m)

one-size : (line : HeapLine) (fs : List Found) → AreIn line.from line.text line.cell.form fs → length fs ≡ length (line_leads line)
one-size line fs are = sym (length-map fs (λ (f : Found). f.lead)) ∙ ap length (leads-in line.from line.text line.cell.form fs are)

range-in : (lines : List HeapLine) (fs : List Found) (i : ℕ) → i < length lines → AllInLines lines fs
    → AreIn (line_at lines i).from (line_at lines i).text (line_at lines i).cell.form (slice_range fs (length (flat_map line_leads (take i lines))) (length (flat_map line_leads (take (suc i) lines))))
range-in [] fs i inside all = absurd (omega (arith, inside))
range-in (line ∷ lines) fs zero inside all =
    let size = one-size line all.0 all.3 in
    subst (AreIn line.from line.text line.cell.form)
    (sym (ap (λ l. slice_range l 0 (length (line_leads line ++ []))) all.2
    ∙ range-front all.0 all.1 (length (line_leads line ++ [])) (ap length (append-nil (line_leads line)) ∙ sym size)))
    all.3
range-in (line ∷ lines) fs (suc i) inside all =
    let size = one-size line all.0 all.3 in
    let front = flat_map line_leads (take i lines) in
    let more = flat_map line_leads (take (suc i) lines) in
    subst (AreIn (line_at lines i).from (line_at lines i).text (line_at lines i).cell.form)
    (sym (ap (λ l. slice_range l (length (line_leads line ++ front)) (length (line_leads line ++ more))) all.2
    ∙ ap₂ (slice_range (all.0 ++ all.1)) (length-append (line_leads line) front) (length-append (line_leads line) more)
    ∙ range-behind all.0 all.1 (length (line_leads line)) (length front) (length more) size))
    (range-in lines all.1 i (omega (arith, inside)) all.4)

pub line-range : (lines : List HeapLine) (fs : List Found) (i : ℕ) → i < length lines → AreInLines lines fs
    → AreIn (line_at lines i).from (line_at lines i).text (line_at lines i).cell.form (slice_range fs (length (flat_map line_leads (take i lines))) (length (flat_map line_leads (take (i + 1) lines))))
line-range lines fs i inside are =
    let next : suc i ≡ i + 1 = omega arith in
    subst (λ n. AreIn (line_at lines i).from (line_at lines i).text (line_at lines i).cell.form (slice_range fs (length (flat_map line_leads (take i lines))) (length (flat_map line_leads (take n lines))))) next
    (range-in lines fs i inside are.each)

-- ---- the addresses that are kept beside them

pub references-line : (e : Elements) (line : HeapLine) (fs : List Found) → AreIn line.from line.text line.cell.form fs → references_for e fs ≡ kept_references e line
references-line (kept.Leads leads) line fs are = ap references (leads-in line.from line.text line.cell.form fs are)
references-line (kept.Slots slots) line fs are = refl

references-lines : (e : Elements) (lines : List HeapLine) (fs : List Found) → AllInLines lines fs → references_for e fs ≡ flat_map (kept_references e) lines
references-lines (kept.Leads leads) lines fs all = ap references (leads-lines lines fs all) ∙ flat-references lines
  where
    flat-references : (ls : List HeapLine) → references (flat_map line_leads ls) ≡ flat_map (kept_references (kept.Leads leads)) ls
    flat-references [] = refl
    flat-references (l ∷ ls) = flat_map-append reference (line_leads l) (flat_map line_leads ls) ∙ ap (λ rest. references (line_leads l) ++ rest) (flat-references ls)
references-lines (kept.Slots slots) lines fs all = nothing lines
  where
    nothing : (ls : List HeapLine) → [] ≡ flat_map (kept_references (kept.Slots slots)) ls
    nothing [] = refl
    nothing (l ∷ ls) = nothing ls

pub references-all : (e : Elements) (lines : List HeapLine) (fs : List Found) → AreInLines lines fs → references_for e fs ≡ flat_map (kept_references e) lines
references-all e lines fs are = references-lines e lines fs are.each
