-- The findings, the heaps and the trees of a redacted dump differ in the characters of binaries on heaps alone.
use Rattle.term_unfold.specs.declared.node.NodeKind.TheVariants as kinds
use Rattle.std.proofs.Common.{◌≡◌, ℕ, Bool, true, false, List, [], ◌∷◌, map, codes, Option, None, Some, if◌then◌else◌, refl, sym, ◌∙◌, ap, ◌⊎◌, ◌+◌, ◌-◌, ◌++◌, length, subst, inl, inr, zero, suc, take}
use Rattle.std.specs.Prelude.{All, ◌&&◌, is_some, get_or, ◌==◌, cond, find, option_and_then, option_map, nat_lt, not}
use Rattle.std.specs.Option.{option_eq}
use Rattle.std.specs.Str.{bytes_eq}
use Rattle.std.specs.List.{between, cons_option, filter_map, list_any, position_or_len, slice_get, take-map}
use Rattle.std.proofs.lemmas.List.Elements.{All-head, All-tail, All-filter, filter_passes}
use Rattle.std.proofs.lemmas.List.Quantifiers.{position-Some}
use Rattle.std.proofs.lemmas.Option.{unwrap_or-slice_get, slice_get-map}
use Rattle.std.proofs.lemmas.Slice.Eq.{bytes_eq-Decides}
use Rattle.std.proofs.lemmas.List.{length-map, map-append}
use Rattle.dump_io.specs.Lines.{headers, Line, lines_from, raw_lines, text_of}
use Rattle.dump_sections.specs.Index.{index_of, dump_state}
use Rattle.dump_sections.specs.Lookups.{has_tag, is_named}
use Rattle.dump_sections.specs.Sections.{Section, section, sections, id_of, tag_of}
use Rattle.dump_sections.specs.declared.index.State.{State}
use Rattle.dump_sections.specs.Bodies.{body_of, body_in, at_place}
use Rattle.process_table.specs.Laws.{All-first_of_each}
use Rattle.process_table.specs.Processes.{Process, ProcessTable, process_in, process_table}
use Rattle.process_table.specs.Records.{is_process, placed_sections, process_sections, records, repeated}
use Rattle.dump_audit.specs.Mailboxes.{mail_in, mailbox_place, mailbox_places, mails, pids_in}
use Rattle.root_views.specs.Roots.{message_count}
use Rattle.dump_audit.specs.Findings.{audit_of, findings, is_cut}
use Rattle.dump_audit.specs.Laws.{all-numbered}
use Rattle.binary_payloads.specs.declared.enc.Enc.{Enc}
use Rattle.dump_redact.specs.Bodies.{redacted_body}
use Rattle.dump_redact.specs.Laws.{IsRedacted, KeepsIndex, KeepsOthers, KeepsSections, KeepsState, RedactsSections, RedactsLines}
use Rattle.heap_cells.specs.Loading.{enc_of, heap_section, literals_section}
use Rattle.dump_redact.specs.Redacted.{part_of, redacted, bin_chars, without, blanked_line}
use Rattle.term_forms.specs.Forms.{HeapForm, HeapBin, Cons, Tuple, RefBin, SubBin, Flat, Node}
use Rattle.term_forms.specs.ReadingForms.{form_of}
use Rattle.term_forms.specs.Words.{led_of}
use Rattle.heap_cells.specs.Cells.{Cell, addresses, cell_of, cells_of, first_cells, line_cells, own_count, spelled_cell}
use Rattle.heap_cells.specs.HeapMap.{HeapMap, form_at, number_at}
use Rattle.dump_redact.specs.Payloads.{KeepsBinaries}
use Rattle.term_forms.specs.Elements.{Element, Ref}
use Rattle.cell_records.specs.declared.cells.Why.TheVariants.{Missing, Malformed, OnPath}
use Rattle.binary_refs.specs.declared.entries.Entry.{Entry}
use Rattle.term_unfold.specs.Leaves.{leaf_text}
use Rattle.term_unfold.specs.Rules.{Child, Term, Item, Opening, leaf, bad, node, is_on, unless_on, terms, items, pairs, flat_opening, cell_opening, term_opening, opening}
use Rattle.term_unfold.specs.Trees.{Value, OfCell, Tree, Leaf, Bad, Branch, Trees, none, more, pre, pre_all, first_bad, verdict}
use Rattle.term_unfold.specs.Unfolding.{trees, grown_tree, unfold_by, unfolded, unfolding_of}
use Rattle.root_views.specs.declared.kinds.RootKind.{RootKind}
use Rattle.root_views.specs.declared.kinds.RootKind.TheVariants.{Stack}
use Rattle.root_views.specs.Kinds.{roots_in, roots_tag}
use Rattle.dump_laws.specs.Laws.{KeepsFindings, KeepsProcesses, KeepsAddresses, KeepsHeaps, blank_cell, blank_form, blank_heap, KeepsLeaves, KeepsRoots, KeepsTrees, KeepsVerdicts, blank_tree, blank_trees, blank_value, is_binary}
use Rattle.heap_cells.specs.DumpHeaps.{heap_body, heap_map, heap_with, literals_body, payloads_of}
use Rattle.term_unfold.specs.DumpWalks.{previews_in}
use Rattle.root_views.specs.Sections.{root_section}

-- a line of a heap with its payload made blank
abbrev heap_line : Enc → List ℕ → List ℕ
heap_line enc raw = blanked_line enc (part_of (codes "proc_heap")) raw

-- ---- lists

map-same : {X Y : Type 0} (f g : X → Y) (xs : List X) → All (λ x. f x ≡ g x) xs → map f xs ≡ map g xs
map-same f g [] same = refl
map-same f g (x ∷ xs) same =
    ap (λ y. y ∷ map f xs) (All-head (λ x. f x ≡ g x) x xs same) ∙ ap (λ ys. g x ∷ ys) (map-same f g xs (All-tail (λ x. f x ≡ g x) x xs same))

-- ---- sections in which no payload stands

pub left-holds : (a b : Bool) → (a && b) ≡ true → a ≡ true
left-holds true b is = refl
left-holds false b is = is

pub tag-other : (tag text : List ℕ) → part_of tag ≡ part_of [] → has_tag tag text ≡ true → part_of (tag_of text) ≡ part_of []
tag-other tag text other has = ap part_of ((bytes_eq-Decides (tag_of text) tag).0 has) ∙ other

process-other : (s : Section) → is_process s ≡ true → part_of (tag_of s.text) ≡ part_of []
process-other s is = tag-other (codes "proc") s.text refl (left-holds (has_tag (codes "proc") s.text) (is_some (id_of s.text)) is)

mail-other : (pid : List ℕ) (s : Section) → is_named (codes "proc_messages") (Some pid) s.text ≡ true → part_of (tag_of s.text) ≡ part_of []
mail-other pid s is =
    tag-other (codes "proc_messages") s.text refl (left-holds (has_tag (codes "proc_messages") s.text) (option_eq bytes_eq (id_of s.text) (Some pid)) is)

module _ (enc : Enc) (before after : List ℕ) (others : KeepsOthers) where
  pub same-body : (s : Section) → IsRedacted enc before after s → part_of (tag_of s.text) ≡ part_of [] → body_of after s ≡ body_of before s
  same-body s is other = is.body ∙ ap (λ p. redacted_body enc p (body_of before s)) other ∙ others enc (body_of before s)

  -- ---- the processes

  module _ (ss : List Section) (all : All (IsRedacted enc before after) ss) where
    same-bodies : All (λ p. body_of after p.1 ≡ body_of before p.1) (records ss)
    same-bodies =
        let placed_all : All (λ p. IsRedacted enc before after p.1) (placed_sections ss) = all-numbered (IsRedacted enc before after) 0 ss all in
        let kept = All-filter (λ p. is_process p.1) (λ p. IsRedacted enc before after p.1) (placed_sections ss) placed_all in
        let passed = filter_passes (λ p. is_process p.1) (placed_sections ss) in
        All-first_of_each (λ p. body_of after p.1 ≡ body_of before p.1) (process_sections (placed_sections ss))
        (λ k d l. let s = (get_or (process_sections (placed_sections ss)) k d).1 in same-body s (kept k d l) (process-other s (passed k d l)))

    same-processes : map (λ p. process_in p (body_of after p.1)) (records ss) ≡ map (λ p. process_in p (body_of before p.1)) (records ss)
    same-processes =
        map-same (λ p. process_in p (body_of after p.1)) (λ p. process_in p (body_of before p.1)) (records ss)
        (λ k d l. ap (process_in (get_or (records ss) k d)) (same-bodies k d l))

    -- ---- the messages

    mailbox-body : (pid : List ℕ) (place : ℕ) → mailbox_place ss pid ≡ Some place → body_of after (at_place ss place) ≡ body_of before (at_place ss place)
    mailbox-body pid place is =
        let test : Section → Bool = λ s. is_named (codes "proc_messages") (Some pid) s.text in
        let there = position-Some test ss place (section 0 0 0 []) is in
        let at : at_place ss place ≡ get_or ss place (section 0 0 0 []) = unwrap_or-slice_get ss place (section 0 0 0 []) in
        ap (body_of after) at
        ∙ same-body (get_or ss place (section 0 0 0 [])) (all place (section 0 0 0 []) there.0) (mail-other pid (get_or ss place (section 0 0 0 [])) there.1)
        ∙ ap (body_of before) (sym at)

    same-mail : (state : State) (pid : List ℕ) (place : Option ℕ) → mailbox_place ss pid ≡ place → mail_in after state ss place ≡ mail_in before state ss place
    same-mail state pid None is = refl
    same-mail state pid (Some place) is = ap (λ body. if is_cut state place then None else Some (message_count body)) (mailbox-body pid place is)

    same-mails : (state : State) (pids : List (List ℕ)) → map (mail_in after state ss) (map (mailbox_place ss) pids) ≡ map (mail_in before state ss) (map (mailbox_place ss) pids)
    same-mails state [] = refl
    same-mails state (pid ∷ pids) =
        ap (λ m. m ∷ map (mail_in after state ss) (map (mailbox_place ss) pids)) (same-mail state pid (mailbox_place ss pid) refl)
        ∙ ap (λ ms. mail_in before state ss (mailbox_place ss pid) ∷ ms) (same-mails state pids)

-- ---- the dump

abbrev table_with : List Process → ℕ → ProcessTable
table_with processes times = record { processes = processes; repeated = times }

module _ (same : KeepsSections) (redacts : RedactsSections) (others : KeepsOthers) where
  pub keeps-processes : KeepsProcesses
  keeps-processes bytes =
      ap (λ ss. table_with (map (λ p. process_in p (body_of (redacted bytes) p.1)) (records ss)) (repeated ss)) (same bytes)
      ∙ ap (λ ps. table_with ps (repeated (sections bytes)))
      (same-processes (enc_of (index_of bytes).version) bytes (redacted bytes) others (sections bytes) (redacts bytes))

  module _ (state : KeepsState) (index : KeepsIndex) where
    keeps-mails : (bytes : List ℕ) → mails (redacted bytes) ≡ mails bytes
    keeps-mails bytes =
        ap (λ s. map (mail_in (redacted bytes) s (sections (redacted bytes))) (mailbox_places (sections (redacted bytes)))) (state bytes)
        ∙ ap (λ ss. map (mail_in (redacted bytes) (dump_state (headers bytes)) ss) (mailbox_places ss)) (same bytes)
        ∙ same-mails (enc_of (index_of bytes).version) bytes (redacted bytes) others (sections bytes) (redacts bytes) (dump_state (headers bytes)) (pids_in (sections bytes))

    pub keeps-findings : KeepsFindings
    keeps-findings bytes limit full =
        ap (λ i. findings (audit_of i (process_table (redacted bytes)).processes limit (if full then Some (mails (redacted bytes)) else None))) (index bytes)
        ∙ ap (λ t. findings (audit_of (index_of bytes) t.processes limit (if full then Some (mails (redacted bytes)) else None))) (keeps-processes bytes)
        ∙ ap (λ m. findings (audit_of (index_of bytes) (process_table bytes).processes limit (if full then Some m else None))) (keeps-mails bytes)

-- ---- the heaps of a redacted dump differ in the characters of their binaries alone

-- ---- the first of a list that passes a test

pub found-is : {X : Type 0} (R : X → Type 0) (P : Option X → Type 0) (test : X → Bool) (xs : List X) → P None → ((x : X) → R x → test x ≡ true → P (Some x)) → All R xs
    → P (find test xs)
found-is R P test [] absent some all = absent
found-is R P test (x ∷ xs) absent some all = by (test x) refl (found-is R P test xs absent some (All-tail R x xs all))
  where
    by : (b : Bool) → test x ≡ b → P (find test xs) → P (find test (x ∷ xs))
    by true e rest = subst (λ b. P (cond b (Some x) (find test xs))) (sym e) (some x (All-head R x xs all) e)
    by false e rest = subst (λ b. P (cond b (Some x) (find test xs))) (sym e) rest

-- ---- a heap line

abbrev pub IsBin : Option HeapForm → Type 0
IsBin form = (size : ℕ) × (chars : List ℕ) × (form ≡ Some (HeapBin size chars))

abbrev cell : ℕ → Option HeapForm → Cell
cell address form = record { address = address; form = form }

module _ (enc : Enc) where
  pub bin-or-same : (form : Option HeapForm) → IsBin form ⊎ ((bin_chars form ≡ None) × (option_map (blank_form enc) form ≡ form))
  bin-or-same (Some (HeapBin size chars)) = inl (size, chars, refl)
  bin-or-same form = inr (refl, refl)

  abbrev led_cell : List ℕ → Option Cell
  led_cell raw = option_map (spelled_cell enc) (led_of (text_of raw))

  -- the payload of a line, as the redaction finds it
  abbrev chars_of : Option (ℕ × List ℕ) → Option (List ℕ)
  chars_of led = option_and_then (λ l. bin_chars (form_of enc l.1)) led

  -- a line in which no payload stands
  unchanged : (raw : List ℕ) → chars_of (led_of (text_of raw)) ≡ None → heap_line enc raw ≡ raw
  unchanged raw absent = ap (without enc raw) absent

  module _ (keeps : KeepsBinaries enc) where
    line-cell : (raw : List ℕ) → led_cell (heap_line enc raw) ≡ option_map (blank_cell enc) (led_cell raw)
    line-cell raw = by (led_of (text_of raw)) refl
      where
        by : (led : Option (ℕ × List ℕ)) → led_of (text_of raw) ≡ led → led_cell (heap_line enc raw) ≡ option_map (blank_cell enc) (led_cell raw)
        by None e = ap led_cell (unchanged raw (ap chars_of e)) ∙ ap (option_map (spelled_cell enc)) e ∙ sym (ap (λ o. option_map (blank_cell enc) (option_map (spelled_cell enc) o)) e)
        by (Some led) e =
            let old : option_map (blank_cell enc) (led_cell raw) ≡ Some (cell led.0 (option_map (blank_form enc) (form_of enc led.1))) =
            ap (λ o. option_map (blank_cell enc) (option_map (spelled_cell enc) o)) e in
            elim (bin-or-same (form_of enc led.1)) [
              | inl bin ↦ let new = keeps raw led.0 bin.0 led.1 bin.1 e bin.2 in
                  ap (option_map (spelled_cell enc)) new.1 ∙ ap (λ o. Some (cell led.0 o)) (new.2 ∙ sym (ap (option_map (blank_form enc)) bin.2)) ∙ sym old
              | inr same ↦ ap led_cell (unchanged raw (ap chars_of e ∙ same.0)) ∙ ap (option_map (spelled_cell enc)) e ∙ ap (λ o. Some (cell led.0 o)) (sym same.1) ∙ sym old
            ]

    -- ---- the cells of a body

    map-cons : (o : Option Cell) (cs : List Cell) → cons_option (option_map (blank_cell enc) o) (map (blank_cell enc) cs) ≡ map (blank_cell enc) (cons_option o cs)
    map-cons None cs = refl
    map-cons (Some c) cs = refl

    -- of the raw lines of a body, whatever they are viewed as
    module _ {T : Type 0} (view : Line → T) (cell_in : T → Option Cell) (reads : (line : Line) → cell_in (view line) ≡ led_cell line.raw) where
      abbrev cells_from : ℕ → List (List ℕ) → List Cell
      cells_from at raws = filter_map cell_in (map view (lines_from at raws))

      lines-cells : (m n : ℕ) (raws : List (List ℕ)) → cells_from m (map (heap_line enc) raws) ≡ map (blank_cell enc) (cells_from n raws)
      lines-cells m n [] = refl
      lines-cells m n (raw ∷ raws) =
          let new : Line = record { at = m; raw = heap_line enc raw } in
          let old : Line = record { at = n; raw = raw } in
          ap (λ o. cons_option o (cells_from (m + length (heap_line enc raw)) (map (heap_line enc) raws)))
          (reads new ∙ line-cell raw ∙ ap (option_map (blank_cell enc)) (sym (reads old)))
          ∙ ap (cons_option (option_map (blank_cell enc) (cell_in (view old)))) (lines-cells (m + length (heap_line enc raw)) (n + length raw) raws)
          ∙ map-cons (cell_in (view old)) (cells_from (n + length raw) raws)

      viewed-cells : (before after : List (List ℕ)) → after ≡ map (heap_line enc) before → cells_from 0 after ≡ map (blank_cell enc) (cells_from 0 before)
      viewed-cells before after is = ap (cells_from 0) is ∙ lines-cells 0 0 before

    first-cells : (seen : List ℕ) (cs : List Cell) → first_cells seen (map (blank_cell enc) cs) ≡ map (blank_cell enc) (first_cells seen cs)
    first-cells seen [] = refl
    first-cells seen (c ∷ cs) =
        let later = first_cells (seen ++ c.address ∷ []) cs in
        let stood : Bool = list_any (λ address. address == c.address) seen in
        ap (λ l. if stood then l else blank_cell enc c ∷ l) (first-cells (seen ++ c.address ∷ []) cs)
        ∙ elim stood as (λ b. (if b then map (blank_cell enc) later else blank_cell enc c ∷ map (blank_cell enc) later) ≡ map (blank_cell enc) (if b then later else c ∷ later)) [
          | true ↦ refl
          | false ↦ refl
        ]

    module _ (redacts : RedactsLines) where
      -- the body of a heap, redacted
      abbrev redacted_heap : List ℕ → List ℕ
      redacted_heap body = redacted_body enc (part_of (codes "proc_heap")) body

      body-cells : (body : List ℕ) → line_cells enc (redacted_heap body) ≡ map (blank_cell enc) (line_cells enc body)
      body-cells body =
          viewed-cells _ (cell_of enc) (λ line. refl) (raw_lines body) (raw_lines (redacted_heap body)) (redacts enc (part_of (codes "proc_heap")) body)

      blank-cells : (heap literals : List ℕ) → cells_of enc (redacted_heap heap) (redacted_heap literals) ≡ map (blank_cell enc) (cells_of enc heap literals)
      blank-cells heap literals =
          ap (λ cs. first_cells [] (cs ++ line_cells enc (redacted_heap literals))) (body-cells heap)
          ∙ ap (λ cs. first_cells [] (map (blank_cell enc) (line_cells enc heap) ++ cs)) (body-cells literals)
          ∙ ap (first_cells []) (sym (map-append (blank_cell enc) (line_cells enc heap) (line_cells enc literals)))
          ∙ first-cells [] (line_cells enc heap ++ line_cells enc literals)

      blank-own : (heap : List ℕ) → own_count enc (redacted_heap heap) ≡ own_count enc heap
      blank-own heap =
          ap (λ cs. length (first_cells [] cs)) (body-cells heap)
          ∙ ap length (first-cells [] (line_cells enc heap))
          ∙ length-map (first_cells [] (line_cells enc heap)) (blank_cell enc)

      -- ---- the bodies of a dump

      module _ (before after : List ℕ) (ss : List Section) (all : All (IsRedacted enc before after) ss) where
        heap-body : (test : Section → Bool) → ((s : Section) → test s ≡ true → part_of (tag_of s.text) ≡ part_of (codes "proc_heap"))
            → body_in after (find test ss) ≡ redacted_heap (body_in before (find test ss))
        heap-body test part =
            found-is (IsRedacted enc before after) (λ found. body_in after found ≡ redacted_heap (body_in before found)) test ss refl
            (λ s is passes. is.body ∙ ap (λ p. redacted_body enc p (between s.body s.end before)) (part s passes)) all

        tag-heap : (tag text : List ℕ) → part_of tag ≡ part_of (codes "proc_heap") → has_tag tag text ≡ true → part_of (tag_of text) ≡ part_of (codes "proc_heap")
        tag-heap tag text heap has = ap part_of ((bytes_eq-Decides (tag_of text) tag).0 has) ∙ heap

        own-body : (pid : List ℕ) → body_in after (heap_section pid ss) ≡ redacted_heap (body_in before (heap_section pid ss))
        own-body pid =
            heap-body (λ s. is_named (codes "proc_heap") (Some pid) s.text)
            (λ s is. tag-heap (codes "proc_heap") s.text refl (left-holds (has_tag (codes "proc_heap") s.text) (option_eq bytes_eq (id_of s.text) (Some pid)) is))

        shared-body : body_in after (literals_section ss) ≡ redacted_heap (body_in before (literals_section ss))
        shared-body = heap-body (λ s. has_tag (codes "literals") s.text) (λ s is. tag-heap (codes "literals") s.text refl is)

        same-heap : (pid : List ℕ)
            → heap_with enc (body_in after (heap_section pid ss)) (body_in after (literals_section ss))
            ≡ blank_heap (heap_with enc (body_in before (heap_section pid ss)) (body_in before (literals_section ss)))
        same-heap pid =
            let heap = body_in before (heap_section pid ss) in
            let literals = body_in before (literals_section ss) in
            let heap_after = body_in after (heap_section pid ss) in
            let literals_after = body_in after (literals_section ss) in
            let cells : cells_of enc heap_after literals_after ≡ map (blank_cell enc) (cells_of enc heap literals) =
            ap (λ h. cells_of enc h literals_after) (own-body pid) ∙ ap (cells_of enc (redacted_heap heap)) shared-body ∙ blank-cells heap literals in
            let own : own_count enc heap_after ≡ own_count enc heap = ap (own_count enc) (own-body pid) ∙ blank-own heap in
            ap (λ cs. record { cells = cs; own = own_count enc heap_after; enc = enc }) cells
            ∙ ap (λ n. record { cells = map (blank_cell enc) (cells_of enc heap literals); own = n; enc = enc }) own

-- ---- the dump

same-addresses : (enc : Enc) (cs : List Cell) → addresses (map (blank_cell enc) cs) ≡ addresses cs
same-addresses enc [] = refl
same-addresses enc (c ∷ cs) = ap (λ l. c.address ∷ l) (same-addresses enc cs)

module _ (same : KeepsSections) (index : KeepsIndex) (redacts : RedactsSections) (lines : RedactsLines) (binaries : (enc : Enc) → KeepsBinaries enc) where
  pub keeps-heaps : KeepsHeaps
  keeps-heaps bytes pid =
      let enc = payloads_of bytes in
      ap (λ i. heap_with (enc_of i.version) (heap_body pid (redacted bytes)) (literals_body (redacted bytes))) (index bytes)
      ∙ ap (λ ss. heap_with enc (body_in (redacted bytes) (heap_section pid ss)) (body_in (redacted bytes) (literals_section ss))) (same bytes)
      ∙ same-heap enc (binaries enc) lines bytes (redacted bytes) (sections bytes)
      (redacts bytes) pid

  pub keeps-addresses : KeepsAddresses
  keeps-addresses bytes pid = ap (λ h. addresses h.cells) (keeps-heaps bytes pid) ∙ same-addresses (payloads_of bytes) (heap_map pid bytes).cells

-- ---- the trees of a redacted dump's terms differ in the characters of binaries on the heap alone

-- ---- what the maps of a heap open, by the number of a cell and its form

-- a flat map at an address, by the cell of its keys
abbrev keyed_by : ℕ → ℕ → List Element → Option HeapForm → Opening
keyed_by k a values (Some (Tuple elements)) = if length elements == length values then node a kinds.Flat (pairs elements values) else bad k Malformed
keyed_by k a values form = bad k Malformed

-- the same by the number of that cell
abbrev keyed_at : List Cell → ℕ → ℕ → List Element → Option ℕ → Opening
keyed_at heap k a values None = bad k Missing
keyed_at heap k a values (Some n) = keyed_by k a values (form_at heap n)

-- an item of a hash map, by its cell
abbrev item_by : ℕ → Option HeapForm → Opening
item_by a (Some (Cons head tail)) = node a kinds.Pair (terms (head ∷ tail ∷ []))
item_by a (Some (Tuple elements)) = node a kinds.Inner (items a elements)
item_by a (Some (Node children)) = node a kinds.Inner (items a children)
item_by a form = bad a Malformed

-- the same by the number of that cell
abbrev item_at : List Cell → ℕ → Option ℕ → Opening
item_at heap a None = bad a Missing
item_at heap a (Some n) = item_by a (form_at heap n)

-- a flat map with a value, whose keys element is a reference
module _ (heap : List Cell) (path : List ℕ) (a k : ℕ) (value : Element) (values : List Element) where
  abbrev FlatIs : Type 0
  FlatIs = flat_opening heap path a (Ref k) (value ∷ values) ≡ unless_on (a ∷ path) (Ref k) (keyed_at heap k a (value ∷ values) (number_at heap k))

  flat-tuple : (n : ℕ) (elements : List Element) → number_at heap k ≡ Some n → form_at heap n ≡ Some (Tuple elements)
      → (fits : Bool) → (length elements == length (value ∷ values)) ≡ fits → FlatIs
  flat-tuple n elements e f true fits = rw (e, f, fits) refl
  flat-tuple n elements e f false fits = rw (e, f, fits) refl

  flat-form : (n : ℕ) → number_at heap k ≡ Some n → (form : Option HeapForm) → form_at heap n ≡ form → FlatIs
  flat-form n e (Some (Tuple elements)) f = flat-tuple n elements e f (length elements == length (value ∷ values)) refl
  flat-form n e form f = rw (e, f) refl

  flat-number : (found : Option ℕ) → number_at heap k ≡ found → FlatIs
  flat-number None e = rw e refl
  flat-number (Some n) e = flat-form n e (form_at heap n) refl

  flat-is : FlatIs
  flat-is = flat-number (number_at heap k) refl

-- an item of a hash map that is a reference
module _ (heap : List Cell) (path : List ℕ) (parent a : ℕ) where
  abbrev ItemIs : Type 0
  ItemIs = opening heap path (Item parent (Ref a)) ≡ unless_on path (Ref a) (item_at heap a (number_at heap a))

  item-form : (n : ℕ) → number_at heap a ≡ Some n → (form : Option HeapForm) → form_at heap n ≡ form → ItemIs
  item-form n e None f = rw (e, f) refl
  item-form n e (Some (Cons head tail)) f = rw (e, f) refl
  item-form n e form f = rw (e, f) refl

  item-number : (found : Option ℕ) → number_at heap a ≡ found → ItemIs
  item-number None e = rw e refl
  item-number (Some n) e = item-form n e (form_at heap n) refl

  item-is : ItemIs
  item-is = item-number (number_at heap a) refl

module _ (enc : Enc) where
  -- ---- cells by their addresses

  abbrev blanked : List Cell → List Cell
  blanked heap = map (blank_cell enc) heap

  first-same : (a : ℕ) (heap : List Cell) → position_or_len (λ (c : Cell). c.address == a) (blanked heap) ≡ position_or_len (λ (c : Cell). c.address == a) heap
  first-same a [] = refl
  first-same a (c ∷ cs) = ap (λ n. cond (not (c.address == a)) (1 + n) 0) (first-same a cs)

  number-same : (heap : List Cell) (a : ℕ) → number_at (blanked heap) a ≡ number_at heap a
  number-same heap a =
      let n = position_or_len (λ (c : Cell). c.address == a) heap in
      ap (λ m. cond (nat_lt m (length (blanked heap))) (Some m) None) (first-same a heap)
      ∙ ap (λ m. cond (nat_lt n m) (Some n) None) (length-map heap (blank_cell enc))

  cell-form : (found : Option Cell) → option_and_then (λ (c : Cell). c.form) (option_map (blank_cell enc) found) ≡ option_map (blank_form enc) (option_and_then (λ (c : Cell). c.form) found)
  cell-form None = refl
  cell-form (Some c) = refl

  form-same : (heap : List Cell) (n : ℕ) → form_at (blanked heap) n ≡ option_map (blank_form enc) (form_at heap n)
  form-same heap n = ap (option_and_then (λ (c : Cell). c.form)) (slice_get-map (blank_cell enc) heap n) ∙ cell-form (slice_get heap n)

  -- the form of the cell that has the address
  abbrev form_with : List Cell → ℕ → Option (Option HeapForm)
  form_with heap a = option_map (form_at heap) (number_at heap a)

  with-number : (heap : List Cell) (found : Option ℕ) → option_map (form_at (blanked heap)) found ≡ option_map (option_map (blank_form enc)) (option_map (form_at heap) found)
  with-number heap None = refl
  with-number heap (Some n) = ap Some (form-same heap n)

  with-same : (heap : List Cell) (a : ℕ) → form_with (blanked heap) a ≡ option_map (option_map (blank_form enc)) (form_with heap a)
  with-same heap a = ap (option_map (form_at (blanked heap))) (number-same heap a) ∙ with-number heap (number_at heap a)

  -- ---- what a child opens

  abbrev blank_opening : Opening → Opening
  blank_opening (leaf value) = leaf (blank_value enc value)
  blank_opening (bad a why) = bad a why
  blank_opening (node a kind children) = node a kind children

  unless-same : (path : List ℕ) (e : Element) (off : Opening) → unless_on path e (blank_opening off) ≡ blank_opening (unless_on path e off)
  unless-same path (Ref a) off =
      elim (is_on a path) as (λ b. (if b then bad a OnPath else blank_opening off) ≡ blank_opening (if b then bad a OnPath else off)) [
        | true ↦ refl
        | false ↦ refl
      ]
  unless-same path e off = refl

  -- what a map opens is no leaf
  keyed-blank : (k a : ℕ) (values : List Element) (form : Option HeapForm) → keyed_by k a values (option_map (blank_form enc) form) ≡ blank_opening (keyed_by k a values form)
  keyed-blank k a values (Some (Tuple elements)) =
      elim (length elements == length values) as (λ b. (if b then node a kinds.Flat (pairs elements values) else bad k Malformed) ≡ blank_opening (if b then node a kinds.Flat (pairs elements values) else bad k Malformed)) [
        | true ↦ refl
        | false ↦ refl
      ]
  keyed-blank k a values form = refl

  keyed-opens : (heap : List Cell) (k a : ℕ) (values : List Element) (found : Option ℕ) → keyed_at (blanked heap) k a values found ≡ blank_opening (keyed_at heap k a values found)
  keyed-opens heap k a values None = refl
  keyed-opens heap k a values (Some n) = ap (keyed_by k a values) (form-same heap n) ∙ keyed-blank k a values (form_at heap n)

  item-blank : (a : ℕ) (form : Option HeapForm) → item_by a (option_map (blank_form enc) form) ≡ blank_opening (item_by a form)
  item-blank a None = refl
  item-blank a (Some (Cons head tail)) = refl
  item-blank a form = refl

  item_at-opens : (heap : List Cell) (a : ℕ) (found : Option ℕ) → item_at (blanked heap) a found ≡ blank_opening (item_at heap a found)
  item_at-opens heap a None = refl
  item_at-opens heap a (Some n) = ap (item_by a) (form-same heap n) ∙ item-blank a (form_at heap n)

  flat-same : (heap : List Cell) (path : List ℕ) (a : ℕ) (keys : Element) (values : List Element)
      → flat_opening (blanked heap) path a keys values ≡ blank_opening (flat_opening heap path a keys values)
  flat-same heap path a keys [] = refl
  flat-same heap path a (Ref k) (value ∷ values) =
      let off = keyed_at heap k a (value ∷ values) (number_at heap k) in
      flat-is (blanked heap) path a k value values
      ∙ ap (unless_on (a ∷ path) (Ref k)) (ap (keyed_at (blanked heap) k a (value ∷ values)) (number-same heap k) ∙ keyed-opens heap k a (value ∷ values) (number_at heap k))
      ∙ unless-same (a ∷ path) (Ref k) off
      ∙ ap blank_opening (sym (flat-is heap path a k value values))
  flat-same heap path a keys (value ∷ values) = refl

  cell-opens : (heap : List Cell) (path : List ℕ) (a : ℕ) (found : Option (Option HeapForm))
      → cell_opening (blanked heap) path a (option_map (option_map (blank_form enc)) found) ≡ blank_opening (cell_opening heap path a found)
  cell-opens heap path a (Some (Some (Flat keys values))) = flat-same heap path a keys values
  cell-opens heap path a found = refl

  term-opens : (heap : List Cell) (path : List ℕ) (e : Element) → term_opening (blanked heap) path e ≡ blank_opening (term_opening heap path e)
  term-opens heap path (Ref a) = ap (cell_opening (blanked heap) path a) (with-same heap a) ∙ cell-opens heap path a (form_with heap a)
  term-opens heap path e = refl

  item-opens : (heap : List Cell) (path : List ℕ) (parent : ℕ) (e : Element) → opening (blanked heap) path (Item parent e) ≡ blank_opening (opening heap path (Item parent e))
  item-opens heap path parent (Ref a) =
      item-is (blanked heap) path parent a
      ∙ ap (unless_on path (Ref a)) (ap (item_at (blanked heap) a) (number-same heap a) ∙ item_at-opens heap a (number_at heap a))
      ∙ unless-same path (Ref a) (item_at heap a (number_at heap a))
      ∙ ap blank_opening (sym (item-is heap path parent a))
  item-opens heap path parent e = refl

  opens-same : (heap : List Cell) (path : List ℕ) (child : Child) → opening (blanked heap) path child ≡ blank_opening (opening heap path child)
  opens-same heap path (Term e) = ap (unless_on path e) (term-opens heap path e) ∙ unless-same path e (term_opening heap path e)
  opens-same heap path (Item parent e) = item-opens heap path parent e

  -- ---- the trees

  trees-same : (new old : Child → Tree) → ((child : Child) → new child ≡ blank_tree enc (old child)) → (children : List Child) → trees new children ≡ blank_trees enc (trees old children)
  trees-same new old same [] = refl
  trees-same new old same (child ∷ children) =
      ap (λ t. more t (trees new children)) (same child) ∙ ap (more (blank_tree enc (old child))) (trees-same new old same children)

  grown-same : (new old : ℕ → Child → Tree) → ((a : ℕ) (child : Child) → new a child ≡ blank_tree enc (old a child)) → (off : Opening)
      → grown_tree new (blank_opening off) ≡ blank_tree enc (grown_tree old off)
  grown-same new old same (leaf value) = refl
  grown-same new old same (bad a why) = refl
  grown-same new old same (node a kind children) = ap (Branch kind) (trees-same (new a) (old a) (same a) children)

  levels-same : (levels : ℕ) (heap : List Cell) (path : List ℕ) (child : Child) → unfold_by levels (blanked heap) path child ≡ blank_tree enc (unfold_by levels heap path child)
  unfolding unfold_by
  levels-same zero heap path child = refl
  levels-same (suc levels) heap path child =
      ap (grown_tree (λ a. unfold_by levels (blanked heap) (a ∷ path))) (opens-same heap path child)
      ∙ grown-same (λ a. unfold_by levels (blanked heap) (a ∷ path)) (λ a. unfold_by levels heap (a ∷ path)) (λ a below. levels-same levels heap (a ∷ path) below) (opening heap path child)

  pub unfolds-same : (heap : List Cell) (path : List ℕ) (child : Child) → unfolded (blanked heap) path child ≡ blank_tree enc (unfolded heap path child)
  unfolding unfolded
  unfolds-same heap path child =
      ap (λ n. unfold_by (suc n - length path) (blanked heap) path child) (length-map heap (blank_cell enc)) ∙ levels-same (suc (length heap) - length path) heap path child

  -- ---- verdicts

  mutual
    pre-same : (t : Tree) → pre (blank_tree enc t) ≡ map (blank_tree enc) (pre t)
    pre-same (Leaf value) = refl
    pre-same (Bad address why) = refl
    pre-same (Branch kind children) = ap (λ l. Branch kind (blank_trees enc children) ∷ l) (pre_all-same children)

    pre_all-same : (ts : Trees) → pre_all (blank_trees enc ts) ≡ map (blank_tree enc) (pre_all ts)
    pre_all-same none = refl
    pre_all-same (more t ts) =
        ap (λ l. l ++ pre_all (blank_trees enc ts)) (pre-same t) ∙ ap (λ l. map (blank_tree enc) (pre t) ++ l) (pre_all-same ts)
        ∙ sym (map-append (blank_tree enc) (pre t) (pre_all ts))

  first_bad-same : (ts : List Tree) → first_bad (map (blank_tree enc) ts) ≡ first_bad ts
  first_bad-same [] = refl
  first_bad-same (Bad address why ∷ ts) = refl
  first_bad-same (t ∷ ts) = first_bad-same ts

  pub verdict-same : (t : Tree) (n : ℕ) → verdict (blank_tree enc t) n ≡ verdict t n
  verdict-same t n = ap (λ l. first_bad (take n l)) (pre-same t) ∙ ap first_bad (take-map (blank_tree enc) n (pre t)) ∙ first_bad-same (take n (pre t))

  -- ---- the texts of leaves

  text-same : (new old : List Cell) (after before : List Entry) (value : Value) → is_binary value ≡ false → leaf_text enc new after (blank_value enc value) ≡ leaf_text enc old before value
  text-same new old after before (OfCell a (HeapBin size chars)) is = absurd (let no : ⊥ = cc is in no)
  text-same new old after before (OfCell a (RefBin address offset size)) is = absurd (let no : ⊥ = cc is in no)
  text-same new old after before (OfCell a (SubBin address offset size)) is = absurd (let no : ⊥ = cc is in no)
  text-same new old after before value is = refl

-- ---- the dump

module _ (heaps : KeepsHeaps) where
  pub keeps-trees : KeepsTrees
  keeps-trees bytes pid root =
      ap (λ (h : HeapMap). unfolding_of h.cells root) (heaps bytes pid) ∙ unfolds-same (payloads_of bytes) (heap_map pid bytes).cells [] (Term root)

  pub keeps-verdicts : KeepsVerdicts
  keeps-verdicts bytes pid root nodes =
      ap (λ t. verdict t nodes) (keeps-trees bytes pid root) ∙ verdict-same (payloads_of bytes) (unfolding_of (heap_map pid bytes).cells root) nodes

  pub keeps-leaves : KeepsLeaves
  keeps-leaves bytes pid value is =
      let new = heap_map pid (redacted bytes) in
      let old = heap_map pid bytes in
      ap (λ e. leaf_text e new.cells (previews_in (redacted bytes) new) (blank_value (payloads_of bytes) value)) (ap (λ (h : HeapMap). h.enc) (heaps bytes pid))
      ∙ text-same (payloads_of bytes) new.cells old.cells (previews_in (redacted bytes) new) (previews_in bytes old) value is

kind-other : (kind : RootKind) → part_of (roots_tag kind) ≡ part_of []
kind-other Stack = refl
kind-other kind = refl

module _ (same : KeepsSections) (redacts : RedactsSections) (others : KeepsOthers) where
  pub keeps-roots : KeepsRoots
  keeps-roots kind bytes pid =
      let enc = enc_of (index_of bytes).version in
      let tag = roots_tag kind in
      let test : Section → Bool = λ s. is_named tag (Some pid) s.text in
      ap (λ ss. roots_in kind (body_in (redacted bytes) (root_section kind pid ss))) (same bytes)
      ∙ ap (roots_in kind) (
      found-is (IsRedacted enc bytes (redacted bytes)) (λ found. body_in (redacted bytes) found ≡ body_in bytes found) test (sections bytes) refl
      (λ s is passes. same-body enc bytes (redacted bytes) others s is
      (tag-other tag s.text (kind-other kind) (left-holds (has_tag tag s.text) (option_eq bytes_eq (id_of s.text) (Some pid)) passes))) (redacts bytes)
      )
