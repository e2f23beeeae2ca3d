-- What processes hold, one heap after another.
use Rattle.std.proofs.Common.{◌≡◌, ℕ, ◌+◌, ◌-◌, ◌^◌, ◌<◌, ◌≤◌, Bool, true, false, List, [], ◌∷◌, ◌++◌, length, map, filter, drop, get_or, take, Option, None, Some, if◌then◌else◌, sym, ◌∙◌, ap, append-nil, arith, subst}
use Rattle.std.specs.Prelude.{All}
use Rattle.std.specs.List.{between, enumerate_from, flat_map}
use Rattle.std.proofs.lemmas.List.{map_push, length-take, length-drop, take_more}
use Rattle.std.proofs.lemmas.List.Concat.{flat_map-append}
use Rattle.std.proofs.lemmas.List.Elements.{All-push, filter-append}
use Rattle.dump_io.specs.Laws.Lists.{enumerate-push}
use Rattle.dump_sections.specs.Bodies.{section_at}
use Rattle.dump_sections.specs.Index.{Contents}
use Rattle.heap_cells.specs.Loading.{enc_of}
use Rattle.binary_holders.specs.declared.rows.Holding.{Holding}
use Rattle.binary_holders.specs.declared.targets.Binary.{Binary}
use Rattle.binary_holders.specs.declared.texts.Reference.{Reference}
use Rattle.binary_holders.specs.declared.counts.Counts.{Counts}
use Rattle.binary_holders.specs.HeapReferences.{numbers_referred}
use Rattle.binary_holders.specs.Held.{BinaryHeap, holding_of, holdings}
use Rattle.binary_holders.specs.Usage.{NamesProcess}
use Rattle.binary_holders.specs.Inner.Places.{references_at}
use Rattle.binary_holders.specs.Inner.Counting.{counted, heap_lines, HasCounted}
use Rattle.binary_holders.proofs.Scans.{few-references}
use Rattle.binary_holders.proofs.CountFacts.{held-is}

module _ (keeps : Holding → Bool) where
  holdings-push : (binaries : List Binary) (heaps : List BinaryHeap) (heap : BinaryHeap)
      → filter keeps (holdings binaries (heaps ++ heap ∷ []))
      ≡ filter keeps (holdings binaries heaps) ++ (if keeps (holding_of binaries (length heaps, heap)) then holding_of binaries (length heaps, heap) ∷ [] else [])
  holdings-push binaries heaps heap =
      let zero_more : 0 + length heaps ≡ length heaps = omega arith in
      ap (λ l. filter keeps (map (holding_of binaries) l)) (enumerate-push 0 heaps heap ∙ ap (λ m. enumerate_from 0 heaps ++ (m, heap) ∷ []) zero_more)
      ∙ ap (filter keeps) (map_push (holding_of binaries) (enumerate_from 0 heaps) (length heaps, heap))
      ∙ filter-append keeps (map (holding_of binaries) (enumerate_from 0 heaps)) (holding_of binaries (length heaps, heap) ∷ [])

  -- one process more
  pub held-more : (binaries : List Binary) (before : List BinaryHeap) (heaps : List (List ℕ)) (lines : List Reference) (held : List Holding) (counts : Counts) (process bytes : ℕ)
      → held ≡ filter keeps (holdings binaries before) → process ≡ length before → HasCounted binaries heaps (numbers_referred lines) counts
      → counts.heap ≡ heap_lines binaries lines → length lines < 2 ^ 64
      → held ++ (if keeps (counted process bytes counts) then counted process bytes counts ∷ [] else [])
      ≡ filter keeps (holdings binaries (before ++ record { counted = bytes; references = lines } ∷ []))
  held-more binaries before heaps lines held counts process bytes so_far place had same few =
      let heap : BinaryHeap = record { counted = bytes; references = lines } in
      let is : counted process bytes counts ≡ holding_of binaries (length before, heap) = held-is binaries heaps lines counts process bytes had same few ∙ ap (λ n. holding_of binaries (n, heap)) place in
      ap (λ l. l ++ (if keeps (counted process bytes counts) then counted process bytes counts ∷ [] else [])) so_far
      ∙ ap (λ (h : Holding). filter keeps (holdings binaries before) ++ (if keeps h then h ∷ [] else [])) is
      ∙ sym (holdings-push binaries before heap)

-- each is one of so many processes
pub named-more : (keeps : Holding → Bool) (count process bytes : ℕ) (held : List Holding) (counts : Counts) → process < count → All (NamesProcess count) held
    → All (NamesProcess count) (held ++ (if keeps (counted process bytes counts) then counted process bytes counts ∷ [] else []))
named-more keeps count process bytes held counts inside named =
    elim (keeps (counted process bytes counts)) as (λ b. All (NamesProcess count) (held ++ (if b then counted process bytes counts ∷ [] else []))) [
      | true ↦ All-push (NamesProcess count) held (counted process bytes counts) named inside
      | false ↦ subst (All (NamesProcess count)) (sym (append-nil held)) named
    ]

-- a heap refers to no more binaries than the dump has bytes
pub few-lines-at : (dump : List ℕ) (index : Contents) (place : Option ℕ) → length (references_at dump index place) ≤ length dump
few-lines-at dump index None = omega (arith, few-references (enc_of index.version) [])
few-lines-at dump index (Some i) =
    let s = section_at index i in
    omega (arith, few-references (enc_of index.version) (between s.body s.end dump), length-take (s.end - s.body) (drop s.body dump), length-drop s.body dump)

-- the lines of one heap more
pub lines-more : {X Y : Type 0} (f : X → List Y) (xs : List X) (i : ℕ) (d : X) → i < length xs → flat_map f (take (i + 1) xs) ≡ flat_map f (take i xs) ++ f (get_or xs i d)
lines-more f xs i d inside = ap (flat_map f) (take_more xs i d inside) ∙ flat_map-append f (take i xs) (get_or xs i d ∷ []) ∙ ap (λ l. flat_map f (take i xs) ++ l) (append-nil (f (get_or xs i d)))
