-- One turn of the walk, and its end.
use Rattle.std.proofs.Common.{◌≡◌, ℕ, ◌↔◌, [], ◌∷◌, length, true, ◌∙◌, ap, inl}
use Rattle.std.proofs.lemmas.List.{length-map}
use Rattle.cell_graphs.specs.Graphs.{Graph, Leads}
use Rattle.cell_graphs.specs.Reached.{IsIn, Reached}
use Rattle.cell_graphs.specs.Frontiers.{IsLooked, IsSettled}
use Rattle.cell_graphs.specs.Laws.Spreading.{Spreads, reached-end, settled-end, spreads-first, spreads-next}
use Rattle.heap_weights.specs.Holders.{holder_at}
use Rattle.heap_weights.specs.Labels.{Labelling, Takes, Walks, frontier, is_stop, is_stopped, marks_of}
use Rattle.heap_weights.proofs.Taking.{Walks-none, Walks-then}
use Rattle.heap_weights.proofs.Turning.{marked-stop}

-- what the loop keeps
pub record Goes (graph : Graph) (before now : Labelling) : Type 0 where
  pub spreads : Spreads graph (frontier before) (frontier now)
  pub walks : Walks before now
  pub size : length now.holders ≡ length graph

pub goes-first : (graph : Graph) (labels : Labelling) → length labels.holders ≡ length graph → IsLooked graph (frontier labels) → Goes graph labels labels
goes-first graph labels size looked = record {
  spreads = spreads-first graph (frontier labels) (length-map labels.holders (is_stop labels.part) ∙ size) looked;
  walks = Walks-none labels;
  size = size;
}

-- a cell is taken off the list
left-marks : (now left : Labelling) → left.holders ≡ now.holders → left.part ≡ now.part → (frontier left).marks ≡ (frontier now).marks
left-marks now left same part = ap (marks_of left.part) same ∙ ap (λ p. marks_of p now.holders) part

left-walks : (now left : Labelling) → left.holders ≡ now.holders → left.part ≡ now.part → left.reserved ≡ now.reserved → Walks now left
left-walks now left same part room = record {
  part = part;
  reserved = room;
  turned = λ n. inl (ap (λ holders. holder_at holders n) same);
}

pub goes-next : (graph : Graph) (before now left after : Labelling) (m : ℕ) → Goes graph before now → left.holders ≡ now.holders → left.part ≡ now.part → left.reserved ≡ now.reserved
    → now.waiting ≡ m ∷ left.waiting → is_stopped now m ≡ true → Takes left after (Leads graph m) → Goes graph before after
goes-next graph before now left after m goes same part room popped stopped takes = record {
  spreads =
      spreads-next graph (frontier before) (frontier now) (frontier left) (frontier after) m goes.spreads (left-marks now left same part) room popped
      (marked-stop now.part now.holders m ∙ stopped) takes.adds;
  walks = Walks-then before now after goes.walks (Walks-then now left after (left-walks now left same part room) takes.walks);
  size = takes.size ∙ ap length same ∙ goes.size;
}

module _ (graph : Graph) (before now left : Labelling) (goes : Goes graph before now) (same : left.holders ≡ now.holders) (part : left.part ≡ now.part) where
  pub walks-end : left.reserved ≡ now.reserved → Walks before left
  walks-end room = Walks-then before now left goes.walks (left-walks now left same part room)

  pub settled-last : before.reserved ≡ length graph → now.waiting ≡ [] → left.reserved ≡ now.reserved → left.waiting ≡ [] → IsSettled graph (frontier left)
  settled-last exact empty room none =
      settled-end graph (frontier before) (frontier now) (frontier left) goes.spreads exact empty (left-marks now left same part) room none

  pub reached-last : now.waiting ≡ [] → (n : ℕ) → IsIn (frontier left).marks n ↔ Reached graph (IsIn (frontier before).marks) n
  reached-last empty = reached-end graph (frontier before) (frontier now) (frontier left) goes.spreads empty (left-marks now left same part)
