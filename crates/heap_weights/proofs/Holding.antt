-- Who holds a cell when one part more is taken.
use Rattle.std.proofs.Common.{◌≡◌, ℕ, suc, ◌+◌, Bool, true, false, List, [], ◌∷◌, ◌++◌, length, take, get_or, ◌<◌, refl, sym, ◌∙◌, ap, arith, append_assoc}
use Rattle.std.proofs.lemmas.List.{append-nil, length-take-le}
use Rattle.std.proofs.Math.Seq.{take-suc}
use Rattle.cell_graphs.specs.Graphs.{Graph}
use Rattle.heap_weights.specs.declared.holders.Holder.TheVariants.{Nobody}
use Rattle.heap_weights.specs.Holders.{held_if, holder_among, holder_at}
use Rattle.heap_weights.specs.Parts.{holder_of, number_if, reached_at, reaching, reaching_from}
use Rattle.heap_weights.specs.Labels.{Labelling}
use Rattle.heap_weights.specs.Inner.Labels.{AreHeldBy}

-- the number of one part more, if that reaches the cell
reaching-more : (part : ℕ) (graph : Graph) (parts : List ℕ) (e : ℕ) (n : ℕ)
    → reaching_from part graph (parts ++ e ∷ []) n ≡ reaching_from part graph parts n ++ number_if (reached_at graph e n) (part + length parts)
reaching-more part graph [] e n =
    append-nil (number_if (reached_at graph e n) part) ∙ ap (number_if (reached_at graph e n)) (let same : part ≡ part + 0 = omega arith in same)
reaching-more part graph (first ∷ parts) e n =
    let head : List ℕ = number_if (reached_at graph first n) part in
    let last : ℕ → List ℕ = number_if (reached_at graph e n) in
    ap (λ more. head ++ more) (reaching-more (suc part) graph parts e n)
    ∙ sym (append_assoc head (reaching_from (suc part) graph parts n) (last (suc part + length parts)))
    ∙ ap (λ k. (head ++ reaching_from (suc part) graph parts n) ++ last k) (let same : suc part + length parts ≡ part + suc (length parts) = omega arith in same)

-- a part more among those that reach a cell
among-more : (numbers : List ℕ) (b : Bool) (part : ℕ) → holder_among (numbers ++ number_if b part) ≡ held_if b part (holder_among numbers)
among-more [] true part = refl
among-more [] false part = refl
among-more (first ∷ []) true part = refl
among-more (first ∷ []) false part = refl
among-more (first ∷ second ∷ more) true part = refl
among-more (first ∷ second ∷ more) false part = refl

pub holder_of-more : (graph : Graph) (parts : List ℕ) (e : ℕ) (n : ℕ)
    → holder_of graph (parts ++ e ∷ []) n ≡ held_if (reached_at graph e n) (length parts) (holder_of graph parts n)
holder_of-more graph parts e n =
    ap holder_among (reaching-more 0 graph parts e n ∙ ap (λ k. reaching graph parts n ++ number_if (reached_at graph e n) k) (let same : 0 + length parts ≡ length parts = omega arith in same))
    ∙ among-more (reaching graph parts n) (reached_at graph e n) (length parts)

-- no part holds a cell
pub AreHeldBy-none : (graph : Graph) (labels : Labelling) → ((n : ℕ) → holder_at labels.holders n ≡ Nobody) → AreHeldBy graph labels []
AreHeldBy-none graph labels nobody = nobody

-- one part more
pub AreHeldBy-more : (graph : Graph) (roots : List ℕ) (part d : ℕ) (old new : Labelling) → part < length roots → AreHeldBy graph old (take part roots)
    → ((n : ℕ) → holder_at new.holders n ≡ held_if (reached_at graph (get_or roots part d) n) part (holder_at old.holders n)) → AreHeldBy graph new (take (part + 1) roots)
AreHeldBy-more graph roots part d old new less held turned n =
    let root = get_or roots part d in
    let count : length (take part roots) ≡ part = length-take-le part roots (omega (arith, less)) in
    let next : take (part + 1) roots ≡ take part roots ++ root ∷ [] = ap (λ k. take k roots) (let same : part + 1 ≡ suc part = omega arith in same) ∙ take-suc roots part d less in
    turned n
    ∙ ap (held_if (reached_at graph root n) part) (held n)
    ∙ ap (λ k. held_if (reached_at graph root n) k (holder_of graph (take part roots) n)) (sym count)
    ∙ sym (holder_of-more graph (take part roots) root n)
    ∙ ap (λ rs. holder_of graph rs n) (sym next)
