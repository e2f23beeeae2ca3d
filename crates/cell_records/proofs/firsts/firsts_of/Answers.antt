use Rattle.std.proofs.Common.{◌≡◌, ℕ, zero, suc, ◌+◌, ◌<◌, Bool, true, false, length, get_or, map, set, refl, sym, ◌∙◌, ap, subst, arith, Vec, Global}
use Rattle.std.specs.Prelude.{replicate}
use Rattle.std.proofs.lemmas.List.{get_or-map, length-map}
use Rattle.cell_records.proofs.FirstFacts.{AreMarked, begins-pair, marked-none, marked-more, marked-same, marked-all}
use Rattle.cell_records.proofs.OrderFacts.{numbers_of, order-of}
use Rattle.cell_records.proofs.firsts.firsts_of.Goals as goal
use Rattle.cell_records.proofs.firsts.firsts_of.Goals.{then-begins_address, else-begins_address}

none-true : (n k : ℕ) → get_or (replicate n false) k false ≡ false
none-true zero k = refl
none-true (suc n) zero = refl
none-true (suc n) (suc k) = none-true n k

pub loop-place-init : goal.loop-place-init
loop-place-init g c =
    let is = c.in_ok-firsts.ensures.items_if_clones_equal (λ y e. e) in
    marked-none (map g.T.Located.address c.args.cells.now) (numbers_of c.args.ranks) c.in_ok-firsts.firsts.items
    (sym c.in_ok-firsts.firsts.ok.0 ∙ c.in_ok-firsts.ensures.len ∙ sym (length-map c.args.cells.now g.T.Located.address))
    (λ n. ap (λ l. get_or l n false) is ∙ none-true (length c.args.cells.now) n)

pub index_mut-requires : goal.index_mut-requires
index_mut-requires g c =
    let pair = c.requires.pairs_are.each c.loop-place.place (0, 0) (omega arith) in
    let within = pair.within in
    let number = ap (λ (p : ℕ × ℕ). p.1) c.get.ensures in
    omega (arith, within, number, c.loop-place.invariant.count, c.loop-place.firsts.ok.0)

pub loop-place-preserved : goal.loop-place-preserved
loop-place-preserved g c =
    let xs = map g.T.Located.address c.args.cells.now in
    let pairs = c.args.ranks in
    let place = c.loop-place.place in
    let firsts = c.loop-place.firsts.items in
    let begins = begins-pair xs pairs place c.requires (omega arith) ∙ sym c.begins_address.ensures in
    let listed : place < length (numbers_of pairs) = omega (arith, length-map pairs (λ (p : ℕ × ℕ). p.1)) in
    elim c.if-begins_address.branch [
      | then-begins_address w ↦
          let number = get_or-map (λ (p : ℕ × ℕ). p.1) pairs place (0, 0) 0 (omega arith) ∙ sym (ap (λ (p : ℕ × ℕ). p.1) w.get.ensures) in
          marked-more xs (numbers_of pairs) firsts c.if-begins_address.firsts.items place (omega (arith, c.requires.few)) (order-of xs pairs c.requires) listed c.loop-place.invariant
          (begins ∙ w.if-begins_address.true) (ap (λ (v : Vec Bool Global). v.items) w.firsts-is ∙ ap (λ n. set firsts n true) (sym number))
      | else-begins_address w ↦ subst (λ l. AreMarked xs (numbers_of pairs) l (place + 1)) (sym (ap (λ (v : Vec Bool Global). v.items) w.firsts-is))
          (marked-same xs (numbers_of pairs) firsts place c.loop-place.invariant (begins ∙ w.if-begins_address.false))
    ]

pub returns : goal.returns
returns g c =
    let xs = map g.T.Located.address c.args.cells.now in
    let pairs = c.args.ranks in
    let firsts = c.loop-place.firsts.items in
    let all : c.loop-place.place ≡ length (numbers_of pairs) = omega (arith, length-map pairs (λ (p : ℕ × ℕ). p.1)) in
    marked-all xs (numbers_of pairs) firsts (order-of xs pairs c.requires) (subst (AreMarked xs (numbers_of pairs) firsts) all c.loop-place.invariant)
