use Rattle.std.proofs.Common.{◌≡◌, ℕ, List, ◌++◌, Ok, Err, Result, subst, if◌then◌else◌}
use Rattle.std.specs.Prelude.{OnOk}
use Rattle.std.specs.Result.{is_ok}
use Rattle.tuple_fronts.specs.CellTexts.{inner_text}
use Rattle.tuple_fronts.proofs.SetFacts.{found-image}
use Rattle.tuple_fronts.proofs.cell_texts.push_inner.Goals as goal

-- what was appended if the call went well
appended : {X Y : Type 0} (r : Result X Y) (new whole before : List ℕ) → new ≡ (if is_ok r then whole else before) → OnOk r (new ≡ whole)
appended (Ok x) new whole before is = is
appended (Err y) new whole before is = tt

pub returns-in-Some : goal.returns-in-Some
returns-in-Some c =
    let f = inner_text c.args.pids c.args.skeleton.now c.args.tuples.now in
    subst (λ (l : List ℕ). OnOk c.extend_from_slice.result (c.extend_from_slice.new.self.items ≡ c.args.text.now.items ++ l))
    (found-image f c.args.tuples.now.cells c.args.cell c.in-Some.place c.args.inner.now c.get.result.now c.in-Some.ensures.value c.requires.inner c.get.ensures)
    (appended c.extend_from_slice.result c.extend_from_slice.new.self.items (c.args.text.now.items ++ c.get.result.now) c.args.text.now.items c.extend_from_slice.ensures.items)
