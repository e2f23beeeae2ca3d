use Rattle.std.proofs.Common.{refl, sym, ◌∙◌, subst, drop, ◌+◌}
use Rattle.std.specs.Prelude.{slice_index}
use Rattle.tuple_fronts.specs.Inner.Hearing.{KeepsNext}
use Rattle.tuple_fronts.proofs.RunFacts.{cells-first, cells-none, taken-all, taken-more, taken-none, taken-stop, HasTaken}
use Rattle.tuple_fronts.proofs.runs.keep_run.Goals as goal

pub loop-rest-init : goal.loop-rest-init
loop-rest-init c = taken-none c.args.skeleton.now c.args.enc c.args.kept.now c.args.at c.args.run.now c.args.cells.now c.requires.cells

pub returns-in_default-clause-left : goal.returns-in_default-clause-left
returns-in_default-clause-left c =
    let s = c.args.skeleton.now in
    let left = c.loop-rest.left.now in
    let rest = c.loop-rest.rest.now in
    let line = c.loop-rest.line in
    let cell = slice_index left 0 in
    let is = cells-first left c.loop-rest-test.ensures in
    let stop = subst (KeepsNext s c.args.enc cell line rest c.loop-rest.kept c.keep_next.new.kept) c.in_default.is c.in_ok-size.ensures in
    is
    ∙ (taken-stop s c.args.enc c.args.kept.now c.loop-rest.kept c.keep_next.new.kept c.args.at c.args.run.now c.args.cells.now line rest cell (drop 1 left)
    (subst (HasTaken s c.args.enc c.args.kept.now c.loop-rest.kept c.args.at c.args.run.now c.args.cells.now line rest) is c.loop-rest.invariant) stop).left_is

pub returns-in_default-clause-keeps : goal.returns-in_default-clause-keeps
returns-in_default-clause-keeps c =
    let s = c.args.skeleton.now in
    let left = c.loop-rest.left.now in
    let rest = c.loop-rest.rest.now in
    let line = c.loop-rest.line in
    let cell = slice_index left 0 in
    let is = cells-first left c.loop-rest-test.ensures in
    let stop = subst (KeepsNext s c.args.enc cell line rest c.loop-rest.kept c.keep_next.new.kept) c.in_default.is c.in_ok-size.ensures in
    (taken-stop s c.args.enc c.args.kept.now c.loop-rest.kept c.keep_next.new.kept c.args.at c.args.run.now c.args.cells.now line rest cell (drop 1 left)
    (subst (HasTaken s c.args.enc c.args.kept.now c.loop-rest.kept c.args.at c.args.run.now c.args.cells.now line rest) is c.loop-rest.invariant) stop).keeps

pub loop-rest-preserved : goal.loop-rest-preserved
loop-rest-preserved c =
    let s = c.args.skeleton.now in
    let left = c.loop-rest.left.now in
    let rest = c.loop-rest.rest.now in
    let line = c.loop-rest.line in
    let cell = slice_index left 0 in
    let size = c.in-Some.size in
    let is = cells-first left c.loop-rest-test.ensures in
    let next = subst (KeepsNext s c.args.enc cell line rest c.loop-rest.kept c.keep_next.new.kept) c.in-Some.is c.in_ok-size.ensures in
    let later =
    taken-more s c.args.enc c.args.kept.now c.loop-rest.kept c.keep_next.new.kept c.args.at c.args.run.now c.args.cells.now line rest cell (drop 1 left) size (line + size) c.bytes_from-rest.result.now
    (subst (HasTaken s c.args.enc c.args.kept.now c.loop-rest.kept c.args.at c.args.run.now c.args.cells.now line rest) is c.loop-rest.invariant) next refl c.bytes_from-rest.ensures in
    subst (HasTaken s c.args.enc c.args.kept.now c.keep_next.new.kept c.args.at c.args.run.now c.args.cells.now (line + size) c.bytes_from-rest.result.now) (sym c.cells_behind-left.ensures) later

pub returns-clause-left : goal.returns-clause-left
returns-clause-left c =
    let none = cells-none c.loop-rest.left.now c.loop-rest-test.ensures in
    (taken-all c.args.skeleton.now c.args.enc c.args.kept.now c.loop-rest.kept c.args.at c.args.run.now c.args.cells.now c.loop-rest.line c.loop-rest.rest.now c.loop-rest.left.now none
    c.loop-rest.invariant).left_is

pub returns-clause-keeps : goal.returns-clause-keeps
returns-clause-keeps c =
    let none = cells-none c.loop-rest.left.now c.loop-rest-test.ensures in
    (taken-all c.args.skeleton.now c.args.enc c.args.kept.now c.loop-rest.kept c.args.at c.args.run.now c.args.cells.now c.loop-rest.line c.loop-rest.rest.now c.loop-rest.left.now none
    c.loop-rest.invariant).keeps
