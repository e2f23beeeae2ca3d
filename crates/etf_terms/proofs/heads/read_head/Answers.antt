use Rattle.std.proofs.Common.{arith, rules, true, false}
use Rattle.etf_terms.specs.Heads.{Small, Int, Atom, Tuple, Chars, Linked, Bin, Pairs}
use Rattle.etf_terms.specs.Layouts.{end}
use Rattle.etf_terms.specs.Table.{is_tag, row}
use Rattle.etf_terms.specs.Inner.Parts.{head_of}
use Rattle.etf_terms.proofs.Joins.{any-joins, small_big-joins, large_big-joins, bits-joins, closure-joins, export-joins, float-joins, number4-joins, pid_with-joins, port120-joins, port_with-joins, ref_with-joins, row-joins, sized1-joins, sized2-joins, sized4-joins}
use Rattle.etf_terms.proofs.TagRows.{empty, Gives-row, no-row}
use Rattle.etf_terms.proofs.heads.read_head.Goals as goal

pub returns-in-empty : goal.returns-in-empty
returns-in-empty c = empty c.args.bytes.now (omega arith)

pub returns-in-70 : goal.returns-in-70
unfolding head_of is_tag row
returns-in-70 c = Gives-row c.args.bytes.now 70 c.float.result _ (omega arith) (search rules) (row-joins float-joins _) c.float.ensures

pub returns-in-77 : goal.returns-in-77
unfolding head_of is_tag row
returns-in-77 c = Gives-row c.args.bytes.now 77 c.bits.result _ (omega arith) (search rules) (row-joins bits-joins _) c.bits.ensures

pub returns-in-88 : goal.returns-in-88
unfolding head_of is_tag row
returns-in-88 c = Gives-row c.args.bytes.now 88 c.pid_with.result _ (omega arith) (search rules) (row-joins (pid_with-joins true) _) c.pid_with.ensures

pub returns-in-89 : goal.returns-in-89
unfolding head_of is_tag row
returns-in-89 c = Gives-row c.args.bytes.now 89 c.port_with.result _ (omega arith) (search rules) (row-joins (port_with-joins true) _) c.port_with.ensures

pub returns-in-90 : goal.returns-in-90
unfolding head_of is_tag row
returns-in-90 c = Gives-row c.args.bytes.now 90 c.ref_with.result _ (omega arith) (search rules) (row-joins (ref_with-joins true) _) c.ref_with.ensures

pub returns-in-97 : goal.returns-in-97
unfolding head_of is_tag row
returns-in-97 c = Gives-row c.args.bytes.now 97 c.small_int.result _ (omega arith) (search rules) (any-joins.join (λ b. end (Small b)) _) c.small_int.ensures

pub returns-in-98 : goal.returns-in-98
unfolding head_of is_tag row
returns-in-98 c = Gives-row c.args.bytes.now 98 c.int.result _ (omega arith) (search rules) (number4-joins.join (λ n. end (Int n)) _) c.int.ensures

pub returns-in-100 : goal.returns-in-100
unfolding head_of is_tag row
returns-in-100 c = Gives-row c.args.bytes.now 100 c.long_atom.result _ (omega arith) (search rules) (sized2-joins.join (λ name. end (Atom name)) _) c.long_atom.ensures

pub returns-in-102 : goal.returns-in-102
unfolding head_of is_tag row
returns-in-102 c = Gives-row c.args.bytes.now 102 c.port_with-in-102.result _ (omega arith) (search rules) (row-joins (port_with-joins false) _) c.port_with-in-102.ensures

pub returns-in-103 : goal.returns-in-103
unfolding head_of is_tag row
returns-in-103 c = Gives-row c.args.bytes.now 103 c.pid_with-in-103.result _ (omega arith) (search rules) (row-joins (pid_with-joins false) _) c.pid_with-in-103.ensures

pub returns-in-104 : goal.returns-in-104
unfolding head_of is_tag row
returns-in-104 c = Gives-row c.args.bytes.now 104 c.small_tuple.result _ (omega arith) (search rules) (any-joins.join (λ n. end (Tuple n)) _) c.small_tuple.ensures

pub returns-in-105 : goal.returns-in-105
unfolding head_of is_tag row
returns-in-105 c = Gives-row c.args.bytes.now 105 c.large_tuple.result _ (omega arith) (search rules) (number4-joins.join (λ n. end (Tuple n)) _) c.large_tuple.ensures

pub returns-in-107 : goal.returns-in-107
unfolding head_of is_tag row
returns-in-107 c = Gives-row c.args.bytes.now 107 c.chars.result _ (omega arith) (search rules) (sized2-joins.join (λ chars. end (Chars chars)) _) c.chars.ensures

pub returns-in-108 : goal.returns-in-108
unfolding head_of is_tag row
returns-in-108 c = Gives-row c.args.bytes.now 108 c.linked.result _ (omega arith) (search rules) (number4-joins.join (λ n. end (Linked n)) _) c.linked.ensures

pub returns-in-109 : goal.returns-in-109
unfolding head_of is_tag row
returns-in-109 c = Gives-row c.args.bytes.now 109 c.bin.result _ (omega arith) (search rules) (sized4-joins.join (λ bin. end (Bin bin)) _) c.bin.ensures

pub returns-in-110 : goal.returns-in-110
unfolding head_of is_tag row
returns-in-110 c = Gives-row c.args.bytes.now 110 c.small_big.result _ (omega arith) (search rules) (row-joins small_big-joins _) c.small_big.ensures

pub returns-in-111 : goal.returns-in-111
unfolding head_of is_tag row
returns-in-111 c = Gives-row c.args.bytes.now 111 c.large_big.result _ (omega arith) (search rules) (row-joins large_big-joins _) c.large_big.ensures

pub returns-in-112 : goal.returns-in-112
unfolding head_of is_tag row
returns-in-112 c = Gives-row c.args.bytes.now 112 c.closure.result _ (omega arith) (search rules) (row-joins closure-joins _) c.closure.ensures

pub returns-in-113 : goal.returns-in-113
unfolding head_of is_tag row
returns-in-113 c = Gives-row c.args.bytes.now 113 c.export.result _ (omega arith) (search rules) (row-joins export-joins _) c.export.ensures

pub returns-in-114 : goal.returns-in-114
unfolding head_of is_tag row
returns-in-114 c = Gives-row c.args.bytes.now 114 c.ref_with-in-114.result _ (omega arith) (search rules) (row-joins (ref_with-joins false) _) c.ref_with-in-114.ensures

pub returns-in-115 : goal.returns-in-115
unfolding head_of is_tag row
returns-in-115 c = Gives-row c.args.bytes.now 115 c.short_atom.result _ (omega arith) (search rules) (sized1-joins.join (λ name. end (Atom name)) _) c.short_atom.ensures

pub returns-in-116 : goal.returns-in-116
unfolding head_of is_tag row
returns-in-116 c = Gives-row c.args.bytes.now 116 c.pairs.result _ (omega arith) (search rules) (number4-joins.join (λ n. end (Pairs n)) _) c.pairs.ensures

pub returns-in-118 : goal.returns-in-118
unfolding head_of is_tag row
returns-in-118 c = Gives-row c.args.bytes.now 118 c.long_atom-in-118.result _ (omega arith) (search rules) (sized2-joins.join (λ name. end (Atom name)) _) c.long_atom-in-118.ensures

pub returns-in-119 : goal.returns-in-119
unfolding head_of is_tag row
returns-in-119 c = Gives-row c.args.bytes.now 119 c.short_atom-in-119.result _ (omega arith) (search rules) (sized1-joins.join (λ name. end (Atom name)) _) c.short_atom-in-119.ensures

pub returns-in-120 : goal.returns-in-120
unfolding head_of is_tag row
returns-in-120 c = Gives-row c.args.bytes.now 120 c.port120.result _ (omega arith) (search rules) (row-joins port120-joins _) c.port120.ensures

pub returns-in-len1-up : goal.returns-in-len1-up
unfolding is_tag
returns-in-len1-up c = no-row c.args.bytes.now (omega arith) (search rules)
