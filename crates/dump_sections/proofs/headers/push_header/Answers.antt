use Rattle.std.proofs.Common.{◌≡◌, length, ap, rules, arith, length-append}
use Rattle.dump_sections.specs.Inner.Headers.{headers_in}
use Rattle.dump_sections.proofs.Kept.{headers_in-grown, headers_in-push, AreWithin-more, AreWithin-push}
use Rattle.dump_sections.proofs.headers.push_header.Goals as goal

pub returns-in_err-push-clause-within : goal.returns-in_err-push-clause-within
returns-in_err-push-clause-within c =
    let pool = c.in_ok-extend_from_slice.ensures.items in
    let heads = c.in_err-push.ensures.items in
    rw (heads, pool) (AreWithin-more _ _ c.args.heads.now.items (omega (arith, length-append c.args.pool.now.items c.args.text.now)) c.requires)

pub returns-in_err-push-clause-kept : goal.returns-in_err-push-clause-kept
returns-in_err-push-clause-kept c =
    let pool = c.in_ok-extend_from_slice.ensures.items in
    let heads = c.in_err-push.ensures.items in
    let kept : headers_in c.extend_from_slice.new.self.items c.push.new.self.items ≡ headers_in c.args.pool.now.items c.args.heads.now.items =
    rw (heads, pool) (headers_in-grown c.args.pool.now.items c.args.text.now c.args.heads.now.items c.requires) in
    search (rules, kept)

pub returns-clause-within : goal.returns-clause-within
returns-clause-within c =
    let pool = c.in_ok-extend_from_slice.ensures.items in
    let heads = c.in_ok-push.ensures.items in
    let more = length-append c.args.pool.now.items c.args.text.now in
    rw (heads) (AreWithin-push _ c.args.heads.now.items _ (rw (pool) (AreWithin-more _ _ c.args.heads.now.items (omega (arith, more)) c.requires)) (omega (arith, more, ap length pool)) (omega (arith, more)))

pub returns-clause-pushed : goal.returns-clause-pushed
returns-clause-pushed c =
    let pool = c.in_ok-extend_from_slice.ensures.items in
    let heads = c.in_ok-push.ensures.items in
    rw (heads, pool) (headers_in-push c.args.pool.now.items c.args.text.now c.args.heads.now.items c.args.at c.args.body c.len-from.result c.len-upto.result c.requires (search rules) (search rules))
