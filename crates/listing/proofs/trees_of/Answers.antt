use borrow.Author.Rules.{rules}
use Rattle.std.proofs.Common.{◌≤◌, ◌<◌, length}
use Rattle.text.specs.Tree.{tree, trees}
use Rattle.access.specs.Shown.{shown}
use Rattle.listing.specs.Walking.{trees_size}
use Rattle.print.proofs.Writing.{wrote, blank-room, left-start, sofar-room, sofar-more, sofar-end}
use Rattle.listing.proofs.Bound.{eight, eight-long, eight-at, trees-room}
use Rattle.listing.proofs.trees_of.Goals as goal

pub loop-number-init : goal.loop-number-init
unfolding trees
loop-number-init c =
    let t = c.args.tables.now in
    let long : trees_size ≤ length c.args.out.now = search rules in
    left-start (blank-room _ c.new-text.ensures (trees-room _ t.lent long))

pub package_tree-requires : goal.package_tree-requires
package_tree-requires c =
    let n = c.loop-number.number in
    let below : n < length eight = rw eight-long c.loop-number-test.true in
    rw (eight-at n c.loop-number-test.true) at (sofar-room (tree (shown c.args.tables.now)) eight 0 n c.loop-number.invariant below)

pub loop-number-preserved : goal.loop-number-preserved
loop-number-preserved c =
    let n = c.loop-number.number in
    let below : n < length eight = rw eight-long c.loop-number-test.true in
    sofar-more (tree (shown c.args.tables.now)) eight 0 n c.loop-number.invariant below (rw (eight-at n c.loop-number-test.true) c.package_tree.ensures)

pub returns : goal.returns
unfolding trees
returns c =
    let t = c.args.tables.now in
    let long : trees_size ≤ length c.args.out.now = search rules in
    wrote c.new-text.ensures (trees-room _ t.lent long) (sofar-end (tree (shown t)) eight 0 c.loop-number.number c.loop-number.invariant (rw eight-long c.loop-number-test.false)) c.len.ensures
