use native.Mathlib.Omega.{arith}
use Rattle.text.specs.Text.{number}
use Rattle.text.specs.Tree.{tree}
use Rattle.access.specs.Shown.{shown}
use Rattle.listing.specs.Walking.{part}
use Rattle.print.proofs.Writing.{first, rest, then}
use Rattle.listing.proofs.Going.{going_start, going_end, turn-ready, turn-sound, turn-done, slots, none-opened, slots-good, sixteen-slots, slot-stands}
use Rattle.listing.proofs.package_tree.Goals as goal

pub bytes-requires : goal.bytes-requires
unfolding tree number
bytes-requires c = first _ _ c.requires

pub number-requires : goal.number-requires
unfolding tree number
number-requires c = first _ _ (rest _ _ c.bytes.ensures c.requires)

pub loop-number-init : goal.loop-number-init
unfolding tree number
loop-number-init c =
    going_start (part (shown c.args.tables.now) 0) (slots c.args.tables.now c.args.p) (rest _ _ c.number.ensures (rest _ _ c.bytes.ensures c.requires))

pub show-after-requires-clause-ready : goal.show-after-requires-clause-ready
show-after-requires-clause-ready c =
    turn-ready (shown c.args.tables.now) 0 (slot-stands c.args.tables.now c.args.p c.loop-number-test.true c.slot-c.ensures) c.loop-number.invariant (omega (arith, none-opened))

pub show-after-requires-clause-c_value : goal.show-after-requires-clause-c_value
show-after-requires-clause-c_value c =
    turn-sound (shown c.args.tables.now) 0 (slot-stands c.args.tables.now c.args.p c.loop-number-test.true c.slot-c.ensures) (slots-good c.args.tables.now c.args.p)

pub loop-number-preserved : goal.loop-number-preserved
loop-number-preserved c =
    turn-done (shown c.args.tables.now) 0 (slot-stands c.args.tables.now c.args.p c.loop-number-test.true c.slot-c.ensures) c.loop-number.invariant c.show-after.ensures

pub returns : goal.returns
unfolding tree number
returns c =
    let all = going_end (part (shown c.args.tables.now) 0) (slots c.args.tables.now c.args.p) c.loop-number.invariant (rw (sixteen-slots c.args.tables.now c.args.p) c.loop-number-test.false) in
    then _ _ c.requires c.bytes.ensures (then _ _ (rest _ _ c.bytes.ensures c.requires) c.number.ensures all.wrote)
