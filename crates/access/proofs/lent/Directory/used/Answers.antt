use Rattle.std.proofs.Common.{◌<◌, length, sym, refl, ◌∙◌, arith}
use lib.Seq.{take_all}
use Rattle.things.specs.Lists.{how_many}
use Rattle.rules.specs.Machine.{no_entry, is_used}
use Rattle.access.specs.Shown.{listed_in}
use Rattle.access.proofs.Searching.{entries-long, count-hit, count-miss}
use Rattle.access.proofs.lent.Directory.used.Goals as goal
use Rattle.access.proofs.lent.Directory.used.Goals.{then-is_used, else-is_used}

pub loop-number-init : goal.loop-number-init
unfolding how_many
loop-number-init c = (omega arith, refl)

pub loop-number-preserved : goal.loop-number-preserved
loop-number-preserved c =
    let d = c.args.self.now in
    let xs = listed_in d in
    let l : c.loop-number.number < length xs = rw (entries-long d.numbers.now d.lent d.at.maker d.at.maker_in_range d.at.number d.is_directory) c.loop-number-test.true in
    elim c.if-is_used.branch [
      | then-is_used w ↦ (omega arith, count-hit is_used no_entry xs c.loop-number.number c.loop-number.n c.if-is_used.n l c.loop-number.invariant.1 (sym c.is_used.ensures ∙ w.if-is_used.true) w.n-is)
      | else-is_used w ↦ (omega arith, count-miss is_used no_entry xs c.loop-number.number c.loop-number.n c.if-is_used.n l c.loop-number.invariant.1 (sym c.is_used.ensures ∙ w.if-is_used.false) w.n-is)
    ]

pub returns : goal.returns
unfolding Rattle.rules.specs.Machine.used_entries
returns c =
    let d = c.args.self.now in
    let xs = listed_in d in
    c.loop-number.invariant.1 ∙ rw (take_all c.loop-number.number xs (rw (entries-long d.numbers.now d.lent d.at.maker d.at.maker_in_range d.at.number d.is_directory) c.loop-number-test.false))
