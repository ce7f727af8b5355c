use mathlib.Core.Path.{refl}
use Rattle.print.proofs.Lines.{tree-numbers}
use Rattle.print.proofs.Writing.{roomed, first, rest, then}
use Rattle.print.proofs.Text.tree_line.Goals as goal

pub numbers-requires : goal.numbers-requires
numbers-requires c =
    let line = tree-numbers c.args.depth c.args.c c.args.kind c.args.sign c.into.ensures c.into-2.ensures c.into-3.ensures c.into-4.ensures refl in
    first _ _ (roomed line c.requires)

pub bytes-requires : goal.bytes-requires
bytes-requires c =
    let line = tree-numbers c.args.depth c.args.c c.args.kind c.args.sign c.into.ensures c.into-2.ensures c.into-3.ensures c.into-4.ensures c.into-5.ensures in
    rest _ _ c.numbers.ensures (roomed line c.requires)

pub returns : goal.returns
returns c =
    let line = tree-numbers c.args.depth c.args.c c.args.kind c.args.sign c.into.ensures c.into-2.ensures c.into-3.ensures c.into-4.ensures c.into-5.ensures in
    rw line at (then _ _ (roomed line c.requires) c.numbers.ensures c.bytes.ensures)
