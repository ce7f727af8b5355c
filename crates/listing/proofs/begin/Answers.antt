use mathlib.Core.Path.{refl, sym, ◌∙◌}
use Rattle.access.specs.Shown.{shown}
use Rattle.print.proofs.Writing.{roomed, followed-none}
use Rattle.listing.proofs.Lines.{null-line, null-shut, home, gone-line, gone-shut, living-line, living-opens, opened-or-not}
use Rattle.listing.proofs.begin.Goals as goal

pub returns-then-is_null-clause-wrote : goal.returns-then-is_null-clause-wrote
returns-then-is_null-clause-wrote c =
    rw (null-line (shown c.args.tables.now) c.args.depth c.args.c c.args.marks.now (sym c.is_null.ensures ∙ c.if-is_null.true)) (sym (followed-none c.args.text.now))

pub returns-then-is_null-clause-opens : goal.returns-then-is_null-clause-opens
returns-then-is_null-clause-opens c =
    null-shut (shown c.args.tables.now) c.args.depth c.args.c c.args.marks.now (sym c.is_null.ensures ∙ c.if-is_null.true)

pub find_place-requires : goal.find_place-requires
find_place-requires c = home c.args.tables.now c.args.c c.requires.c_value (sym c.is_null.ensures ∙ c.if-is_null.false)

pub shown_line-requires : goal.shown_line-requires
shown_line-requires c =
    roomed (sym (gone-line c.args.tables.now c.args.c c.requires.c_value (sym c.is_null.ensures ∙ c.if-is_null.false) c.args.depth c.args.marks.now c.in_default.ensures)) c.requires.room

pub returns-in_default-clause-wrote : goal.returns-in_default-clause-wrote
returns-in_default-clause-wrote c =
    rw (gone-line c.args.tables.now c.args.c c.requires.c_value (sym c.is_null.ensures ∙ c.if-is_null.false) c.args.depth c.args.marks.now c.in_default.ensures) c.shown_line.ensures

pub returns-in_default-clause-opens : goal.returns-in_default-clause-opens
returns-in_default-clause-opens c =
    gone-shut c.args.tables.now c.args.c c.requires.c_value (sym c.is_null.ensures ∙ c.if-is_null.false) c.args.depth c.args.marks.now c.in_default.ensures

pub shown_line-requires-2 : goal.shown_line-requires-2
shown_line-requires-2 c =
    let s = c.sign_of-sign.ensures ∙ rw c.number_of.ensures refl in
    roomed (sym (living-line (shown c.args.tables.now) c.args.c c.in-Some.at c.in-Some.ensures c.args.depth c.args.marks.now (sym c.is_null.ensures ∙ c.if-is_null.false) c.kind-kind.ensures s)) c.requires.room

pub returns-clause-wrote : goal.returns-clause-wrote
returns-clause-wrote c =
    let s = c.sign_of-sign.ensures ∙ rw c.number_of.ensures refl in
    let living = sym c.is_null.ensures ∙ c.if-is_null.false in
    rw (living-line (shown c.args.tables.now) c.args.c c.in-Some.at c.in-Some.ensures c.args.depth c.args.marks.now living c.kind-kind.ensures s) c.shown_line-2.ensures

pub returns-clause-opens : goal.returns-clause-opens
returns-clause-opens c =
    let M = shown c.args.tables.now in
    let s = c.sign_of-sign.ensures ∙ rw c.number_of.ensures refl in
    let e = living-opens M c.args.c c.in-Some.at c.in-Some.ensures c.args.depth c.args.marks.now (sym c.is_null.ensures ∙ c.if-is_null.false) c.kind-kind.ensures s in
    opened-or-not M c.args.c c.args.marks.now c.in-Some.at c.in-Some.ensures (e ∙ sym c.opens.ensures) c.then_some.ensures
