use borrow.Author.Rules.{rules}
use Rattle.std.proofs.Common.{sym, ◌∙◌, arith}
use Rattle.access.specs.Shown.{shown}
use Rattle.listing.proofs.Lines.{a-directory, else-extended}
use Rattle.listing.proofs.Going.{line_first, listed-shut, ready-opened, listed-opened, turn-sound, turn-ready, turn-done, opened-start, opened-end, held-sound, sixteen-held, entry-stands, four-held, inner-stands}
use Rattle.listing.proofs.+openers.Goals as goal

pub show-begin-requires-clause-room : goal.show-begin-requires-clause-room
show-begin-requires-clause-room t c = line_first _ _ _ c.requires.ready

pub show-returns-in_default : goal.show-returns-in_default
show-returns-in_default t c = listed-shut _ _ _ c.requires.ready c.in_default.ensures.opens c.begin.ensures.wrote

pub show-open_directory-requires : goal.show-open_directory-requires
show-open_directory-requires t c =
    let M = shown c.args.tables.now in
    let e = c.in-Some.ensures.opens in
    let r = ready-opened M c.args.depth c.args.c c.requires.ready c.in-Some.at (search rules) e c.begin.ensures.wrote c.mark-marked.ensures in
    (omega (arith, r.0, c.decreases), (r.1, a-directory M c.args.c c.in-Some.at (e.1, e.2) c.args.marks e.0 (sym c.is_kind.ensures ∙ c.if-is_kind.true)))

pub show-open_extended-requires : goal.show-open_extended-requires
show-open_extended-requires t c =
    let M = shown c.args.tables.now in
    let e = c.in-Some.ensures.opens in
    let r = ready-opened M c.args.depth c.args.c c.requires.ready c.in-Some.at (search rules) e c.begin.ensures.wrote c.mark-marked.ensures in
    (omega (arith, r.0, c.decreases), (r.1, else-extended M c.args.c c.in-Some.at (e.1, e.2) c.args.marks e.0 (sym c.is_kind.ensures ∙ c.if-is_kind.false)))

pub show-returns-then-is_kind : goal.show-returns-then-is_kind
show-returns-then-is_kind t c =
    listed-opened (shown c.args.tables.now) c.args.depth c.args.c c.requires.ready c.in-Some.at (search rules) c.in-Some.ensures.opens c.begin.ensures.wrote c.mark-marked.ensures c.open_directory.ensures

pub show-returns-else-is_kind : goal.show-returns-else-is_kind
show-returns-else-is_kind t c =
    listed-opened (shown c.args.tables.now) c.args.depth c.args.c c.requires.ready c.in-Some.at (search rules) c.in-Some.ensures.opens c.begin.ensures.wrote c.mark-marked.ensures c.open_extended.ensures

pub open_directory-loop-number-init : goal.open_directory-loop-number-init
open_directory-loop-number-init t c = opened-start _ _ _ c.requires.ready

pub open_directory-show-after-requires : goal.open_directory-show-after-requires
open_directory-show-after-requires t c =
    let T = c.args.tables.now in
    let d = c.directory-directory.ensures in
    let g = c.loop-number.invariant in
    let a = entry-stands T c.args.at c.requires.of c.directory-directory.result d.0 d.1 c.loop-number-test.true c.entry_shown-c.ensures in
    (omega (arith, g.fewer, c.decreases), (turn-ready (shown T) c.args.depth a g c.requires.ready.deep, turn-sound (shown T) c.args.depth a (held-sound T c.args.at)))

pub open_directory-loop-number-preserved : goal.open_directory-loop-number-preserved
open_directory-loop-number-preserved t c =
    let d = c.directory-directory.ensures in
    turn-done (shown c.args.tables.now) c.args.depth
    (entry-stands c.args.tables.now c.args.at c.requires.of c.directory-directory.result d.0 d.1 c.loop-number-test.true c.entry_shown-c.ensures)
    c.loop-number.invariant c.show-after.ensures

pub open_directory-returns : goal.open_directory-returns
open_directory-returns t c =
    opened-end _ _ _ c.requires.ready c.loop-number.invariant (rw (sixteen-held c.args.tables.now c.args.at c.requires.of) c.loop-number-test.false)

pub open_extended-loop-number-init : goal.open_extended-loop-number-init
open_extended-loop-number-init t c = opened-start _ _ _ c.requires.ready

pub open_extended-show-after-requires : goal.open_extended-show-after-requires
open_extended-show-after-requires t c =
    let T = c.args.tables.now in
    let g = c.loop-number.invariant in
    let a = inner-stands T c.args.at c.requires.of c.loop-number-test.true c.inner-c.ensures in
    (omega (arith, g.fewer, c.decreases), (turn-ready (shown T) c.args.depth a g c.requires.ready.deep, turn-sound (shown T) c.args.depth a (held-sound T c.args.at)))

pub open_extended-loop-number-preserved : goal.open_extended-loop-number-preserved
open_extended-loop-number-preserved t c =
    turn-done (shown c.args.tables.now) c.args.depth
    (inner-stands c.args.tables.now c.args.at c.requires.of c.loop-number-test.true c.inner-c.ensures)
    c.loop-number.invariant c.show-after.ensures

pub open_extended-returns : goal.open_extended-returns
open_extended-returns t c =
    opened-end _ _ _ c.requires.ready c.loop-number.invariant (rw (four-held c.args.tables.now c.args.at c.requires.of) c.loop-number-test.false)
