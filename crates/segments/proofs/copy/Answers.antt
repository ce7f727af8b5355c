use Rattle.segments.proofs.Copying.{copy_early, copy_targetless, copy_beyond, copy_stored}
use Rattle.segments.proofs.copy.Goals as goal

pub returns-in_err-source : goal.returns-in_err-source
returns-in_err-source c =
    copy_early c.args.t.now c.requires c.args.p c.args.a.number c.args.from.0 c.args.c.number c.args.to.0 c.args.count _ _
    c.in_err-source.ensures c.from_residual.ensures.1

pub returns-in_err-target : goal.returns-in_err-target
returns-in_err-target c =
    let s = c.in_ok-source.ensures in
    copy_targetless c.args.t.now c.requires c.args.p c.args.a.number c.args.from.0 c.args.c.number c.args.to.0 c.args.count c.in_ok-source.source s.0 s.1 _ _
    c.in_err-target.ensures c.from_residual-in_err-target.ensures.1

pub returns-then-beyond : goal.returns-then-beyond
returns-then-beyond c =
    let s = c.in_ok-source.ensures in
    let u = c.in_ok-target.ensures in
    copy_beyond c.args.t.now c.requires c.args.p c.args.a.number c.args.from.0 c.args.c.number c.args.to.0 c.args.count c.in_ok-source.source s.0 s.1 c.in_ok-target.target u.0 u.1 _ _
    c.beyond.ensures c.beyond-2.ensures c.if-beyond.true

pub returns : goal.returns
returns c =
    let s = c.in_ok-source.ensures in
    let u = c.in_ok-target.ensures in
    copy_stored c.args.t.now c.requires c.args.p c.args.a.number c.args.from.0 c.args.c.number c.args.to.0 c.args.count c.in_ok-source.source s.0 s.1 c.in_ok-target.target u.0 u.1 _ _
    c.beyond.ensures c.beyond-2.ensures _ c.if-beyond.false c.copy_words.ensures
