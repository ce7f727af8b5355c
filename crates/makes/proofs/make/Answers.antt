use Rattle.makes.proofs.Answered.{make_early, make_roomless, make_stored}
use Rattle.makes.proofs.make.Goals as goal

pub returns-in_err-directory : goal.returns-in_err-directory
returns-in_err-directory c =
    make_early c.args.t.now c.requires.lent c.args.p c.args.a.number c.args.order _ _ _ c.in_err-directory.ensures c.from_residual.ensures.1

pub returns-in_err-room : goal.returns-in_err-room
returns-in_err-room c =
    let d = c.in_ok-directory.ensures in
    make_roomless c.args.t.now c.requires.lent c.args.p c.args.a.number c.args.order c.in_ok-directory.directory d.0 d.1.0 d.1.1 _ _ _
    c.in_err-room.ensures c.from_residual-in_err-room.ensures.1

pub returns : goal.returns
returns c =
    let d = c.in_ok-directory.ensures in
    make_stored c.args.t.now c.requires.lent c.args.p c.args.a.number c.args.order c.in_ok-directory.directory d.0 d.1.0 d.1.1 c.args.kind c.in_ok-room.room _ _
    c.in_ok-room.ensures.0 c.in_ok-room.ensures.1 c.args.order.named (let fits = c.well_formed in search) c.requires.plain c.recorded.ensures c.put_new.ensures
