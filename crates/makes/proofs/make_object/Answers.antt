use Rattle.makes.proofs.Answered.{object_early, object_typeless, object_roomless, object_stored}
use Rattle.makes.proofs.make_object.Goals as goal

pub returns-in_err-home : goal.returns-in_err-home
returns-in_err-home c =
    object_early c.args.t.now c.requires c.args.p c.args.a.number c.args.order c.args.c.number _ _ c.in_err-home.ensures c.from_residual.ensures.1

pub returns-in_err-check_slot : goal.returns-in_err-check_slot
returns-in_err-check_slot c =
    let d = c.in_ok-home.ensures in
    object_typeless c.args.t.now c.requires c.args.p c.args.a.number c.args.order c.in_ok-home.home d.0 d.1.0 d.1.1 c.args.c.number _ _
    c.in_err-check_slot.ensures c.from_residual-in_err-check_slot.ensures.1

pub returns-in_err-room : goal.returns-in_err-room
returns-in_err-room c =
    let d = c.in_ok-home.ensures in
    object_roomless c.args.t.now c.requires c.args.p c.args.a.number c.args.order c.in_ok-home.home d.0 d.1.0 d.1.1 c.args.c.number c.in_ok-check_slot.ensures.0 _ _
    c.in_err-room.ensures c.from_residual-in_err-room.ensures.1

pub returns : goal.returns
returns c =
    let d = c.in_ok-home.ensures in
    object_stored c.args.t.now c.requires c.args.p c.args.a.number c.args.order c.in_ok-home.home d.0 d.1.0 d.1.1 c.args.c.number c.in_ok-check_slot.ensures.0
    c.in_ok-room.room _ _ c.in_ok-room.ensures.0 c.in_ok-room.ensures.1 c.args.order.named (let fits = c.well_formed in search) c.slot.ensures c.put_new.ensures
