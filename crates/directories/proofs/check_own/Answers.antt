use Rattle.std.proofs.Common.{sym, ◌∙◌}
use Rattle.directories.proofs.Deleting.{missing, plain, unable, maker-below, lost-own, kept, doomed}
use Rattle.directories.proofs.check_own.Goals as goal

pub returns-in_default : goal.returns-in_default
returns-in_default c = missing c.args.t.now c.args.d.now c.args.name.0 c.in_default.ensures

pub returns-then-not-is_distinguished : goal.returns-then-not-is_distinguished
returns-then-not-is_distinguished c =
    plain c.args.t.now c.args.d.now c.args.name.0 c.in-Some.position c.in-Some.ensures (sym c.is_distinguished.ensures ∙ c.if-not-is_distinguished.true)

pub returns-then-not-has_right : goal.returns-then-not-has_right
returns-then-not-has_right c =
    unable c.args.t.now c.args.d.now c.args.name.0 c.in-Some.position c.in-Some.ensures (sym c.is_distinguished.ensures ∙ c.if-not-is_distinguished.false) c.capability-own.result c.capability-own.ensures (sym c.has_right.ensures ∙ c.if-not-has_right.true)

pub find_place-requires : goal.find_place-requires
find_place-requires c =
    maker-below c.args.t.now c.args.d.now c.args.name.0 c.in-Some.position c.in-Some.ensures (sym c.is_distinguished.ensures ∙ c.if-not-is_distinguished.false) c.capability-own.result c.capability-own.ensures c.requires

pub returns-in_default-find_place : goal.returns-in_default-find_place
returns-in_default-find_place c =
    lost-own c.args.t.now c.args.d.now c.args.name.0 c.in-Some.position c.in-Some.ensures (sym c.is_distinguished.ensures ∙ c.if-not-is_distinguished.false) c.capability-own.result c.capability-own.ensures c.requires (sym c.has_right.ensures ∙ c.if-not-has_right.false) c.in_default-find_place.ensures

pub returns-then-occupied : goal.returns-then-occupied
returns-then-occupied c =
    kept c.args.t.now c.args.d.now c.args.name.0 c.in-Some.position c.in-Some.ensures (sym c.is_distinguished.ensures ∙ c.if-not-is_distinguished.false) c.capability-own.result c.capability-own.ensures c.requires (sym c.has_right.ensures ∙ c.if-not-has_right.false)
    c.in-Some-find_place.place c.in-Some-find_place.ensures.0 c.in-Some-find_place.ensures.1 (sym c.occupied.ensures ∙ c.if-occupied.true)

pub returns : goal.returns
returns c =
    doomed c.args.t.now c.args.d.now c.args.name.0 c.in-Some.position c.in-Some.ensures (sym c.is_distinguished.ensures ∙ c.if-not-is_distinguished.false) c.capability-own.result c.capability-own.ensures c.requires (sym c.has_right.ensures ∙ c.if-not-has_right.false)
    c.in-Some-find_place.place c.in-Some-find_place.ensures.0 c.in-Some-find_place.ensures.1 (sym c.occupied.ensures ∙ c.if-occupied.false)
