use Rattle.std.proofs.Common.{ap, ◌∙◌}
use Rattle.calls.specs.ByNumber.{deed_number}
use Rattle.calls.proofs.ByRow.{good-at, deed-1, deed-2, deed-4, deed-5, deed-6, deed-7, deed-8, deed-9, deed-10, deed-11, deed-12, deed-13, deed-14, deed-15, deed-16, deed-17}
use Rattle.rules.proofs.Decide.{slot-in, name_in, permits-in, inner-in}
use Rattle.checks.proofs.Deciding.{ends_by}
use Rattle.calls.proofs.step.obey_package.Goals as goal

pub slot-requires : goal.slot-requires
unfolding Rattle.rules.specs.Step.rows
slot-requires c =
    let g = good-at c.args.x 1 (c.requires.numbered ∙ ap deed_number c.in-Restrict.is) c.requires.good in
    slot-in _ g.c

pub returns-in-Restrict : goal.returns-in-Restrict
returns-in-Restrict c =
    ends_by _ _ _ _ _ (deed-1 _ c.args.x (c.requires.numbered ∙ ap deed_number c.in-Restrict.is)) (rw (c.requires.taken.0, c.requires.taken.1, c.slot.ensures) at c.restrict.ensures)

pub returns-in-Drop : goal.returns-in-Drop
returns-in-Drop c =
    ends_by _ _ _ _ _ (deed-2 _ c.args.x (c.requires.numbered ∙ ap deed_number c.in-Drop.is)) (rw (c.requires.taken.0, c.requires.taken.1) at c.drop.ensures)

pub order-requires : goal.order-requires
unfolding Rattle.rules.specs.Step.rows
order-requires c =
    let g = good-at c.args.x 4 (c.requires.numbered ∙ ap deed_number c.in-MakeSegment.is) c.requires.good in
    (name_in _ g.b, permits-in _ g.c, slot-in _ g.d)

pub returns-in-MakeSegment : goal.returns-in-MakeSegment
returns-in-MakeSegment c =
    ends_by _ _ _ _ _ (deed-4 _ c.args.x (c.requires.numbered ∙ ap deed_number c.in-MakeSegment.is)) (rw (c.requires.taken.0, c.requires.taken.1, c.order.ensures.0, c.order.ensures.1, c.order.ensures.2) at c.make.ensures)

pub order-requires-in-MakeDirectory : goal.order-requires-in-MakeDirectory
unfolding Rattle.rules.specs.Step.rows
order-requires-in-MakeDirectory c =
    let g = good-at c.args.x 5 (c.requires.numbered ∙ ap deed_number c.in-MakeDirectory.is) c.requires.good in
    (name_in _ g.b, permits-in _ g.c, slot-in _ g.d)

pub returns-in-MakeDirectory : goal.returns-in-MakeDirectory
returns-in-MakeDirectory c =
    ends_by _ _ _ _ _ (deed-5 _ c.args.x (c.requires.numbered ∙ ap deed_number c.in-MakeDirectory.is)) (rw (c.requires.taken.0, c.requires.taken.1, c.order-in-MakeDirectory.ensures.0, c.order-in-MakeDirectory.ensures.1, c.order-in-MakeDirectory.ensures.2) at c.make-in-MakeDirectory.ensures)

pub order-requires-in-MakeType : goal.order-requires-in-MakeType
unfolding Rattle.rules.specs.Step.rows
order-requires-in-MakeType c =
    let g = good-at c.args.x 6 (c.requires.numbered ∙ ap deed_number c.in-MakeType.is) c.requires.good in
    (name_in _ g.b, permits-in _ g.c, slot-in _ g.d)

pub returns-in-MakeType : goal.returns-in-MakeType
returns-in-MakeType c =
    ends_by _ _ _ _ _ (deed-6 _ c.args.x (c.requires.numbered ∙ ap deed_number c.in-MakeType.is)) (rw (c.requires.taken.0, c.requires.taken.1, c.order-in-MakeType.ensures.0, c.order-in-MakeType.ensures.1, c.order-in-MakeType.ensures.2) at c.make-in-MakeType.ensures)

pub slot-requires-in-MakeObject : goal.slot-requires-in-MakeObject
unfolding Rattle.rules.specs.Step.rows
slot-requires-in-MakeObject c =
    let g = good-at c.args.x 7 (c.requires.numbered ∙ ap deed_number c.in-MakeObject.is) c.requires.good in
    slot-in _ g.c

pub order-requires-in-MakeObject : goal.order-requires-in-MakeObject
unfolding Rattle.rules.specs.Step.rows
order-requires-in-MakeObject c =
    let g = good-at c.args.x 7 (c.requires.numbered ∙ ap deed_number c.in-MakeObject.is) c.requires.good in
    (name_in _ g.b, permits-in _ g.e, slot-in _ g.d)

pub returns-in-MakeObject : goal.returns-in-MakeObject
returns-in-MakeObject c =
    ends_by _ _ _ _ _ (deed-7 _ c.args.x (c.requires.numbered ∙ ap deed_number c.in-MakeObject.is)) (rw (c.requires.taken.0, c.requires.taken.1, c.slot-in-MakeObject.ensures, c.order-in-MakeObject.ensures.0, c.order-in-MakeObject.ensures.1, c.order-in-MakeObject.ensures.2) at c.make_object.ensures)

pub delete-requires-clause-named : goal.delete-requires-clause-named
unfolding Rattle.rules.specs.Step.rows
delete-requires-clause-named c =
    let g = good-at c.args.x 8 (c.requires.numbered ∙ ap deed_number c.in-Delete.is) c.requires.good in
    name_in _ g.b

pub returns-in-Delete : goal.returns-in-Delete
returns-in-Delete c =
    ends_by _ _ _ _ _ (deed-8 _ c.args.x (c.requires.numbered ∙ ap deed_number c.in-Delete.is)) (rw (c.requires.taken.0, c.requires.taken.1) at c.delete.ensures)

pub slot-requires-in-AddEntry : goal.slot-requires-in-AddEntry
unfolding Rattle.rules.specs.Step.rows
slot-requires-in-AddEntry c =
    let g = good-at c.args.x 9 (c.requires.numbered ∙ ap deed_number c.in-AddEntry.is) c.requires.good in
    slot-in _ g.c

pub returns-in-AddEntry : goal.returns-in-AddEntry
returns-in-AddEntry c =
    ends_by _ _ _ _ _ (deed-9 _ c.args.x (c.requires.numbered ∙ ap deed_number c.in-AddEntry.is)) (rw (c.requires.taken.0, c.requires.taken.1, c.slot-in-AddEntry.ensures) at c.add_entry.ensures)

pub returns-in-DropEntry : goal.returns-in-DropEntry
returns-in-DropEntry c =
    ends_by _ _ _ _ _ (deed-10 _ c.args.x (c.requires.numbered ∙ ap deed_number c.in-DropEntry.is)) (rw (c.requires.taken.0, c.requires.taken.1) at c.drop_entry.ensures)

pub slot-requires-in-Fetch : goal.slot-requires-in-Fetch
unfolding Rattle.rules.specs.Step.rows
slot-requires-in-Fetch c =
    let g = good-at c.args.x 11 (c.requires.numbered ∙ ap deed_number c.in-Fetch.is) c.requires.good in
    slot-in _ g.c

pub returns-in-Fetch : goal.returns-in-Fetch
returns-in-Fetch c =
    ends_by _ _ _ _ _ (deed-11 _ c.args.x (c.requires.numbered ∙ ap deed_number c.in-Fetch.is)) (rw (c.requires.taken.0, c.requires.taken.1, c.slot-in-Fetch.ensures) at c.fetch.ensures)

pub returns-in-Read : goal.returns-in-Read
returns-in-Read c =
    ends_by _ _ _ _ _ (deed-12 _ c.args.x (c.requires.numbered ∙ ap deed_number c.in-Read.is)) (rw (c.requires.taken.0, c.requires.taken.1) at c.read.ensures)

pub returns-in-Write : goal.returns-in-Write
returns-in-Write c =
    ends_by _ _ _ _ _ (deed-13 _ c.args.x (c.requires.numbered ∙ ap deed_number c.in-Write.is)) (rw (c.requires.taken.0, c.requires.taken.1) at c.write.ensures)

pub slot-requires-in-Copy : goal.slot-requires-in-Copy
unfolding Rattle.rules.specs.Step.rows
slot-requires-in-Copy c =
    let g = good-at c.args.x 14 (c.requires.numbered ∙ ap deed_number c.in-Copy.is) c.requires.good in
    slot-in _ g.c

pub returns-in-Copy : goal.returns-in-Copy
returns-in-Copy c =
    ends_by _ _ _ _ _ (deed-14 _ c.args.x (c.requires.numbered ∙ ap deed_number c.in-Copy.is)) (rw (c.requires.taken.0, c.requires.taken.1, c.slot-in-Copy.ensures) at c.copy.ensures)

pub slot-requires-in-SetInner : goal.slot-requires-in-SetInner
unfolding Rattle.rules.specs.Step.rows
slot-requires-in-SetInner c =
    let g = good-at c.args.x 15 (c.requires.numbered ∙ ap deed_number c.in-SetInner.is) c.requires.good in
    slot-in _ g.b

pub inner-requires : goal.inner-requires
unfolding Rattle.rules.specs.Step.rows
inner-requires c =
    let g = good-at c.args.x 15 (c.requires.numbered ∙ ap deed_number c.in-SetInner.is) c.requires.good in
    inner-in _ g.c

pub slot-requires-in-SetInner-2 : goal.slot-requires-in-SetInner-2
unfolding Rattle.rules.specs.Step.rows
slot-requires-in-SetInner-2 c =
    let g = good-at c.args.x 15 (c.requires.numbered ∙ ap deed_number c.in-SetInner.is) c.requires.good in
    slot-in _ g.d

pub returns-in-SetInner : goal.returns-in-SetInner
returns-in-SetInner c =
    ends_by _ _ _ _ _ (deed-15 _ c.args.x (c.requires.numbered ∙ ap deed_number c.in-SetInner.is)) (rw (c.requires.taken.0, c.requires.taken.1, c.slot-in-SetInner.ensures, c.inner.ensures, c.slot-in-SetInner-2.ensures) at c.set_inner.ensures)

pub slot-requires-in-GetInner : goal.slot-requires-in-GetInner
unfolding Rattle.rules.specs.Step.rows
slot-requires-in-GetInner c =
    let g = good-at c.args.x 16 (c.requires.numbered ∙ ap deed_number c.in-GetInner.is) c.requires.good in
    slot-in _ g.b

pub inner-requires-in-GetInner : goal.inner-requires-in-GetInner
unfolding Rattle.rules.specs.Step.rows
inner-requires-in-GetInner c =
    let g = good-at c.args.x 16 (c.requires.numbered ∙ ap deed_number c.in-GetInner.is) c.requires.good in
    inner-in _ g.c

pub slot-requires-in-GetInner-2 : goal.slot-requires-in-GetInner-2
unfolding Rattle.rules.specs.Step.rows
slot-requires-in-GetInner-2 c =
    let g = good-at c.args.x 16 (c.requires.numbered ∙ ap deed_number c.in-GetInner.is) c.requires.good in
    slot-in _ g.d

pub returns-in-GetInner : goal.returns-in-GetInner
returns-in-GetInner c =
    ends_by _ _ _ _ _ (deed-16 _ c.args.x (c.requires.numbered ∙ ap deed_number c.in-GetInner.is)) (rw (c.requires.taken.0, c.requires.taken.1, c.slot-in-GetInner.ensures, c.inner-in-GetInner.ensures, c.slot-in-GetInner-2.ensures) at c.get_inner.ensures)

pub returns-in-Count : goal.returns-in-Count
returns-in-Count c =
    ends_by _ _ _ _ _ (deed-17 _ c.args.x (c.requires.numbered ∙ ap deed_number c.in-Count.is)) (rw (c.requires.taken.0, c.requires.taken.1) at c.count.ensures)
