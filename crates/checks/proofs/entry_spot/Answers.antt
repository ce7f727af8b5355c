use Rattle.std.proofs.Common.{refl, sym, ◌∙◌, []}
use Rattle.checks.proofs.Deciding.{all-passed}
use Rattle.checks.proofs.Making.{found-some, found-none, has-it, lacks-it, entry-used, entry-refused, entry-full, entry-taken}
use Rattle.checks.proofs.entry_spot.Goals as goal

pub returns-then-is_some : goal.returns-then-is_some
returns-then-is_some c =
    let d = c.args.d.now in
    entry-used _ _ _ [] (has-it d.numbers.now d.lent d.at.maker d.at.number d.at.maker_in_range d.is_directory c.args.name.0 _ refl (found-some _ _ c.find.ensures (sym c.is_some.ensures ∙ c.if-is_some.true)))

pub returns-then-not-addable : goal.returns-then-not-addable
returns-then-not-addable c =
    let d = c.args.d.now in
    entry-refused _ _ _ []
    (lacks-it d.numbers.now d.lent d.at.maker d.at.number d.at.maker_in_range d.is_directory c.args.name.0 (found-none _ _ c.find.ensures (sym c.is_some.ensures ∙ c.if-is_some.false)))
    ((rw c.permits.ensures at (sym c.addable.ensures)) ∙ c.if-not-addable.true)

pub returns-in_default : goal.returns-in_default
returns-in_default c =
    let d = c.args.d.now in
    entry-full _ _ _ []
    (lacks-it d.numbers.now d.lent d.at.maker d.at.number d.at.maker_in_range d.is_directory c.args.name.0 (found-none _ _ c.find.ensures (sym c.is_some.ensures ∙ c.if-is_some.false)))
    ((rw c.permits.ensures at (sym c.addable.ensures)) ∙ c.if-not-addable.false)
    (lacks-it d.numbers.now d.lent d.at.maker d.at.number d.at.maker_in_range d.is_directory 0 c.in_default.ensures)

pub returns : goal.returns
unfolding Rattle.rules.specs.Machine.empty_entry
returns c =
    let d = c.args.d.now in (
      entry-taken _ _ _ []
          (lacks-it d.numbers.now d.lent d.at.maker d.at.number d.at.maker_in_range d.is_directory c.args.name.0 (found-none _ _ c.find.ensures (sym c.is_some.ensures ∙ c.if-is_some.false)))
          ((rw c.permits.ensures at (sym c.addable.ensures)) ∙ c.if-not-addable.false)
          (has-it d.numbers.now d.lent d.at.maker d.at.number d.at.maker_in_range d.is_directory 0 _ c.in-Some.ensures c.in-Some.position.in_range)
          ∙ all-passed,
      c.in-Some.ensures,
    )
