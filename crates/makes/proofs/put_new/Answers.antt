use Rattle.makes.proofs.put_new.Goals as goal

pub returns : goal.returns
unfolding Rattle.makes.specs.Makes.headed
returns c =
    rw (c.put_new_object.ensures, c.put_entry.ensures, c.put_last.ensures, c.made-made.ensures) at c.put_slot.ensures
