use Rattle.listing.proofs.trees.Goals as goal

pub invariant_of-trees_of : goal.invariant_of-trees_of
invariant_of-trees_of c = record { lent = rw c.in-Some.ensures.cases.same c.requires }
