use Rattle.std.proofs.Common.{rules}
use Rattle.rules.specs.Machine.{empty, places_of, holds}
use Rattle.access.specs.Shown.{shown}
use Rattle.access.proofs.Searching.{hit, miss, places-long}
use Rattle.access.proofs.lent.Tables.find_place.Goals as goal

pub returns-in_err-number : goal.returns-in_err-number
unfolding Rattle.rules.specs.Machine.place_of
returns-in_err-number c =
    rw c.from_residual.ensures
    (miss (holds c.args.o.1) empty (places_of (shown c.args.self.now) c.args.o.0) (places-long c.args.self.now.numbers.now c.args.self.now.lent c.args.o.0 c.requires) (λ i b. let h = c.in_err-number.ensures i b in search rules))

pub returns : goal.returns
unfolding Rattle.rules.specs.Machine.place_of
returns c =
    (c.place.ensures.0, rw c.place.ensures.1 (hit (holds c.args.o.1) empty (places_of (shown c.args.self.now) c.args.o.0) c.in_ok-number.number (places-long c.args.self.now.numbers.now c.args.self.now.lent c.args.o.0 c.requires) c.in_ok-number.ensures.0 (search rules) (λ i b. let h = c.in_ok-number.ensures.2 i b in search rules)))
