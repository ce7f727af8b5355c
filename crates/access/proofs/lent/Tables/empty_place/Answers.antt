use Rattle.std.proofs.Common.{rules}
use Rattle.rules.specs.Machine.{empty, places_of, is_empty}
use Rattle.access.specs.Shown.{shown}
use Rattle.access.proofs.Searching.{hit, miss, places-long}
use Rattle.access.proofs.lent.Tables.empty_place.Goals as goal

pub returns-in_err-number : goal.returns-in_err-number
unfolding Rattle.rules.specs.Machine.empty_place
returns-in_err-number c =
    rw c.from_residual.ensures
    (miss is_empty empty (places_of (shown c.args.self.now) c.args.p.number) (places-long c.args.self.now.numbers.now c.args.self.now.lent c.args.p.number c.args.p.in_range) (λ i b. let h = c.in_err-number.ensures i b in search rules))

pub returns : goal.returns
unfolding Rattle.rules.specs.Machine.empty_place
returns c =
    (c.place.ensures.0, rw c.place.ensures.1 (hit is_empty empty (places_of (shown c.args.self.now) c.args.p.number) c.in_ok-number.number (places-long c.args.self.now.numbers.now c.args.self.now.lent c.args.p.number c.args.p.in_range) c.in_ok-number.ensures.0 (search rules) (λ i b. let h = c.in_ok-number.ensures.2 i b in search rules)))
