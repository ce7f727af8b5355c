use Rattle.std.proofs.Common.{rules}
use Rattle.rules.specs.Machine.{no_entry, is_named}
use Rattle.access.specs.Shown.{listed_in}
use Rattle.access.proofs.Searching.{hit, miss, entries-long}
use Rattle.access.proofs.lent.Directory.find.Goals as goal

pub returns-in_err-number : goal.returns-in_err-number
unfolding is_named Rattle.rules.specs.Machine.entry_of
returns-in_err-number c =
    rw c.from_residual.ensures
    (miss (is_named c.args.name.0) no_entry (listed_in c.args.self.now)
    (entries-long c.args.self.now.numbers.now c.args.self.now.lent c.args.self.now.at.maker c.args.self.now.at.maker_in_range c.args.self.now.at.number c.args.self.now.is_directory)
    (λ i b. let h = c.in_err-number.ensures i b in search rules))

pub returns : goal.returns
unfolding is_named Rattle.rules.specs.Machine.entry_of
returns c =
    hit (is_named c.args.name.0) no_entry (listed_in c.args.self.now) c.in_ok-number.number
    (entries-long c.args.self.now.numbers.now c.args.self.now.lent c.args.self.now.at.maker c.args.self.now.at.maker_in_range c.args.self.now.at.number c.args.self.now.is_directory)
    c.in_ok-number.ensures.0 (search rules) (λ i b. let h = c.in_ok-number.ensures.2 i b in search rules)
