use borrow.Author.Rules.{rules}
use Rattle.print.proofs.Writing.{written-one}
use Rattle.print.proofs.Text.byte.Goals as goal

pub returns : goal.returns
returns c = rw (written-one c.args.self.now.out.now c.args.self.now.at c.args.byte (search rules))
