use Rattle.segments.proofs.Results.{read_early, read_outside, read_ends}
use Rattle.segments.proofs.read.Goals as goal

pub returns-in_err-segment : goal.returns-in_err-segment
returns-in_err-segment c =
    read_early c.args.tables.now.numbers.now c.args.tables.now.lent c.args.p c.args.a.number c.args.at.0 _ _ c.in_err-segment.ensures c.from_residual.ensures.1

pub returns-then-at-ge-WORDS : goal.returns-then-at-ge-WORDS
returns-then-at-ge-WORDS c =
    read_outside c.args.tables.now.numbers.now c.args.tables.now.lent c.args.p c.args.a.number c.args.at.0 c.in_ok-segment.segment c.in_ok-segment.ensures.0 c.if-at-ge-WORDS.true

pub returns : goal.returns
returns c =
    read_ends c.args.tables.now.numbers.now c.args.tables.now.lent c.args.p c.args.a.number c.args.at.0 c.in_ok-segment.segment _ c.in_ok-segment.ensures.0 c.in_ok-segment.ensures.1 c.if-at-ge-WORDS.false c.word.ensures
