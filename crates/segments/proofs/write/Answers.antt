use Rattle.segments.proofs.Results.{write_early, write_outside, write_ends}
use Rattle.segments.proofs.write.Goals as goal

pub returns-in_err-segment : goal.returns-in_err-segment
returns-in_err-segment c =
    write_early c.args.t.now c.requires c.args.p c.args.a.number c.args.at.0 c.args.word _ _ c.in_err-segment.ensures c.from_residual.ensures.1

pub returns-then-at-ge-WORDS : goal.returns-then-at-ge-WORDS
returns-then-at-ge-WORDS c =
    write_outside c.args.t.now c.requires c.args.p c.args.a.number c.args.at.0 c.in_ok-segment.segment c.args.word c.in_ok-segment.ensures.0 c.if-at-ge-WORDS.true

pub returns : goal.returns
returns c =
    write_ends c.args.t.now c.requires c.args.p c.args.a.number c.args.at.0 c.in_ok-segment.segment c.args.word _ c.in_ok-segment.ensures.0 c.in_ok-segment.ensures.1 c.if-at-ge-WORDS.false c.put_word.ensures
