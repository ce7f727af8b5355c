use Rattle.std.proofs.Common.{◌≡◌, ◌+◌, ◌∙◌, arith}
use Rattle.tables.specs.Positions.{word_pos}
use Rattle.access.proofs.Stored.{part-store}
use Rattle.access.proofs.storing.put_word.Goals as goal

pub returns : goal.returns
unfolding Rattle.tables.specs.Positions.store
returns c =
    let r = c.place_pos-from.result in
    let e : r + 5 + c.args.offset.0 ≡ word_pos c.args.at.maker c.args.at.number c.args.offset.0 = omega arith in
    let f = part-store (r + 5) (r + 5 + 32) c.args.offset.0 c.args.t.now c.args.word (omega arith) (omega arith) in
    rw c.write_word.ensures (f ∙ rw e)
