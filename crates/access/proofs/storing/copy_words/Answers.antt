use Rattle.std.proofs.Common.{◌≡◌, ◌+◌, ◌-◌, ◌≤◌, ◌∙◌, length, take, drop, length-take, arith}
use Rattle.tables.specs.Positions.{word_pos}
use Rattle.access.proofs.Stored.{part-run}
use Rattle.access.proofs.storing.copy_words.Goals as goal

pub returns : goal.returns
returns c =
    let t = c.args.t.now in
    let r = c.place_pos-source.result in
    let s = c.place_pos-target.result in
    let ws = take c.args.n (drop c.args.b.0 c.words_of-scratch.result) in
    let e : s + 5 + c.args.d.0 ≡ word_pos c.args.to.maker c.args.to.number c.args.d.0 = omega arith in
    let f : r + 5 ≡ word_pos c.args.from.maker c.args.from.number 0 = omega arith in
    let g : r + 5 + 32 - (r + 5) ≡ 32 = omega arith in
    let h : c.args.b.0 + c.args.n - c.args.b.0 ≡ c.args.n = omega arith in
    let n : length ws ≤ c.args.n = rw (length-take c.args.n (drop c.args.b.0 c.words_of-scratch.result)) (omega arith) in
    let a = part-run (s + 5) (s + 5 + 32) c.args.d.0 t ws (omega arith) (omega arith) (omega arith) in
    let w : c.words_of-scratch.result ≡ take 32 (drop (word_pos c.args.from.maker c.args.from.number 0) t) = c.words_of-scratch.ensures ∙ rw (g, f) in
    rw c.put.ensures (rw h (a ∙ rw (e, w)))
