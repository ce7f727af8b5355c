use mathlib.Core.Path.{ap, ◌∙◌}
use Rattle.print.proofs.Lines.{tape-numbers}
use Rattle.print.proofs.Text.tape_line.Goals as goal

pub numbers-requires : goal.numbers-requires
numbers-requires c =
    rw (tape-numbers c.args.n c.args.call c.args.answer c.into.ensures c.into-2.ensures
    (c.into-3.ensures ∙ ap (λ o. o.answer) c.into-answer.ensures) (c.into-4.ensures ∙ ap (λ o. o.value) c.into-answer.ensures)) c.requires

pub returns : goal.returns
returns c =
    rw (tape-numbers c.args.n c.args.call c.args.answer c.into.ensures c.into-2.ensures
    (c.into-3.ensures ∙ ap (λ o. o.answer) c.into-answer.ensures) (c.into-4.ensures ∙ ap (λ o. o.value) c.into-answer.ensures)) at c.numbers.ensures
