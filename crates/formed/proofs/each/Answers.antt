use mathlib.Core.Path.{refl, ◌∙◌}
use mathlib.Core.Bool.{true, ◌&&◌}
use Rattle.std.proofs.Common.{rules}
use Rattle.std.proofs.lemmas.Fn.{called_at}
use Rattle.std.proofs.lemmas.List.Folds.{fold-map}
use Rattle.std.proofs.lemmas.Iterator.{YieldsList-from_slice, YieldsList-from_map}
use Rattle.std.proofs.lemmas.Iterator.Consumers.{fold_from_yields_List}
use Rattle.formed.proofs.Runs.{every_folded}
use Rattle.formed.proofs.each.Goals as goal

pub returns : goal.returns
returns g c = λ f acts.
    let joined =
    fold_from_yields_List _ (λ b x. b && x) true c.fold.result c.fold.ensures.ran
    (YieldsList-from_map _ f (YieldsList-from_slice c.args.xs.now cc) c.map.ensures.closure (λ x r q k. acts x.now r q (called_at _ k refl)))
    (λ a x b q k. search rules) in
    every_folded f c.args.xs.now c.fold.result (joined ∙ fold-map (λ b x. b && x) f true c.args.xs.now)
