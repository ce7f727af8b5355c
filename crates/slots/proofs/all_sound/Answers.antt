use Rattle.std.proofs.Common.{ap, true, ◌&&◌, ◌∙◌, nat_eq, length, rules, tests}
use Rattle.std.proofs.lemmas.Iterator.{YieldsList-from_slice}
use Rattle.std.proofs.lemmas.Iterator.Consumers.{fold_from_yields_List}
use Rattle.rules.specs.Sound.{capability_sound}
use Rattle.slots.specs.Slots.{could_be_issued, slots_sound}
use Rattle.slots.proofs.Laws.{fold-every}
use Rattle.slots.proofs.all_sound.Goals as goal

pub returns : goal.returns
unfolding slots_sound
returns c =
    let f = capability_sound could_be_issued in
    let xs = c.args.slots.now in
    let told = fold_from_yields_List _ (λ ok x. ok && f x) true c.fold.result c.fold.ensures.ran (YieldsList-from_slice xs cc) (λ a x b q k. search (rules, tests)) in
    ap (λ t. nat_eq (length xs) 16 && t) (told ∙ fold-every f true xs)
