-- What is issued, and the capabilities that name it.
-- Assumes nothing.
use Prim.Native.Nat.{ℕ, ◌%◌}
use mathlib.Core.Path.{◌≡◌, refl, sym, ◌∙◌}
use mathlib.Core.Bool.{Bool, true, false, ◌&&◌}
use mathlib.Core.List.{List, [], ◌∷◌, map}
use lib.ListN.{get_or}
use lib.Dec.{ltb, leb}
use borrow.Author.Tests.{ltb-true}
use Rattle.things.specs.declared.ObjectNumber.{ObjectNumber}
use Rattle.things.specs.Lists.{every}
use Rattle.rules.specs.Sound.{capability_sound}
use Rattle.tables.specs.Layout.{blocks, capability_from}
use Rattle.tables.specs.Positions.{capability_at}
use Rattle.formed.specs.Block.{known_by, capabilities_formed}

-- The remainder is the maker where there is such a package.
pub known_mod : (lasts : List ℕ) (o : ObjectNumber) (maker : ℕ) → maker ≡ o.0 → ltb maker 8 && (ltb 0 o.1 && leb o.1 (get_or lasts (maker % 8) 0)) ≡ known_by lasts o
unfolding known_by
known_mod lasts o maker r = rw r (go (ltb o.0 8) refl)
  where
    go : (b : Bool) → ltb o.0 8 ≡ b → b && (ltb 0 o.1 && leb o.1 (get_or lasts (o.0 % 8) 0)) ≡ b && (ltb 0 o.1 && leb o.1 (get_or lasts o.0 0))
    go true e = let l = ltb-true o.0 8 e in let m : o.0 % 8 ≡ o.0 = native.Mathlib.Nat.mod-eq_of_lt l in rw m
    go false e = refl

pub first_capability : (x : List ℕ) → capability_at x 0 ≡ capability_from x
unfolding capability_at capability_from
first_capability x = refl

every_map : {A B : Type 0} (f : B → Bool) (g : A → B) (xs : List A) → every f (map g xs) ≡ every (λ x. f (g x)) xs
unfolding every
every_map f g [] = refl
every_map f g (x ∷ xs) = rw (every_map f g xs)

pub capabilities_tested : (lasts : List ℕ) (n : ℕ) (x : List ℕ) (r : Bool) → r ≡ every (λ y. capability_sound (known_by lasts) (capability_from y)) (blocks n 3 x) → r ≡ capabilities_formed lasts n x
capabilities_tested lasts n x r e = e ∙ sym (every_map (capability_sound (known_by lasts)) capability_from (blocks n 3 x))
