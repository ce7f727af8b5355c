-- Blocks of one width, written one after another and read back: one law for packages, slots, places, entries and inner
-- places.
-- Assumes nothing.
use Prim.Native.Nat.{ℕ, ◌*◌}
use native.Mathlib.Omega.{arith}
use mathlib.Core.Path.{◌≡◌, refl, ◌∙◌}
use mathlib.Core.Bool.{Bool, true}
use mathlib.Core.List.{List, [], ◌∷◌, ◌++◌, map, append_assoc}
use lib.ListN.{length, length-append}
use lib.Seq.{take_at, drop_at}
use Rattle.things.specs.Lists.{every, flat}
use Rattle.things.proofs.ListLaws.{and_parts}
use Rattle.tables.specs.Layout.{blocks}

module _ {A : Type 0} (f : A → List ℕ) (ok : A → Bool) (w : ℕ) (wide : (x : A) → ok x ≡ true → length (f x) ≡ w) where
  pub flat-length : (xs : List A) → every ok xs ≡ true → length (flat f xs) ≡ length xs * w
  unfolding flat every
  flat-length [] h = omega arith
  flat-length (x ∷ xs) h =
      let p = and_parts (ok x) (every ok xs) h in
      length-append (f x) (flat f xs) ∙ (let a = wide x p.0 in let b = flat-length xs p.1 in omega (arith, a, b))

  pub read-flat : (g : List ℕ → A) → ((x : A) → ok x ≡ true → g (f x) ≡ x) → (xs : List A) → every ok xs ≡ true → (rest : List ℕ) → map g (blocks (length xs) w (flat f xs ++ rest)) ≡ xs
  unfolding flat every blocks
  read-flat g back [] h rest = refl
  read-flat g back (x ∷ xs) h rest =
      let p = and_parts (ok x) (every ok xs) h in
      rw (append_assoc (f x) (flat f xs) rest, take_at (f x) (flat f xs ++ rest) w (wide x p.0), drop_at (f x) (flat f xs ++ rest) w (wide x p.0), back x p.0, read-flat g back xs p.1 rest)
