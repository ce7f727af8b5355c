-- A list of blocks is the numbers of what it shows, and all that is sound, just where this holds of each block: one law for
-- packages, slots, places, entries and inner places.
-- Assumes nothing.
use Prim.Native.Nat.{ℕ, zero, suc, ◌+◌, ◌*◌, ◌≤◌}
use native.Mathlib.Omega.{arith}
use mathlib.Core.Path.{◌≡◌, refl, sym, ap, ◌∙◌}
use mathlib.Core.Bool.{Bool, true}
use mathlib.Core.List.{List, [], ◌∷◌, ◌++◌, map, append_assoc}
use lib.ListN.{length, take, drop, take-append-drop, length-drop}
use lib.Seq.{take_at, drop_at, drop-drop}
use Rattle.things.specs.declared.Capability.{Capability}
use Rattle.things.specs.Lists.{every, flat}
use Rattle.things.proofs.ListLaws.{and_parts, and_both}
use Rattle.tables.specs.Layout.{capability_numbers, capability_from, blocks}
use Rattle.tables.specs.WellFormed.{same}
use Rattle.tables.proofs.Laws.{same-is, same_self}
use Rattle.formed.specs.Block.{formed_as}

module _ {A : Type 0} (written : A → List ℕ) (shown : List ℕ → A) (ok : A → Bool) where
  pub formed-parts : (x : List ℕ) → formed_as written shown ok x ≡ true → (x ≡ written (shown x)) × (ok (shown x) ≡ true)
  unfolding formed_as
  formed-parts x h =
      let p = and_parts (same x (written (shown x))) (ok (shown x)) h in
      (same-is x (written (shown x)) p.0, p.1)

  pub formed-whole : (x : List ℕ) → x ≡ written (shown x) → ok (shown x) ≡ true → formed_as written shown ok x ≡ true
  unfolding formed_as
  formed-whole x e h =
      let s : same x (written (shown x)) ≡ true = rw (← e) (same_self x) in
      and_both s h

  module _ (w : ℕ) where
    abbrev things : ℕ → List ℕ → List A
    things n x = map shown (blocks n w x)

    pub blocks_from : (n : ℕ) (x rest : List ℕ) → every (formed_as written shown ok) (blocks n w x) ≡ true → drop (n * w) x ≡ rest → (x ≡ flat written (things n x) ++ rest) × (every ok (things n x) ≡ true)
    unfolding every flat blocks
    blocks_from zero x rest h e = (let z : 0 * w ≡ 0 = omega arith in rw z at e, refl)
    blocks_from (suc n) x rest h e =
        let p = and_parts (formed_as written shown ok (take w x)) _ h in
        let b = formed-parts (take w x) p.0 in
        let s : suc n * w ≡ w + n * w = omega arith in
        let e' : drop (n * w) (drop w x) ≡ rest = rw (drop-drop (n * w) w x, ← s) e in
        let r = blocks_from n (drop w x) rest p.1 e' in
        let a : x ≡ take w x ++ drop w x = sym (take-append-drop w x) in
        let j : take w x ++ drop w x ≡ written (shown (take w x)) ++ (flat written (things n (drop w x)) ++ rest) = ap (λ (y : List ℕ). y ++ drop w x) b.0 ∙ ap (λ (y : List ℕ). written (shown (take w x)) ++ y) r.0 in
        (a ∙ j ∙ sym (append_assoc (written (shown (take w x))) (flat written (things n (drop w x))) rest), and_both b.1 r.1)

    module _ (wide : (a : A) → ok a ≡ true → length (written a) ≡ w) where
      pub blocks_to : (n : ℕ) (x rest : List ℕ) → x ≡ flat written (things n x) ++ rest → every ok (things n x) ≡ true → (every (formed_as written shown ok) (blocks n w x) ≡ true) × (drop (n * w) x ≡ rest)
      unfolding every flat blocks
      blocks_to zero x rest e h = (refl, let z : 0 * w ≡ 0 = omega arith in rw z e)
      blocks_to (suc n) x rest e h =
          let a : A = shown (take w x) in
          let p = and_parts (ok a) (every ok (things n (drop w x))) h in
          let more : List ℕ = flat written (things n (drop w x)) ++ rest in
          let q : x ≡ written a ++ more = e ∙ append_assoc (written a) (flat written (things n (drop w x))) rest in
          let here : take w x ≡ written a = ap (λ (y : List ℕ). take w y) q ∙ take_at (written a) more w (wide a p.0) in
          let next : drop w x ≡ more = ap (λ (y : List ℕ). drop w y) q ∙ drop_at (written a) more w (wide a p.0) in
          let r = blocks_to n (drop w x) rest next p.1 in
          let s : suc n * w ≡ w + n * w = omega arith in
          (and_both (formed-whole (take w x) here p.0) r.0, rw (s, ← drop-drop (n * w) w x) r.1)

-- A capability's three numbers are always those of what they show.
three : (x : List ℕ) → length x ≡ 3 → x ≡ capability_numbers (capability_from x)
unfolding capability_numbers capability_from
three [] l = let z : ⊥ = omega arith in absurd z
three (a ∷ []) l = let z : ⊥ = omega arith in absurd z
three (a ∷ b ∷ []) l = let z : ⊥ = omega arith in absurd z
three (a ∷ b ∷ c ∷ []) l = refl
three (a ∷ b ∷ c ∷ d ∷ x) l = let z : ⊥ = omega arith in absurd z

pub capabilities-from : (ok : Capability → Bool) (n : ℕ) (x : List ℕ) → n * 3 ≤ length x → every ok (map capability_from (blocks n 3 x)) ≡ true → every (formed_as capability_numbers capability_from ok) (blocks n 3 x) ≡ true
unfolding every blocks
capabilities-from ok zero x l h = refl
capabilities-from ok (suc n) x l h =
    let p = and_parts (ok (capability_from (take 3 x))) _ h in
    let t : length (take 3 x) ≡ 3 = lib.Seq.length-take-le 3 x (omega arith) in
    and_both (formed-whole capability_numbers capability_from ok (take 3 x) (three (take 3 x) t) p.0)
    (capabilities-from ok n (drop 3 x) (rw (length-drop 3 x) (omega arith)) p.1)
