-- The premises on the start hold again at the end of a run that meets them; so the far side never comes to write what is near.
-- Assumes nothing.
use Prim.Native.Nat.{ℕ, ◌+◌}
use native.Mathlib.Omega.{arith}
use mathlib.Core.Path.{◌≡◌, refl, sym, subst}
use mathlib.Core.Bool.{Bool, true, false, not, ◌||◌}
use mathlib.Core.List.{List}
use lib.Dec.{eqb, leb}
use borrow.Author.Tests.{le-leb}
use Rattle.things.specs.declared.Capability.{Capability}
use Rattle.things.specs.Lists.{some}
use Rattle.things.specs.Rights.{maker, is_null, has_right, STORE, KEEP, READ, WRITE}
use Rattle.things.proofs.ListLaws.{never}
use Rattle.rules.specs.Machine.{Place, empty, holding, Machine, package_of, slot_of, is_empty, kind_of, living}
use Rattle.rules.specs.Sound.{sound}
use Rattle.rules.specs.Checks.{gone}
use Rattle.rules.specs.Step.{Call, run}
use Rattle.rules.proofs.KeepCalls.{AllSixteenBit}
use Rattle.sides.specs.Sides.{Split, letters_kinds, reading_only, lives_as, near_names, far_rights, far_kinds, Premises}
use Rattle.sides.proofs.Has.{Has, has_more}
use Rattle.sides.proofs.Having.{near-whole, far-whole}
use Rattle.sides.proofs.Confined.{Such, FarOnly, May, Kept, near-tested, tested}
use Rattle.sides.proofs.OneCall.{right-within, such-lives}
use Rattle.sides.proofs.TwoRuns.{run-kept}

-- What is gone has no kind.
no_kind : (y : Place) → is_empty y ≡ true → not (some (eqb (kind_of y)) letters_kinds) ≡ true
unfolding is_empty kind_of some
no_kind empty h = refl
no_kind (holding s b) h = never (sym h)

module _ (near : Split) (M : Machine) where
  such-kinds : (c : Capability) → Such letters_kinds near M c → not (lives_as letters_kinds M c) ≡ true
  unfolding lives_as gone
  such-kinds c k = go (gone M c.object) refl
    where
      go : (b : Bool) → gone M c.object ≡ b → not (some (eqb (kind_of (living M c.object))) letters_kinds) ≡ true
      go true e = no_kind (living M c.object) e
      go false e = (such-lives letters_kinds near M c k e).1

  such-rights : (c : Capability) → Such letters_kinds near M c → reading_only M c ≡ true
  unfolding reading_only
  such-rights c k = go (gone M c.object) refl
    where
      go : (b : Bool) → gone M c.object ≡ b → gone M c.object || leb c.rights (STORE + KEEP + READ) ≡ true
      go true e = rw e
      go false e = rw (e, le-leb c.rights (STORE + KEEP + READ) (such-lives letters_kinds near M c k e).0)

  far-of : Kept letters_kinds near M → (p : ℕ) → near p ≡ false → Has (FarOnly letters_kinds near M) (package_of M p)
  far-of k p n = subst (λ (b : Bool). Has (May letters_kinds near M b) (package_of M p)) n (k.have p)

  kept-names : Kept letters_kinds near M → near_names near M ≡ true
  unfolding near_names
  kept-names k = near-whole near _ M (λ p l n. has_more _ _ (near-tested near) (package_of M p) (subst (λ (b : Bool). Has (May letters_kinds near M b) (package_of M p)) n (k.have p)))

  kept-rights : Kept letters_kinds near M → far_rights near M ≡ true
  unfolding far_rights
  kept-rights k = far-whole near _ M (λ p l n. has_more _ _ (λ c f. tested near c _ (λ e m. such-rights c (f e m))) (package_of M p) (far-of k p n))

  kept-kinds : Kept letters_kinds near M → far_kinds letters_kinds near M ≡ true
  unfolding far_kinds
  kept-kinds k = far-whole near _ M (λ p l n. has_more _ _ (λ c f. tested near c _ (λ e m. such-kinds c (f e m))) (package_of M p) (far-of k p n))

-- The premises on the start hold again at the end.
pub premises-stay : (near : Split) (M : Machine) (xs : List Call) → AllSixteenBit xs → Premises letters_kinds near M xs →
    (sound (run M xs) ≡ true) × (near_names near (run M xs) ≡ true) × (far_rights near (run M xs) ≡ true) × (far_kinds letters_kinds near (run M xs) ≡ true)
premises-stay near M xs n p =
    let k = run-kept near M xs n p in
    (k.sound-kept, kept-names near (run M xs) k, kept-rights near (run M xs) k, kept-kinds near (run M xs) k)

-- A package meant to read the sheet cannot come to write it: far, it never holds right 8 on a living object that near made.
pub far-never-writes : (near : Split) (M : Machine) (xs : List Call) → AllSixteenBit xs → Premises letters_kinds near M xs → (p i : ℕ) → near p ≡ false →
    is_null (slot_of (run M xs) p i) ≡ false → near (maker (slot_of (run M xs) p i).object) ≡ true → gone (run M xs) (slot_of (run M xs) p i).object ≡ false → has_right (slot_of (run M xs) p i) WRITE ≡ false
unfolding slot_of
far-never-writes near M xs n p q i f e m g = go (has_right (slot_of (run M xs) q i) WRITE) refl
  where
    such : Such letters_kinds near (run M xs) (slot_of (run M xs) q i)
    such = ((far-of near (run M xs) (run-kept near M xs n p) q f).slots i) e m

    go : (b : Bool) → has_right (slot_of (run M xs) q i) WRITE ≡ b → has_right (slot_of (run M xs) q i) WRITE ≡ false
    go false h = h
    go true h = let u = right-within _ WRITE h in let v = (such-lives letters_kinds near (run M xs) (slot_of (run M xs) q i) such g).0 in let z : ⊥ = omega arith in absurd z
