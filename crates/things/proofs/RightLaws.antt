-- Laws of rights and permits.
-- Assumes nothing.
use Prim.Native.Nat.{ℕ, zero, suc, ◌/◌, ◌≤◌}
use native.Mathlib.Omega.{arith}
use mathlib.Core.Path.{◌≡◌, refl, ap, subst, ◌∙◌}
use mathlib.Core.Bool.{Bool, true, false, not, ◌&&◌, and-true}
use lib.Bits.{bit_and, and_comm, and_step, and_zero_r, and_le_l, and_le_r}
use lib.Dec.{eqb}
use borrow.Author.Tests.{eqb-true, eq-eqb, eqb-false}
use Rattle.things.specs.declared.ObjectNumber.{ObjectNumber}
use Rattle.things.specs.declared.Capability.{Capability}
use Rattle.things.specs.Lists.{every}
use Rattle.things.specs.Rights.{object, capability, null, is_null, has_right, restricted, takes, addable, made_rights, STORE, KEEP, NONE}

-- Addable asks for both store permissions, and for nothing else.
pub addable_both : (c : Capability) (permits : ℕ) → addable c permits ≡ takes permits c STORE && takes permits c KEEP
unfolding addable every
addable_both c permits = rw and-true

-- No right is always had.
pub none-asked : (c : Capability) → has_right c NONE ≡ true
unfolding has_right
none-asked c = eq-eqb (bit_and c.rights 0) 0 (omega (arith, lib.Bits.and_le_r c.rights 0))

-- A restricted capability has no more rights than the one it came from, and none that the mask lacks.
pub restricted-within : (c : Capability) (mask : ℕ) → ((restricted c mask).rights ≤ c.rights) × ((restricted c mask).rights ≤ mask)
unfolding restricted
restricted-within c mask = (and_le_l c.rights mask, lib.Bits.and_le_r c.rights mask)

-- Bits: what a mask leaves was there before.
mask_bits : (n r m a : ℕ) → a ≤ n → bit_and (bit_and r m) a ≡ a → bit_and r a ≡ a
mask_bits zero r m a l e = let z : a ≡ 0 = omega arith in rw (z, and_zero_r r)
mask_bits (suc n) r m a l e = go (eqb a 0) refl (mask_bits n (r / 2) (m / 2) (a / 2))
  where
    go : (b : Bool) → eqb a 0 ≡ b → (a / 2 ≤ n → bit_and (bit_and (r / 2) (m / 2)) (a / 2) ≡ a / 2 → bit_and (r / 2) (a / 2) ≡ a / 2) → bit_and r a ≡ a
    go true z k = let y : a ≡ 0 = eqb-true a 0 z in rw (y, and_zero_r r)
    go false z k =
        let s = and_step r m in
        let t = and_step (bit_and r m) a in
        let u = and_step r a in
        let v : bit_and r m / 2 ≡ bit_and (r / 2) (m / 2) = omega (arith, s) in
        let w : bit_and (bit_and r m / 2) (a / 2) ≤ a / 2 = and_le_r (bit_and r m / 2) (a / 2) in
        let x : bit_and (bit_and r m / 2) (a / 2) ≡ a / 2 = omega (arith, s, t, e, w) in
        let y = k (omega (arith, eqb-false a 0 z)) (subst (λ (q : ℕ). bit_and q (a / 2) ≡ a / 2) v x) in
        omega (arith, s, t, u, y, x)

-- Each right that a restricted capability has, the one it came from has, and so has the mask.
pub restricted-rights : (c : Capability) (mask right : ℕ) → has_right (restricted c mask) right ≡ true → (has_right c right ≡ true) × (bit_and mask right ≡ right)
unfolding has_right restricted
restricted-rights c mask right h =
    let e : bit_and (bit_and c.rights mask) right ≡ right = eqb-true _ _ h in
    let f : bit_and (bit_and mask c.rights) right ≡ right = ap (λ (n : ℕ). bit_and n right) (and_comm mask c.rights) ∙ e in
    (eq-eqb _ _ (mask_bits right c.rights mask right (omega arith) e), mask_bits right mask c.rights right (omega arith) f)

-- "null gives null"
pub restricted-null : (mask : ℕ) → restricted null mask ≡ null
unfolding restricted
restricted-null mask = rw (lib.Bits.and_zero_l mask)

-- What is null is the null capability, and the null capability is null.
pub null_is : (c : Capability) → is_null c ≡ true → c ≡ null
unfolding is_null
null_is c h = go (eqb c.object.0 0) (eqb c.object.1 0) (eqb c.rights 0) refl refl refl h
  where
    go : (x y z : Bool) → eqb c.object.0 0 ≡ x → eqb c.object.1 0 ≡ y → eqb c.rights 0 ≡ z → x && y && z ≡ true → c ≡ null
    go true true true a b d g =
        let a' : c.object.0 ≡ 0 = eqb-true _ _ a in
        let b' : c.object.1 ≡ 0 = eqb-true _ _ b in
        let d' : c.rights ≡ 0 = eqb-true _ _ d in
        λ i. record { object = record { 0 = a' i; 1 = b' i }; rights = d' i }
    go true true false a b d g = let z : ◌≡◌ {A = ℕ} 0 1 = cc in let w : ⊥ = omega arith in absurd w
    go true false z a b d g = let z : ◌≡◌ {A = ℕ} 0 1 = cc in let w : ⊥ = omega arith in absurd w
    go false y z a b d g = let z : ◌≡◌ {A = ℕ} 0 1 = cc in let w : ⊥ = omega arith in absurd w

pub is-null : is_null null ≡ true
unfolding is_null
is-null = refl

-- A set permits bit is a permission withheld: what a make with permits s gives goes into a container with permits m
-- just where each bit of s is set in m. One test over the sixteen pairs.
abbrev withheld : ℕ → ℕ → Bool
withheld s m = eqb (bit_and s m) s

abbrev agree : Bool → Bool → Bool
agree true b = b
agree false b = not b

abbrev made-goes-of : ObjectNumber → ℕ → ℕ → Bool
made-goes-of o s m = agree (addable (capability o (made_rights s)) m) (withheld s m)

abbrev made-goes : ℕ → ℕ → Bool
made-goes = made-goes-of (object 0 1)

abbrev below : ℕ → (ℕ → Bool) → Bool
below zero f = true
below (suc n) f = below n f && f n

pub made-addable-of : (o : ObjectNumber) → below 4 (λ s. below 4 (λ m. made-goes-of o s m)) ≡ true
unfolding addable every takes has_right
made-addable-of o = refl

pub made-addable : below 4 (λ s. below 4 (λ m. made-goes s m)) ≡ true
made-addable = made-addable-of (object 0 1)

-- A make gives every right but the store permissions that its permits withhold.
pub made-rights : (made_rights 0 ≡ 255) × (made_rights 1 ≡ 254) × (made_rights 2 ≡ 253) × (made_rights 3 ≡ 252)
made-rights = (refl, refl, refl, refl)
