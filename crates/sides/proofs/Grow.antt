-- No right grows: after any tape every capability on an object issued before it has its rights within those of one
-- capability on it that stood somewhere before.
-- Assumes nothing.
use Prim.Native.Nat.{ℕ, zero, suc, ◌/◌, ◌≤◌}
use native.Mathlib.Omega.{arith}
use mathlib.Core.Path.{◌≡◌, refl, sym, subst, ◌∙◌}
use mathlib.Core.Bool.{Bool, true, false}
use mathlib.Core.List.{List, [], ◌∷◌}
use lib.Bits.{bit_and, and_step, and_zero_r, and_le_r}
use lib.Dec.{eqb}
use borrow.Author.Tests.{eqb-true, eq-eqb, eqb-false}
use Rattle.things.specs.declared.ObjectNumber.{ObjectNumber}
use Rattle.things.specs.declared.Capability.{Capability}
use Rattle.things.specs.Rights.{null, has_right, restricted}
use Rattle.things.proofs.ListLaws.{never}
use Rattle.rules.specs.Machine.{Machine, slot_of, places_of}
use Rattle.rules.specs.Sound.{issued, sound}
use Rattle.rules.specs.Checks.{Result, after}
use Rattle.rules.specs.Calls.{made, next_serial}
use Rattle.rules.specs.Step.{Call, step, run}
use Rattle.rules.proofs.Parts.{Grows}
use Rattle.rules.proofs.KeepCalls.{AllSixteenBit, step_keeps}
use Rattle.sides.specs.Lasting.{Stands, in_slot, in_entry, in_inner, Within, Covered}
use Rattle.sides.proofs.Deeds.{Own, Doing, stopped, handing, owning, step-does}
use Rattle.sides.proofs.Dead.{each_map, step-grows, issued-upto}
use Rattle.sides.proofs.Has.{AllHave, have-all, Free, own-brings}

-- ---- bits: what a mask leaves was there before
mask-bits : (n r m a : ℕ) → a ≤ n → bit_and (bit_and r m) a ≡ a → bit_and r a ≡ a
mask-bits zero r m a l e = let z : a ≡ 0 = omega arith in rw (z, and_zero_r r)
mask-bits (suc n) r m a l e = go (eqb a 0) refl (mask-bits n (r / 2) (m / 2) (a / 2))
  where
    go : (b : Bool) → eqb a 0 ≡ b → (a / 2 ≤ n → bit_and (bit_and (r / 2) (m / 2)) (a / 2) ≡ a / 2 → bit_and (r / 2) (a / 2) ≡ a / 2) → bit_and r a ≡ a
    go true z k = let y : a ≡ 0 = eqb-true a 0 z in rw (y, and_zero_r r)
    go false z k =
        let s = and_step r m in
        let t = and_step (bit_and r m) a in
        let u = and_step r a in
        let v : bit_and r m / 2 ≡ bit_and (r / 2) (m / 2) = omega (arith, s) in
        let w : bit_and (bit_and r m / 2) (a / 2) ≤ a / 2 = and_le_r (bit_and r m / 2) (a / 2) in
        let x : bit_and (bit_and r m / 2) (a / 2) ≡ a / 2 = omega (arith, s, t, e, w) in
        let y = k (omega (arith, eqb-false a 0 z)) (subst (λ (q : ℕ). bit_and q (a / 2) ≡ a / 2) v x) in
        omega (arith, s, t, u, y, x)

pub restricted-within : (c : Capability) (mask : ℕ) → Within (restricted c mask) c
unfolding has_right restricted
restricted-within c mask right h = eq-eqb _ _ (mask-bits right c.rights mask right (omega arith) (eqb-true _ _ h))

-- ---- one call
-- c names no object that was issued in M, or one capability that stands in M covers it.
abbrev Old : Machine → Capability → Type 0
Old M c = issued M c.object ≡ true → Covered M c

null-unissued : (M : Machine) → Old M null
null-unissued M h = let u = issued-upto M null.object h in let z : ⊥ = omega (arith, u.above) in absurd z

old-restricted : (M : Machine) (c : Capability) (mask : ℕ) → Old M c → Old M (restricted c mask)
unfolding restricted
old-restricted M c mask h u =
    let k = h u in
    record { older = k.older; stands = k.stands; object = k.object; within = λ right g. k.within right (restricted-within c mask right g) }

new-unissued : (M N : Machine) (p s : ℕ) → Grows M N → Old M (made N p s)
unfolding made next_serial
new-unissued M N p s g h =
    let u = issued-upto M (made N p s).object h in
    let v = g p in
    let z : ⊥ = omega (arith, u.upto) in absurd z

standing-old : (M : Machine) → AllHave (λ q. Old M) M
unfolding slot_of places_of
standing-old M q = record {
  slots = λ i u. record { older = slot_of M q i; stands = in_slot q i refl; object = refl; within = λ right g. g };
  inside = λ i. record {
    entries = λ j u. record { older = _; stands = in_entry q i j refl; object = refl; within = λ right g. g };
    inners = λ j u. record { older = _; stands = in_inner q i j refl; object = refl; within = λ right g. g };
  };
}

module _ (M N : Machine) (x : Call) (g : Grows M N) (h : AllHave (λ q. Old M) N) where
  old-free : Free N x (λ q. Old M)
  old-free = record {
    none = λ q. null-unissued M;
    restricted = λ q. old-restricted M;
    made = λ s. new-unissued M N x.caller s g;
    have = h;
    same = λ a right kind ne c d. (λ k. k, λ k. k);
  }

  old-does : (r : Result) → Doing N x r → AllHave (λ q. Old M) (after N r)
  unfolding slot_of
  old-does r (stopped why) = h
  old-does r (handing e a c) = have-all (λ q. Old M) N _ ((h x.a).slots x.b, tt) h
  old-does r (owning e l value ys d) = have-all (λ q. Old M) N ys (each_map (Own N x) _ (own-brings N x (λ q. Old M) old-free) ys d) h

-- ---- any tape
run-old : (M N : Machine) (xs : List Call) → AllSixteenBit xs → sound N ≡ true → Grows M N → AllHave (λ q. Old M) N → AllHave (λ q. Old M) (run N xs)
unfolding run
run-old M N [] n s g h = h
run-old M N (x ∷ xs) n s g h =
    run-old M (after N (step N x)) xs n.1 (step_keeps N x n.0 s)
    (λ q. let u = g q in let v = step-grows N x s q in omega arith)
    (old-does M N x g h (step N x) (step-does N x))

standing : (K : Capability → Type 0) (M : Machine) (c : Capability) → AllHave (λ q. K) M → Stands M c → K c
unfolding slot_of places_of
standing K M c h (in_slot p i e) = subst K e ((h p).slots i)
standing K M c h (in_entry p i j e) = subst K e (((h p).inside i).entries j)
standing K M c h (in_inner p i j e) = subst K e (((h p).inside i).inners j)

-- No right grows: c stands anywhere after the tape, and names an object issued before it.
pub no-right-grows : (M : Machine) (xs : List Call) (c : Capability) → AllSixteenBit xs → sound M ≡ true → Stands (run M xs) c → issued M c.object ≡ true → Covered M c
no-right-grows M xs c n h s u = standing (Old M) (run M xs) c (run-old M M xs n h (λ q. omega arith) (standing-old M)) s u

-- The incident: where no capability on an object has a right, none ever comes to have it. No machine of these calls passes on
-- a right that it should have dropped.
pub right-never-comes : (M : Machine) (xs : List Call) (o : ObjectNumber) (right : ℕ) → AllSixteenBit xs → sound M ≡ true → issued M o ≡ true →
    ((c : Capability) → Stands M c → c.object ≡ o → has_right c right ≡ false) → (c : Capability) → Stands (run M xs) c → c.object ≡ o → has_right c right ≡ false
right-never-comes M xs o right n h u k c s e = go (has_right c right) refl
  where
    go : (b : Bool) → has_right c right ≡ b → has_right c right ≡ false
    go false f = f
    go true f =
        let v = no-right-grows M xs c n h s (rw e u) in
        never (sym (v.within right f) ∙ k v.older v.stands (v.object ∙ e))
