-- What a checked capability's object is, where it lives, and what a check that is passed tells.
-- Assumes nothing.
use Prim.Native.Nat.{ℕ, zero, suc, ◌<◌, ◌≤◌}
use native.Mathlib.Omega.{arith}
use mathlib.Core.Path.{◌≡◌, refl, sym, ap, ◌∙◌}
use mathlib.Core.Bool.{Bool, true, false, not, ◌||◌}
use mathlib.Core.List.{List, [], ◌∷◌}
use lib.ListN.{length, get_or, get_or-eq_default}
use lib.Dec.{eqb, ltb}
use borrow.Author.Tests.{eqb-true, ltb-true, ltb-false, not-false}
use Rattle.things.specs.declared.ObjectNumber.{ObjectNumber}
use Rattle.things.specs.declared.Capability.{Capability}
use Rattle.things.specs.declared.Refusal.TheVariants.{Empty, NoAbility, Gone, WrongKind}
use Rattle.things.specs.Lists.{pick, some, first}
use Rattle.things.specs.Rights.{is_null, has_right}
use Rattle.things.proofs.ListLaws.{and_parts, never, first_passes}
use Rattle.rules.specs.Machine.{empty, Machine, places_of, inside, is_empty, kind_of, holds, place_of, living, slot_of}
use Rattle.rules.specs.Sound.{issued, capability_sound, sound}
use Rattle.rules.specs.Checks.{checked, gone, is_kind}
use Rattle.rules.specs.Calls.{named, opened}
use Rattle.rules.proofs.Decide.{Passed}
use Rattle.rules.proofs.Inside.{sound-names, slot-sound, holds-full}
use Rattle.tables.specs.Layout.{machine}
use Rattle.tables.proofs.Laws.{formed}
use Rattle.access.specs.Lent.{Lent}
use Rattle.access.proofs.Searching.{places-long}
use Rattle.access.specs.declared.which.Place.{Place as At}
use Rattle.checks.specs.Rooms.{LivesAt}
use Rattle.checks.specs.Verdicts.{passes, stops, verdict}
use Rattle.checks.proofs.Deciding.{hit, miss, all-passed, passed}

first_step : (b : Bool) (n m : ℕ) → pick b zero (suc n) < suc m → b ≡ false → n < m
first_step true n m h e = never e
first_step false n m h e = omega arith

or-either : (b c : Bool) → (b ≡ false → c ≡ true) → b || c ≡ true
or-either true c h = refl
or-either false c h = h refl

pub first_some : {A : Type 0} (f : A → Bool) (xs : List A) → first f xs < length xs → some f xs ≡ true
unfolding first some
first_some f [] h = let z : ⊥ = omega arith in absurd z
first_some f (x ∷ xs) h = or-either (f x) (some f xs) (λ e. first_some f xs (first_step (f x) (first f xs) (length xs) h e))

pub not_some : {A : Type 0} (f : A → Bool) (xs : List A) → length xs ≤ first f xs → some f xs ≡ false
not_some f xs h = go (some f xs) refl
  where
    go : (b : Bool) → some f xs ≡ b → some f xs ≡ false
    go true e = let l = Rattle.things.proofs.ListLaws.first-in f xs e in let z : ⊥ = omega arith in absurd z
    go false e = e

module _ (t : List ℕ) (w : Lent t) where
  abbrev M : Machine
  M = machine t

  pub sound-shown : sound M ≡ true
  sound-shown = (formed t w.formed).sound-shown

  -- An object whose maker is a package: it is gone, or lives in the place that the search finds.
  module _ (o : ObjectNumber) (l : o.0 < 8) where
    pub lives : (i : ℕ) → i ≡ place_of M o → i < 16 → gone M o ≡ false
    unfolding gone living place_of
    lives i e b =
        holds-full o.1 (get_or (places_of M o.0) (place_of M o) empty)
        (first_passes (holds o.1) (places_of M o.0) empty (first_some (holds o.1) (places_of M o.0) (rw (places-long t w o.0 l) (rw e at b))))

    pub lost : 16 ≤ place_of M o → gone M o ≡ true
    unfolding gone living is_empty
    lost h = ap is_empty (get_or-eq_default (places_of M o.0) empty (rw (places-long t w o.0 l) h))

  pub maker-in : (c : Capability) → capability_sound (issued M) c ≡ true → is_null c ≡ false → c.object.0 < 8
  unfolding issued
  maker-in c s n =
      let p = and_parts (issued M c.object) _ (sound-names (issued M) c s n) in
      ltb-true c.object.0 8 (and_parts (ltb c.object.0 8) _ p.0).0

  pub living-at : (o : ObjectNumber) (i : ℕ) → i ≡ place_of M o → living M o ≡ inside M o.0 i
  unfolding living
  living-at o i e = rw e

  -- what is asked of the kind there is what is asked of the object's
  pub kind-at : (o : ObjectNumber) (kind m i : ℕ) → m ≡ o.0 → i ≡ place_of M o → (b : Bool) → is_kind kind (inside M m i) ≡ b → is_kind kind (living M o) ≡ b
  unfolding living
  kind-at o kind m i e f b h = rw (e, f) at h

  pub placed : (o : ObjectNumber) → o.0 < 8 → gone M o ≡ false → place_of M o < 16
  unfolding gone living is_empty
  placed o l h = go (ltb (place_of M o) 16) refl
    where
      go : (b : Bool) → ltb (place_of M o) 16 ≡ b → place_of M o < 16
      go true e = ltb-true (place_of M o) 16 e
      go false e =
          let d = get_or-eq_default (places_of M o.0) empty {n = place_of M o} (rw (places-long t w o.0 l) (ltb-false (place_of M o) 16 e)) in
          never (sym (sym h ∙ ap is_empty d))

pub lives-at : (M : Machine) (o : ObjectNumber) (kind : ℕ) (at : At) → at.maker ≡ o.0 → at.number ≡ place_of M o → is_kind kind (inside M at.maker at.number) ≡ true → LivesAt M o kind at
unfolding is_kind
lives-at M o kind at e f h = (e, f, eqb-true _ _ h)

-- What a passed check tells of its capability.
pub record Opened (M : Machine) (c : Capability) (right kind q i : ℕ) : Type 0 where
  pub all-passed : Passed (checked M c right kind)
  pub maker-is : q ≡ c.object.0
  pub place_is : i ≡ place_of M c.object
  pub maker-below : q < 8
  pub place-below : i < 16
  pub kind-is : kind_of (inside M q i) ≡ kind
  pub here : living M c.object ≡ inside M q i

pub opened-passed : (t : List ℕ) (w : Lent t) (c : Capability) (right kind q i : ℕ) → capability_sound (issued (machine t)) c ≡ true → Passed (checked (machine t) c right kind) →
    q ≡ c.object.0 → i ≡ place_of (machine t) c.object → Opened (machine t) c right kind q i
unfolding is_kind
opened-passed t w c right kind q i s f m n =
    let l = maker-in t w c s f.0 in
    let a = living-at t w c.object i n in
    let k : eqb (kind_of (living (machine t) c.object)) kind ≡ true = not-false _ f.1.1.1.0 in
    let here : living (machine t) c.object ≡ inside (machine t) q i = a ∙ rw m in
    record {
      all-passed = f;
      maker-is = m;
      place_is = n;
      maker-below = rw m l;
      place-below = rw n (placed t w c.object l f.1.1.0);
      kind-is = rw (← here) (eqb-true (kind_of (living (machine t) c.object)) kind k);
      here = here;
    }

pub opened-by : (t : List ℕ) (w : Lent t) (c : Capability) (right kind q i : ℕ) → capability_sound (issued (machine t)) c ≡ true → verdict (checked (machine t) c right kind) ≡ passes → q ≡ c.object.0 → i ≡ place_of (machine t) c.object → Opened (machine t) c right kind q i
opened-by t w c right kind q i s h m n = opened-passed t w c right kind q i s (passed (checked (machine t) c right kind) h) m n

pub slot-sound-shown : (t : List ℕ) (w : Lent t) (p a : ℕ) → p < 8 → capability_sound (issued (machine t)) (slot_of (machine t) p a) ≡ true
slot-sound-shown t w p a l = slot-sound (machine t) p a (sound-shown t w) l

-- The verdict on a capability, one check after another.
module _ (M : Machine) (c : Capability) (right kind : ℕ) where
  pub verdict-null : is_null c ≡ true → verdict (checked M c right kind) ≡ stops Empty
  verdict-null a = hit _ _ a

  pub verdict-unable : is_null c ≡ false → has_right c right ≡ false → verdict (checked M c right kind) ≡ stops NoAbility
  verdict-unable a b = miss _ _ a ∙ hit _ _ (ap not b)

  pub verdict-gone : is_null c ≡ false → has_right c right ≡ true → gone M c.object ≡ true → verdict (checked M c right kind) ≡ stops Gone
  verdict-gone a b d = miss _ _ a ∙ miss _ _ (ap not b) ∙ hit _ _ d

  pub verdict-kind : is_null c ≡ false → has_right c right ≡ true → gone M c.object ≡ false → is_kind kind (living M c.object) ≡ false → verdict (checked M c right kind) ≡ stops WrongKind
  verdict-kind a b d e = miss _ _ a ∙ miss _ _ (ap not b) ∙ miss _ _ d ∙ hit _ _ (ap not e)

  pub verdict-good : is_null c ≡ false → has_right c right ≡ true → gone M c.object ≡ false → is_kind kind (living M c.object) ≡ true → verdict (checked M c right kind) ≡ passes
  verdict-good a b d e = miss _ _ a ∙ miss _ _ (ap not b) ∙ miss _ _ d ∙ miss _ _ (ap not e) ∙ all-passed

-- The object that slot a names, once its check is passed.
pub opened-is : (M : Machine) (p a right kind q i : ℕ) → Opened M (slot_of M p a) right kind q i → opened M p a ≡ inside M q i
unfolding opened named
opened-is M p a right kind q i o = o.here
