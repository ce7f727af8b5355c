-- The premises on the start hold again after every call, and a far call changes no near package: the invariant of demand 3.
-- Assumes nothing.
use Prim.Native.Nat.{ℕ, ◌+◌, ◌≤◌, ◌<◌}
use mathlib.Core.Path.{◌≡◌, refl, sym, subst, ◌∙◌}
use mathlib.Core.Bool.{Bool, true, false, not, ◌&&◌, ◌||◌}
use mathlib.Core.List.{List}
use lib.ListN.{length, get_or, get_or-eq_default}
use lib.Dec.{eqb, ltb, leb}
use borrow.Author.Tests.{ltb-true, ltb-false}
use Rattle.things.specs.declared.Capability.{Capability}
use Rattle.things.specs.Lists.{some}
use Rattle.things.specs.Rights.{maker, serial, null, is_null, STORE, KEEP, READ}
use Rattle.things.proofs.ListLaws.{and_both, or-rest, never, every-or}
use Rattle.rules.specs.Machine.{PACKAGES, no_entry, Place, Package, Machine, nobody, package_of, slot_of, places_of, kind_of, entries_of, inners_of}
use Rattle.rules.specs.Sound.{issued, capability_sound, entry_sound, sound}
use Rattle.rules.specs.Changes.{place_at}
use Rattle.rules.specs.Checks.{gone}
use Rattle.rules.proofs.Parts.{sound-eight}
use Rattle.rules.proofs.Keep.{inside}
use Rattle.rules.proofs.Inside.{null-sound, slot-sound, inside-sound, none-sound, entry-capability}
use Rattle.sides.specs.Sides.{Split, names_far, names_near, reading_only, lives_as, near_names, far_rights, far_kinds}
use Rattle.sides.proofs.Places.{lives_at, in-place-lives}
use Rattle.sides.proofs.Dead.{Kinds}
use Rattle.sides.proofs.Has.{HasIn, Has, has_more, AllHave}
use Rattle.sides.proofs.Having.{near_parts, far-parts}
use Rattle.sides.proofs.Twin.{NearOnly}

-- ---- every capability of a sound machine is sound
sound-in : (M : Machine) (q i : ℕ) → sound M ≡ true → HasIn (λ c. capability_sound (issued M) c ≡ true) (inside M q i)
sound-in M q i h = record {
  entries = λ j. entry-capability (issued M) _ (every-or (entry_sound (issued M)) (entries_of (inside M q i)) j no_entry (inside-sound M q i h).entries (none-sound (issued M)));
  inners = λ j. every-or (capability_sound (issued M)) (inners_of (inside M q i)) j null (inside-sound M q i h).inners (null-sound (issued M));
}

slot-sound-at : (M : Machine) (q i : ℕ) → sound M ≡ true → q < PACKAGES → capability_sound (issued M) (get_or (package_of M q).slots i null) ≡ true
unfolding slot_of
slot-sound-at M q i h l = slot-sound M q i h l

outside-sound : (M : Machine) (q i : ℕ) → sound M ≡ true → PACKAGES ≤ q → capability_sound (issued M) (get_or (package_of M q).slots i null) ≡ true
unfolding package_of
outside-sound M q i h l =
    let v : length M ≤ q = rw (sound-eight M h) l in
    rw (get_or-eq_default M nobody v) (null-sound (issued M))

sound-in-at : (M : Machine) (q i : ℕ) → sound M ≡ true → HasIn (λ c. capability_sound (issued M) c ≡ true) (place_at (package_of M q) i)
unfolding places_of
sound-in-at M q i h = sound-in M q i h

pub all_sound : (M : Machine) → sound M ≡ true → AllHave (λ q c. capability_sound (issued M) c ≡ true) M
all_sound M h q = record { slots = slots (ltb q PACKAGES) refl; inside = λ i. within i }
  where
    slots : (b : Bool) → ltb q PACKAGES ≡ b → (i : ℕ) → capability_sound (issued M) (get_or (package_of M q).slots i null) ≡ true
    slots true e i = slot-sound-at M q i h (ltb-true q PACKAGES e)
    slots false e i = outside-sound M q i h (ltb-false q PACKAGES e)

    within : (i : ℕ) → HasIn (λ c. capability_sound (issued M) c ≡ true) (place_at (package_of M q) i)
    within i = sound-in-at M q i h

-- ---- the invariant
module _ (kinds : List ℕ) (near : Split) where
  -- rights and kind of what the far side may have on a living near object
  abbrev pub allowed : Capability → ℕ → Bool
  allowed c m = leb c.rights (STORE + KEEP + READ) && not (some (eqb m) kinds)

  abbrev pub Such : Machine → Capability → Type 0
  Such M c = (i : ℕ) → Kinds (allowed c) (serial c.object) (inside M (maker c.object) i)

  abbrev pub FarOnly : Machine → Capability → Type 0
  FarOnly M c = is_null c ≡ false → near (maker c.object) ≡ true → Such M c

  abbrev pub May : Machine → Bool → Capability → Type 0
  May M true c = NearOnly near c
  May M false c = FarOnly M c

  pub record Kept (M : Machine) : Type 0 where
    pub sound-kept : sound M ≡ true
    pub have : AllHave (λ q. May M (near q)) M

-- ---- the premises' tests say it
names-near : (near : Split) (c : Capability) → not (names_far near c) ≡ true → NearOnly near c
unfolding names_far
names-near near c h n = go (is_null c) (near (maker c.object)) refl refl
  where
    go : (b d : Bool) → is_null c ≡ b → near (maker c.object) ≡ d → near (maker c.object) ≡ true
    go true d e f = never (sym e ∙ n)
    go false true e f = f
    go false false e f = let k : not (not false && not false) ≡ true = rw (e, f) at h in never (sym k)

pub near-tested : (near : Split) (c : Capability) → NearOnly near c → not (names_far near c) ≡ true
unfolding names_far
near-tested near c h = go (is_null c) refl
  where
    go : (b : Bool) → is_null c ≡ b → not (not (is_null c) && not (near (maker c.object))) ≡ true
    go true e = rw e
    go false e = rw (e, h e)

pub on-near : (near : Split) (c : Capability) (b : Bool) → not (names_near near c) || b ≡ true → is_null c ≡ false → near (maker c.object) ≡ true → b ≡ true
unfolding names_near
on-near near c b h n m = rw (n, m) at h

pub tested : (near : Split) (c : Capability) (b : Bool) → (is_null c ≡ false → near (maker c.object) ≡ true → b ≡ true) → not (names_near near c) || b ≡ true
unfolding names_near
tested near c b h = go (is_null c) (near (maker c.object)) refl refl
  where
    go : (d e : Bool) → is_null c ≡ d → near (maker c.object) ≡ e → not (not (is_null c) && near (maker c.object)) || b ≡ true
    go true e f g = rw f
    go false true f g = rw (f, g, h f g)
    go false false f g = rw (f, g)

null-tested : (near : Split) (b : Bool) → not (names_near near null) || b ≡ true
unfolding is_null
null-tested near b = tested near null b (λ e m. never e)

null-near-tested : (near : Split) → not (names_far near null) ≡ true
unfolding is_null
null-near-tested near = near-tested near null (λ e. never e)

module _ (kinds : List ℕ) (near : Split) (M : Machine) (h : sound M ≡ true) where
  pub such-of : (c : Capability) → reading_only M c ≡ true → not (lives_as kinds M c) ≡ true → Such kinds near M c
  unfolding reading_only lives_as
  such-of c r k i u =
      and_both (or-rest (gone M c.object) _ (in-place-lives M c.object i h u) r)
      (subst (λ (y : Place). not (some (eqb (kind_of y)) kinds) ≡ true) (lives_at M c.object i h u) k)

  has_both : (P : Package) → Has (λ c. not (names_near near c) || reading_only M c ≡ true) P → Has (λ c. not (names_near near c) || not (lives_as kinds M c) ≡ true) P → Has (FarOnly kinds near M) P
  has_both P r k = record {
    slots = λ i. join _ (r.slots i) (k.slots i);
    inside = λ i. record { entries = λ j. join _ ((r.inside i).entries j) ((k.inside i).entries j); inners = λ j. join _ ((r.inside i).inners j) ((k.inside i).inners j) };
  }
    where
      join : (c : Capability) → not (names_near near c) || reading_only M c ≡ true → not (names_near near c) || not (lives_as kinds M c) ≡ true → FarOnly kinds near M c
      join c a b n m = such-of c (on-near near c _ a n m) (on-near near c _ b n m)

  pub start-kept : near_names near M ≡ true → far_rights near M ≡ true → far_kinds kinds near M ≡ true → Kept kinds near M
  unfolding near_names far_rights far_kinds
  start-kept n r k = record { sound-kept = h; have = λ q. go q (near q) refl }
    where
      go : (q : ℕ) (b : Bool) → near q ≡ b → Has (May kinds near M b) (package_of M q)
      go q true e = has_more _ _ (names-near near) (package_of M q) (near_parts near _ (null-near-tested near) M (sound-eight M h) n q e)
      go q false e =
          has_both (package_of M q)
          (far-parts near _ (null-tested near _) M (sound-eight M h) r q e)
          (far-parts near _ (null-tested near _) M (sound-eight M h) k q e)
