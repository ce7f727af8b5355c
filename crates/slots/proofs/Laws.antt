-- Laws of the list of records.
-- Assumes nothing.
use Prim.Native.Nat.{ℕ, ◌<◌}
use native.Mathlib.Omega.{arith}
use mathlib.Core.Path.{◌≡◌, refl, sym, ap, ◌∙◌}
use mathlib.Core.Bool.{Bool, true, false, ◌&&◌, not, and-true, and_assoc}
use mathlib.Core.List.{List, [], ◌∷◌}
use lib.ListN.{length, set, get_or}
use lib.Dec.{ltb, eqb}
use borrow.Author.Tests.{eqb-true, ltb-true, lt-ltb}
use Rattle.std.specs.Prelude.{Ok, Err, is_ok}
use Rattle.std.specs.List.{fold}
use Rattle.things.specs.declared.Capability.{Capability}
use Rattle.things.specs.declared.Outcome.{Outcome}
use Rattle.things.specs.declared.Refusal.TheVariants.{BadTables, BadNumber}
use Rattle.things.specs.Answers.{in_numbers}
use Rattle.things.specs.Lists.{pick, every}
use Rattle.things.specs.Rights.{null, restricted}
use Rattle.things.proofs.ListLaws.{and_parts}
use Rattle.rules.specs.Machine.{PACKAGES, Machine, package_of, slot_of}
use Rattle.rules.specs.Sound.{capability_sound}
use Rattle.rules.specs.Changes.{set_slot, changed, apply, apply_all}
use Rattle.rules.specs.Checks.{Result, refused, done, answer_of, after, unless}
use Rattle.rules.specs.Calls.{restrict, drop}
use Rattle.rules.specs.Step.{Call, in_range, may_call, rows, row_of, good_numbers, obey, step}
use Rattle.slots.specs.Slots.{could_be_issued, slots_sound, alone, called_by, to_restrict, to_drop, decide, answer, next, Ended}
use Rattle.slots.specs.Parts.{judged}

-- ---- every record, by a fold

pub fold-every : {A : Type 0} (f : A → Bool) (ok : Bool) (xs : List A) → fold (λ b x. b && f x) ok xs ≡ ok && every f xs
unfolding every
fold-every f ok [] = sym (and-true ok)
fold-every f ok (x ∷ xs) = fold-every f (ok && f x) xs ∙ and_assoc ok (f x) (every f xs)

-- ---- the numbers: "a slot, b mask 0..255, c slot", and "a slot"

abbrev pub restrict_range : ℕ → ℕ → ℕ → Bool
restrict_range a b c = (ltb a 16 && ltb b 256) && ltb c 16

abbrev pub drop_range : ℕ → ℕ → ℕ → Bool
drop_range a b c = (ltb a 16 && eqb b 0) && eqb c 0

flat-and : (x y z : Bool) → x && (y && (z && true)) ≡ (x && y) && z
flat-and x y z = rw (and-true z) (sym (and_assoc x y z))

-- Any package's call goes by its numbers alone.
pub good-restrict : (p a b c : ℕ) → p < PACKAGES → good_numbers (row_of 1) (called_by p 1 a b c) ≡ restrict_range a b c
unfolding good_numbers may_call in_range rows
good-restrict p a b c l = rw (lt-ltb p 8 l) (flat-and (ltb a 16) (ltb b 256) (ltb c 16))

pub good-drop : (p a b c : ℕ) → p < PACKAGES → good_numbers (row_of 2) (called_by p 2 a b c) ≡ drop_range a b c
unfolding good_numbers may_call in_range rows
good-drop p a b c l = rw (lt-ltb p 8 l) (flat-and (ltb a 16) (eqb b 0) (eqb c 0))

-- ---- a call on the machine, by whether its numbers are in range

-- Package p's call that stores v in slot i.
abbrev pub stores : ℕ → Bool → ℕ → Capability → Result
stores p g i v = pick (not g) (refused BadNumber) (done 0 (set_slot p i v ∷ []))

pub restrict_stores : (M : Machine) (p a b c : ℕ) → p < PACKAGES
    → step M (called_by p 1 a b c) ≡ stores p (restrict_range a b c) c (restricted (slot_of M p a) b)
unfolding unless step obey rows restrict
restrict_stores M p a b c l = ap (λ (g : Bool). stores p g c (restricted (slot_of M p a) b)) (good-restrict p a b c l)

pub drop_stores : (M : Machine) (p a b c : ℕ) → p < PACKAGES → step M (called_by p 2 a b c) ≡ stores p (drop_range a b c) a null
unfolding unless step obey rows drop
drop_stores M p a b c l = ap (λ (g : Bool). stores p g a null) (good-drop p a b c l)

-- ---- a call on a list, by what its numbers make it do on the machine

module _ (l : List Capability) (x : Call) (g : Bool) (i : ℕ) (v : Capability) (h : step (alone l) x ≡ stores 0 g i v) where
  -- BAD TABLES, BAD NUMBER, done: by two tests.
  abbrev settled : Bool → Bool → Result
  settled s t = pick (not s) (refused BadTables) (stores 0 t i v)

  decided : decide l x ≡ settled (slots_sound l) g
  unfolding decide unless
  decided = ap (λ (r : Result). pick (not (slots_sound l)) (refused BadTables) r) h

  pub answer-is : answer l x ≡ judged (slots_sound l) g
  unfolding answer judged
  answer-is = ap answer_of decided ∙ go (slots_sound l) g
    where
      go : (s t : Bool) → answer_of (settled s t) ≡ pick s (pick t (Ok 0) (Err BadNumber)) (Err BadTables)
      go true true = refl
      go true false = refl
      go false t = refl

  pub next-is : next l x ≡ pick (slots_sound l && g) (set l i v) l
  unfolding next package_of apply_all apply changed
  next-is = ap (λ (r : Result). (package_of (after (alone l) r) 0).slots) decided ∙ go (slots_sound l) g
    where
      go : (s t : Bool) → (package_of (after (alone l) (settled s t)) 0).slots ≡ pick (s && t) (set l i v) l
      go true true = refl
      go true false = refl
      go false t = refl

-- ---- done or not

pub done-is : (s g : Bool) → is_ok (judged s g) ≡ s && g
unfolding judged
done-is true true = refl
done-is true false = refl
done-is false g = refl

-- A done call is on a list of sixteen, and its numbers are in range.
pub done-parts : (l : List Capability) (g : Bool) → is_ok (judged (slots_sound l) g) ≡ true → (length l ≡ 16) × (g ≡ true)
unfolding slots_sound
done-parts l g h =
    let p = and_parts (slots_sound l) g (sym (done-is (slots_sound l) g) ∙ h) in
    (eqb-true (length l) 16 (and_parts (eqb (length l) 16) (every (capability_sound could_be_issued) l) p.0).0, p.1)

-- So its slots are in the list.
pub restrict_within : (l : List Capability) (a b c : ℕ) → is_ok (judged (slots_sound l) (restrict_range a b c)) ≡ true → (a < length l) × (c < length l)
restrict_within l a b c h =
    let p = done-parts l (restrict_range a b c) h in
    let q = and_parts (ltb a 16 && ltb b 256) (ltb c 16) p.1 in
    rw p.0 (ltb-true a 16 (and_parts (ltb a 16) (ltb b 256) q.0).0, ltb-true c 16 q.1)

pub drop_within : (l : List Capability) (a : ℕ) → is_ok (judged (slots_sound l) (ltb a 16)) ≡ true → a < length l
drop_within l a h =
    let p = done-parts l (ltb a 16) h in
    rw p.0 (ltb-true a 16 p.1)

-- The slot that a done call looks at, and the one that it changes: restrict's two, and drop's one.
pub in-range : (l : List Capability) (a b c : ℕ) →
    (is_ok (judged (slots_sound l) (restrict_range a b c)) ≡ true → (a < length l) × (c < length l))
    × (is_ok (judged (slots_sound l) (ltb a 16)) ≡ true → a < length l)
in-range l a b c = (restrict_within l a b c, drop_within l a)

-- How a call ends that stores v in slot i where it is done: t says whether it is.
module _ (l : List Capability) (x : Call) (g : Bool) (i : ℕ) (v : Capability) (h : step (alone l) x ≡ stores 0 g i v) where
  kept : (t : Bool) → is_ok (judged (slots_sound l) g) ≡ t → pick t (set l i v) l ≡ next l x
  kept t e = rw (next-is l x g i v h, ← done-is (slots_sound l) g, e) refl

  pub ends : {r : Outcome} {k : List Capability} (t : Bool) → r ≡ in_numbers (judged (slots_sound l) g)
      → is_ok (judged (slots_sound l) g) ≡ t → k ≡ pick t (set l i v) l → Ended l x r k
  ends t p e q = record { outcome = p ∙ ap in_numbers (sym (answer-is l x g i v h)); list = q ∙ kept t e }

  -- The two cases of it: what a done call stores, and that a refused one leaves the list.
  pub next-done : is_ok (judged (slots_sound l) g) ≡ true → set l i v ≡ next l x
  next-done e = kept true e

  pub next-refused : is_ok (judged (slots_sound l) g) ≡ false → l ≡ next l x
  next-refused e = kept false e

pub restrict_ends : (l : List Capability) (a b c : ℕ) {r : Outcome} {k : List Capability} (t : Bool)
    → r ≡ in_numbers (judged (slots_sound l) (restrict_range a b c))
    → is_ok (judged (slots_sound l) (restrict_range a b c)) ≡ t
    → k ≡ pick t (set l c (restricted (get_or l a null) b)) l
    → Ended l (to_restrict a b c) r k
unfolding slot_of package_of
restrict_ends l a b c t p e q = ends l (to_restrict a b c) (restrict_range a b c) c (restricted (get_or l a null) b) (restrict_stores (alone l) 0 a b c (omega arith)) t p e q

pub drop_ends : (l : List Capability) (a : ℕ) {r : Outcome} {k : List Capability} (t : Bool)
    → r ≡ in_numbers (judged (slots_sound l) (ltb a 16))
    → is_ok (judged (slots_sound l) (ltb a 16)) ≡ t
    → k ≡ pick t (set l a null) l
    → Ended l (to_drop a) r k
drop_ends l a t p e q =
    let s = drop_stores (alone l) 0 a 0 0 (omega arith) in
    ends l (to_drop a) (ltb a 16) a null (rw (and-true (ltb a 16), and-true (ltb a 16)) at s) t p e q
