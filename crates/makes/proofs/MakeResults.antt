-- What the makes come to, and what they leave.
-- Assumes nothing.
use Prim.Native.Nat.{ℕ, zero, suc, ◌<◌}
use mathlib.Core.Path.{◌≡◌, refl, ap, subst, ◌∙◌}
use mathlib.Core.Bool.{Bool, true, false}
use mathlib.Core.List.{List, [], ◌∷◌, ◌++◌}
use lib.ListN.{length, replicate}
use lib.Seq.{sets}
use borrow.Author.Tests.{not-false, lt-ltb}
use Rattle.std.specs.Prelude.{Ok}
use Rattle.things.specs.declared.ObjectNumber.{ObjectNumber}
use Rattle.things.specs.declared.Kind.{Kind}
use Rattle.things.specs.declared.Kind.TheVariants.{Segment, Directory, «Type», Extended}
use Rattle.things.specs.Kinds.{kind_number}
use Rattle.things.specs.Rights.{object, capability, null, made_rights, WRITE, MAKE}
use Rattle.things.proofs.ListLaws.{and_parts, first-in}
use Rattle.rules.specs.Machine.{DIRECTORY, TYPE, NUMBERS, Body, extended, holding, Machine, slot_of, places_of, inside, kind_of, is_empty, has_entry, empty_entry, empty_place}
use Rattle.rules.specs.Sound.{issued, body_sound}
use Rattle.rules.specs.Changes.{Change, set_last, set_entry, set_place, set_slot, apply, apply_all}
use Rattle.rules.specs.Checks.{Result, done, Check, unless, checked}
use Rattle.rules.specs.Calls
use Rattle.rules.specs.Calls.{named, opened, takes_entry, makes_one, next_serial, made, making, make, entry}
use Rattle.rules.proofs.Decide.{Passed}
use Rattle.rules.proofs.Inside.{sound-names, slot-sound}
use Rattle.rules.proofs.KeepCalls.{SoundAlong, changes_of, making-along, last-places, segment-new, directory-new, type-new, extended-new}
use Rattle.tables.specs.Layout.{place_numbers, inside_numbers, entry_numbers, capability_numbers, numbers, machine}
use Rattle.tables.specs.Positions.{place_pos, store}
use Rattle.tables.specs.Call.{tables_after}
use Rattle.tables.proofs.Laws.{formed}
use Rattle.tables.proofs.Stored.{last_stored, entry-stored, place-stored, slot-stored}
use Rattle.access.specs.Lent.{Lent}
use Rattle.access.proofs.Searching.{places-long}
use Rattle.checks.specs.Ends.{Ends}
use Rattle.makes.specs.Makes.{new_body, new_permits, headed}
use Rattle.checks.proofs.Deciding.{past, ends-done}
use Rattle.checks.proofs.Checking.{Opened, sound-shown, opened-is}
use Rattle.checks.proofs.Making.{empty-below}

-- ---- new bodies in numbers
pub new-numbers : (kind : Kind) (n s : ℕ) → (kind ≡ Extended → ⊥) → place_numbers (holding n (new_body (kind_number kind) s)) ≡ headed (kind_number kind) n (new_permits (kind_number kind) s) (object 0 0)
unfolding place_numbers inside_numbers entry_numbers capability_numbers new_body headed Rattle.things.specs.Lists.flat
new-numbers Segment n s plain = refl
new-numbers Directory n s plain = refl
new-numbers «Type» n s plain = refl
new-numbers Extended n s plain = absurd (plain refl)

pub object-numbers : (n s : ℕ) (of : ObjectNumber) → place_numbers (holding n (extended of s (replicate 4 null))) ≡ headed 4 n s of
unfolding place_numbers inside_numbers capability_numbers headed Rattle.things.specs.Lists.flat
object-numbers n s of = refl

pub new-sound : (known : ObjectNumber → Bool) (kind s : ℕ) → s < 4 → body_sound known (new_body kind s) ≡ true
unfolding new_body
new-sound known zero s l = type-new known
new-sound known (suc zero) s l = segment-new known
new-sound known (suc (suc zero)) s l = directory-new known s (lt-ltb s 4 l)
new-sound known (suc (suc (suc k))) s l = type-new known

-- ---- what a make comes to
module _ (M : Machine) (p : ℕ) (body : Body) (a b s d q i : ℕ) (o : Opened M (slot_of M p a) WRITE DIRECTORY q i) where
  abbrev pub rest : List Check
  rest = takes_entry (inside M q i) b (made M p s) ++ makes_one M p

  pub make-rest : make body M p a b s d ≡ unless rest (making M p body a b s d)
  unfolding make
  make-rest = past (checked M (slot_of M p a) WRITE DIRECTORY) _ _ o.all-passed ∙ rw (opened-is M p a WRITE DIRECTORY q i o)

  -- where the new entry goes, by position
  abbrev changes : List Change
  changes =
      set_last p (next_serial M p)
      ∷ set_entry q i (empty_entry (inside M q i)) (entry b (made M p s) true)
      ∷ set_place p (empty_place M p) (holding (next_serial M p) body)
      ∷ set_slot p d (made M p s)
      ∷ []

  pub making-is : making M p body a b s d ≡ done (next_serial M p) changes
  unfolding making named
  making-is = rw (opened-is M p a WRITE DIRECTORY q i o, o.maker-is, o.place_is)

-- ---- what it leaves
module _ (t : List ℕ) (w : Lent t) (p : ℕ) (l : p < 8) (body : Body) (a b s d q i : ℕ) (o : Opened (machine t) (slot_of (machine t) p a) WRITE DIRECTORY q i) where
  abbrev M : Machine
  M = machine t

  abbrev n : ℕ
  n = next_serial M p

  abbrev j : ℕ
  j = empty_entry (inside M q i)

  abbrev k : ℕ
  k = empty_place M p

  abbrev x₁ : Change
  x₁ = set_last p n

  abbrev x₂ : Change
  x₂ = set_entry q i j (entry b (made M p s) true)

  abbrev x₃ : Change
  x₃ = set_place p k (holding n body)

  abbrev x₄ : Change
  x₄ = set_slot p d (made M p s)

  making-left : SoundAlong M (x₁ ∷ x₂ ∷ x₃ ∷ x₄ ∷ []) → j < 16 → k < 16 → d < 16 → length (place_numbers (holding n body)) ≡ 85 → store (store (store (store t x₁) x₂) x₃) x₄ ≡ tables_after t (done n (x₁ ∷ x₂ ∷ x₃ ∷ x₄ ∷ []))
  unfolding tables_after apply_all
  making-left sd jl kl dl wide =
      let h = sound-shown t w in
      let f = formed t w.formed in
      let M₁ = apply M x₁ in
      let M₂ = apply M₁ x₂ in
      let M₃ = apply M₂ x₃ in
      let kind : kind_of (inside M₁ q i) ≡ DIRECTORY = rw (last-places M p n q) o.kind-is in
      let e₁ : store t x₁ ≡ numbers M₁ = subst (λ (u : List ℕ). store u x₁ ≡ numbers M₁) f.shown (last_stored M h p l n) in
      let e₂ : store (numbers M₁) x₂ ≡ numbers M₂ = entry-stored M₁ sd.1.0 q o.maker-below i j (entry b (made M p s) true) o.place-below jl kind in
      let e₃ : store (numbers M₂) x₃ ≡ numbers M₃ = place-stored M₂ sd.1.1.0 p l k (holding n body) kl wide in
      let e₄ : store (numbers M₃) x₄ ≡ numbers (apply M₃ x₄) = slot-stored M₃ sd.1.1.1.0 p l d (made M p s) dl in
      rw (e₁, e₂, e₃) e₄

  -- what the passed checks tell
  module _ (v : Passed (takes_entry (inside M q i) b (made M p s) ++ makes_one M p)) where
    fresh-name : has_entry (opened M p a) b ≡ false
    fresh-name = rw (opened-is M p a WRITE DIRECTORY q i o) v.0

    pub spot_in : j < 16
    spot_in = empty-below t w q i o.maker-below o.kind-is (not-false _ v.1.1.0)

    pub place_in : k < 16
    unfolding empty_place
    place_in = let f = first-in is_empty (places_of M p) (not-false _ v.1.1.1.0) in rw (places-long t w p l) at f

    pub make-ends : (R : Result) (u : List ℕ) (j' m' k' n' : ℕ) (head : ℕ → List ℕ) → R ≡ making M p body a b s d → 0 < b → b < NUMBERS → d < 16 → body_sound (issued M) body ≡ true →
        j' ≡ j → m' ≡ p → k' ≡ k → n' ≡ n → place_numbers (holding n body) ≡ head n → length (head n) ≡ 85 →
        u ≡ store (sets (store (store t (set_last p n')) (set_entry q i j' (entry b (capability (object p n') (made_rights s)) true))) (place_pos m' k') (head n')) (set_slot p d (capability (object p n') (made_rights s))) →
        Ends R t u (Ok n')
    unfolding made store
    make-ends R u j' m' k' n' head r z bl dl g je me ke ne he wide e =
        let along = making-along M (sound-shown t w) p l body a b s d v.1.1.1.1.0 z bl fresh-name g in
        let sd : SoundAlong M (x₁ ∷ x₂ ∷ x₃ ∷ x₄ ∷ []) = subst (λ (S : Result). SoundAlong M (changes_of S)) (making-is M p body a b s d q i o) along in
        let left = making-left sd spot_in place_in dl (ap length he ∙ wide) in
        rw ne (ends-done R t u n _ (r ∙ making-is M p body a b s d q i o) (e ∙ rw (je, me, ke, ne, ← he) left))

pub head-wide : (kind n s : ℕ) (of : ObjectNumber) → length (headed kind n s of) ≡ 85
unfolding headed
head-wide kind n s of = refl

-- ---- an extended object
module _ (M : Machine) (p a b c d s q i : ℕ) (o : Opened M (slot_of M p a) WRITE DIRECTORY q i) where
  abbrev pub object_body : Body
  object_body = extended (slot_of M p c).object s (replicate 4 null)

  pub object-second : Calls.make_object M p a b c d s ≡ unless (checked M (slot_of M p c) MAKE TYPE ++ (takes_entry (inside M q i) b (made M p s) ++ makes_one M p)) (making M p object_body a b s d)
  unfolding Calls.make_object named
  object-second = past (checked M (slot_of M p a) WRITE DIRECTORY) _ _ o.all-passed ∙ rw (opened-is M p a WRITE DIRECTORY q i o)

  pub object-rest : Passed (checked M (slot_of M p c) MAKE TYPE) → Calls.make_object M p a b c d s ≡ unless (takes_entry (inside M q i) b (made M p s) ++ makes_one M p) (making M p object_body a b s d)
  object-rest f = object-second ∙ past (checked M (slot_of M p c) MAKE TYPE) _ _ f

pub object-sound : (t : List ℕ) (w : Lent t) (p c s : ℕ) → p < 8 → s < 4 → Passed (checked (machine t) (slot_of (machine t) p c) MAKE TYPE) → body_sound (issued (machine t)) (extended (slot_of (machine t) p c).object s (replicate 4 null)) ≡ true
object-sound t w p c s l g f =
    let k = and_parts (issued (machine t) (slot_of (machine t) p c).object) _ (sound-names (issued (machine t)) (slot_of (machine t) p c) (slot-sound (machine t) p c (sound-shown t w) l) f.0) in
    extended-new (issued (machine t)) (slot_of (machine t) p c).object s k.0 (lt-ltb s 4 g)
