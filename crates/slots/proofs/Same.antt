-- The calls on the list are the calls on the tables: on the slots of a package of a sound machine they answer the same, and
-- leave the same slots. And the contract of the two entries leaves nothing open.
-- Assumes nothing.
use Prim.Native.Nat.{ℕ, ◌<◌}
use native.Mathlib.Omega.{arith}
use mathlib.Core.Path.{◌≡◌, refl, sym, ap, ◌∙◌}
use mathlib.Core.Bool.{Bool, true, false, ◌&&◌}
use mathlib.Core.List.{List}
use lib.ListN.{length, set}
use lib.Seq.{get_or-set_same}
use lib.Dec.{ltb, leb}
use borrow.Author.Tests.{eq-eqb}
use Rattle.things.specs.declared.ObjectNumber.{ObjectNumber}
use Rattle.things.specs.declared.Capability.{Capability}
use Rattle.things.specs.declared.Outcome.{Outcome}
use Rattle.things.specs.declared.Refusal.TheVariants.{BadTables, BadNumber}
use Rattle.std.specs.Prelude.{Ok, Err}
use Rattle.things.specs.Lists.{pick}
use Rattle.things.specs.Rights.{maker, serial}
use Rattle.things.proofs.ListLaws.{and_parts, and_both, every-mono}
use Rattle.rules.specs.Machine.{PACKAGES, Machine, Package, nobody, package_of, last_of, slot_of}
use Rattle.rules.specs.Sound.{issued, capability_sound, sound}
use Rattle.rules.specs.Changes.{set_slot, slotted, changed, apply, apply_all}
use Rattle.rules.specs.Checks.{Result, refused, answer_of, after, unless}
use Rattle.rules.specs.Step.{Call, step}
use Rattle.rules.proofs.Parts.{sound-eight, sound-package, capability-more}
use Rattle.slots.specs.Slots.{could_be_issued, slots_sound, alone, called_by, to_restrict, to_drop, decide, answer, next, Ended}
use Rattle.slots.specs.Parts.{judged}
use Rattle.slots.proofs.Laws.{stores, restrict_stores, drop_stores, answer-is, next-is}

-- What was issued could be.
issued-could : (M : Machine) (o : ObjectNumber) → issued M o ≡ true → could_be_issued o ≡ true
unfolding issued could_be_issued
issued-could M o h =
    let p = and_parts (ltb (maker o) PACKAGES) (ltb 0 (serial o) && leb (serial o) (last_of M (maker o))) h in
    and_both p.0 (and_parts (ltb 0 (serial o)) (leb (serial o) (last_of M (maker o))) p.1).0

module _ (M : Machine) (h : sound M ≡ true) (p : ℕ) (l : p < PACKAGES) where
  abbrev slots : List Capability
  slots = (package_of M p).slots

  -- Slots of a sound machine are a sound list.
  pub slots-sound : slots_sound slots ≡ true
  unfolding slots_sound
  slots-sound =
      let parts = sound-package M h p l in
      and_both (eq-eqb (length slots) 16 parts.slots)
      (every-mono (capability_sound (issued M)) (capability_sound could_be_issued) slots (capability-more (issued M) could_be_issued (issued-could M)) parts.each-slot)

  -- A store in one of package p's slots is a store in the list of them.
  stored-slot : (i : ℕ) (v : Capability) → (package_of (apply M (set_slot p i v)) p).slots ≡ set slots i v
  unfolding package_of apply changed
  stored-slot i v = ap (λ (P : Package). P.slots) (get_or-set_same M p (slotted i v (package_of M p)) nobody (rw (sound-eight M h) l))

  -- A call x on the list that does what the call y does on the machine.
  module _ (x y : Call) (g : Bool) (i : ℕ) (v : Capability) (here : step (alone slots) x ≡ stores 0 g i v) (there : step M y ≡ stores p g i v) where
    same_answer : answer slots x ≡ answer_of (step M y)
    unfolding judged
    same_answer = rw (answer-is slots x g i v here, slots-sound, there) (told g)
      where
        told : (t : Bool) → pick t (Ok 0) (Err BadNumber) ≡ answer_of (stores p t i v)
        told true = refl
        told false = refl

    same-slots : next slots x ≡ (package_of (after M (step M y)) p).slots
    unfolding apply_all
    same-slots = rw (next-is slots x g i v here, slots-sound, there) (told g)
      where
        told : (t : Bool) → pick t (set slots i v) slots ≡ (package_of (after M (stores p t i v)) p).slots
        told true = sym (stored-slot i v)
        told false = refl

  -- "The same refusals in the same order, the same answer, value and slots as the calls on the tables."
  pub restrict-same : (a b c : ℕ)
      → let r = step M (called_by p 1 a b c) in (answer slots (to_restrict a b c) ≡ answer_of r) × (next slots (to_restrict a b c) ≡ (package_of (after M r) p).slots)
  unfolding slot_of package_of
  restrict-same a b c =
      let here = restrict_stores (alone slots) 0 a b c (omega arith) in
      let there = restrict_stores M p a b c l in
      (same_answer _ _ _ _ _ here there, same-slots _ _ _ _ _ here there)

  pub drop-same : (a : ℕ) → let r = step M (called_by p 2 a 0 0) in (answer slots (to_drop a) ≡ answer_of r) × (next slots (to_drop a) ≡ (package_of (after M r) p).slots)
  drop-same a =
      let here = drop_stores (alone slots) 0 a 0 0 (omega arith) in
      let there = drop_stores M p a 0 0 l in
      (same_answer _ _ _ _ _ here there, same-slots _ _ _ _ _ here there)

-- A list that isn't sound is refused with BAD TABLES, and stays, whatever the call.
unsound-decided : (l : List Capability) (x : Call) → slots_sound l ≡ false → decide l x ≡ refused BadTables
unfolding decide unless
unsound-decided l x h = rw h

pub unsound : (l : List Capability) (x : Call) → slots_sound l ≡ false → (answer l x ≡ Err BadTables) × (next l x ≡ l)
unfolding answer next package_of
unsound l x h =
    let e = unsound-decided l x h in
    (ap answer_of e, ap (λ (r : Result). (package_of (after (alone l) r) 0).slots) e)

-- Two outcomes that the contract of an entry allows are equal: the outcome, and every record.
pub one-ending : (l : List Capability) (x : Call) (r s : Outcome) (k m : List Capability) → Ended l x r k → Ended l x s m → (r ≡ s) × (k ≡ m)
one-ending l x r s k m e f = (e.outcome ∙ sym f.outcome, e.list ∙ sym f.list)
