-- What restrict, drop and a hand-over leave in a slot.
-- Assumes nothing.
use Prim.Native.Nat.{ℕ, ◌<◌}
use mathlib.Core.Path.{◌≡◌}
use mathlib.Core.Bool.{true}
use lib.Seq.{get_or-set_same}
use Rattle.things.specs.declared.Capability.{Capability}
use Rattle.things.specs.Rights.{null, restricted}
use Rattle.rules.specs.Machine.{PACKAGES, SLOTS, Machine, nobody, package_of, slot_of}
use Rattle.rules.specs.Sound.{sound}
use Rattle.rules.specs.Changes.{set_slot, slotted, changed, apply, apply_all}
use Rattle.rules.specs.Checks.{after}
use Rattle.rules.specs.Calls
use Rattle.rules.proofs.Parts.{sound-eight, sound-package}

-- What is stored in a slot is what stands there.
pub slot-stored : (M : Machine) (p i : ℕ) (c : Capability) → sound M ≡ true → p < PACKAGES → i < SLOTS → slot_of (apply M (set_slot p i c)) p i ≡ c
unfolding slot_of package_of apply changed
slot-stored M p i c h l k =
    rw (get_or-set_same M p (slotted i c (package_of M p)) nobody (rw (sound-eight M h) l))
    (get_or-set_same (package_of M p).slots i c null (rw (sound-package M h p l).slots k))

module _ (M : Machine) (h : sound M ≡ true) (p : ℕ) (l : p < PACKAGES) (a b c d e : ℕ) where
  -- A restrict leaves in slot c the rights that the mask leaves, and no more.
  pub restrict-leaves : c < SLOTS → slot_of (after M (Calls.restrict M p a b c d e)) p c ≡ restricted (slot_of M p a) b
  unfolding Calls.restrict apply_all
  restrict-leaves k = slot-stored M p c (restricted (slot_of M p a) b) h l k

  -- A drop leaves nothing.
  pub drop-leaves : a < SLOTS → slot_of (after M (Calls.drop M p a b c d e)) p a ≡ null
  unfolding Calls.drop apply_all
  drop-leaves k = slot-stored M p a null h l k
