-- What a store leaves in well-formed tables is what the rules leave.
-- Assumes nothing.
use Prim.Native.Nat.{ℕ, ◌<◌}
use mathlib.Core.Path.{◌≡◌, sym, subst}
use mathlib.Core.List.{List, [], ◌∷◌}
use Rattle.things.specs.declared.Capability.{Capability}
use Rattle.rules.specs.Machine.{SEGMENT, DIRECTORY, EXTENDED, Entry, inside, kind_of}
use Rattle.rules.specs.Changes.{Change, set_slot, set_entry, set_inner, set_word, apply, apply_all}
use Rattle.rules.specs.Checks.{done}
use Rattle.tables.specs.Layout.{numbers, machine}
use Rattle.tables.specs.Positions.{store}
use Rattle.tables.specs.Call.{tables_after}
use Rattle.tables.proofs.Laws.{formed}
use Rattle.tables.proofs.Stored.{slot-stored, entry-stored, inner-stored, word-stored}
use Rattle.access.specs.Lent.{Lent}
use Rattle.checks.proofs.Checking.{sound-shown}

module _ (t : List ℕ) (w : Lent t) (value : ℕ) where
  -- one change, stored
  one : (x : Change) → store (numbers (machine t)) x ≡ numbers (apply (machine t) x) → store t x ≡ tables_after t (done value (x ∷ []))
  unfolding tables_after apply_all
  one x e = subst (λ (u : List ℕ). store u x ≡ numbers (apply (machine t) x)) (formed t w.formed).shown e

  pub slot-left : (p i : ℕ) (c : Capability) → p < 8 → i < 16 → store t (set_slot p i c) ≡ tables_after t (done value (set_slot p i c ∷ []))
  slot-left p i c l g = one (set_slot p i c) (slot-stored (machine t) (sound-shown t w) p l i c g)

  pub entry-left : (p i j : ℕ) (e : Entry) → p < 8 → i < 16 → j < 16 → kind_of (inside (machine t) p i) ≡ DIRECTORY → store t (set_entry p i j e) ≡ tables_after t (done value (set_entry p i j e ∷ []))
  entry-left p i j e l g f d = one (set_entry p i j e) (entry-stored (machine t) (sound-shown t w) p l i j e g f d)

  pub inner-left : (p i j : ℕ) (c : Capability) → p < 8 → i < 16 → j < 4 → kind_of (inside (machine t) p i) ≡ EXTENDED → store t (set_inner p i j c) ≡ tables_after t (done value (set_inner p i j c ∷ []))
  inner-left p i j c l g f d = one (set_inner p i j c) (inner-stored (machine t) (sound-shown t w) p l i j c g f d)

  pub word-left : (p i j k : ℕ) → p < 8 → i < 16 → j < 32 → kind_of (inside (machine t) p i) ≡ SEGMENT → store t (set_word p i j k) ≡ tables_after t (done value (set_word p i j k ∷ []))
  word-left p i j k l g f d = one (set_word p i j k) (word-stored (machine t) (sound-shown t w) p l i j k g f d)

  -- nothing is changed
  pub as_is : t ≡ tables_after t (done value [])
  unfolding tables_after apply_all
  as_is = sym (formed t w.formed).shown
