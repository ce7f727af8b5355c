-- The checks and the results of the calls on extended objects.
-- Assumes nothing.
use Prim.Native.Nat.{ℕ, ◌<◌}
use mathlib.Core.Path.{◌≡◌, sym, ap, ◌∙◌}
use mathlib.Core.Bool.{Bool, true, false, not, ◌&&◌, ◌||◌}
use mathlib.Core.List.{List, [], ◌∷◌}
use lib.ListN.{get_or}
use Rattle.std.specs.Prelude.{eqb}
use Rattle.things.specs.declared.ObjectNumber.{ObjectNumber}
use Rattle.things.specs.declared.Capability.{Capability}
use Rattle.things.specs.declared.Refusal.{Refusal}
use Rattle.things.specs.declared.Refusal.TheVariants.{WrongType, NotAddable}
use Rattle.things.specs.Rights.{null, is_null, addable, OPEN, NONE}
use Rattle.rules.specs.Machine.{TYPE, EXTENDED, Machine, slot_of, inside, inners_of, permits_of, type_of, place_of}
use Rattle.rules.specs.Changes.{set_slot, set_inner}
use Rattle.rules.specs.Checks.{refused, done, checked}
use Rattle.rules.specs.Calls
use Rattle.rules.specs.Calls.{named, opened, is_of, opens}
use Rattle.rules.proofs.Decide.{Passed}
use Rattle.tables.specs.Layout.{machine}
use Rattle.access.specs.Lent.{Lent}
use Rattle.checks.specs.Verdicts.{passes, stops, verdict}
use Rattle.checks.proofs.Deciding.{hit, miss, all-passed, refusing, letting, acting, past, stops-more, passes-more}
use Rattle.checks.proofs.Checking.{Opened, opened-by, opened-passed, slot-sound-shown}

-- Whether two numbers differ is whether an object isn't of a type.
pub other_type : (o p : ObjectNumber) (r : Bool) → r ≡ not (eqb o.0 p.0 && eqb o.1 p.1) → not (is_of o p) ≡ r
unfolding is_of
other_type o p r e = sym e

module _ (M : Machine) (p a b : ℕ) where
  abbrev ca : Capability
  ca = slot_of M p a

  abbrev cb : Capability
  cb = slot_of M p b

  pub opens-first : (why : Refusal) → verdict (checked M ca OPEN TYPE) ≡ stops why → verdict (opens M p a b) ≡ stops why
  opens-first why h = stops-more (checked M ca OPEN TYPE) _ why h

  pub opens-second : (why : Refusal) → verdict (checked M ca OPEN TYPE) ≡ passes → verdict (checked M cb NONE EXTENDED) ≡ stops why → verdict (opens M p a b) ≡ stops why
  opens-second why g h = passes-more (checked M ca OPEN TYPE) _ g ∙ stops-more (checked M cb NONE EXTENDED) _ why h

  module _ (q i : ℕ) (o : Opened M cb NONE EXTENDED q i) where
    of_is : is_of (type_of (opened M p b)) (named M p a) ≡ is_of (type_of (inside M q i)) ca.object
    unfolding opened named
    of_is = rw o.here

    pub opens-wrong : verdict (checked M ca OPEN TYPE) ≡ passes → verdict (checked M cb NONE EXTENDED) ≡ passes → not (is_of (type_of (inside M q i)) ca.object) ≡ true → verdict (opens M p a b) ≡ stops WrongType
    opens-wrong g h f = passes-more (checked M ca OPEN TYPE) _ g ∙ passes-more (checked M cb NONE EXTENDED) _ h ∙ hit _ _ (ap not of_is ∙ f)

    pub opens-good : verdict (checked M ca OPEN TYPE) ≡ passes → verdict (checked M cb NONE EXTENDED) ≡ passes → not (is_of (type_of (inside M q i)) ca.object) ≡ false → verdict (opens M p a b) ≡ passes
    opens-good g h f = passes-more (checked M ca OPEN TYPE) _ g ∙ passes-more (checked M cb NONE EXTENDED) _ h ∙ miss _ _ (ap not of_is ∙ f) ∙ all-passed

    -- what the calls come to
    module _ (c d : ℕ) (f : Passed (opens M p a b)) where
      pub get-inner-done : Calls.get_inner_place M p a b c d 0 ≡ done 0 (set_slot p d (get_or (inners_of (inside M q i)) c null) ∷ [])
      unfolding Calls.get_inner_place opened named
      get-inner-done = past (opens M p a b) [] _ f ∙ acting _ ∙ rw o.here

      may : (x : Bool) → (is_null (slot_of M p d) || addable (slot_of M p d) (permits_of (inside M q i))) ≡ x → (is_null (slot_of M p d) || addable (slot_of M p d) (permits_of (opened M p b))) ≡ x
      unfolding opened named
      may x e = rw o.here e

      pub set-inner-refused : (is_null (slot_of M p d) || addable (slot_of M p d) (permits_of (inside M q i))) ≡ false → Calls.set_inner_place M p a b c d 0 ≡ refused NotAddable
      unfolding Calls.set_inner_place
      set-inner-refused e = past (opens M p a b) _ _ f ∙ refusing _ _ _ (ap not (may false e))

      pub set-inner-done : (is_null (slot_of M p d) || addable (slot_of M p d) (permits_of (inside M q i))) ≡ true → Calls.set_inner_place M p a b c d 0 ≡ done 0 (set_inner q i c (slot_of M p d) ∷ [])
      unfolding Calls.set_inner_place named
      set-inner-done e = past (opens M p a b) _ _ f ∙ letting _ _ _ (ap not (may true e)) ∙ acting _ ∙ rw (o.maker-is, o.place_is)

-- Slot b's object, in well-formed tables, where its own checks are passed, or all of them.
module _ (t : List ℕ) (w : Lent t) (p b q i : ℕ) (l : p < 8) (m : q ≡ (slot_of (machine t) p b).object.0) (n : i ≡ place_of (machine t) (slot_of (machine t) p b).object) where
  pub second-by : verdict (checked (machine t) (slot_of (machine t) p b) NONE EXTENDED) ≡ passes → Opened (machine t) (slot_of (machine t) p b) NONE EXTENDED q i
  second-by h = opened-by t w (slot_of (machine t) p b) NONE EXTENDED q i (slot-sound-shown t w p b l) h m n

  pub second-opened : (a : ℕ) → Passed (opens (machine t) p a b) → Opened (machine t) (slot_of (machine t) p b) NONE EXTENDED q i
  second-opened a f =
      let g = f.1.1.1.1 in
      opened-passed t w (slot_of (machine t) p b) NONE EXTENDED q i (slot-sound-shown t w p b l) (g.0, (g.1.0, (g.1.1.0, (g.1.1.1.0, tt)))) m n
