-- How a make ends, for each answer of its checks.
-- Assumes nothing.
use Prim.Native.Nat.{ℕ, ◌<◌}
use mathlib.Core.Path.{◌≡◌, subst, ◌∙◌}
use mathlib.Core.Bool.{true}
use mathlib.Core.List.{List, [], ◌++◌}
use lib.ListN.{length}
use lib.Seq.{sets}
use Rattle.std.specs.Prelude.{Ok, IsErrAnd}
use Rattle.things.specs.declared.Capability.{Capability}
use Rattle.things.specs.declared.Refusal.{Refusal}
use Rattle.things.specs.declared.Kind.{Kind}
use Rattle.things.specs.declared.Kind.TheVariants.{Extended}
use Rattle.things.specs.Kinds.{kind_number}
use Rattle.things.specs.Answers.{Answer}
use Rattle.things.specs.Rights.{object, capability, made_rights, WRITE, MAKE}
use Rattle.rules.specs.Machine.{DIRECTORY, TYPE, Body, holding, Machine, slot_of, inside, empty_entry}
use Rattle.rules.specs.Sound.{issued, body_sound}
use Rattle.rules.specs.Changes.{set_last, set_entry, set_slot}
use Rattle.rules.specs.Checks.{Result, Check, unless, checked}
use Rattle.rules.specs.Calls
use Rattle.rules.specs.Calls.{named, opened, takes_entry, makes_one, next_serial, made, making, make, entry}
use Rattle.rules.proofs.Decide.{Passed}
use Rattle.tables.specs.Layout.{place_numbers, machine}
use Rattle.tables.specs.Positions.{place_pos, store}
use Rattle.access.specs.Lent.{Lent}
use Rattle.access.specs.declared.which.Package.{Package}
use Rattle.access.specs.declared.lent.Directory.{Directory as Home}
use Rattle.checks.specs.Ends.{Ends}
use Rattle.checks.specs.Rooms.{LivesAt, RoomFor}
use Rattle.checks.specs.Verdicts.{passes, stops, verdict}
use Rattle.checks.specs.declared.room.Room.{Room}
use Rattle.makes.specs.declared.order.Order.{Order}
use Rattle.makes.specs.Makes.{new_body, new_permits, headed}
use Rattle.checks.proofs.Deciding.{past, passed, acting, stopped, handed_on, ends_early, ends_by, ends-refused}
use Rattle.checks.proofs.Checking.{Opened, opened-by, slot-sound-shown}
use Rattle.makes.proofs.MakeResults.{make-rest, make-ends, new-numbers, object-numbers, new-sound, head-wide, object_body, object-second, object-rest, object-sound}

module _ (t : List ℕ) (w : Lent t) (p : Package) (a : ℕ) (order : Order) where
  abbrev M : Machine
  M = machine t

  abbrev c₀ : Capability
  c₀ = slot_of M p.number a

  abbrev b : ℕ
  b = order.name.0

  abbrev s : ℕ
  s = order.permits.bits

  abbrev d : ℕ
  d = order.slot.number

  pub make_early : (body : Body) (why : Refusal) (r : Answer) → verdict (checked M c₀ WRITE DIRECTORY) ≡ stops why → IsErrAnd r (λ e. e ≡ why) → Ends (make body M p.number a b s d) t t r
  unfolding make
  make_early body why r h e = ends_early (checked M c₀ WRITE DIRECTORY) _ _ t why r h e

  pub object_early : (c : ℕ) (why : Refusal) (r : Answer) → verdict (checked M c₀ WRITE DIRECTORY) ≡ stops why → IsErrAnd r (λ e. e ≡ why) → Ends (Calls.make_object M p.number a b c d s) t t r
  unfolding Calls.make_object
  object_early c why r h e = ends_early (checked M c₀ WRITE DIRECTORY) _ _ t why r h e

  -- the directory is found
  module _ (home : Home) (h : verdict (checked M c₀ WRITE DIRECTORY) ≡ passes) (same : home.numbers.now ≡ t) (l : LivesAt M c₀.object DIRECTORY home.at) where
    home-opened : Opened M c₀ WRITE DIRECTORY home.at.maker home.at.number
    home-opened = opened-by t w c₀ WRITE DIRECTORY home.at.maker home.at.number (slot-sound-shown t w p.number a p.in_range) h l.0 l.1

    abbrev needs : List ℕ → List Check
    needs u = takes_entry (inside (machine u) home.at.maker home.at.number) b (made M p.number s) ++ makes_one M p.number

    -- what the code leaves of an object with this head
    abbrev leaves : Room → List ℕ → List ℕ
    leaves room head =
        store
        (sets
        (store (store t (set_last p.number room.serial)) (set_entry home.at.maker home.at.number room.position.number (entry b (capability (object p.number room.serial) (made_rights s)) true)))
        (place_pos room.place.maker room.place.number) head)
        (set_slot p.number d (capability (object p.number room.serial) (made_rights s)))

    roomless : (R S : Result) (why : Refusal) (r : Answer) → R ≡ unless (needs t) S → verdict (needs home.numbers.now) ≡ stops why → IsErrAnd r (λ e. e ≡ why) → Ends R t t r
    roomless R S why r f v e =
        rw (handed_on r why e) (ends-refused R t why (f ∙ stopped (needs t) [] S why (subst (λ (u : List ℕ). verdict (needs u) ≡ stops why) same v)))

    stored : (R : Result) (body : Body) (room : Room) (u : List ℕ) (head : ℕ → List ℕ) → R ≡ unless (needs t) (making M p.number body a b s d) → verdict (needs home.numbers.now) ≡ passes → RoomFor M p home room →
        0 < b → b < 65536 → body_sound (issued M) body ≡ true → ((n : ℕ) → place_numbers (holding n body) ≡ head n) → ((n : ℕ) → length (head n) ≡ 85) →
        u ≡ leaves room (head room.serial) →
        Ends R t u (Ok room.serial)
    stored R body room u head f v g z bl sd he wide e =
        let v' : Passed (needs t) = passed (needs t) (subst (λ (u : List ℕ). verdict (needs u) ≡ passes) same v) in
        let j' : room.position.number ≡ empty_entry (inside M home.at.maker home.at.number) = subst (λ (u : List ℕ). room.position.number ≡ empty_entry (inside (machine u) home.at.maker home.at.number)) same g.0 in
        make-ends t w p.number p.in_range body a b s d home.at.maker home.at.number home-opened v' R u room.position.number room.place.maker room.place.number room.serial head
        (f ∙ past (needs t) [] _ v' ∙ acting _) z bl order.slot.in_range sd j' g.1 g.2 g.3 (he (next_serial M p.number)) (wide (next_serial M p.number)) e

    pub make_roomless : (body : Body) (why : Refusal) (r : Answer) → verdict (needs home.numbers.now) ≡ stops why → IsErrAnd r (λ e. e ≡ why) → Ends (make body M p.number a b s d) t t r
    make_roomless body why r v e = roomless _ _ why r (make-rest M p.number body a b s d home.at.maker home.at.number home-opened) v e

    pub make_stored : (kind : Kind) (room : Room) (u : List ℕ) (permits : ℕ) → verdict (needs home.numbers.now) ≡ passes → RoomFor M p home room → 0 < b → b < 65536 → (kind ≡ Extended → ⊥) → permits ≡ new_permits (kind_number kind) s →
        u ≡ leaves room (headed (kind_number kind) room.serial permits (object 0 0)) →
        Ends (make (new_body (kind_number kind) s) M p.number a b s d) t u (Ok room.serial)
    make_stored kind room u permits v g z bl plain x e =
        stored _ (new_body (kind_number kind) s) room u (λ n. headed (kind_number kind) n (new_permits (kind_number kind) s) (object 0 0))
        (make-rest M p.number (new_body (kind_number kind) s) a b s d home.at.maker home.at.number home-opened) v g z bl
        (new-sound (issued M) (kind_number kind) s order.permits.in_range) (λ n. new-numbers kind n s plain) (λ n. head-wide (kind_number kind) n _ _) (rw x at e)

    -- and the type is asked for
    module _ (c : ℕ) where
      pub object_typeless : (why : Refusal) (r : Answer) → verdict (checked M (slot_of M p.number c) MAKE TYPE) ≡ stops why → IsErrAnd r (λ e. e ≡ why) → Ends (Calls.make_object M p.number a b c d s) t t r
      object_typeless why r v e =
          ends_by _ _ _ _ _ (object-second M p.number a b c d s home.at.maker home.at.number home-opened)
          (ends_early (checked M (slot_of M p.number c) MAKE TYPE) _ _ t why r v e)

      module _ (k : verdict (checked M (slot_of M p.number c) MAKE TYPE) ≡ passes) where
        type-passed : Passed (checked M (slot_of M p.number c) MAKE TYPE)
        type-passed = passed (checked M (slot_of M p.number c) MAKE TYPE) k

        pub object_roomless : (why : Refusal) (r : Answer) → verdict (needs home.numbers.now) ≡ stops why → IsErrAnd r (λ e. e ≡ why) → Ends (Calls.make_object M p.number a b c d s) t t r
        object_roomless why r v e = roomless _ _ why r (object-rest M p.number a b c d s home.at.maker home.at.number home-opened type-passed) v e

        pub object_stored : (room : Room) (u : List ℕ) (of : Capability) → verdict (needs home.numbers.now) ≡ passes → RoomFor M p home room → 0 < b → b < 65536 → of ≡ slot_of M p.number c →
            u ≡ leaves room (headed 4 room.serial s of.object) →
            Ends (Calls.make_object M p.number a b c d s) t u (Ok room.serial)
        object_stored room u of v g z bl x e =
            stored _ (object_body M p.number a b c d s home.at.maker home.at.number home-opened) room u (λ n. headed 4 n s (slot_of M p.number c).object)
            (object-rest M p.number a b c d s home.at.maker home.at.number home-opened type-passed) v g z bl
            (object-sound t w p.number c s p.in_range order.permits.in_range type-passed) (λ n. object-numbers n s _) (λ n. head-wide 4 n _ _) (rw x at e)
