-- What the rules come to, for each way that count, fetch, drop entry and add entry can go.
-- Assumes nothing.
use Prim.Native.Nat.{ℕ, ◌<◌, ◌≤◌}
use mathlib.Core.Path.{◌≡◌, sym, ap, ◌∙◌}
use mathlib.Core.Bool.{true, false, not}
use mathlib.Core.List.{List, [], ◌∷◌}
use lib.ListN.{get_or}
use Rattle.things.specs.declared.Refusal.{Refusal}
use Rattle.things.specs.declared.Refusal.TheVariants.{Empty, NoEntry, WrongEntry}
use Rattle.things.specs.Rights.{is_null, READ, WRITE, REMOVE, NONE}
use Rattle.rules.specs.Machine.{DIRECTORY, ENTRIES, no_entry, Machine, slot_of, inside, kind_of, place_of, has_entry, entry_of, entry_named, empty_entry, used_entries}
use Rattle.rules.specs.Changes.{set_slot, set_entry}
use Rattle.rules.specs.Checks.{refused, done, unless, checked}
use Rattle.rules.specs.Calls
use Rattle.rules.specs.Calls.{named, opened, listed, entry, takes_entry}
use Rattle.rules.proofs.Decide.{Passed}
use Rattle.tables.specs.Layout.{machine}
use Rattle.access.specs.Lent.{Lent}
use Rattle.access.specs.Shown.{lies_in, listed_in}
use Rattle.access.specs.declared.lent.Directory.{Directory}
use Rattle.access.specs.declared.which.Position.{Position}
use Rattle.checks.specs.Rooms.{LivesAt}
use Rattle.checks.specs.Verdicts.{passes, stops, verdict}
use Rattle.checks.proofs.Deciding.{refusing, letting, acting, past, stopped, passed}
use Rattle.checks.proofs.Checking.{opened-by, opened-is, slot-sound-shown}
use Rattle.checks.proofs.Making.{has-it, lacks-it}

-- The directory that slot a names, once its check is passed.
pub record Chosen (M : Machine) (p a right : ℕ) (d : Directory) : Type 0 where
  pub all-passed : Passed (checked M (slot_of M p a) right DIRECTORY)
  pub here : opened M p a ≡ lies_in d
  pub maker-is : (named M p a).0 ≡ d.at.maker
  pub place_is : place_of M (named M p a) ≡ d.at.number
  pub kind-is : kind_of (inside M d.at.maker d.at.number) ≡ DIRECTORY

pub chosen : (t : List ℕ) (w : Lent t) (p a right : ℕ) (d : Directory) → p < 8 →
    (verdict (checked (machine t) (slot_of (machine t) p a) right DIRECTORY) ≡ passes) × ((d.numbers.now ≡ t) × LivesAt (machine t) (slot_of (machine t) p a).object DIRECTORY d.at) → Chosen (machine t) p a right d
unfolding named
chosen t w p a right d l s =
    let at = s.1.1 in
    let o = opened-by t w (slot_of (machine t) p a) right DIRECTORY d.at.maker d.at.number (slot-sound-shown t w p a l) s.0 at.0 at.1 in
    record {
      all-passed = o.all-passed;
      here = rw s.1.0 (opened-is (machine t) p a right DIRECTORY d.at.maker d.at.number o);
      maker-is = sym at.0;
      place_is = sym at.1;
      kind-is = at.2;
    }

-- Whether a directory has an entry, from the search for it.
pub has-found : (d : Directory) (b : ℕ) (j : Position) → j.number ≡ entry_of (lies_in d) b → has_entry (lies_in d) b ≡ true
has-found d b j e = has-it d.numbers.now d.lent d.at.maker d.at.number d.at.maker_in_range d.is_directory b j.number e j.in_range

pub lacks-sought : (d : Directory) (b : ℕ) → ENTRIES ≤ entry_of (lies_in d) b → has_entry (lies_in d) b ≡ false
lacks-sought d b h = lacks-it d.numbers.now d.lent d.at.maker d.at.number d.at.maker_in_range d.is_directory b h

pub named-at : (d : Directory) (b : ℕ) (j : Position) → j.number ≡ entry_of (lies_in d) b → entry_named (lies_in d) b ≡ get_or (listed_in d) j.number no_entry
unfolding entry_named
named-at d b j e = rw e

module _ (M : Machine) (p a : ℕ) (d : Directory) where
  -- count
  pub count-done : Chosen M p a NONE d → Calls.count M p a 0 0 0 0 ≡ done (used_entries (lies_in d)) []
  unfolding Calls.count
  count-done o = past (checked M (slot_of M p a) NONE DIRECTORY) [] _ o.all-passed ∙ acting _ ∙ rw o.here

  -- entries
  module _ (b : ℕ) where
    pub fetch-missing : (c : ℕ) → Chosen M p a READ d → ENTRIES ≤ entry_of (lies_in d) b → Calls.fetch M p a b c 0 0 ≡ refused NoEntry
    unfolding Calls.fetch
    fetch-missing c o h = past (checked M (slot_of M p a) READ DIRECTORY) _ _ o.all-passed ∙ refusing _ _ _ (rw o.here (ap not (lacks-sought d b h)))

    pub drop-entry-missing : Chosen M p a REMOVE d → ENTRIES ≤ entry_of (lies_in d) b → Calls.drop_entry M p a b 0 0 0 ≡ refused NoEntry
    unfolding Calls.drop_entry
    drop-entry-missing o h = past (checked M (slot_of M p a) REMOVE DIRECTORY) _ _ o.all-passed ∙ refusing _ _ _ (rw o.here (ap not (lacks-sought d b h)))

    module _ (j : Position) (e : j.number ≡ entry_of (lies_in d) b) where
      pub fetch-done : (c : ℕ) → Chosen M p a READ d → Calls.fetch M p a b c 0 0 ≡ done 0 (set_slot p c (get_or (listed_in d) j.number no_entry).capability ∷ [])
      unfolding Calls.fetch listed
      fetch-done c o =
          past (checked M (slot_of M p a) READ DIRECTORY) _ _ o.all-passed ∙ letting _ _ _ (rw o.here (ap not (has-found d b j e))) ∙ acting _
          ∙ rw (o.here, named-at d b j e)

      module _ (o : Chosen M p a REMOVE d) where
        listed-is : listed M p a b ≡ get_or (listed_in d) j.number no_entry
        unfolding listed
        listed-is = rw o.here (named-at d b j e)

        pub drop-entry-wrong : (get_or (listed_in d) j.number no_entry).distinguished ≡ true → Calls.drop_entry M p a b 0 0 0 ≡ refused WrongEntry
        unfolding Calls.drop_entry
        drop-entry-wrong f =
            past (checked M (slot_of M p a) REMOVE DIRECTORY) _ _ o.all-passed ∙ letting _ _ _ (rw o.here (ap not (has-found d b j e)))
            ∙ refusing _ _ _ (rw listed-is f)

        pub drop-entry-done : (get_or (listed_in d) j.number no_entry).distinguished ≡ false → Calls.drop_entry M p a b 0 0 0 ≡ done 0 (set_entry d.at.maker d.at.number j.number no_entry ∷ [])
        unfolding Calls.drop_entry
        drop-entry-done f =
            past (checked M (slot_of M p a) REMOVE DIRECTORY) _ _ o.all-passed ∙ letting _ _ _ (rw o.here (ap not (has-found d b j e)))
            ∙ letting _ _ _ (rw listed-is f) ∙ acting _ ∙ rw (o.here, e, o.place_is, o.maker-is)

    -- add entry
    module _ (c : ℕ) (o : Chosen M p a WRITE d) where
      pub add-entry-empty : is_null (slot_of M p c) ≡ true → Calls.add_entry M p a b c 0 0 ≡ refused Empty
      unfolding Calls.add_entry
      add-entry-empty h = past (checked M (slot_of M p a) WRITE DIRECTORY) _ _ o.all-passed ∙ refusing _ _ _ h

      adding : is_null (slot_of M p c) ≡ false → Calls.add_entry M p a b c 0 0 ≡ unless (takes_entry (lies_in d) b (slot_of M p c)) (done 0 (set_entry d.at.maker d.at.number (empty_entry (lies_in d)) (entry b (slot_of M p c) false) ∷ []))
      unfolding Calls.add_entry
      adding h = past (checked M (slot_of M p a) WRITE DIRECTORY) _ _ o.all-passed ∙ letting _ _ _ h ∙ rw (o.here, o.place_is, o.maker-is)

      pub add-entry-full : (why : Refusal) → is_null (slot_of M p c) ≡ false → verdict (takes_entry (lies_in d) b (slot_of M p c)) ≡ stops why → Calls.add_entry M p a b c 0 0 ≡ refused why
      add-entry-full why h g = adding h ∙ stopped (takes_entry (lies_in d) b (slot_of M p c)) [] _ why g

      pub add-entry-done : (j : Position) → is_null (slot_of M p c) ≡ false → (verdict (takes_entry (lies_in d) b (slot_of M p c)) ≡ passes) × (j.number ≡ empty_entry (lies_in d)) →
          Calls.add_entry M p a b c 0 0 ≡ done 0 (set_entry d.at.maker d.at.number j.number (entry b (slot_of M p c) false) ∷ [])
      add-entry-done j h g = adding h ∙ past (takes_entry (lies_in d) b (slot_of M p c)) [] _ (passed (takes_entry (lies_in d) b (slot_of M p c)) g.0) ∙ acting _ ∙ rw g.1
