-- A directory's and a make's further checks.
-- Assumes nothing.
use Prim.Native.Nat.{ℕ, ◌<◌, ◌≤◌}
use mathlib.Core.Path.{◌≡◌, sym, ap, ◌∙◌}
use mathlib.Core.Bool.{true, false, not}
use mathlib.Core.List.{List, ◌++◌}
use borrow.Author.Tests.{eq-eqb, ne_eqb}
use Rattle.things.specs.declared.Capability.{Capability}
use Rattle.things.specs.declared.Refusal.{Refusal}
use Rattle.things.specs.declared.Refusal.TheVariants.{NameUsed, NotAddable, NoRoom, NoPlace, Spent}
use Rattle.things.specs.Lists.{some, every}
use Rattle.things.proofs.ListLaws.{first-in, never}
use Rattle.things.specs.Rights.{addable, takes, has_right}
use Rattle.rules.specs.Machine.{LAST_SERIAL, DIRECTORY, Place, Machine, inside, kind_of, entries_of, places_of, is_empty, is_named, has_entry, entry_of, empty_entry, empty_place, last_of, permits_of}
use Rattle.rules.specs.Checks.{Check}
use Rattle.rules.specs.Calls.{takes_entry, makes_one}
use Rattle.tables.specs.Layout.{machine}
use Rattle.access.specs.Lent.{Lent}
use Rattle.access.specs.Search.{FoundAt}
use Rattle.access.specs.declared.which.Position.{Position}
use Rattle.std.specs.Prelude.{Option, Some, None, is_some}
use Rattle.access.proofs.Searching.{places-long, entries-long}
use Rattle.checks.specs.Verdicts.{passes, stops, verdict}
use Rattle.checks.proofs.Deciding.{hit, miss, all-passed, stops-more, passes-more}
use Rattle.checks.proofs.Checking.{first_some, not_some}

-- A search that finds ends below sixteen, and one that doesn't never does.
pub found-some : (r : Option Position) (n : ℕ) → FoundAt r n → is_some r ≡ true → n < 16
found-some (Some at) n h e = rw h at at.in_range
found-some None n h e = never (sym e)

pub found-none : (r : Option Position) (n : ℕ) → FoundAt r n → is_some r ≡ false → 16 ≤ n
found-none (Some at) n h e = never e
found-none None n h e = h

-- Whether a directory has an entry, from the search for it.
module _ (t : List ℕ) (w : Lent t) (q i : ℕ) (l : q < 8) (d : kind_of (inside (machine t) q i) ≡ DIRECTORY) where
  abbrev x : Place
  x = inside (machine t) q i

  pub has-it : (b j : ℕ) → j ≡ entry_of x b → j < 16 → has_entry x b ≡ true
  unfolding has_entry entry_of
  has-it b j e g = first_some (is_named b) (entries_of x) (rw (entries-long t w q l i d) (rw e at g))

  pub lacks-it : (b : ℕ) → 16 ≤ entry_of x b → has_entry x b ≡ false
  unfolding has_entry entry_of
  lacks-it b h = not_some (is_named b) (entries_of x) (rw (entries-long t w q l i d) h)

module _ (t : List ℕ) (w : Lent t) (p : ℕ) (l : p < 8) where
  pub has-place : (k : ℕ) → k ≡ empty_place (machine t) p → k < 16 → some is_empty (places_of (machine t) p) ≡ true
  unfolding empty_place
  has-place k e g = first_some is_empty (places_of (machine t) p) (rw (places-long t w p l) (rw e at g))

  pub no_place : 16 ≤ empty_place (machine t) p → some is_empty (places_of (machine t) p) ≡ false
  unfolding empty_place
  no_place h = not_some is_empty (places_of (machine t) p) (rw (places-long t w p l) h)

-- Addable goes by the rights alone.
pub addable-rights : (c d : Capability) (permits : ℕ) → c.rights ≡ d.rights → addable c permits ≡ addable d permits
unfolding addable every takes has_right
addable-rights c d permits e = rw e

-- The verdict on a further entry, one check after another, with whatever follows.
module _ (x : Place) (b : ℕ) (c : Capability) (ys : List Check) where
  pub entry-used : has_entry x b ≡ true → verdict (takes_entry x b c ++ ys) ≡ stops NameUsed
  entry-used h = hit _ _ h

  pub entry-refused : has_entry x b ≡ false → addable c (permits_of x) ≡ false → verdict (takes_entry x b c ++ ys) ≡ stops NotAddable
  entry-refused h g = miss _ _ h ∙ hit _ _ (ap not g)

  pub entry-full : has_entry x b ≡ false → addable c (permits_of x) ≡ true → has_entry x 0 ≡ false → verdict (takes_entry x b c ++ ys) ≡ stops NoRoom
  entry-full h g f = miss _ _ h ∙ miss _ _ (ap not g) ∙ hit _ _ (ap not f)

  pub entry-taken : has_entry x b ≡ false → addable c (permits_of x) ≡ true → has_entry x 0 ≡ true → verdict (takes_entry x b c ++ ys) ≡ verdict ys
  entry-taken h g f = miss _ _ h ∙ miss _ _ (ap not g) ∙ miss _ _ (ap not f)

-- A make's checks, from those of an entry with a capability of the same rights.
takes_like : (x : Place) (b : ℕ) (c d : Capability) → c.rights ≡ d.rights → takes_entry x b c ≡ takes_entry x b d
takes_like x b c d e = rw (addable-rights c d (permits_of x) e)

module _ (M : Machine) (p : ℕ) (x : Place) (b : ℕ) (c d : Capability) (e : c.rights ≡ d.rights) where
  abbrev all : List Check
  all = takes_entry x b d ++ makes_one M p

  pub make-refused : (why : Refusal) → verdict (takes_entry x b c) ≡ stops why → verdict all ≡ stops why
  make-refused why h = stops-more (takes_entry x b d) (makes_one M p) why (rw (← takes_like x b c d e) h)

  taken : verdict (takes_entry x b c) ≡ passes → verdict all ≡ verdict (makes_one M p)
  taken h = passes-more (takes_entry x b d) (makes_one M p) (rw (← takes_like x b c d e) h)

  pub make-placeless : verdict (takes_entry x b c) ≡ passes → some is_empty (places_of M p) ≡ false → verdict all ≡ stops NoPlace
  make-placeless h f = taken h ∙ hit _ _ (ap not f)

  pub make-spent : verdict (takes_entry x b c) ≡ passes → some is_empty (places_of M p) ≡ true → last_of M p ≡ LAST_SERIAL → verdict all ≡ stops Spent
  make-spent h f g = taken h ∙ miss _ _ (ap not f) ∙ hit _ _ (eq-eqb _ _ g)

  pub make-ready : verdict (takes_entry x b c) ≡ passes → some is_empty (places_of M p) ≡ true → (last_of M p ≡ LAST_SERIAL → ⊥) → verdict all ≡ passes
  make-ready h f g = taken h ∙ miss _ _ (ap not f) ∙ miss _ _ (ne_eqb _ _ g) ∙ all-passed

-- The position that a directory has for a further entry.
module _ (t : List ℕ) (w : Lent t) (q i : ℕ) (l : q < 8) (d : kind_of (inside (machine t) q i) ≡ DIRECTORY) where
  pub empty-below : has_entry (inside (machine t) q i) 0 ≡ true → empty_entry (inside (machine t) q i) < 16
  unfolding has_entry empty_entry entry_of
  empty-below h =
      let n = entries-long t w q l i d in
      let f = first-in (is_named 0) (entries_of (inside (machine t) q i)) h in
      rw n at f
