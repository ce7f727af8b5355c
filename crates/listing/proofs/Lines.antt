-- A capability's line, the sign that it ends with, and whether its object is opened after it.
-- Assumes nothing.
use Prim.Native.Nat.{ℕ, zero, suc, ◌<◌, ◌≤◌}
use native.Mathlib.Omega.{arith}
use native.Mathlib.Nat.{lt_of_not-le}
use mathlib.Core.Path.{◌≡◌, refl, sym, ap, ◌∙◌}
use mathlib.Core.Bool.{Bool, true, false}
use mathlib.Core.List.{List, [], ◌∷◌}
use lib.ListN.{length, get_or, set, get_or-eq_default}
use borrow.Author.Tests.{eqb-true}
use Rattle.std.specs.Prelude.{Option}
use Rattle.std.specs.Bool.{then_some}
use Rattle.things.specs.declared.ObjectNumber.{ObjectNumber}
use Rattle.things.specs.declared.Capability.{Capability}
use Rattle.things.specs.declared.Kind.{Kind}
use Rattle.things.specs.Kinds.{kind_from}
use Rattle.things.specs.Lists.{pick, how_many}
use Rattle.things.specs.Rights.{is_null}
use Rattle.things.proofs.ListLaws.{never}
use Rattle.rules.specs.Machine.{DIRECTORY, EXTENDED, segment, directory, type, extended, Place, empty, holding, Machine, places_of, inside, kind_of, place_of, living}
use Rattle.rules.specs.Checks.{is_kind}
use Rattle.rules.specs.Sound.{issued, capability_sound, sound}
use Rattle.rules.proofs.Parts.{sound-package}
use Rattle.text.specs.Tree.{Listing, printed, quiet, and_then, Sign, here, before, leaf, lost, sign_of, place_number, line, item}
use Rattle.text.specs.Tree.{shown as shown-by-sign}
use Rattle.access.specs.declared.lent.Tables.{Tables}
use Rattle.access.specs.declared.which.Place.{Place as At}
use Rattle.access.specs.Shown.{shown}
use Rattle.print.specs.Writing.{kind_shown}
use Rattle.print.proofs.Writing.{both-none}
use Rattle.print.proofs.Lines.{kind-shown}
use Rattle.listing.specs.Walking.{number_of, shut, line_at, sign_by, is_here, opens, OpensAt, unopened}
use Rattle.listing.proofs.Shows.{capability-small, sound-of}

-- Marks.
pub unopened-set : (m : List Bool) (k : ℕ) → k < length m → get_or m k false ≡ false → suc (unopened (set m k true)) ≡ unopened m
unfolding unopened how_many
unopened-set [] k h e = let z : ⊥ = omega arith in absurd z
unopened-set (true ∷ m) zero h e = never e
unopened-set (false ∷ m) zero h e = refl
unopened-set (true ∷ m) (suc k) h e = unopened-set m k (omega arith) e
unopened-set (false ∷ m) (suc k) h e = ap suc (unopened-set m k (omega arith) e)

-- The sign of what a place holds, by its kind.
pub sign-by : (x : Place) (b : Bool) → sign_by (kind_from (kind_of x)) b ≡ sign_of x b
unfolding kind_from kind_of sign_of
sign-by empty b = refl
sign-by (holding s (segment ws)) b = refl
sign-by (holding s (directory m es)) b = refl
sign-by (holding s type) b = refl
sign-by (holding s (extended o m cs)) b = refl

-- What is opened wasn't yet, and is a directory or else an extended object.
here-unseen : (x : Place) (b : Bool) → is_here (sign_of x b) ≡ true → b ≡ false
unfolding sign_of
here-unseen x false e = refl
here-unseen empty true e = never (sym e)
here-unseen (holding s (segment ws)) true e = never (sym e)
here-unseen (holding s (directory m es)) true e = never (sym e)
here-unseen (holding s type) true e = never (sym e)
here-unseen (holding s (extended o m cs)) true e = never (sym e)

here-extended : (x : Place) (b : Bool) → is_here (sign_of x b) ≡ true → is_kind DIRECTORY x ≡ false → kind_of x ≡ EXTENDED
unfolding sign_of kind_of is_kind
here-extended empty b e d = never (sym e)
here-extended (holding s (segment ws)) b e d = never (sym e)
here-extended (holding s (directory m es)) b e d = never d
here-extended (holding s type) b e d = never (sym e)
here-extended (holding s (extended o m cs)) b e d = refl

-- What is gone has no kind.
is_lost : Sign → Bool
is_lost here = false
is_lost before = false
is_lost leaf = false
is_lost lost = true

lost-kind : (x : Place) (b : Bool) → sign_of x b ≡ lost → kind_of x ≡ 0
unfolding sign_of kind_of is_lost
lost-kind empty b e = refl
lost-kind (holding s (segment ws)) b e = never (sym (ap is_lost e))
lost-kind (holding s (directory m es)) true e = never (sym (ap is_lost e))
lost-kind (holding s (directory m es)) false e = never (sym (ap is_lost e))
lost-kind (holding s type) b e = never (sym (ap is_lost e))
lost-kind (holding s (extended o m cs)) true e = never (sym (ap is_lost e))
lost-kind (holding s (extended o m cs)) false e = never (sym (ap is_lost e))

-- The sign says the rest.
abbrev marks_after : Sign → List Bool → ℕ → List Bool
marks_after s m k = pick (is_here s) (set m k true) m

module _ (M : Machine) (d : ℕ) (c : Capability) (m : List Bool) where
  abbrev x : Place
  x = living M c.object

  abbrev k : ℕ
  k = place_number M c.object

  abbrev marked : Bool
  marked = get_or m k false

  pub null-line : is_null c ≡ true → line_at M d c m ≡ quiet m
  unfolding item
  null-line e = rw e

  pub null-shut : is_null c ≡ true → opens M c m ≡ false
  unfolding opens
  null-shut e = rw e

  shown-line : (s : Sign) → sign_of x marked ≡ s → shown-by-sign shut M d c m s ≡ printed (line d c (kind_of x) s) (marks_after s m k)
  unfolding shown-by-sign and_then
  shown-line here e = rw (both-none (line d c (kind_of x) here))
  shown-line before e = refl
  shown-line leaf e = refl
  shown-line lost e = rw (lost-kind x marked e)

  -- a line, its sign and the marks after it
  pub line-is : (s : Sign) → is_null c ≡ false → sign_of x marked ≡ s → line_at M d c m ≡ printed (line d c (kind_of x) s) (marks_after s m k)
  unfolding item
  line-is s n e = rw (n, e) (shown-line s e)

  pub opens-is : (s : Sign) → is_null c ≡ false → sign_of x marked ≡ s → opens M c m ≡ is_here s
  unfolding opens
  opens-is s n e = rw (n, e)

  -- what is to be opened
  open-some : opens M c m ≡ true → is_null c ≡ false
  unfolding opens
  open-some e = go (is_null c) refl
    where
      go : (b : Bool) → is_null c ≡ b → is_null c ≡ false
      go true n = never (sym e ∙ null-shut n)
      go false n = n

  open-here : opens M c m ≡ true → is_here (sign_of x marked) ≡ true
  open-here e = sym (opens-is (sign_of x marked) (open-some e) refl) ∙ e

  module _ (f : Place → List Bool → Listing) where
    shown-is : (s : Sign) → sign_of x marked ≡ s → shown-by-sign f M d c m s ≡ pick (is_here s) (and_then (printed (line d c (kind_of x) s) (set m k true)) (f x)) (printed (line d c (kind_of x) s) m)
    unfolding shown-by-sign
    shown-is here e = refl
    shown-is before e = refl
    shown-is leaf e = refl
    shown-is lost e = rw (lost-kind x marked e)

    -- a capability's line, and then what opening its object shows
    pub item-open : opens M c m ≡ true → item f M d c m ≡ and_then (printed (line_at M d c m).text (set m k true)) (f x)
    unfolding item
    item-open e =
        let n = open-some e in
        rw (line-is (sign_of x marked) n refl, n) (shown-is (sign_of x marked) refl ∙ rw (open-here e))

    pub item-shut : opens M c m ≡ false → item f M d c m ≡ printed (line_at M d c m).text m
    unfolding item
    item-shut e = go (is_null c) refl
      where
        go : (b : Bool) → is_null c ≡ b → item f M d c m ≡ printed (line_at M d c m).text m
        go true n = rw (null-line n, n)
        go false n =
            let h : is_here (sign_of x marked) ≡ false = sym (opens-is (sign_of x marked) n refl) ∙ e in
            rw (line-is (sign_of x marked) n refl, n) (shown-is (sign_of x marked) refl ∙ rw h)

-- Beyond the places lives nothing.
beyond : (M : Machine) (c : Capability) → sound M ≡ true → c.object.0 < 8 → 16 ≤ place_of M c.object → living M c.object ≡ empty
unfolding living places_of
beyond M c h l g =
    let n : length (places_of M c.object.0) ≡ 16 = (sound-package M h c.object.0 l).places in
    get_or-eq_default (places_of M c.object.0) empty (omega arith)

-- Where what is to be opened lives, and that it isn't opened yet.
pub record Opening (M : Machine) (o : ObjectNumber) (m : List Bool) : Type 0 where
  pub home : o.0 < 8
  pub place : place_of M o < 16
  pub unseen : get_or m (place_number M o) false ≡ false

empty-shut : (b : Bool) → is_here (sign_of empty b) ≡ false
unfolding sign_of
empty-shut b = refl

pub open-place : (M : Machine) → sound M ≡ true → (d : ℕ) (c : Capability) (m : List Bool) → capability_sound (issued M) c ≡ true → opens M c m ≡ true → Opening M c.object m
open-place M h d c m ok e =
    let s = capability-small M h c ok (open-some M d c m e) in
    let f = open-here M d c m e in
    record {
      home = s.maker;
      place = lt_of_not-le (λ g. never (sym f ∙ rw (beyond M c h s.maker g) (empty-shut _)));
      unseen = here-unseen (living M c.object) _ f;
    }

-- A capability that isn't null names an object of one of the packages.
module _ (t : Tables) (c : Capability) (ok : capability_sound (issued (shown t)) c ≡ true) (some : is_null c ≡ false) where
  sound-shown : sound (shown t) ≡ true
  sound-shown = sound-of t.numbers.now t.lent

  pub home : c.object.0 < 8
  home = (capability-small (shown t) sound-shown c ok some).maker

  -- one that is gone
  module _ (d : ℕ) (m : List Bool) (gone : 16 ≤ place_of (shown t) c.object) where
    gone-lost : sign_of (living (shown t) c.object) (get_or m (place_number (shown t) c.object) false) ≡ lost
    unfolding sign_of
    gone-lost = rw (beyond (shown t) c sound-shown home gone)

    pub gone-line : (line_at (shown t) d c m).text ≡ line d c 0 lost
    gone-line = ap (λ (L : Listing). L.text) (line-is (shown t) d c m lost some gone-lost) ∙ rw (lost-kind (living (shown t) c.object) _ gone-lost)

    pub gone-shut : opens (shown t) c m ≡ false
    gone-shut = opens-is (shown t) d c m lost some gone-lost

-- An object that lives in a place.
module _ (M : Machine) (c : Capability) (at : At) (a : (at.maker ≡ c.object.0) × (at.number ≡ place_of M c.object)) where
  pub there : inside M at.maker at.number ≡ living M c.object
  unfolding living
  there = rw (a.0, a.1)

  pub its-number : number_of at ≡ place_number M c.object
  its-number = rw (a.0, a.1)

  module _ (d : ℕ) (m : List Bool) {kind : Option Kind} {s : Sign} (some : is_null c ≡ false) (of : kind ≡ kind_from (kind_of (inside M at.maker at.number))) (sign : s ≡ sign_by kind (get_or m (number_of at) false)) where
    sign-is : sign_of (living M c.object) (get_or m (place_number M c.object) false) ≡ s
    sign-is = sym (sign ∙ rw (of, there, its-number) (sign-by (living M c.object) _))

    pub living-line : (line_at M d c m).text ≡ line d c (kind_shown kind) s
    living-line = ap (λ (L : Listing). L.text) (line-is M d c m s some sign-is) ∙ rw (of, there, kind-shown (living M c.object)) refl

    pub living-opens : opens M c m ≡ is_here s
    living-opens = opens-is M d c m s some sign-is

  -- what is to be opened there
  module _ (m : List Bool) (e : opens M c m ≡ true) where
    pub unseen : get_or m (number_of at) false ≡ false
    unseen = rw its-number (here-unseen (living M c.object) _ (open-here M 0 c m e))

    pub a-directory : is_kind DIRECTORY (inside M at.maker at.number) ≡ true → kind_of (inside M at.maker at.number) ≡ DIRECTORY
    unfolding is_kind
    a-directory g = eqb-true _ _ g

    pub else-extended : is_kind DIRECTORY (inside M at.maker at.number) ≡ false → kind_of (inside M at.maker at.number) ≡ EXTENDED
    else-extended g = rw there (here-extended (living M c.object) _ (open-here M 0 c m e) (rw there at g))

-- Its place is answered where it is to be opened.
pub opened-or-not : (M : Machine) (c : Capability) (m : List Bool) (at : At) {b : Bool} {r : Option At} → (at.maker ≡ c.object.0) × (at.number ≡ place_of M c.object) → opens M c m ≡ b → r ≡ then_some b at → OpensAt r M c m
opened-or-not M c m at {b = true} a e r = rw r (e, a.0, a.1)
opened-or-not M c m at {b = false} a e r = rw r e
