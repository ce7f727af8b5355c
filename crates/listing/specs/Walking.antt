-- A walk of the tree listing: a capability's line alone, what is opened after it, and what a part of the walk has done.
-- Assumes nothing.
use Rattle.std.specs.Prelude.{ℕ, ◌+◌, ◌*◌, ◌≤◌, ◌≡◌, Bool, true, false, not, List, get_or, Option, Some, None, MatchOption}
use Rattle.things.specs.declared.Capability.{Capability}
use Rattle.things.specs.declared.Kind.{Kind}
use Rattle.things.specs.declared.Kind.TheVariants.{Segment, Directory, «Type», Extended}
use Rattle.things.specs.Lists.{pick, how_many}
use Rattle.things.specs.Rights.{maker, is_null}
use Rattle.rules.specs.Machine.{PACKAGES, SLOTS, PLACES, ENTRIES, Machine, place_of, living}
use Rattle.rules.specs.Machine.{Place as Held}
use Rattle.text.specs.Tree.{Listing, quiet, Sign, here, before, leaf, lost, sign_of, all_places, place_number, item, opened}
use Rattle.access.specs.declared.which.Place.{Place}
use Rattle.print.specs.declared.Text.{Text}
use Rattle.print.specs.Writing.{Room, followed_by}

-- The number of a place among all of them: where its mark stands.
abbrev pub number_of : Place → ℕ
number_of at = PLACES * at.maker + at.number

-- A capability's own line, and the marks after it: its item where opening shows nothing.
abbrev pub shut : Held → List Bool → Listing
shut x m = quiet m

abbrev pub line_at : Machine → ℕ → Capability → List Bool → Listing
line_at M depth c m = item shut M depth c m

-- What a capability shows at a depth: its line and, where its object is opened here, what opening it shows.
abbrev pub part : Machine → ℕ → Capability → List Bool → Listing
part M depth c m = item (opened M (depth + 1)) M depth c m

-- The sign of an object by its kind, which one that is gone has not.
abbrev pub sign_by : Option Kind → Bool → Sign
sign_by None marked = lost
sign_by (Some Segment) marked = leaf
sign_by (Some Directory) marked = pick marked before here
sign_by (Some «Type») marked = leaf
sign_by (Some Extended) marked = pick marked before here

abbrev pub is_here : Sign → Bool
is_here here = true
is_here before = false
is_here leaf = false
is_here lost = false

-- Whether a capability's object is opened after its line.
unfoldable pub opens : Machine → Capability → List Bool → Bool
opens M c m = pick (is_null c) false (is_here (sign_of (living M c.object) (get_or m (place_number M c.object) false)))

-- The place whose object is to be opened after a capability's line: the object's own.
abbrev pub OpensAt : Option Place → Machine → Capability → List Bool → Type 0
OpensAt r M c m = MatchOption r (opens M c m ≡ false) (λ at. (opens M c m ≡ true) × (at.maker ≡ maker c.object) × (at.number ≡ place_of M c.object))

-- How many places are not opened yet.
unfoldable pub unopened : List Bool → ℕ
unopened m = how_many not m

-- A walk found the text as s and the marks as m, and left them as s' and m': it listed L. It takes no mark away.
pub record Listed (s s' : Text) (m m' : List Bool) (L : Listing) : Type 0 where
  pub wrote : s' ≡ followed_by s L.text
  pub marks : m' ≡ L.marks
  pub fewer : unopened m' ≤ unopened m

-- What a walk asks that is about to list L at a depth: each step down opened a place.
pub record Ready (s : Text) (m : List Bool) (depth : ℕ) (L : Listing) : Type 0 where
  pub room : Room s L.text
  pub deep : depth + unopened m ≤ all_places

-- A line has at most 20 bytes. A package's listing has a head of 4, a line for each of 16 slots, and at most 16 lines
-- below each of 128 places.
abbrev pub tree_size : ℕ
tree_size = 4 + 20 * (SLOTS + ENTRIES * all_places)

abbrev pub trees_size : ℕ
trees_size = PACKAGES * tree_size
