-- Capabilities listed one after another: a walk that has listed some of them.
-- Assumes nothing.
use Prim.Native.Nat.{ℕ, suc, ◌+◌, ◌-◌, ◌<◌, ◌≤◌}
use native.Mathlib.Omega.{arith}
use native.Mathlib.Numerals.{add-one}
use mathlib.Core.Path.{◌≡◌, refl, sym, ap, ◌∙◌}
use mathlib.Core.Bool.{Bool, true, false}
use mathlib.Core.List.{List}
use lib.ListN.{length, get_or, set, drop, replicate, drop_of_length-le}
use lib.Seq.{drop-cons}
use Rattle.std.specs.Prelude.{Some}
use Rattle.things.specs.declared.Capability.{Capability}
use Rattle.things.specs.Lists.{every, how_many}
use Rattle.things.specs.Rights.{null}
use Rattle.things.proofs.ListLaws.{every-at}
use Rattle.rules.specs.Machine.{DIRECTORY, EXTENDED, no_entry, Place, Machine, package_of, slot_of, inside, kind_of, inners_of}
use Rattle.rules.specs.Sound.{issued, capability_sound}
use Rattle.text.specs.Text.{◌▹◌}
use Rattle.text.specs.Tree.{Listing, quiet, and_then, each, shown_by, within, opened_in, opened, all_places}
use Rattle.access.specs.declared.lent.Tables.{Tables}
use Rattle.access.specs.declared.lent.Directory.{Directory}
use Rattle.access.specs.declared.which.Place.{Place as At}
use Rattle.access.specs.declared.which.Package.{Package}
use Rattle.access.specs.Shown.{shown, listed_in}
use Rattle.print.specs.declared.Text.{Text}
use Rattle.print.specs.Writing.{Room, followed_by}
use Rattle.print.proofs.Writing.{first, rest, then, Left, left-start, left_as, left_step, left_end}
use Rattle.listing.specs.Walking.{number_of, line_at, part, opens, OpensAt, unopened, Listed, Ready}
use Rattle.listing.proofs.Shows.{sound-of, within-sound, entry-is, inner-is, inners-long, entries-sixteen, slots-long, slots-sound}
use Rattle.listing.proofs.Lines.{unopened-set, item-open, item-shut, there, its-number, unseen}

-- A walk that has listed j of the capabilities: what is left leads where all led.
pub record Going (f : Capability → List Bool → Listing) (cs : List Capability) (s₀ s : Text) (m₀ m : List Bool) (j : ℕ) : Type 0 where
  pub left : Left s₀ (each f cs m₀).text s (each f (drop j cs) m).text
  pub marks : (each f (drop j cs) m).marks ≡ (each f cs m₀).marks
  pub fewer : unopened m ≤ unopened m₀

module _ (f : Capability → List Bool → Listing) (cs : List Capability) where
  each_more : (j : ℕ) (m : List Bool) → j < length cs → each f (drop j cs) m ≡ and_then (f (get_or cs j null) m) (each f (drop (j + 1) cs))
  unfolding each
  each_more j m h = rw (add-one j, drop-cons cs j null h)

  each_none : (j : ℕ) (m : List Bool) → length cs ≤ j → each f (drop j cs) m ≡ quiet m
  unfolding each
  each_none j m h = rw (drop_of_length-le cs h)

  pub going_start : {s : Text} {m : List Bool} → Room s (each f cs m).text → Going f cs s s m m 0
  going_start r = record { left = left-start r; marks = refl; fewer = omega arith }

  -- what is left, as the next and the rest
  left-next : {s₀ s : Text} {m₀ m : List Bool} {j : ℕ} → Going f cs s₀ s m₀ m j → j < length cs →
      Left s₀ (each f cs m₀).text s ((f (get_or cs j null) m).text ▹ (each f (drop (j + 1) cs) (f (get_or cs j null) m).marks).text)
  unfolding and_then
  left-next {s₀} {s} {m₀} {m} {j} g h = left_as (ap (λ (L : Listing). L.text) (each_more j m h)) g.left

  pub going-room : {s₀ s : Text} {m₀ m : List Bool} {j : ℕ} → Going f cs s₀ s m₀ m j → j < length cs → Room s (f (get_or cs j null) m).text
  going-room g h = first _ _ (left-next g h).room

  pub going_step : {s₀ s s' : Text} {m₀ m m' : List Bool} {j : ℕ} → Going f cs s₀ s m₀ m j → j < length cs → Listed s s' m m' (f (get_or cs j null) m) → Going f cs s₀ s' m₀ m' (j + 1)
  unfolding and_then
  going_step {s₀} {s} {s'} {m₀} {m} {m'} {j} g h a = record {
    left = rw a.marks (left_step _ _ (left-next g h) a.wrote);
    marks = rw a.marks (sym (ap (λ (L : Listing). L.marks) (each_more j m h)) ∙ g.marks);
    fewer = omega (arith, a.fewer, g.fewer);
  }

  pub going_end : {s₀ s : Text} {m₀ m : List Bool} {j : ℕ} → Going f cs s₀ s m₀ m j → length cs ≤ j → Listed s₀ s m₀ m (each f cs m₀)
  going_end {s₀} {s} {m₀} {m} {j} g h =
      let e = each_none j m h in
      record {
        wrote = left_end (left_as (ap (λ (L : Listing). L.text) e) g.left);
        marks = sym (ap (λ (L : Listing). L.marks) e) ∙ g.marks;
        fewer = g.fewer;
      }

pub opened-is : (M : Machine) (d : ℕ) (x : Place) (m : List Bool) → d ≤ all_places → opened M d x m ≡ each (part M d) (within x) m
unfolding opened opened_in
opened-is M d x m h = let k : all_places + 1 - d ≡ suc (all_places + 1 - (d + 1)) = omega arith in rw k

-- A capability whose object isn't opened: its line is all.
module _ (M : Machine) (d : ℕ) (c : Capability) {s : Text} {m : List Bool} (r : Ready s m d (part M d c m)) where
  pub line_first : Room s (line_at M d c m).text
  unfolding and_then
  line_first = go (opens M c m) refl
    where
      go : (b : Bool) → opens M c m ≡ b → Room s (line_at M d c m).text
      go true e = first _ _ (rw (item-open M d c m (opened M (d + 1)) e) at r.room)
      go false e = rw (item-shut M d c m (opened M (d + 1)) e) at r.room

  pub listed-shut : {s' : Text} → opens M c m ≡ false → s' ≡ followed_by s (line_at M d c m).text → Listed s s' m m (part M d c m)
  listed-shut e w = rw (item-shut M d c m (opened M (d + 1)) e) (record { wrote = w; marks = refl; fewer = omega arith })

  -- One whose object is opened: its line, its mark, and what opening it shows.
  module _ (at : At) (long : length m ≡ all_places) (e : OpensAt (Some at) M c m) {s' : Text} (w : s' ≡ followed_by s (line_at M d c m).text) {n : List Bool} (marked : n ≡ set m (number_of at) true) where
    abbrev y : Place
    y = inside M at.maker at.number

    falls : suc (unopened n) ≡ unopened m
    falls = rw marked (unopened-set m (number_of at) (rw long (omega (arith, at.maker_in_range, at.in_range))) (unseen M c at (e.1, e.2) m e.0))

    whole : part M d c m ≡ and_then (record { text = (line_at M d c m).text; marks = n }) (opened M (d + 1) y)
    whole = item-open M d c m (opened M (d + 1)) e.0 ∙ rw (marked, its-number M c at (e.1, e.2), there M c at (e.1, e.2)) refl

    -- what the call of an opener asks, and that fewer places are unopened there
    pub ready-opened : (suc (unopened n) ≡ unopened m) × Ready s' n (d + 1) (opened M (d + 1) y n)
    unfolding and_then
    ready-opened = (falls, record { room = rest _ _ w (rw whole at r.room); deep = omega (arith, falls, r.deep) })

    pub listed-opened : {s'' : Text} {n' : List Bool} → Listed s' s'' n n' (opened M (d + 1) y n) → Listed s s'' m n' (part M d c m)
    unfolding and_then
    listed-opened a =
        rw whole
        (record {
          wrote = then _ _ (rw whole at r.room) w a.wrote;
          marks = a.marks;
          fewer = omega (arith, a.fewer, falls);
        })

-- At position j of the capabilities cs stands c.
pub record Stands (cs : List Capability) (j : ℕ) (c : Capability) : Type 0 where
  pub below : j < length cs
  pub shows : c ≡ get_or cs j null

module _ (M : Machine) (d : ℕ) {cs : List Capability} {j : ℕ} {c : Capability} (a : Stands cs j c) where
  pub turn-sound : every (capability_sound (issued M)) cs ≡ true → capability_sound (issued M) c ≡ true
  turn-sound good = rw a.shows (every-at (capability_sound (issued M)) cs j null good a.below)

  -- a turn of the loop that lists them
  module _ {s₀ s : Text} {m₀ m : List Bool} (g : Going (part M d) cs s₀ s m₀ m j) where
    pub turn-ready : d + unopened m₀ ≤ all_places → Ready s m d (part M d c m)
    turn-ready deep = record { room = rw a.shows (going-room (part M d) cs g a.below); deep = omega (arith, deep, g.fewer) }

    pub turn-done : {s' : Text} {m' : List Bool} → Listed s s' m m' (part M d c m) → Going (part M d) cs s₀ s' m₀ m' (j + 1)
    turn-done l = going_step (part M d) cs g a.below (rw a.shows at l)

-- What an object shows.
module _ (M : Machine) (d : ℕ) (x : Place) {s : Text} {m : List Bool} (r : Ready s m d (opened M d x m)) where
  as-each : opened M d x m ≡ each (part M d) (within x) m
  as-each = opened-is M d x m (omega (arith, r.deep))

  pub opened-start : Going (part M d) (within x) s s m m 0
  opened-start = going_start (part M d) (within x) (rw as-each at r.room)

  pub opened-end : {s' : Text} {m' : List Bool} {j : ℕ} → Going (part M d) (within x) s s' m m' j → length (within x) ≤ j → Listed s s' m m' (opened M d x m)
  opened-end g b = rw as-each (going_end (part M d) (within x) g b)

-- What stands where in a place of the tables.
module _ (t : Tables) (at : At) where
  abbrev held : Place
  held = inside (shown t) at.maker at.number

  pub held-sound : every (capability_sound (issued (shown t))) (within held) ≡ true
  held-sound = within-sound (shown t) (sound-of t.numbers.now t.lent) at.maker at.number

  module _ (of : kind_of held ≡ DIRECTORY) where
    pub sixteen-held : length (within held) ≡ 16
    sixteen-held = entries-sixteen t.numbers.now t.lent at.maker at.number at.maker_in_range of

    pub entry-stands : {j : ℕ} {c : Capability} (x : Directory) → x.numbers.now ≡ t.numbers.now → x.at ≡ at → j < 16 → c ≡ shown_by (get_or (listed_in x) j no_entry) → Stands (within held) j c
    entry-stands {j} x e f b g = record { below = rw sixteen-held b; shows = g ∙ rw (e, f) (entry-is held of j) }

  module _ (of : kind_of held ≡ EXTENDED) where
    pub four-held : length (within held) ≡ 4
    four-held = inners-long (shown t) (sound-of t.numbers.now t.lent) at.maker at.number at.maker_in_range of

    pub inner-stands : {j : ℕ} {c : Capability} → j < 4 → c ≡ get_or (inners_of held) j null → Stands (within held) j c
    inner-stands {j} b g = record { below = rw four-held b; shows = g ∙ inner-is held of j }

-- The slots of a package, where nothing is opened yet.
abbrev pub none : List Bool
none = replicate all_places false

pub none-opened : unopened none ≡ all_places
unfolding unopened how_many
none-opened = refl

module _ (t : Tables) (p : Package) where
  abbrev pub slots : List Capability
  slots = (package_of (shown t) p.number).slots

  pub sixteen-slots : length slots ≡ 16
  sixteen-slots = slots-long (shown t) (sound-of t.numbers.now t.lent) p.number p.in_range

  pub slots-good : every (capability_sound (issued (shown t))) slots ≡ true
  slots-good = slots-sound (shown t) (sound-of t.numbers.now t.lent) p.number p.in_range

  pub slot-stands : {j : ℕ} {c : Capability} → j < 16 → c ≡ slot_of (shown t) p.number j → Stands slots j c
  unfolding slot_of
  slot-stands b e = record { below = rw sixteen-slots b; shows = e }
