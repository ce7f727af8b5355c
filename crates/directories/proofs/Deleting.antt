-- Delete's checks of the entry's own capability, what it comes to, and what it leaves.
-- Assumes nothing.
use Prim.Native.Nat.{ℕ, suc, ◌<◌, ◌≤◌}
use native.Mathlib.Omega.{arith}
use mathlib.Core.Path.{◌≡◌, refl, sym, ap, subst, ◌∙◌}
use mathlib.Core.Bool.{Bool, true, false, not, ◌&&◌, ◌||◌}
use mathlib.Core.List.{List, [], ◌∷◌}
use lib.ListN.{get_or}
use lib.Dec.{eqb, ltb}
use borrow.Author.Tests.{eqb-true, ne_eqb, ltb-true}
use Rattle.things.specs.declared.Capability.{Capability}
use Rattle.things.specs.declared.Refusal.{Refusal}
use Rattle.things.specs.declared.Refusal.TheVariants.{NoEntry, WrongEntry, NoAbility, Gone, Occupied}
use Rattle.things.specs.Lists.{pick, some, how_many}
use Rattle.things.specs.Rights.{has_right, DELETE, REMOVE}
use Rattle.things.proofs.ListLaws.{never, and_parts, every-or, first_passes}
use Rattle.rules.specs.Machine.{PLACES, ENTRIES, DIRECTORY, Entry, no_entry, segment, directory, type, extended, Place, empty, holding, Machine, slot_of, inside, kind_of, entries_of, place_of, living, is_named, is_used, has_entry, entry_of, entry_named, used_entries}
use Rattle.rules.specs.Sound.{issued, is_number, names, entry_sound, sound}
use Rattle.rules.specs.Changes.{set_entry, set_place, apply, apply_all}
use Rattle.rules.specs.Checks.{refused, done, unless, checked, gone, is_kind}
use Rattle.rules.specs.Calls
use Rattle.rules.specs.Calls.{named, listed, listed_object, entry}
use Rattle.rules.proofs.Keep.{keep-entry}
use Rattle.rules.proofs.Inside.{inside-sound, none-sound, apart-removed}
use Rattle.tables.specs.Layout.{place_numbers, numbers, machine}
use Rattle.tables.specs.Positions.{store}
use Rattle.tables.specs.Call.{tables_after}
use Rattle.tables.proofs.Laws.{formed}
use Rattle.tables.proofs.Stored.{entry-stored, place-stored}
use Rattle.access.specs.Lent.{Lent}
use Rattle.access.specs.Shown.{shown, lies_in, listed_in}
use Rattle.access.specs.declared.lent.Tables.{Tables}
use Rattle.access.specs.declared.lent.Directory.{Directory}
use Rattle.access.specs.declared.which.Position.{Position}
use Rattle.access.specs.declared.which.Place.{Place as At}
use Rattle.checks.specs.Verdicts.{passes, stops, verdict}
use Rattle.directories.specs.Deletes.{own_checks, IsDoomed}
use Rattle.directories.specs.declared.doomed.Doomed.{Doomed}
use Rattle.directories.proofs.Results.{Chosen, has-found, lacks-sought, named-at}
use Rattle.checks.proofs.Deciding.{hit, miss, all-passed, passed, past, stopped, acting}
use Rattle.checks.proofs.Checking.{sound-shown, lives, lost, living-at}

-- A directory with any entry.
pub never-used : (x : Place) → is_kind DIRECTORY x ≡ false → false ≡ some is_used (entries_of x)
unfolding is_kind kind_of entries_of some
never-used empty h = refl
never-used (holding s (segment ws)) h = refl
never-used (holding s (directory m es)) h = never h
never-used (holding s type) h = refl
never-used (holding s (extended o m cs)) h = refl

pub kind-told : (x : Place) → is_kind DIRECTORY x ≡ true → kind_of x ≡ DIRECTORY
unfolding is_kind
kind-told x h = eqb-true _ _ h

some-counted : {A : Type 0} (f : A → Bool) (xs : List A) → not (eqb (how_many f xs) 0) ≡ some f xs
unfolding how_many some
some-counted f [] = refl
some-counted f (x ∷ xs) = go (f x) (some-counted f xs)
  where
    go : (b : Bool) → not (eqb (how_many f xs) 0) ≡ some f xs → not (eqb (pick b (suc (how_many f xs)) (how_many f xs)) 0) ≡ b || some f xs
    go true h = ap not (ne_eqb (suc (how_many f xs)) 0 (λ e. omega arith))
    go false h = h

pub any-used : (x : Place) (n : ℕ) → n ≡ used_entries x → not (eqb n 0) ≡ some is_used (entries_of x)
unfolding used_entries
any-used x n e = rw e (some-counted is_used (entries_of x))

-- The entry's own capability names an issued number.
module _ (t : List ℕ) (w : Lent t) (q i b : ℕ) where
  abbrev M : Machine
  M = machine t

  abbrev x : Place
  x = inside M q i

  own-sound : entry_sound (issued M) (entry_named x b) ≡ true
  unfolding entry_named
  own-sound = every-or (entry_sound (issued M)) (entries_of x) (entry_of x b) no_entry (inside-sound M q i (sound-shown t w)).entries (none-sound (issued M))

  own_name : has_entry x b ≡ true → (entry_named x b).name ≡ b
  unfolding has_entry entry_named entry_of is_named
  own_name h = eqb-true _ _ (first_passes (is_named b) (entries_of x) no_entry h)

  used-names : (e : Entry) → (e.name ≡ 0 → ⊥) → entry_sound (issued M) e ≡ true → names (issued M) e.capability ≡ true
  unfolding entry_sound
  used-names e n h =
      let k : is_number e.name && names (issued M) e.capability ≡ true = rw (ne_eqb e.name 0 n) at h in
      (and_parts (is_number e.name) _ k).1

  own-maker : 0 < b → has_entry x b ≡ true → (entry_named x b).capability.object.0 < 8
  unfolding issued
  own-maker z h =
      let n = own_name h in
      let k = and_parts (issued M (entry_named x b).capability.object) _ (used-names (entry_named x b) (λ e. omega (arith, n, e)) own-sound) in
      ltb-true _ 8 (and_parts (ltb (entry_named x b).capability.object.0 8) _ k.0).0

-- The verdict on the entry's own capability, one check after another.
module _ (M : Machine) (x : Place) (b : ℕ) where
  abbrev own : Entry
  own = entry_named x b

  own-missing : has_entry x b ≡ false → verdict (own_checks M x b) ≡ stops NoEntry
  own-missing a = hit _ _ (ap not a)

  module _ (a : has_entry x b ≡ true) where
    own-plain : own.distinguished ≡ false → verdict (own_checks M x b) ≡ stops WrongEntry
    own-plain d = miss _ _ (ap not a) ∙ hit _ _ (ap not d)

    module _ (d : own.distinguished ≡ true) where
      own-unable : has_right own.capability DELETE ≡ false → verdict (own_checks M x b) ≡ stops NoAbility
      own-unable r = miss _ _ (ap not a) ∙ miss _ _ (ap not d) ∙ hit _ _ (ap not r)

      module _ (r : has_right own.capability DELETE ≡ true) where
        own-gone : gone M own.capability.object ≡ true → verdict (own_checks M x b) ≡ stops Gone
        own-gone g = miss _ _ (ap not a) ∙ miss _ _ (ap not d) ∙ miss _ _ (ap not r) ∙ hit _ _ g

        module _ (g : gone M own.capability.object ≡ false) where
          own-occupied : some is_used (entries_of (living M own.capability.object)) ≡ true → verdict (own_checks M x b) ≡ stops Occupied
          own-occupied u = miss _ _ (ap not a) ∙ miss _ _ (ap not d) ∙ miss _ _ (ap not r) ∙ miss _ _ g ∙ hit _ _ u

          own-free : some is_used (entries_of (living M own.capability.object)) ≡ false → verdict (own_checks M x b) ≡ passes
          own-free u = miss _ _ (ap not a) ∙ miss _ _ (ap not d) ∙ miss _ _ (ap not r) ∙ miss _ _ g ∙ miss _ _ u ∙ all-passed

-- The same by what the code finds: of the directory's entry, and of the place of its own object.
module _ (t : Tables) (d : Directory) (b : ℕ) where
  abbrev y : Place
  y = lies_in d

  pub missing : ENTRIES ≤ entry_of y b → verdict (own_checks (shown t) y b) ≡ stops NoEntry
  missing h = own-missing (shown t) y b (lacks-sought d b h)

  module _ (j : Position) (f : j.number ≡ entry_of y b) where
    has : has_entry y b ≡ true
    has = has-found d b j f

    marked : (m : Bool) → (get_or (listed_in d) j.number no_entry).distinguished ≡ m → (entry_named y b).distinguished ≡ m
    marked m h = rw (named-at d b j f) h

    pub plain : (get_or (listed_in d) j.number no_entry).distinguished ≡ false → verdict (own_checks (shown t) y b) ≡ stops WrongEntry
    plain h = own-plain (shown t) y b has (marked false h)

    module _ (m : (get_or (listed_in d) j.number no_entry).distinguished ≡ true) (c : Capability) (e : c ≡ (get_or (listed_in d) j.number no_entry).capability) where
      is-own : (entry_named y b).capability ≡ c
      is-own = rw (named-at d b j f) (sym e)

      pub maker-below : 0 < b → c.object.0 < 8
      maker-below z = rw is-own at (own-maker d.numbers.now d.lent d.at.maker d.at.number b z has)

      pub unable : has_right c DELETE ≡ false → verdict (own_checks (shown t) y b) ≡ stops NoAbility
      unable h = own-unable (shown t) y b has (marked true m) (rw is-own h)

      module _ (z : 0 < b) (r : has_right c DELETE ≡ true) where
        able : has_right (entry_named y b).capability DELETE ≡ true
        able = rw is-own r

        pub lost-own : PLACES ≤ place_of (shown t) c.object → verdict (own_checks (shown t) y b) ≡ stops Gone
        lost-own h = own-gone (shown t) y b has (marked true m) able (rw is-own (lost t.numbers.now t.lent c.object (maker-below z) h))

        module _ (at : At) (q : at.maker ≡ c.object.0) (k : at.number ≡ place_of (shown t) c.object) where
          still : gone (shown t) (entry_named y b).capability.object ≡ false
          still = rw is-own (lives t.numbers.now t.lent c.object (maker-below z) at.number k at.in_range)

          any : (u : Bool) → some is_used (entries_of (inside (shown t) at.maker at.number)) ≡ u → some is_used (entries_of (living (shown t) (entry_named y b).capability.object)) ≡ u
          any u h = rw (is-own, living-at t.numbers.now t.lent c.object at.number k, ← q) h

          pub kept : some is_used (entries_of (inside (shown t) at.maker at.number)) ≡ true → verdict (own_checks (shown t) y b) ≡ stops Occupied
          kept h = own-occupied (shown t) y b has (marked true m) able still (any true h)

          pub doomed : some is_used (entries_of (inside (shown t) at.maker at.number)) ≡ false → (verdict (own_checks (shown t) y b) ≡ passes) × IsDoomed (shown t) y b (record { position = j; place = at })
          doomed h = (own-free (shown t) y b has (marked true m) able still (any false h), (f, rw is-own q, rw is-own k))

-- What delete comes to.
module _ (M : Machine) (p a b : ℕ) (d : Directory) (o : Chosen M p a REMOVE d) where
  listed-own : listed M p a b ≡ entry_named (lies_in d) b
  unfolding listed
  listed-own = rw o.here

  listed-object : listed_object M p a b ≡ (entry_named (lies_in d) b).capability.object
  unfolding listed_object
  listed-object = ap (λ (e : Entry). e.capability.object) listed-own

  deleting : Calls.delete M p a b 0 0 0
      ≡ unless (own_checks M (lies_in d) b)
      (done 0 (set_entry d.at.maker d.at.number (entry_of (lies_in d) b) no_entry ∷ set_place (entry_named (lies_in d) b).capability.object.0 (place_of M (entry_named (lies_in d) b).capability.object) empty ∷ []))
  unfolding Calls.delete
  deleting =
      past (checked M (slot_of M p a) REMOVE DIRECTORY) _ _ o.all-passed
      ∙ rw (listed-own, listed-object, o.here, o.place_is, o.maker-is)

  pub delete-refused : (why : Refusal) → verdict (own_checks M (lies_in d) b) ≡ stops why → Calls.delete M p a b 0 0 0 ≡ refused why
  delete-refused why h = deleting ∙ stopped (own_checks M (lies_in d) b) [] _ why h

  pub delete-done : (z : Doomed) → (verdict (own_checks M (lies_in d) b) ≡ passes) × IsDoomed M (lies_in d) b z →
      Calls.delete M p a b 0 0 0 ≡ done 0 (set_entry d.at.maker d.at.number z.position.number no_entry ∷ set_place z.place.maker z.place.number empty ∷ [])
  delete-done z h = deleting ∙ past (own_checks M (lies_in d) b) [] _ (passed (own_checks M (lies_in d) b) h.0) ∙ acting _ ∙ rw (h.1.0, h.1.1, h.1.2)

-- What delete leaves.
pub delete-left : (t : List ℕ) (w : Lent t) (value q i j m k : ℕ) → q < 8 → i < 16 → j < 16 → kind_of (inside (machine t) q i) ≡ DIRECTORY → m < 8 → k < 16 →
    store (store t (set_entry q i j no_entry)) (set_place m k empty) ≡ tables_after t (done value (set_entry q i j no_entry ∷ set_place m k empty ∷ []))
unfolding tables_after apply_all place_numbers
delete-left t w value q i j m k ql il jl d ml kl =
    let M = machine t in
    let h = sound-shown t w in
    let f = formed t w.formed in
    let N = apply M (set_entry q i j no_entry) in
    let g : sound N ≡ true = keep-entry M q i j no_entry h (none-sound (issued M)) (apart-removed (entries_of (inside M q i)) j (inside-sound M q i h).apart) in
    let one : store t (set_entry q i j no_entry) ≡ numbers N = subst (λ (u : List ℕ). store u (set_entry q i j no_entry) ≡ numbers N) f.shown (entry-stored M h q ql i j no_entry il jl d) in
    rw one (place-stored N g m ml k empty kl refl)
