-- What packages have: the capabilities in their slots and in the objects that they made. What a change brings is all that
-- a package comes to have.
-- Assumes nothing.
use Prim.Native.Nat.{ℕ}
use mathlib.Core.Path.{◌≡◌, refl, sym, subst}
use mathlib.Core.Logic.{◌⊎◌, inl, inr}
use mathlib.Core.List.{List, [], ◌∷◌}
use lib.ListN.{get_or}
use Rattle.things.specs.declared.Capability.{Capability}
use Rattle.things.specs.Rights.{null, restricted}
use Rattle.things.proofs.ListLaws.{set-any}
use Rattle.rules.specs.Machine.{DIRECTORY, EXTENDED, Entry, no_entry, segment, directory, type, extended, Place, empty, holding, Package, Machine, nobody, package_of, slot_of, places_of, entries_of, inners_of, living, place_of, entry_named, entry_of}
use Rattle.rules.specs.Changes.{Change, set_last, set_slot, set_place, set_entry, set_inner, set_word, target, with_entry, with_inner, with_word, placed, place_at, changed, apply, apply_all}
use Rattle.rules.specs.Calls.{named, opened, made, listed, copied}
use Rattle.rules.specs.Step.{Call}
use Rattle.rules.proofs.Decide.{Each}
use Rattle.sides.proofs.Deeds
use Rattle.sides.proofs.Deeds.{Can, Bare, Own}

-- What lies in a place, and what a package has, each with K.
pub record HasIn (K : Capability → Type 0) (y : Place) : Type 0 where
  pub entries : (j : ℕ) → K (get_or (entries_of y) j no_entry).capability
  pub inners : (j : ℕ) → K (get_or (inners_of y) j null)

pub record Has (K : Capability → Type 0) (P : Package) : Type 0 where
  pub slots : (i : ℕ) → K (get_or P.slots i null)
  pub inside : (i : ℕ) → HasIn K (place_at P i)

pub has-in-more : (K L : Capability → Type 0) → ((c : Capability) → K c → L c) → (y : Place) → HasIn K y → HasIn L y
has-in-more K L f y h = record { entries = λ j. f _ (h.entries j); inners = λ j. f _ (h.inners j) }

pub has_more : (K L : Capability → Type 0) → ((c : Capability) → K c → L c) → (P : Package) → Has K P → Has L P
has_more K L f P h = record { slots = λ i. f _ (h.slots i); inside = λ i. has-in-more K L f (place_at P i) (h.inside i) }

module _ (K : Capability → Type 0) where
  has-entry : (j : ℕ) (e : Entry) (y : Place) → K e.capability → HasIn K y → HasIn K (with_entry j e y)
  unfolding with_entry entries_of inners_of
  has-entry j e empty k h = h
  has-entry j e (holding s (segment ws)) k h = h
  has-entry j e (holding s (directory m es)) k h =
      record { entries = λ l. set-any (λ (d : Entry). K d.capability) es j l e no_entry (λ _. k) (h.entries l); inners = h.inners }
  has-entry j e (holding s type) k h = h
  has-entry j e (holding s (extended o m cs)) k h = h

  has_inner : (j : ℕ) (c : Capability) (y : Place) → K c → HasIn K y → HasIn K (with_inner j c y)
  unfolding with_inner entries_of inners_of
  has_inner j c empty k h = h
  has_inner j c (holding s (segment ws)) k h = h
  has_inner j c (holding s (directory m es)) k h = h
  has_inner j c (holding s type) k h = h
  has_inner j c (holding s (extended o m cs)) k h =
      record { entries = h.entries; inners = λ l. set-any K cs j l c null (λ _. k) (h.inners l) }

  has_word : (j w : ℕ) (y : Place) → HasIn K y → HasIn K (with_word j w y)
  unfolding with_word entries_of inners_of
  has_word j w empty h = h
  has_word j w (holding s (segment ws)) h = record { entries = h.entries; inners = h.inners }
  has_word j w (holding s (directory m es)) h = h
  has_word j w (holding s type) h = h
  has_word j w (holding s (extended o m cs)) h = h

  -- What a change brings to its package.
  abbrev pub Brings : Change → Type 0
  Brings (set_last p n) = Unit {0}
  Brings (set_slot p i c) = K c
  Brings (set_place p i y) = HasIn K y
  Brings (set_entry p i j e) = K e.capability
  Brings (set_inner p i j c) = K c
  Brings (set_word p i j w) = Unit {0}

  has-placed : (P : Package) (i : ℕ) (y : Place) → HasIn K y → Has K P → Has K (placed i y P)
  has-placed P i y k h = record { slots = h.slots; inside = λ l. set-any (HasIn K) P.places i l y empty (λ _. k) (h.inside l) }

  has-changed : (P : Package) (x : Change) → Brings x → Has K P → Has K (changed P x)
  unfolding changed
  has-changed P (set_last p n) k h = record { slots = h.slots; inside = h.inside }
  has-changed P (set_slot p i c) k h = record { slots = λ l. set-any K P.slots i l c null (λ _. k) (h.slots l); inside = h.inside }
  has-changed P (set_place p i y) k h = has-placed P i y k h
  has-changed P (set_entry p i j e) k h = has-placed P i _ (has-entry j e (place_at P i) k (h.inside i)) h
  has-changed P (set_inner p i j c) k h = has-placed P i _ (has_inner j c (place_at P i) k (h.inside i)) h
  has-changed P (set_word p i j w) k h = has-placed P i _ (has_word j w (place_at P i) (h.inside i)) h

-- Each package q has only what K q lets it.
abbrev pub AllHave : (ℕ → Capability → Type 0) → Machine → Type 0
AllHave K M = (q : ℕ) → Has (K q) (package_of M q)

have-apply : (K : ℕ → Capability → Type 0) (M : Machine) (x : Change) → Brings (K (target x)) x → AllHave K M → AllHave K (apply M x)
unfolding package_of apply
have-apply K M x k h q =
    set-any (Has (K q)) M (target x) q (changed (package_of M (target x)) x) nobody
    (λ e. subst (λ (p : ℕ). Has (K p) (changed (package_of M (target x)) x)) (sym e) (has-changed (K (target x)) (package_of M (target x)) x k (h (target x)))) (h q)

pub have-all : (K : ℕ → Capability → Type 0) (M : Machine) (xs : List Change) → Each (λ x. Brings (K (target x)) x) xs → AllHave K M → AllHave K (apply_all M xs)
unfolding apply_all
have-all K M [] k h = h
have-all K M (x ∷ xs) k h = have-all K (apply M x) xs k.1 (have-apply K M x k.0 h)

-- ---- what a package's call brings
bare-in : (K : Capability → Type 0) (y : Place) → K null → Bare y → HasIn K y
bare-in K y k b = record { entries = λ j. rw (b.0 j) k; inners = λ j. rw (b.1 j) k }

pub empty-in : (K : Capability → Type 0) → K null → HasIn K empty
unfolding entries_of inners_of
empty-in K k = record { entries = λ j. k; inners = λ j. k }

-- What capabilities lie in.
abbrev pub Container : ℕ → Type 0
Container kind = (kind ≡ DIRECTORY) ⊎ (kind ≡ EXTENDED)

-- Capabilities that K lets a package have: null, what is restricted, what the caller makes; and the caller and the maker of
-- a directory or an extended object that it opens may have the same.
pub record Free (M : Machine) (x : Call) (K : ℕ → Capability → Type 0) : Type 0 where
  pub none : (q : ℕ) → K q null
  pub restricted : (q : ℕ) (c : Capability) (mask : ℕ) → K q c → K q (restricted c mask)
  pub made : (s : ℕ) → K x.caller (made M x.caller s)
  pub have : AllHave K M
  pub same : (a right kind : ℕ) → Container kind → Can M x.caller a right kind → (c : Capability) → (K x.caller c → K (named M x.caller a).0 c) × (K (named M x.caller a).0 c → K x.caller c)

module _ (M : Machine) (x : Call) (K : ℕ → Capability → Type 0) (f : Free M x K) where
  abbrev p : ℕ
  p = x.caller

  slot_has : (a : ℕ) → K p (slot_of M p a)
  unfolding slot_of
  slot_has a = (f.have p).slots a

  opened-has : (a right kind : ℕ) → Container kind → Can M p a right kind → HasIn (K p) (opened M p a)
  unfolding opened living places_of
  opened-has a right kind ne c =
      has-in-more (K (named M p a).0) (K p) (λ e. (f.same a right kind ne c e).1) (opened M p a) ((f.have (named M p a).0).inside (place_of M (named M p a)))

  given : (a right kind : ℕ) → Container kind → Can M p a right kind → (c : Capability) → K p c → K (named M p a).0 c
  given a right kind ne d c k = (f.same a right kind ne d c).0 k

  pub own-brings : (y : Change) → Own M x y → Brings (K (target y)) y
  unfolding copied listed entry_named
  own-brings y (Deeds.restricting a mask c) = f.restricted p (slot_of M p a) mask (slot_has a)
  own-brings y (Deeds.dropping a) = f.none p
  own-brings y (Deeds.fetching a b c d) = (opened-has a _ DIRECTORY (inl refl) d).entries (entry_of (opened M p a) b)
  own-brings y (Deeds.getting b c d e) = (opened-has b _ EXTENDED (inr refl) e).inners c
  own-brings y (Deeds.receiving s d) = f.made s
  own-brings y Deeds.issuing = tt
  own-brings y (Deeds.placing body bare r) = bare-in (K p) _ (f.none p) bare
  own-brings y (Deeds.entering a b s d) = given a _ DIRECTORY (inl refl) d _ (f.made s)
  own-brings y (Deeds.adding a b c d) = given a _ DIRECTORY (inl refl) d _ (slot_has c)
  own-brings y (Deeds.removing a b d) = f.none _
  own-brings y (Deeds.ending a b d r g) = empty-in (K _) (f.none _)
  own-brings y (Deeds.putting b c d e) = given b _ EXTENDED (inr refl) e _ (slot_has d)
  own-brings y (Deeds.writing e c) = tt
  own-brings y (Deeds.copying e c m l) = tt
