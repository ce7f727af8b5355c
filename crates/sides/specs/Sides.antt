-- Near and far (01, "Near and far", and the letter's demand 3): what a side holds and has, the premises clause by clause, whose
-- call a call is, and what the near side gets.
-- Assumes nothing.
use Rattle.std.specs.Prelude.{ℕ, ◌+◌, ◌<◌, ◌≡◌, Bool, true, false, not, ◌&&◌, ◌||◌, List, [], ◌∷◌, ◌++◌, map, eqb, ltb, leb}
use Rattle.things.specs.declared.Capability.{Capability}
use Rattle.things.specs.Answers.{Answer}
use Rattle.std.specs.Prelude.{Ok, Err}
use Rattle.things.specs.Lists.{pick, every, some, up_from}
use Rattle.things.specs.Rights.{maker, is_null, STORE, KEEP, READ}
use Rattle.rules.specs.Machine.{PACKAGES, DIRECTORY, TYPE, EXTENDED, Entry, Place, Package, Machine, package_of, slot_of, kind_of, entries_of, inners_of, living}
use Rattle.rules.specs.Sound.{sound}
use Rattle.rules.specs.Checks.{answer_of, after, gone}
use Rattle.rules.specs.Step.{Call, step, answers, run}

-- "Split the eight packages into a near and a far side": which are near. It is asked of packages 0 to 7 alone.
abbrev pub Split : Type 0
Split = ℕ → Bool

-- ---- what a side has
-- "What lies in an object is the capabilities in its entries and inner places; its type number isn't counted."
unfoldable pub lies_in : Place → List Capability
lies_in x = map (λ (e : Entry). e.capability) (entries_of x) ++ inners_of x

unfoldable pub lie : List Place → List Capability
lie [] = []
lie (x ∷ xs) = lies_in x ++ lie xs

-- "A side holds what stands in its packages' slots, and has that and what lies in the objects it made."
unfoldable pub has : Package → List Capability
has P = P.slots ++ lie P.places

-- What every package of a side has passes a test.
unfoldable pub each_package : (ℕ → Bool) → Bool
each_package f = every f (up_from PACKAGES 0 (λ p. p))

unfoldable pub near_has : Split → (Capability → Bool) → Machine → Bool
near_has near f M = each_package (λ p. not (near p) || every f (has (package_of M p)))

unfoldable pub far_has : Split → (Capability → Bool) → Machine → Bool
far_has near f M = each_package (λ p. near p || every f (has (package_of M p)))

-- ---- the premises on the start
-- The null capability names nothing.
unfoldable pub names_far : Split → Capability → Bool
names_far near c = not (is_null c) && not (near (maker c.object))

unfoldable pub names_near : Split → Capability → Bool
names_near near c = not (is_null c) && near (maker c.object)

-- "nothing the near side holds, or that lies in objects it made, names an object the far side made"
unfoldable pub near_names : Split → Machine → Bool
near_names near M = near_has near (λ c. not (names_far near c)) M

-- "reading and store permissions only": rights 1, 2 and 4, and so none from 8 on. Of an object that is gone nothing is asked.
unfoldable pub reading_only : Machine → Capability → Bool
reading_only M c = gone M c.object || leb c.rights (STORE + KEEP + READ)

-- "directory, type or extended object"
abbrev pub letters_kinds : List ℕ
letters_kinds = DIRECTORY ∷ TYPE ∷ EXTENDED ∷ []

-- It names a living object of one of these kinds; what is gone has kind 0, which none is.
unfoldable pub lives_as : List ℕ → Machine → Capability → Bool
lives_as kinds M c = some (eqb (kind_of (living M c.object))) kinds

-- "capabilities the far side has on near objects carry reading and store permissions only"
unfoldable pub far_rights : Split → Machine → Bool
far_rights near M = far_has near (λ c. not (names_near near c) || reading_only M c) M

-- ".. and name no directory, type or extended object still living"
unfoldable pub far_kinds : List ℕ → Split → Machine → Bool
far_kinds kinds near M = far_has near (λ c. not (names_near near c) || not (lives_as kinds M c)) M

-- ---- the premises on the run
-- A hand-over that is done. One that is refused moves nothing, and no premise speaks of it.
unfoldable pub is_done : Answer → Bool
is_done (Ok value) = true
is_done (Err why) = false

unfoldable pub hands_over : Machine → Call → Bool
hands_over M x = eqb x.number 3 && is_done (answer_of (step M x))

-- At each call of a run, on the machine that the calls before it left.
unfoldable pub throughout : (Machine → Call → Bool) → Machine → List Call → Bool
throughout f M [] = true
throughout f M (x ∷ xs) = f M x && throughout f (after M (step M x)) xs

-- "No hand-over goes from far to near"
unfoldable pub not_far_to_near : Split → Machine → Call → Bool
not_far_to_near near M x = not (hands_over M x) || not (not (near x.a) && near x.c)

-- "and those from near to far give only such capabilities"
unfoldable pub is_such : List ℕ → Split → Machine → Capability → Bool
is_such kinds near M c = not (names_near near c) || (reading_only M c && not (lives_as kinds M c))

unfoldable pub gives_such : List ℕ → Split → Machine → Call → Bool
gives_such kinds near M x =
    not (hands_over M x)
    || (not (near x.a && not (near x.c))
    || is_such kinds near M (slot_of M x.a x.b))

-- "Each run must meet demand 3's premises by itself."
pub record Premises (kinds : List ℕ) (near : Split) (M : Machine) (xs : List Call) : Type 0 where
  pub well-formed : sound M ≡ true
  pub near-names : near_names near M ≡ true
  pub far-rights : far_rights near M ≡ true
  pub far-kinds : far_kinds kinds near M ≡ true
  pub none-back : throughout (not_far_to_near near) M xs ≡ true
  pub only-such : throughout (gives_such kinds near) M xs ≡ true

-- ---- whose call it is
-- "A hand-over belongs to the side of the package it takes from, another call to its caller's side, .."
unfoldable pub side_of : Call → ℕ
side_of x = pick (eqb x.number 3) x.a x.caller

-- ".. one with no such package to the far side."
unfoldable pub is_near : Split → Call → Bool
is_near near x = ltb (side_of x) PACKAGES && near (side_of x)

abbrev pub keep_if : {A : Type 0} → Bool → A → List A → List A
keep_if true x xs = x ∷ xs
keep_if false x xs = xs

-- The near calls of a tape in order, and of the answers to it those that the near side gets.
unfoldable pub near_calls : Split → List Call → List Call
near_calls near [] = []
near_calls near (x ∷ xs) = keep_if (is_near near x) x (near_calls near xs)

unfoldable pub near_answers : Split → List Call → List Answer → List Answer
near_answers near [] ys = []
near_answers near (x ∷ xs) [] = []
near_answers near (x ∷ xs) (y ∷ ys) = keep_if (is_near near x) y (near_answers near xs ys)

-- "Near tables are the near packages' slots, places and last serials."
abbrev pub SameNear : Split → Machine → Machine → Type 0
SameNear near M N = (p : ℕ) → p < PACKAGES → near p ≡ true → package_of M p ≡ package_of N p

-- "The near side gets the same answers and values, and its slots, objects and last serial end the same."
pub record SameForNear (near : Split) (M : Machine) (xs : List Call) (N : Machine) (ys : List Call) : Type 0 where
  pub answers-same : near_answers near xs (answers M xs) ≡ near_answers near ys (answers N ys)
  pub ends_same : SameNear near (run M xs) (run N ys)
