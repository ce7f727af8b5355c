-- A call of a package whose capabilities all name near objects has the same result, answer and changes, on two machines whose
-- near packages are the same: all that it looks at is near.
-- Assumes nothing.
use Prim.Native.Nat.{ℕ, zero, suc, ◌+◌}
use native.Mathlib.Omega.{arith}
use mathlib.Core.Path.{◌≡◌, refl, sym, ap, subst, fun_ext, ◌∙◌}
use mathlib.Core.Bool.{Bool, true, false, not}
use mathlib.Core.List.{List, [], ◌∷◌}
use lib.ListN.{length, get_or, replicate}
use lib.Dec.{eqb}
use Rattle.things.specs.declared.ObjectNumber.{ObjectNumber}
use Rattle.things.specs.declared.Capability.{Capability}
use Rattle.things.specs.declared.Refusal.TheVariants.{BadNumber}
use Rattle.things.specs.Lists.{pick, first}
use Rattle.things.specs.Rights.{object, maker, serial, null, is_null}
use Rattle.things.proofs.RightLaws.{null_is}
use Rattle.things.proofs.ListLaws.{never}
use Rattle.rules.specs.Machine.{PLACES, Entry, Body, extended, Place, empty, holding, Package, Machine, package_of, last_of, slot_of, places_of, is_empty, words_of, holds, place_of, living, empty_place, entry_named, entry_of}
use Rattle.rules.specs.Sound.{sound}
use Rattle.rules.specs.Checks.{Result, ◌when◌, gone, unless}
use Rattle.rules.specs.Calls
use Rattle.rules.specs.Calls.{named, opened, next_serial, made, making, make, listed, listed_object, word_at, copied}
use Rattle.rules.specs.Step.{Call, Row, rows, row_of, good_numbers, obey, step}
use Rattle.rules.proofs.Parts.{sound-package}
use Rattle.rules.proofs.Keep.{inside}
use Rattle.rules.proofs.Decide.{does}
use Rattle.sides.specs.Sides.{Split, side_of}
use Rattle.sides.proofs.Deeds.{EachAt, row_at}
use Rattle.sides.proofs.Places.{holder-issued, nowhere-gone}
use Rattle.sides.proofs.Has.{HasIn, Has, empty-in}

-- ---- the null capability's number is in no place
module _ {A : Type 0} (f : A → Bool) where
  first-none : (xs : List A) (d : A) → ((i : ℕ) → f (get_or xs i d) ≡ false) → first f xs ≡ length xs
  unfolding first
  first-none [] d h = refl
  first-none (x ∷ xs) d h = rw (h zero) (ap suc (first-none xs d (λ i. h (suc i))))

zero-unheld : (M : Machine) (i : ℕ) → sound M ≡ true → holds 0 (inside M 0 i) ≡ false
zero-unheld M i h = go (holds 0 (inside M 0 i)) refl
  where
    go : (b : Bool) → holds 0 (inside M 0 i) ≡ b → holds 0 (inside M 0 i) ≡ false
    go false e = e
    go true e = let u = holder-issued M 0 i 0 h e in let z : ⊥ = omega (arith, u.above) in absurd z

zero-place : (M : Machine) → sound M ≡ true → place_of M (object 0 0) ≡ PLACES
unfolding place_of places_of
zero-place M h = first-none (holds 0) (places_of M 0) empty (λ i. zero-unheld M i h) ∙ (sound-package M h 0 (omega arith)).places

gone-empty : (x : Place) → is_empty x ≡ true → x ≡ empty
unfolding is_empty
gone-empty empty h = refl
gone-empty (holding s b) h = never (sym h)

zero-living : (M : Machine) → sound M ≡ true → living M (object 0 0) ≡ empty
unfolding gone
zero-living M h = gone-empty (living M (object 0 0)) (nowhere-gone M (object 0 0) (λ i. zero-unheld M i h))

-- ---- what is near is the same
abbrev pub NearOnly : Split → Capability → Type 0
NearOnly near c = is_null c ≡ false → near (maker c.object) ≡ true

pub record Both (near : Split) (M N : Machine) : Type 0 where
  pub one : sound M ≡ true
  pub two : sound N ≡ true
  pub same : (q : ℕ) → near q ≡ true → package_of M q ≡ package_of N q

-- An object seen through such a capability.
pub record Seen (M N : Machine) (o : ObjectNumber) : Type 0 where
  pub lives : living M o ≡ living N o
  pub place : place_of M o ≡ place_of N o
  pub gone : gone M o ≡ gone N o

module _ (near : Split) (M N : Machine) (s : Both near M N) where
  near-seen : (o : ObjectNumber) → near (maker o) ≡ true → Seen M N o
  unfolding living place_of places_of gone
  near-seen o n =
      let e = s.same (maker o) n in
      record {
        lives = ap (λ (P : Package). get_or P.places (first (holds (serial o)) P.places) empty) e;
        place = ap (λ (P : Package). first (holds (serial o)) P.places) e;
        gone = ap (λ (P : Package). is_empty (get_or P.places (first (holds (serial o)) P.places) empty)) e;
      }

  zero_seen : Seen M N (object 0 0)
  unfolding gone
  zero_seen =
      let e : living M (object 0 0) ≡ living N (object 0 0) = zero-living M s.one ∙ sym (zero-living N s.two) in
      record { lives = e; place = zero-place M s.one ∙ sym (zero-place N s.two); gone = ap is_empty e }

  seen : (c : Capability) → NearOnly near c → Seen M N c.object
  seen c h = go (is_null c) refl
    where
      go : (b : Bool) → is_null c ≡ b → Seen M N c.object
      go true e = subst (λ (d : Capability). Seen M N d.object) (sym (null_is c e)) zero_seen
      go false e = near-seen c.object (h e)

-- What lies in a living object.
pub living-in : (K : Capability → Type 0) (M : Machine) (o : ObjectNumber) → Has K (package_of M (maker o)) → HasIn K (living M o)
unfolding living places_of
living-in K M o h = h.inside (place_of M o)

pub entry_in : (K : Capability → Type 0) (y : Place) (b : ℕ) → HasIn K y → K (entry_named y b).capability
unfolding entry_named
entry_in K y b h = h.entries (entry_of y b)

null-near : (near : Split) → NearOnly near null
unfolding is_null
null-near near e = never e

-- All that a call by p looks at.
pub record Twin (M N : Machine) (p : ℕ) : Type 0 where
  pub slot : (a : ℕ) → slot_of M p a ≡ slot_of N p a
  pub last : last_of M p ≡ last_of N p
  pub places : places_of M p ≡ places_of N p
  pub seen : (a : ℕ) → Seen M N (slot_of N p a).object
  pub seen-listed : (a b : ℕ) → Seen M N (listed_object N p a b)

module _ (near : Split) (M N : Machine) (s : Both near M N) (h : (q : ℕ) → near q ≡ true → Has (NearOnly near) (package_of N q)) where
  opened_in_lem : (c : Capability) → NearOnly near c → HasIn (NearOnly near) (living N c.object)
  opened_in_lem c n = go (is_null c) refl
    where
      go : (b : Bool) → is_null c ≡ b → HasIn (NearOnly near) (living N c.object)
      go true e =
          let f : living N c.object ≡ empty = ap (λ (d : Capability). living N d.object) (null_is c e) ∙ zero-living N s.two in
          subst (HasIn (NearOnly near)) (sym f) (empty-in (NearOnly near) (null-near near))
      go false e = living-in (NearOnly near) N c.object (h (maker c.object) (n e))

  pub twin : (p : ℕ) → near p ≡ true → Twin M N p
  unfolding slot_of last_of places_of listed_object listed opened named
  twin p n =
      let e = s.same p n in
      record {
        slot = λ a. ap (λ (P : Package). get_or P.slots a null) e;
        last = ap (λ (P : Package). P.last) e;
        places = ap (λ (P : Package). P.places) e;
        seen = λ a. seen near M N s (slot_of N p a) ((h p n).slots a);
        seen-listed = λ a b. seen near M N s (listed N p a b).capability (entry_in (NearOnly near) (opened N p a) b (opened_in_lem (slot_of N p a) ((h p n).slots a)));
      }

-- ---- every call
module _ (M N : Machine) (p : ℕ) (t : Twin M N p) where
  gone-slot : (a : ℕ) → gone M (slot_of M p a).object ≡ gone N (slot_of N p a).object
  gone-slot a = ap (λ (c : Capability). gone M c.object) (t.slot a) ∙ (t.seen a).gone

  living-slot : (a : ℕ) → living M (slot_of M p a).object ≡ living N (slot_of N p a).object
  living-slot a = ap (λ (c : Capability). living M c.object) (t.slot a) ∙ (t.seen a).lives

  named-same : (a : ℕ) → named M p a ≡ named N p a
  unfolding named
  named-same a = ap (λ (c : Capability). c.object) (t.slot a)

  opened-same : (a : ℕ) → opened M p a ≡ opened N p a
  unfolding opened named
  opened-same a = living-slot a

  place_same : (a : ℕ) → place_of M (named M p a) ≡ place_of N (named N p a)
  unfolding named
  place_same a = ap (λ (c : Capability). place_of M c.object) (t.slot a) ∙ (t.seen a).place

  next-same : next_serial M p ≡ next_serial N p
  unfolding next_serial
  next-same = ap (λ (n : ℕ). n + 1) t.last

  made-same : (s : ℕ) → made M p s ≡ made N p s
  unfolding made
  made-same s = rw next-same

  empty-same : empty_place M p ≡ empty_place N p
  unfolding empty_place
  empty-same = ap (first is_empty) t.places

  listed_same : (a b : ℕ) → listed M p a b ≡ listed N p a b
  unfolding listed
  listed_same a b = ap (λ (y : Place). entry_named y b) (opened-same a)

  listed-object-same : (a b : ℕ) → listed_object M p a b ≡ listed_object N p a b
  unfolding listed_object
  listed-object-same a b = ap (λ (e : Entry). e.capability.object) (listed_same a b)

  gone-listed : (a b : ℕ) → gone M (listed_object M p a b) ≡ gone N (listed_object N p a b)
  gone-listed a b = ap (gone M) (listed-object-same a b) ∙ (t.seen-listed a b).gone

  living-listed : (a b : ℕ) → living M (listed_object M p a b) ≡ living N (listed_object N p a b)
  living-listed a b = ap (living M) (listed-object-same a b) ∙ (t.seen-listed a b).lives

  place-listed : (a b : ℕ) → place_of M (listed_object M p a b) ≡ place_of N (listed_object N p a b)
  place-listed a b = ap (place_of M) (listed-object-same a b) ∙ (t.seen-listed a b).place

  word_same : (a k : ℕ) → word_at M p a k ≡ word_at N p a k
  unfolding word_at
  word_same a k = ap (λ (y : Place). get_or (words_of y) k 0) (opened-same a)

  copied-same : (a b c d : ℕ) → copied M p a b c d ≡ copied N p a b c d
  unfolding copied
  copied-same a b c d = fun_ext (λ k. cc (named-same c, place_same c, word_same a (b + k)))

  module _ (a b c d e : ℕ) where
    restrict-same : Calls.restrict M p a b c d e ≡ Calls.restrict N p a b c d e
    unfolding Calls.restrict
    restrict-same = cc (t.slot a)

    hand-same : Calls.hand M c p a b d e ≡ Calls.hand N c p a b d e
    unfolding Calls.hand
    hand-same = cc (t.slot a)

    making-same : (body : Body) (s : ℕ) → making M p body a b s d ≡ making N p body a b s d
    unfolding making
    making-same body s = cc (next-same, named-same a, place_same a, opened-same a, made-same s, empty-same)

    make_same : (body : Body) → make body M p a b c d ≡ make body N p a b c d
    unfolding make
    make_same body = cc (t.slot a, gone-slot a, living-slot a, opened-same a, made-same c, t.places, t.last, making-same body c)

    make-object-same : Calls.make_object M p a b c d e ≡ Calls.make_object N p a b c d e
    unfolding Calls.make_object
    make-object-same =
        cc (t.slot a, gone-slot a, living-slot a, t.slot c, gone-slot c, living-slot c, opened-same a, made-same e, t.places, t.last, named-same c, making-same (extended (named M p c) e (replicate 4 null)) e)

    delete-same : Calls.delete M p a b c d e ≡ Calls.delete N p a b c d e
    unfolding Calls.delete
    delete-same = cc (t.slot a, gone-slot a, living-slot a, opened-same a, listed_same a b, gone-listed a b, living-listed a b, listed-object-same a b, place-listed a b, named-same a, place_same a)

    add-entry-same : Calls.add_entry M p a b c d e ≡ Calls.add_entry N p a b c d e
    unfolding Calls.add_entry
    add-entry-same = cc (t.slot a, gone-slot a, living-slot a, t.slot c, opened-same a, named-same a, place_same a)

    drop-entry-same : Calls.drop_entry M p a b c d e ≡ Calls.drop_entry N p a b c d e
    unfolding Calls.drop_entry
    drop-entry-same = cc (t.slot a, gone-slot a, living-slot a, opened-same a, listed_same a b, named-same a, place_same a)

    fetch-same : Calls.fetch M p a b c d e ≡ Calls.fetch N p a b c d e
    unfolding Calls.fetch
    fetch-same = cc (t.slot a, gone-slot a, living-slot a, opened-same a, listed_same a b)

    read_same : Calls.read M p a b c d e ≡ Calls.read N p a b c d e
    unfolding Calls.read
    read_same = cc (t.slot a, gone-slot a, living-slot a, word_same a b)

    write_same : Calls.write M p a b c d e ≡ Calls.write N p a b c d e
    unfolding Calls.write
    write_same = cc (t.slot a, gone-slot a, living-slot a, named-same a, place_same a)

    copy-same : Calls.copy M p a b c d e ≡ Calls.copy N p a b c d e
    unfolding Calls.copy
    copy-same = cc (t.slot a, gone-slot a, living-slot a, t.slot c, gone-slot c, living-slot c, copied-same a b c d)

    set-inner-same : Calls.set_inner_place M p a b c d e ≡ Calls.set_inner_place N p a b c d e
    unfolding Calls.set_inner_place
    set-inner-same = cc (t.slot a, gone-slot a, living-slot a, t.slot b, gone-slot b, living-slot b, opened-same b, named-same a, named-same b, t.slot d, place_same b)

    get-inner-same : Calls.get_inner_place M p a b c d e ≡ Calls.get_inner_place N p a b c d e
    unfolding Calls.get_inner_place
    get-inner-same = cc (t.slot a, gone-slot a, living-slot a, t.slot b, gone-slot b, living-slot b, opened-same b, named-same a)

    count_same : Calls.count M p a b c d e ≡ Calls.count N p a b c d e
    unfolding Calls.count
    count_same = cc (t.slot a, gone-slot a, living-slot a, opened-same a)

-- The package that a row's call belongs to.
abbrev Looks : ℕ → Call → ℕ
Looks n x = pick (eqb n 3) x.a x.caller

abbrev DoesSame : ℕ → Row → Type 0
DoesSame n r = (M N : Machine) (x : Call) → Twin M N (Looks n x) → does r M x ≡ does r N x

every-row : EachAt DoesSame 0 rows
unfolding rows Calls.drop Calls.make_segment Calls.make_directory Calls.make_type
every-row = (
  (λ M N x t. refl),
  (
    (λ M N x t. restrict-same M N x.caller t x.a x.b x.c x.d x.e),
    (
      (λ M N x t. refl),
      (
        (λ M N x t. hand-same M N x.a t x.b x.c x.caller x.d x.e),
        (
          (λ M N x t. make_same M N x.caller t x.a x.b x.c x.d x.e _),
          (
            (λ M N x t. make_same M N x.caller t x.a x.b x.c x.d x.e _),
            (
              (λ M N x t. make_same M N x.caller t x.a x.b x.c x.d x.e _),
              (
                (λ M N x t. make-object-same M N x.caller t x.a x.b x.c x.d x.e),
                (
                  (λ M N x t. delete-same M N x.caller t x.a x.b x.c x.d x.e),
                  (
                    (λ M N x t. add-entry-same M N x.caller t x.a x.b x.c x.d x.e),
                    (
                      (λ M N x t. drop-entry-same M N x.caller t x.a x.b x.c x.d x.e),
                      (
                        (λ M N x t. fetch-same M N x.caller t x.a x.b x.c x.d x.e),
                        (
                          (λ M N x t. read_same M N x.caller t x.a x.b x.c x.d x.e),
                          (
                            (λ M N x t. write_same M N x.caller t x.a x.b x.c x.d x.e),
                            (
                              (λ M N x t. copy-same M N x.caller t x.a x.b x.c x.d x.e),
                              (
                                (λ M N x t. set-inner-same M N x.caller t x.a x.b x.c x.d x.e),
                                (
                                  (λ M N x t. get-inner-same M N x.caller t x.a x.b x.c x.d x.e),
                                  (
                                    (λ M N x t. count_same M N x.caller t x.a x.b x.c x.d x.e),
                                    tt,
                                  ),
                                ),
                              ),
                            ),
                          ),
                        ),
                      ),
                    ),
                  ),
                ),
              ),
            ),
          ),
        ),
      ),
    ),
  ),
)

-- A call has the same result on both.
pub step_same : (M N : Machine) (x : Call) → Twin M N (side_of x) → step M x ≡ step N x
unfolding step obey side_of
step_same M N x t =
    let e : 0 + x.number ≡ x.number = omega arith in
    ap (λ (r : Result). unless ((BadNumber when not (good_numbers (row_of x.number) x)) ∷ []) r)
    (subst (λ (n : ℕ). DoesSame n (row_of x.number)) e (row_at DoesSame rows 0 every-row (λ k M N x t. refl) x.number) M N x t)
