-- What changes a word: over any tape a word of a living segment stays, or the object ends, or a call on the tape wrote it
-- whose caller's slot held right 8 on that segment at that moment.
-- Assumes nothing.
use Prim.Native.Nat.{ℕ, ◌+◌, ◌≤◌}
use native.Mathlib.Omega.{arith}
use mathlib.Core.Path.{◌≡◌, refl, sym, ap, subst, ◌∙◌}
use mathlib.Core.Logic.{◌⊎◌, inl, inr, ⊎_elim}
use mathlib.Core.Bool.{Bool, true, false}
use mathlib.Core.List.{List, [], ◌∷◌}
use lib.ListN.{get_or}
use lib.Dec.{eqb}
use borrow.Author.Tests.{eqb-true, eqb-false}
use Rattle.things.specs.declared.ObjectNumber.{ObjectNumber}
use Rattle.things.specs.declared.Capability.{Capability}
use Rattle.things.specs.Rights.{maker, serial, WRITE}
use Rattle.things.proofs.ListLaws.{never, set-any}
use Rattle.rules.specs.Machine.{SEGMENT, Entry, Body, segment, directory, type, extended, Place, empty, holding, Machine, last_of, words_of, holds, place_of}
use Rattle.rules.specs.Sound.{sound}
use Rattle.rules.specs.Changes.{Change, with_entry, with_inner, with_word}
use Rattle.rules.specs.Checks.{Result, answer_of, after, gone}
use Rattle.rules.specs.Calls.{named, next_serial, copied, store_word}
use Rattle.rules.specs.Step.{Call, SixteenBit, step, run}
use Rattle.rules.proofs.Parts.{issued-grows}
use Rattle.rules.proofs.Keep.{inside}
use Rattle.rules.proofs.KeepCalls.{AllSixteenBit, step_keeps}
use Rattle.rules.proofs.Decide.{Each}
use Rattle.sides.specs.Lasting.{word, HeldToWrite, Writes, by_write, by_copy, Written, Fate}
use Rattle.sides.specs.Sides.{is_done}
use Rattle.sides.proofs.Deeds
use Rattle.sides.proofs.Deeds.{Can, Own, Doing, stopped, handing, owning, step-does}
use Rattle.sides.proofs.Places.{Fits, place-keeps, holder-issued, one-holder, lives_at, in-place-lives, held, nowhere-gone, holds-serial, empty_holds, with-entry-holds, with-inner-holds, with-word-holds}
use Rattle.sides.proofs.Dead.{step-grows, step-unheld, living-issued, gone-for-good}

-- ---- words under changes
entry-words : (j : ℕ) (e : Entry) (y : Place) → words_of (with_entry j e y) ≡ words_of y
unfolding with_entry words_of
entry-words j e empty = refl
entry-words j e (holding s (segment ws)) = refl
entry-words j e (holding s (directory m es)) = refl
entry-words j e (holding s type) = refl
entry-words j e (holding s (extended o m cs)) = refl

inner-words : (j : ℕ) (c : Capability) (y : Place) → words_of (with_inner j c y) ≡ words_of y
unfolding with_inner words_of
inner-words j c empty = refl
inner-words j c (holding s (segment ws)) = refl
inner-words j c (holding s (directory m es)) = refl
inner-words j c (holding s type) = refl
inner-words j c (holding s (extended o m cs)) = refl

other_word : (j v k : ℕ) (y : Place) → (j ≡ k → ⊥) → get_or (words_of (with_word j v y)) k 0 ≡ get_or (words_of y) k 0
unfolding with_word words_of
other_word j v k empty ne = refl
other_word j v k (holding s (segment ws)) ne = set-any (λ (w : ℕ). w ≡ get_or ws k 0) ws j k v 0 (λ e. absurd (ne (sym e))) refl
other_word j v k (holding s (directory m es)) ne = refl
other_word j v k (holding s type) ne = refl
other_word j v k (holding s (extended o m cs)) ne = refl

-- ---- one call
module _ (M : Machine) (h : sound M ≡ true) (x : Call) (o : ObjectNumber) (g : gone M o ≡ false) (k w : ℕ) where
  abbrev q : ℕ
  q = maker o

  abbrev n : ℕ
  n = serial o

  abbrev i : ℕ
  i = place_of M o

  -- where the place still holds o, its word k is w
  abbrev Z : Place → Type 0
  Z y = holds n y ≡ true → get_or (words_of y) k 0 ≡ w

  abbrev Either : Change → Type 0
  Either y = Fits Z q i y ⊎ Writes M x o k

  upto : n ≤ last_of M q
  upto = (holder-issued M q i n h (held M o g)).upto

  word-entry : (j : ℕ) (e : Entry) (y : Place) → Z y → Z (with_entry j e y)
  word-entry j e y z u = rw (entry-words j e y) (z (sym (with-entry-holds n j e y) ∙ u))

  word-inner : (j : ℕ) (c : Capability) (y : Place) → Z y → Z (with_inner j c y)
  word-inner j c y z u = rw (inner-words j c y) (z (sym (with-inner-holds n j c y) ∙ u))

  word-other : (j v : ℕ) → (j ≡ k → ⊥) → (y : Place) → Z y → Z (with_word j v y)
  word-other j v ne y z u = rw (other_word j v k y ne) (z (sym (with-word-holds n j v y) ∙ u))

  word_none : Z empty
  word_none u = never (sym u ∙ empty_holds n)

  word-new : (p : ℕ) (body : Body) → q ≡ p → Z (holding (next_serial M p) body)
  unfolding holds next_serial
  word-new p body e u =
      let l : n ≤ last_of M p = subst (λ (m : ℕ). n ≤ last_of M m) e upto in
      let f = eqb-true (last_of M p + 1) n u in
      let z : ⊥ = omega arith in absurd z

  -- an object that is opened in the place of o is o
  same_object : (p a right kind : ℕ) → Can M p a right kind → q ≡ (named M p a).0 → i ≡ place_of M (named M p a) → named M p a ≡ o
  same_object p a right kind c e f =
      let u : holds (named M p a).1 (inside M q i) ≡ true =
      subst (λ (j : ℕ). holds (named M p a).1 (inside M q j) ≡ true) (sym f)
      (subst (λ (m : ℕ). holds (named M p a).1 (inside M m (place_of M (named M p a))) ≡ true) (sym e) (held M (named M p a) c.lives)) in
      let s : (named M p a).1 ≡ n = sym (holds-serial (named M p a).1 (inside M q i) u) ∙ holds-serial n (inside M q i) (held M o g) in
      let t : (named M p a).0 ≡ q = sym e in
      λ j. record { 0 = t j; 1 = s j }

  -- a word stored through slot a, at offset j
  stores : (a j v : ℕ) → Can M x.caller a WRITE SEGMENT → (HeldToWrite M x.caller a o → j ≡ k → Writes M x o k) → Either (store_word M x.caller a j v)
  stores a j v c f = go (eqb j k) (eqb q (named M x.caller a).0) (eqb i (place_of M (named M x.caller a))) refl refl refl
    where
      go : (b d e : Bool) → eqb j k ≡ b → eqb q (named M x.caller a).0 ≡ d → eqb i (place_of M (named M x.caller a)) ≡ e → Either (store_word M x.caller a j v)
      go true true true b d e =
          inr (f (record { object = same_object x.caller a WRITE SEGMENT c (eqb-true _ _ d) (eqb-true _ _ e); right = c.able }) (eqb-true j k b))
      go true true false b d e = inl (λ u t. absurd (eqb-false _ _ e t))
      go true false e b d r = inl (λ u t. absurd (eqb-false _ _ d u))
      go false d e b r s = inl (λ u t. word-other j v (eqb-false j k b))

  word-own : (y : Change) → Own M x y → Either y
  unfolding copied
  word-own y (Deeds.restricting a mask c) = inl tt
  word-own y (Deeds.dropping a) = inl tt
  word-own y (Deeds.fetching a b c d) = inl tt
  word-own y (Deeds.getting b c d e) = inl tt
  word-own y (Deeds.receiving s d) = inl tt
  word-own y Deeds.issuing = inl tt
  word-own y (Deeds.placing body bare r) = inl (λ e f. word-new x.caller body e)
  word-own y (Deeds.entering a b s d) = inl (word-entry _ _)
  word-own y (Deeds.adding a b c d) = inl (word-entry _ _)
  word-own y (Deeds.removing a b d) = inl (word-entry _ _)
  word-own y (Deeds.ending a b d r s) = inl (λ e f. word_none)
  word-own y (Deeds.putting b c d e) = inl (word-inner _ _)
  word-own y (Deeds.writing e c) = stores x.a x.b x.c c (λ t f. by_write e t f)
  word-own y (Deeds.copying e c m l) = stores x.c (x.d + m) _ c (λ t f. by_copy e t (omega arith) (omega arith))

  all-or : (ys : List Change) → Each (Own M x) ys → Each (Fits Z q i) ys ⊎ Writes M x o k
  all-or [] d = inl tt
  all-or (y ∷ ys) d = ⊎_elim (λ u. ⊎_elim (λ v. inl (u, v)) (λ v. inr v) (all-or ys d.1)) (λ u. inr u) (word-own y d.0)

  word-does : (r : Result) → Doing M x r → Z (inside M q i) → Z (inside (after M r) q i) ⊎ (Writes M x o k × (is_done (answer_of r) ≡ true))
  unfolding is_done
  word-does r (stopped why) z = inl z
  word-does r (handing e a c) z = inl (place-keeps Z q i M _ (tt, tt) z)
  word-does r (owning e l value ys d) z = ⊎_elim (λ u. inl (place-keeps Z q i M ys u z)) (λ u. inr (u, refl)) (all-or ys d)

-- One call: it is such a write, and done; or the object is gone after it, or lives with its word.
pub step-word : (M : Machine) (x : Call) (o : ObjectNumber) (k : ℕ) → SixteenBit x → sound M ≡ true → gone M o ≡ false → (Writes M x o k × (is_done (answer_of (step M x)) ≡ true)) ⊎ Fate M (after M (step M x)) o k
unfolding word
step-word M x o k s h g = ⊎_elim (λ z. inr (ends (holds (serial o) (inside N (maker o) i)) refl z)) (λ u. inl u) (word-does M h x o g k (word M o k) (step M x) (step-does M x) (λ u. ap (λ (y : Place). get_or (words_of y) k 0) (sym (lives_at M o i h u))))
  where
    N : Machine
    N = after M (step M x)

    i : ℕ
    i = place_of M o

    kept : sound N ≡ true
    kept = step_keeps M x s h

    others : (j : ℕ) (b : Bool) → holds (serial o) (inside M (maker o) j) ≡ b → holds (serial o) (inside N (maker o) i) ≡ false → holds (serial o) (inside N (maker o) j) ≡ false
    others j true e f = subst (λ (l : ℕ). holds (serial o) (inside N (maker o) l) ≡ false) (one-holder M (maker o) i j (serial o) h (held M o g) e) f
    others j false e f = step-unheld M x (maker o) (serial o) j (holder-issued M (maker o) i (serial o) h (held M o g)).upto e

    ends : (b : Bool) → holds (serial o) (inside N (maker o) i) ≡ b → Z M h x o g k (word M o k) (inside N (maker o) i) → Fate M N o k
    ends true e z =
        inr (in-place-lives N o i kept e, ap (λ (y : Place). get_or (words_of y) k 0) (lives_at N o i kept e) ∙ z e)
    ends false e z = inl (nowhere-gone N o (λ j. others j (holds (serial o) (inside M (maker o) j)) refl e))

-- ---- any tape
later : (M : Machine) (x : Call) (xs : List Call) (o : ObjectNumber) (k : ℕ) → Written (after M (step M x)) xs o k → Written M (x ∷ xs) o k
unfolding run
later M x xs o k w = record { before = x ∷ w.before; call = w.call; rest = w.rest; tape = ap (λ (ys : List Call). x ∷ ys) w.tape; writes = w.writes; obeyed = w.obeyed }

now : (M : Machine) (x : Call) (xs : List Call) (o : ObjectNumber) (k : ℕ) → Writes M x o k → is_done (answer_of (step M x)) ≡ true → Written M (x ∷ xs) o k
unfolding run
now M x xs o k w d = record { before = []; call = x; rest = xs; tape = refl; writes = w; obeyed = d }

-- A word of an object that lives at the start: a call on the tape wrote it, or the object is gone at the end, or it is the same.
pub what-changes-a-word : (M : Machine) (xs : List Call) (o : ObjectNumber) (k : ℕ) → AllSixteenBit xs → sound M ≡ true → gone M o ≡ false → Written M xs o k ⊎ Fate M (run M xs) o k
unfolding run
what-changes-a-word M [] o k n h g = inr (inr (g, refl))
what-changes-a-word M (x ∷ xs) o k n h g =
    ⊎_elim (λ w. inl (now M x xs o k w.0 w.1))
    (λ f. ⊎_elim
    (λ e. inr (inl (gone-for-good N xs o n.1 kept (issued-grows M N (step-grows M x h) o (living-issued M o h g)) e)))
    (λ s. ⊎_elim (λ w. inl (later M x xs o k w))
    (λ u. inr (⊎_elim (λ e. inl e) (λ v. inr (v.0, v.1 ∙ s.1)) u))
    (what-changes-a-word N xs o k n.1 kept s.0))
    f)
    (step-word M x o k n.0 h g)
  where
    N : Machine
    N = after M (step M x)

    kept : sound N ≡ true
    kept = step_keeps M x n.0 h
