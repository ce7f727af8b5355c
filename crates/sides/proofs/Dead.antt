-- Dead stays dead: a number that is no longer in a place is never in one again, on any tape.
-- Assumes nothing.
use Prim.Native.Nat.{ℕ, zero, suc, ◌≤◌, ◌<◌}
use native.Mathlib.Omega.{arith}
use mathlib.Core.Path.{◌≡◌, refl, sym, ap, subst, ◌∙◌}
use mathlib.Core.Logic.{⊎_elim}
use mathlib.Core.Bool.{Bool, true, false}
use mathlib.Core.List.{List, [], ◌∷◌}
use lib.ListN.{length, get_or, set, length-set}
use lib.Seq.{get_or-set_same}
use lib.Dec.{eqb, ltb, leb}
use borrow.Author.Tests.{eqb-true, eqb-false, ltb-true, leb-true, lt-ltb, le-leb, ne_eqb}
use Rattle.things.specs.declared.ObjectNumber.{ObjectNumber}
use Rattle.things.specs.declared.Capability.{Capability}
use Rattle.things.specs.Answers.{Answer}
use Rattle.things.specs.declared.Refusal.{Refusal}
use Rattle.std.specs.Prelude.{Ok, Err}
use Rattle.things.specs.Rights.{maker, serial}
use Rattle.things.proofs.ListLaws.{and_parts, and_both, never}
use Rattle.rules.specs.Machine.{PACKAGES, Entry, Body, Place, empty, holding, Package, Machine, nobody, package_of, last_of, places_of, kind_of, holds, place_of}
use Rattle.rules.specs.Sound.{issued, sound}
use Rattle.rules.specs.Changes.{Change, set_place, target, with_entry, with_inner, with_word, changed, apply, apply_all}
use Rattle.rules.specs.Checks.{Result, answer_of, after, gone}
use Rattle.rules.specs.Calls
use Rattle.rules.specs.Calls.{next_serial, listed_object, copied, remove_entry}
use Rattle.rules.specs.Step.{Call, rows, row_of, step, run}
use Rattle.rules.proofs.Parts.{Grows, issued-grows, sound-eight}
use Rattle.rules.proofs.Keep.{inside}
use Rattle.rules.proofs.KeepCalls.{AllSixteenBit, step_keeps, run-keeps}
use Rattle.rules.proofs.Serials.{step-issues}
use Rattle.rules.proofs.Decide.{Each, RowHas, on-unless, on-obey}
use Rattle.rules.proofs.Inside.{with-word-kind}
use Rattle.sides.specs.Lasting.{Nowhere}
use Rattle.sides.proofs.Deeds
use Rattle.sides.proofs.Deeds.{Own, Doing, stopped, handing, owning, step-does}
use Rattle.sides.proofs.Places.{Fits, place-keeps, Issued, holder-issued, one-holder, held, gone-nowhere, nowhere-gone, empty_holds, with-entry-holds, with-inner-holds, with-word-holds, with-entry-kind, with-inner-kind}

pub each_map : {A : Type 0} (P Q : A → Type 0) → ((x : A) → P x → Q x) → (xs : List A) → Each P xs → Each Q xs
each_map P Q f [] h = tt
each_map P Q f (x ∷ xs) h = (f x h.0, each_map P Q f xs h.1)

-- ---- serials only grow
pub step-grows : (M : Machine) (x : Call) → sound M ≡ true → Grows M (after M (step M x))
step-grows M x h q = ⊎_elim (λ e. omega (arith, e)) (λ e. omega (arith, e.1)) (step-issues M x h q)

-- ---- a number that is issued gets no other object
new-holds : (n s : ℕ) (body : Body) → (s ≡ n → ⊥) → holds n (holding s body) ≡ false
unfolding holds
new-holds n s body ne = ne_eqb s n ne

next-above : (M : Machine) (p : ℕ) → last_of M p < next_serial M p
unfolding next_serial
next-above M p = omega arith

-- Where package q's place holds serial n, which is issued, its kind passes this test.
module _ (k : ℕ → Bool) (n : ℕ) where
  abbrev pub Kinds : Place → Type 0
  Kinds y = holds n y ≡ true → k (kind_of y) ≡ true

  kinds-entry : (j : ℕ) (e : Entry) (y : Place) → Kinds y → Kinds (with_entry j e y)
  kinds-entry j e y h g = rw (with-entry-kind j e y) (h (sym (with-entry-holds n j e y) ∙ g))

  kinds-inner : (j : ℕ) (c : Capability) (y : Place) → Kinds y → Kinds (with_inner j c y)
  kinds-inner j c y h g = rw (with-inner-kind j c y) (h (sym (with-inner-holds n j c y) ∙ g))

  kinds-word : (j w : ℕ) (y : Place) → Kinds y → Kinds (with_word j w y)
  kinds-word j w y h g = rw (with-word-kind j w y) (h (sym (with-word-holds n j w y) ∙ g))

  kinds-none : Kinds empty
  kinds-none g = never (sym g ∙ empty_holds n)

  kinds-new : (s : ℕ) (body : Body) → (s ≡ n → ⊥) → Kinds (holding s body)
  kinds-new s body ne g = never (sym g ∙ new-holds n s body ne)

  module _ (M : Machine) (x : Call) (q i : ℕ) (u : n ≤ last_of M q) where
    unissued : (p : ℕ) → q ≡ p → next_serial M p ≡ n → ⊥
    unissued p e f = let l = next-above M p in let v : n ≤ last_of M p = subst (λ (m : ℕ). n ≤ last_of M m) e u in omega (arith, f)

    kinds-own : (y : Change) → Own M x y → Fits Kinds q i y
    unfolding copied
    kinds-own y (Deeds.restricting a mask c) = tt
    kinds-own y (Deeds.dropping a) = tt
    kinds-own y (Deeds.fetching a b c d) = tt
    kinds-own y (Deeds.getting b c d e) = tt
    kinds-own y (Deeds.receiving s d) = tt
    kinds-own y Deeds.issuing = tt
    kinds-own y (Deeds.placing body bare r) = λ e f. kinds-new _ body (unissued x.caller e)
    kinds-own y (Deeds.entering a b s d) = kinds-entry _ _
    kinds-own y (Deeds.adding a b c d) = kinds-entry _ _
    kinds-own y (Deeds.removing a b d) = kinds-entry _ _
    kinds-own y (Deeds.ending a b d r g) = λ e f. kinds-none
    kinds-own y (Deeds.putting b c d e) = kinds-inner _ _
    kinds-own y (Deeds.writing e c) = λ f g. kinds-word _ _
    kinds-own y (Deeds.copying e c m l) = λ f g. kinds-word _ _

    kinds-does : (r : Result) → Doing M x r → Kinds (inside M q i) → Kinds (inside (after M r) q i)
    kinds-does r (stopped why) h = h
    kinds-does r (handing e a c) h = place-keeps Kinds q i M _ (tt, tt) h
    kinds-does r (owning e l value ys d) h = place-keeps Kinds q i M ys (each_map (Own M x) (Fits Kinds q i) kinds-own ys d) h

nowhere-kinds : (n : ℕ) (y : Place) → holds n y ≡ false → Kinds (λ m. false) n y
nowhere-kinds n y h g = never (sym g ∙ h)

kinds-nowhere : (n : ℕ) (y : Place) → Kinds (λ m. false) n y → holds n y ≡ false
kinds-nowhere n y h = go (holds n y) refl
  where
    go : (b : Bool) → holds n y ≡ b → holds n y ≡ false
    go false e = e
    go true e = never (sym (h e))

-- A place that doesn't hold an issued number won't.
pub step-unheld : (M : Machine) (x : Call) (q n i : ℕ) → n ≤ last_of M q → holds n (inside M q i) ≡ false → holds n (inside (after M (step M x)) q i) ≡ false
step-unheld M x q n i u h = kinds-nowhere n _ (kinds-does (λ m. false) n M x q i u (step M x) (step-does M x) (nowhere-kinds n _ h))

-- The kind of what an issued number names stays, while it lives.
pub step-kinds : (k : ℕ → Bool) (M : Machine) (x : Call) (q n : ℕ) → n ≤ last_of M q → ((i : ℕ) → Kinds k n (inside M q i)) → (i : ℕ) → Kinds k n (inside (after M (step M x)) q i)
step-kinds k M x q n u h i = kinds-does k n M x q i u (step M x) (step-does M x) (h i)

-- ---- gone for good
pub issued-upto : (M : Machine) (o : ObjectNumber) → issued M o ≡ true → Issued M (maker o) (serial o)
unfolding issued
issued-upto M o h =
    let p = and_parts (ltb (maker o) PACKAGES) _ h in
    let q = and_parts (ltb 0 (serial o)) (leb (serial o) (last_of M (maker o))) p.1 in
    record { maker = ltb-true _ _ p.0; above = ltb-true _ _ q.0; upto = leb-true _ _ q.1 }

pub step_gone : (M : Machine) (x : Call) (o : ObjectNumber) → sound M ≡ true → issued M o ≡ true → gone M o ≡ true → gone (after M (step M x)) o ≡ true
step_gone M x o h u g =
    nowhere-gone (after M (step M x)) o (λ i. step-unheld M x (maker o) (serial o) i (issued-upto M o u).upto (gone-nowhere M o h g i))

-- A number that was issued, and isn't in a place, is in none after any tape.
pub gone-for-good : (M : Machine) (xs : List Call) (o : ObjectNumber) → AllSixteenBit xs → sound M ≡ true → issued M o ≡ true → gone M o ≡ true → gone (run M xs) o ≡ true
unfolding run
gone-for-good M [] o n h u g = g
gone-for-good M (x ∷ xs) o n h u g =
    gone-for-good (after M (step M x)) xs o n.1 (step_keeps M x n.0 h) (issued-grows M (after M (step M x)) (step-grows M x h) o u) (step_gone M x o h u g)

-- ---- a delete
pub apply-length : (M : Machine) (y : Change) → length (apply M y) ≡ length M
unfolding apply
apply-length M y = length-set M (target y) (changed (package_of M (target y)) y)

emptied : (xs : List Place) (i : ℕ) → get_or (set xs i empty) i empty ≡ empty
emptied [] i = refl
emptied (x ∷ xs) zero = refl
emptied (x ∷ xs) (suc i) = emptied xs i

place-emptied : (M : Machine) (q i : ℕ) → q < length M → inside (apply M (set_place q i empty)) q i ≡ empty
unfolding places_of package_of apply changed
place-emptied M q i l =
    ap (λ (P : Package). get_or P.places i empty) (get_or-set_same M q (changed (package_of M q) (set_place q i empty)) nobody l) ∙ emptied (package_of M q).places i

module _ (M : Machine) (h : sound M ≡ true) (o : ObjectNumber) (g : gone M o ≡ false) (y : Change) where
  abbrev Z : Place → Type 0
  Z z = holds (serial o) z ≡ false

  -- after a change that keeps places' holders, the place of o is emptied
  ended : ((i : ℕ) → Fits Z (maker o) i y) → Nowhere (apply_all M (y ∷ set_place (maker o) (place_of M o) empty ∷ [])) o
  unfolding apply_all
  ended f i = go (eqb i (place_of M o)) refl
    where
      long : maker o < length (apply M y)
      long = rw (apply-length M y, sound-eight M h) (holder-issued M (maker o) (place_of M o) (serial o) h (held M o g)).maker

      go : (b : Bool) → eqb i (place_of M o) ≡ b → Z (inside (apply (apply M y) (set_place (maker o) (place_of M o) empty)) (maker o) i)
      go true e =
          subst (λ (k : ℕ). Z (inside (apply (apply M y) (set_place (maker o) (place_of M o) empty)) (maker o) k)) (sym (eqb-true i (place_of M o) e))
          (subst Z (sym (place-emptied (apply M y) (maker o) (place_of M o) long)) (empty_holds (serial o)))
      go false e =
          place-keeps Z (maker o) i M (y ∷ set_place (maker o) (place_of M o) empty ∷ []) (f i, (λ u v. absurd (eqb-false i (place_of M o) e v), tt)) (other (holds (serial o) (inside M (maker o) i)) refl)
        where
          other : (b : Bool) → holds (serial o) (inside M (maker o) i) ≡ b → Z (inside M (maker o) i)
          other false u = u
          other true u = absurd (eqb-false i (place_of M o) e (one-holder M (maker o) i (place_of M o) (serial o) h u (held M o g)))

abbrev Deletes : Machine → Call → Result → Type 0
Deletes M x r =
    sound M ≡ true → (value : ℕ) → answer_of r ≡ Ok value →
    (issued M (listed_object M x.caller x.a x.b) ≡ true) × Nowhere (after M r) (listed_object M x.caller x.a x.b)

not_done : (why : Refusal) (value : ℕ) → ◌≡◌ {A = Answer} (Err why) (Ok value) → ⊥
not_done why value e = let z : ◌≡◌ {A = ℕ} 0 1 = cc in omega arith

upto-issued : (M : Machine) (o : ObjectNumber) → Issued M (maker o) (serial o) → issued M o ≡ true
unfolding issued
upto-issued M o u = and_both (lt-ltb _ _ u.maker) (and_both (lt-ltb _ _ u.above) (le-leb _ _ u.upto))

pub living-issued : (M : Machine) (o : ObjectNumber) → sound M ≡ true → gone M o ≡ false → issued M o ≡ true
living-issued M o h g = upto-issued M o (holder-issued M (maker o) (place_of M o) (serial o) h (held M o g))

entry-nowhere : (n j : ℕ) (e : Entry) (y : Place) → holds n y ≡ false → holds n (with_entry j e y) ≡ false
entry-nowhere n j e y h = with-entry-holds n j e y ∙ h

row-deletes : RowHas Deletes (row_of 8)
unfolding rows RowHas Calls.delete
row-deletes M x good =
    on-unless (Deletes M x) (λ why h value e. absurd (not_done why value e)) _ _ (λ f h value e.
    let g : gone M (listed_object M x.caller x.a x.b) ≡ false = f.1.1.1.1.1.1.1.0 in (
      living-issued M (listed_object M x.caller x.a x.b) h g,
      ended M h (listed_object M x.caller x.a x.b) g (remove_entry M x.caller x.a x.b) (λ i y. entry-nowhere _ _ _ y),
    ))

-- A delete that is done leaves its object in no place.
pub delete-ends : (M : Machine) (x : Call) → x.number ≡ 8 → Deletes M x (step M x)
unfolding step
delete-ends M x e =
    on-obey Deletes (λ N y why h value f. absurd (not_done why value f)) (row_of x.number) (subst (λ (n : ℕ). RowHas Deletes (row_of n)) (sym e) row-deletes) M x

-- Dead stays dead: what a delete removed is in no place after it, whatever the rest of the tape.
pub dead-stays-dead : (M : Machine) (x : Call) (xs : List Call) → AllSixteenBit (x ∷ xs) → sound M ≡ true → x.number ≡ 8 → (value : ℕ) → answer_of (step M x) ≡ Ok value →
    (gone (run M (x ∷ xs)) (listed_object M x.caller x.a x.b) ≡ true) × Nowhere (run M (x ∷ xs)) (listed_object M x.caller x.a x.b)
unfolding run
dead-stays-dead M x xs n h e value f = (last, gone-nowhere (run M (x ∷ xs)) o (run-keeps M (x ∷ xs) n h) last)
  where
    o : ObjectNumber
    o = listed_object M x.caller x.a x.b

    N : Machine
    N = after M (step M x)

    last : gone (run M (x ∷ xs)) o ≡ true
    last =
        let d = delete-ends M x e h value f in
        gone-for-good N xs o n.1 (step_keeps M x n.0 h) (issued-grows M N (step-grows M x h) o d.0) (nowhere-gone N o d.1)
