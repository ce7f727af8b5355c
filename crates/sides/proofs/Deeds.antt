-- What a call does, change by change: fourteen kinds of change that a package's call can make, each with what the call has
-- checked before it, and the hand-over's one change. Every call does only these.
-- Assumes nothing.
use Prim.Native.Nat.{ℕ, zero, suc, ◌+◌, ◌<◌}
use native.Mathlib.Omega.{arith}
use mathlib.Core.Path.{◌≡◌, refl, sym, subst, ◌∙◌}
use mathlib.Core.Bool.{true, false, not}
use mathlib.Core.List.{List, [], ◌∷◌}
use lib.ListN.{get_or, replicate}
use borrow.Author.Tests.{not-false}
use Rattle.things.specs.declared.Refusal.{Refusal}
use Rattle.things.specs.declared.Refusal.TheVariants.{BadNumber}
use Rattle.things.specs.declared.ObjectNumber.{ObjectNumber}
use Rattle.things.specs.Lists.{some, up_from}
use Rattle.things.specs.Rights.{null, is_null, has_right, restricted, READ, WRITE, REMOVE, DELETE, NONE}
use Rattle.rules.specs.Machine.{PACKAGES, SEGMENT, DIRECTORY, EXTENDED, no_entry, Body, segment, type, extended, Place, empty, holding, Machine, slot_of, places_of, is_empty, entries_of, inners_of, place_of, living, empty_place, empty_entry, entry_of, empty_directory}
use Rattle.rules.specs.Changes.{Change, set_last, set_slot, set_place, set_inner}
use Rattle.rules.specs.Checks.{Check, Result, refused, done, unless, gone, is_kind}
use Rattle.rules.specs.Calls
use Rattle.rules.specs.Calls.{named, opened, next_serial, made, making, make, listed, listed_object, copied, entry, store_entry, store_word}
use Rattle.rules.specs.Step.{Call, Row, no_call, rows, row_of, Packages, may_call, step}
use Rattle.rules.proofs.Decide.{Each, RowHas, Passed, on-unless, on-obey, by-package, package-in}

-- Slot a of package p passes checks 2 to 5, for this right and this kind.
pub record Can (M : Machine) (p a right kind : ℕ) : Type 0 where
  pub filled : is_null (slot_of M p a) ≡ false
  pub able : has_right (slot_of M p a) right ≡ true
  pub lives : gone M (named M p a) ≡ false
  pub fits : is_kind kind (opened M p a) ≡ true

-- Nothing that is a capability lies in a new object.
abbrev pub Bare : Place → Type 0
Bare y = ((j : ℕ) → get_or (entries_of y) j no_entry ≡ no_entry) × ((j : ℕ) → get_or (inners_of y) j null ≡ null)

-- One change of a call by package x.caller.
pub data Own (M : Machine) (x : Call) : Change → Type 0 where
  restricting : (a mask c : ℕ) → Own M x (set_slot x.caller c (restricted (slot_of M x.caller a) mask))
  dropping : (a : ℕ) → Own M x (set_slot x.caller a null)
  fetching : (a b c : ℕ) → Can M x.caller a READ DIRECTORY → Own M x (set_slot x.caller c (listed M x.caller a b).capability)
  getting : (b c d : ℕ) → Can M x.caller b NONE EXTENDED → Own M x (set_slot x.caller d (get_or (inners_of (opened M x.caller b)) c null))
  receiving : (s d : ℕ) → Own M x (set_slot x.caller d (made M x.caller s))
  issuing : Own M x (set_last x.caller (next_serial M x.caller))
  placing : (body : Body) → Bare (holding (next_serial M x.caller) body) → some is_empty (places_of M x.caller) ≡ true →
      Own M x (set_place x.caller (empty_place M x.caller) (holding (next_serial M x.caller) body))
  entering : (a b s : ℕ) → Can M x.caller a WRITE DIRECTORY →
      Own M x (store_entry M (named M x.caller a) (empty_entry (opened M x.caller a)) (entry b (made M x.caller s) true))
  adding : (a b c : ℕ) → Can M x.caller a WRITE DIRECTORY →
      Own M x (store_entry M (named M x.caller a) (empty_entry (opened M x.caller a)) (entry b (slot_of M x.caller c) false))
  removing : (a b : ℕ) → Can M x.caller a REMOVE DIRECTORY →
      Own M x (store_entry M (named M x.caller a) (entry_of (opened M x.caller a) b) no_entry)
  ending : (a b : ℕ) → Can M x.caller a REMOVE DIRECTORY → has_right (listed M x.caller a b).capability DELETE ≡ true → gone M (listed_object M x.caller a b) ≡ false →
      Own M x (set_place (listed_object M x.caller a b).0 (place_of M (listed_object M x.caller a b)) empty)
  putting : (b c d : ℕ) → Can M x.caller b NONE EXTENDED →
      Own M x (set_inner (named M x.caller b).0 (place_of M (named M x.caller b)) c (slot_of M x.caller d))
  writing : x.number ≡ 13 → Can M x.caller x.a WRITE SEGMENT → Own M x (store_word M x.caller x.a x.b x.c)
  copying : x.number ≡ 14 → Can M x.caller x.c WRITE SEGMENT → (k : ℕ) → k < x.e → Own M x (copied M x.caller x.a x.b x.c x.d k)

-- A call is refused, or is a hand-over between packages, or does only such changes.
pub data Doing (M : Machine) (x : Call) : Result → Type 0 where
  stopped : (why : Refusal) → Doing M x (refused why)
  handing : x.number ≡ 3 → x.a < PACKAGES → x.c < PACKAGES → Doing M x (done 0 (set_slot x.c x.d (slot_of M x.a x.b) ∷ []))
  owning : (x.number ≡ 3 → ⊥) → x.caller < PACKAGES → (value : ℕ) (ys : List Change) → Each (Own M x) ys → Doing M x (done value ys)

-- ---- every row, with its number
module _ (Q : ℕ → Row → Type 0) where
  abbrev pub EachAt : ℕ → List Row → Type 0
  EachAt n [] = Unit {0}
  EachAt n (r ∷ rs) = Q n r × EachAt (suc n) rs

  pub row_at : (rs : List Row) (n : ℕ) → EachAt n rs → ((k : ℕ) → Q k no_call) → (i : ℕ) → Q (n + i) (get_or rs i no_call)
  row_at [] n h g i = g (n + i)
  row_at (r ∷ rs) n h g zero = subst (λ (k : ℕ). Q k r) (omega arith) h.0
  row_at (r ∷ rs) n h g (suc i) = subst (λ (k : ℕ). Q k (get_or rs i no_call)) (omega arith) (row_at rs (suc n) h.1 g i)

abbrev At : ℕ → Machine → Call → Result → Type 0
At n M x r = x.number ≡ n → Doing M x r

-- ---- what the checks say
can : (M : Machine) (p a right kind : ℕ) → is_null (slot_of M p a) ≡ false → not (has_right (slot_of M p a) right) ≡ false → gone M (slot_of M p a).object ≡ false → not (is_kind kind (living M (slot_of M p a).object)) ≡ false → Can M p a right kind
unfolding named opened
can M p a right kind e r g k = record { filled = e; able = not-false _ r; lives = g; fits = not-false _ k }

-- ---- new bodies
none-entered : (m j : ℕ) (n : ℕ) → get_or (entries_of (holding n (empty_directory m))) j no_entry ≡ no_entry
unfolding entries_of
none-entered m j n = copies 16 j
  where
    copies : (k j : ℕ) → get_or (replicate k no_entry) j no_entry ≡ no_entry
    copies zero j = refl
    copies (suc k) zero = refl
    copies (suc k) (suc j) = copies k j

none-inner : (o : ObjectNumber) (m j n : ℕ) → get_or (inners_of (holding n (extended o m (replicate 4 null)))) j null ≡ null
unfolding inners_of
none-inner o m j n = copies 4 j
  where
    copies : (k j : ℕ) → get_or (replicate k null) j null ≡ null
    copies zero j = refl
    copies (suc k) zero = refl
    copies (suc k) (suc j) = copies k j

segment-bare : (n : ℕ) (ws : List ℕ) → Bare (holding n (segment ws))
unfolding entries_of inners_of
segment-bare n ws = (λ j. refl, λ j. refl)

directory-bare : (n m : ℕ) → Bare (holding n (empty_directory m))
unfolding inners_of
directory-bare n m = (λ j. none-entered m j n, λ j. refl)

type-bare : (n : ℕ) → Bare (holding n type)
unfolding entries_of inners_of
type-bare n = (λ j. refl, λ j. refl)

extended-bare : (n : ℕ) (o : ObjectNumber) (m : ℕ) → Bare (holding n (extended o m (replicate 4 null)))
unfolding entries_of
extended-bare n o m = (λ j. refl, λ j. none-inner o m j n)

-- ---- the calls
module _ (M : Machine) (x : Call) where
  abbrev p : ℕ
  p = x.caller

  -- a call by a package that is no hand-over
  own : (n : ℕ) → x.number ≡ n → (n ≡ 3 → ⊥) → may_call Packages p ≡ true → (value : ℕ) (ys : List Change) → Each (Own M x) ys → Doing M x (done value ys)
  own n e u g value ys h = owning (λ q. u (sym e ∙ q)) (by-package x.caller g) value ys h

  -- .. after its checks
  checks : (n : ℕ) → x.number ≡ n → (n ≡ 3 → ⊥) → may_call Packages p ≡ true → (cs : List Check) (value : ℕ) (ys : List Change) → (Passed cs → Each (Own M x) ys) → Doing M x (unless cs (done value ys))
  checks n e u g cs value ys h = on-unless (Doing M x) stopped cs (done value ys) (λ f. own n e u g value ys (h f))

  making-does : (n : ℕ) → x.number ≡ n → (n ≡ 3 → ⊥) → may_call Packages p ≡ true → (body : Body) → Bare (holding (next_serial M p) body) → (a b s d : ℕ) → Can M p a WRITE DIRECTORY → some is_empty (places_of M p) ≡ true → Doing M x (making M p body a b s d)
  unfolding making
  making-does n e u g body bare a b s d c r =
      own n e u g (next_serial M p) _ (issuing, (entering a b s c, (placing body bare r, (receiving s d, tt))))

  make-does : (n : ℕ) → x.number ≡ n → (n ≡ 3 → ⊥) → may_call Packages p ≡ true → (body : Body) → Bare (holding (next_serial M p) body) → Doing M x (make body M p x.a x.b x.c x.d)
  unfolding make
  make-does n e u g body bare =
      on-unless (Doing M x) stopped _ _ (λ f.
      making-does n e u g body bare x.a x.b x.c x.d (can M p x.a WRITE DIRECTORY f.0 f.1.0 f.1.1.0 f.1.1.1.0) (not-false _ f.1.1.1.1.1.1.1.0))

  make-object-does : x.number ≡ 7 → may_call Packages p ≡ true → Doing M x (Calls.make_object M p x.a x.b x.c x.d x.e)
  unfolding Calls.make_object
  make-object-does e g =
      on-unless (Doing M x) stopped _ _ (λ f.
      making-does 7 e (λ q. omega arith) g _ (extended-bare (next_serial M p) (named M p x.c) x.e) x.a x.b x.e x.d (can M p x.a WRITE DIRECTORY f.0 f.1.0 f.1.1.0 f.1.1.1.0) (not-false _ f.1.1.1.1.1.1.1.1.1.1.1.0))

  copied-does : x.number ≡ 14 → Can M p x.c WRITE SEGMENT → (n k : ℕ) → k + n ≡ x.e → Each (Own M x) (up_from n k (copied M p x.a x.b x.c x.d))
  unfolding up_from
  copied-does e c zero k l = tt
  copied-does e c (suc n) k l = (copying e c k (omega arith), copied-does e c n (suc k) (omega arith))

every-row : EachAt (λ n r. RowHas (At n) r) 0 rows
unfolding rows RowHas Calls.restrict Calls.drop Calls.hand Calls.make_segment Calls.make_directory Calls.make_type Calls.delete Calls.add_entry Calls.drop_entry Calls.fetch Calls.read Calls.write Calls.copy Calls.set_inner_place Calls.get_inner_place Calls.count
every-row = (
  (λ M x g e. stopped BadNumber),
  (
    (λ M x g e. own M x 1 e (λ q. omega arith) g.caller 0 _ (restricting x.a x.b x.c, tt)),
    (
      (λ M x g e. own M x 2 e (λ q. omega arith) g.caller 0 _ (dropping x.a, tt)),
      (
        (λ M x g e. on-unless (Doing M x) stopped _ _ (λ f. handing e (package-in x.a g.a) (package-in x.c g.c))),
        (
          (λ M x g e. make-does M x 4 e (λ q. omega arith) g.caller _ (segment-bare _ _)),
          (
            (λ M x g e. make-does M x 5 e (λ q. omega arith) g.caller _ (directory-bare _ _)),
            (
              (λ M x g e. make-does M x 6 e (λ q. omega arith) g.caller _ (type-bare _)),
              (
                (λ M x g e. make-object-does M x e g.caller),
                (
                  (λ M x g e. checks M x 8 e (λ q. omega arith) g.caller _ 0 _ (λ f.
                      let c = can M x.caller x.a 16 DIRECTORY f.0 f.1.0 f.1.1.0 f.1.1.1.0 in
                      (removing x.a x.b c, (ending x.a x.b c (not-false _ f.1.1.1.1.1.1.0) f.1.1.1.1.1.1.1.0, tt)))),
                  (
                    (λ M x g e. checks M x 9 e (λ q. omega arith) g.caller _ 0 _ (λ f. (adding x.a x.b x.c (can M x.caller x.a WRITE DIRECTORY f.0 f.1.0 f.1.1.0 f.1.1.1.0), tt))),
                    (
                      (λ M x g e. checks M x 10 e (λ q. omega arith) g.caller _ 0 _ (λ f. (removing x.a x.b (can M x.caller x.a REMOVE DIRECTORY f.0 f.1.0 f.1.1.0 f.1.1.1.0), tt))),
                      (
                        (λ M x g e. checks M x 11 e (λ q. omega arith) g.caller _ 0 _ (λ f. (fetching x.a x.b x.c (can M x.caller x.a READ DIRECTORY f.0 f.1.0 f.1.1.0 f.1.1.1.0), tt))),
                        (
                          (λ M x g e. checks M x 12 e (λ q. omega arith) g.caller _ _ [] (λ f. tt)),
                          (
                            (λ M x g e. checks M x 13 e (λ q. omega arith) g.caller _ 0 _ (λ f. (writing e (can M x.caller x.a WRITE SEGMENT f.0 f.1.0 f.1.1.0 f.1.1.1.0), tt))),
                            (
                              (λ M x g e. checks M x 14 e (λ q. omega arith) g.caller _ 0 _ (λ f. copied-does M x e (can M x.caller x.c WRITE SEGMENT f.1.1.1.1.0 f.1.1.1.1.1.0 f.1.1.1.1.1.1.0 f.1.1.1.1.1.1.1.0) x.e 0 (omega arith))),
                              (
                                (λ M x g e. checks M x 15 e (λ q. omega arith) g.caller _ 0 _ (λ f. (putting x.b x.c x.d (can M x.caller x.b NONE EXTENDED f.1.1.1.1.0 f.1.1.1.1.1.0 f.1.1.1.1.1.1.0 f.1.1.1.1.1.1.1.0), tt))),
                                (
                                  (λ M x g e. checks M x 16 e (λ q. omega arith) g.caller _ 0 _ (λ f. (getting x.b x.c x.d (can M x.caller x.b NONE EXTENDED f.1.1.1.1.0 f.1.1.1.1.1.0 f.1.1.1.1.1.1.0 f.1.1.1.1.1.1.1.0), tt))),
                                  (
                                    (λ M x g e. checks M x 17 e (λ q. omega arith) g.caller _ _ [] (λ f. tt)),
                                    tt,
                                  ),
                                ),
                              ),
                            ),
                          ),
                        ),
                      ),
                    ),
                  ),
                ),
              ),
            ),
          ),
        ),
      ),
    ),
  ),
)

-- Every call is refused, or does only what is listed above.
pub step-does : (M : Machine) (x : Call) → Doing M x (step M x)
unfolding step RowHas
step-does M x =
    on-obey (At x.number) (λ N y why e. stopped why) (row_of x.number)
    (subst (λ (n : ℕ). RowHas (At n) (row_of x.number)) (omega arith)
    (row_at (λ n r. RowHas (At n) r) rows 0 every-row (λ k N y g e. stopped BadNumber) x.number))
    M x refl
