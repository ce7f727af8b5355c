-- The fresh machine qualifies whatever the split, the worked run qualifies, and each pair shows that its premise is needed.
-- Assumes nothing.
use Prim.Native.Nat.{ℕ, zero, suc, ◌+◌, ◌<◌}
use native.Mathlib.Omega.{arith}
use mathlib.Core.Path.{◌≡◌, refl, sym, ap, subst, ◌∙◌}
use mathlib.Core.Bool.{Bool, true, false, not, ◌||◌}
use mathlib.Core.List.{List, [], ◌∷◌}
use lib.ListN.{get_or, replicate}
use lib.Dec.{ltb}
use borrow.Author.Tests.{ltb-true}
use Rattle.things.specs.declared.Capability.{Capability}
use Rattle.things.specs.Lists.{every, up_from}
use Rattle.things.specs.Rights.{object, capability, null, is_null}
use Rattle.things.proofs.ListLaws.{and_parts, never}
use Rattle.rules.specs.Machine.{PACKAGES, NUMBERS, no_entry, empty, holding, nobody, package_of, entries_of, inners_of, empty_directory, fresh_package, fresh}
use Rattle.rules.specs.Sound.{sound}
use Rattle.rules.specs.Changes.{place_at}
use Rattle.rules.specs.Step.{Call, answers}
use Rattle.rules.specs.Cases.{tell}
use Rattle.tables.specs.Call.{fresh_tables}
use Rattle.rules.proofs.Computes.{computes}
use Rattle.rules.proofs.Decide.{Each}
use Rattle.rules.proofs.Worked.{fresh-sound}
use Rattle.rules.proofs.KeepCalls.{AllSixteenBit}
use Rattle.sides.specs.Sides.{Split, letters_kinds, Premises, lies_in, lie, has, each_package, near_has, far_has, names_far, names_near, near_names, reading_only, lives_as, far_rights, far_kinds, is_done, hands_over, throughout, not_far_to_near, is_such, gives_such, side_of, is_near, near_calls, near_answers, SameForNear}
use Rattle.sides.specs.OnTables.{PremisesOn}
use Rattle.sides.specs.Needed.{zero_and_one, sheet_shared, sheet_otherwise, is_sixteen_bit, clauses, meets_others, same_told, Shows, pairs}
use Rattle.sides.proofs.Has.{HasIn, Has, empty-in}
use Rattle.sides.proofs.Having.{near-whole, far-whole}
use Rattle.sides.proofs.Confined.{near-tested, tested}
use Rattle.sides.proofs.TwoRuns.{demand-3}
use Rattle.sides.proofs.OnTables.{fresh-tables-qualify}

-- every definition of the sides is open
unfoldable sides-compute : Unit {0}
unfolding computes lies_in lie has each_package near_has far_has names_far names_near near_names reading_only lives_as far_rights far_kinds is_done hands_over throughout not_far_to_near is_such gives_such side_of is_near near_calls near_answers clauses meets_others same_told
sides-compute = tt

-- ---- the fresh machine
copies : {A : Type 0} (n i : ℕ) (d : A) → get_or (replicate n d) i d ≡ d
copies zero i d = refl
copies (suc n) zero d = refl
copies (suc n) (suc i) d = copies n i d

-- A fresh package has its shelf and its desk, and nothing else.
module _ (K : Capability → Type 0) (k : K null) where
  directory-in : (s m : ℕ) → HasIn K (holding s (empty_directory m))
  unfolding entries_of inners_of
  directory-in s m = record { entries = λ j. rw (copies 16 j no_entry) k; inners = λ j. k }

  rest_in : (i : ℕ) → HasIn K (get_or (replicate 14 empty) i empty)
  rest_in i = rw (copies 14 i empty) (empty-in K k)

  fresh-has : (p : ℕ) → K (capability (object p 1) 255) → K (capability (object p 2) 252) → Has K (fresh_package p)
  fresh-has p a b = record { slots = slots; inside = places }
    where
      slots : (i : ℕ) → K (get_or (fresh_package p).slots i null)
      slots zero = a
      slots (suc zero) = b
      slots (suc (suc i)) = rw (copies 14 i null) k

      places : (i : ℕ) → HasIn K (place_at (fresh_package p) i)
      places zero = directory-in 1 0
      places (suc zero) = directory-in 2 3
      places (suc (suc i)) = rest_in i

up-get_or : {A : Type 0} (f : ℕ → A) (d : A) (n k p : ℕ) → p < n → get_or (up_from n k f) p d ≡ f (k + p)
unfolding up_from
up-get_or f d zero k p l = let z : ⊥ = omega arith in absurd z
up-get_or f d (suc n) k zero l = ap f (omega arith)
up-get_or f d (suc n) k (suc p) l = up-get_or f d n (suc k) p (omega arith) ∙ ap f (omega arith)

fresh-package : (p : ℕ) → p < PACKAGES → package_of fresh p ≡ fresh_package p
unfolding package_of fresh
fresh-package p l = up-get_or fresh_package nobody 8 0 p l ∙ ap fresh_package (omega arith)

-- No far package has anything on a near object.
far-fresh : (near : Split) (f : Capability → Bool) → far_has near (λ c. not (names_near near c) || f c) fresh ≡ true
unfolding is_null
far-fresh near f = far-whole near _ fresh (λ p l n. subst (Has _) (sym (fresh-package p l)) (fresh-has _ (tested near null _ (λ e m. never e)) p (own p n 1 255) (own p n 2 252)))
  where
    own : (p : ℕ) → near p ≡ false → (s r : ℕ) → not (names_near near (capability (object p s) r)) || f (capability (object p s) r) ≡ true
    own p n s r = tested near (capability (object p s) r) _ (λ e m. never (sym m ∙ n))

-- From the fresh machine every split qualifies: what a package has names what it made.
pub fresh-qualifies : (near : Split) → (sound fresh ≡ true) × (near_names near fresh ≡ true) × (far_rights near fresh ≡ true) × (far_kinds letters_kinds near fresh ≡ true)
unfolding near_names far_rights far_kinds is_null
fresh-qualifies near = (
  fresh-sound,
  near-whole near _ fresh (λ p l n. subst (Has _) (sym (fresh-package p l)) (fresh-has _ (near-tested near null (λ e. never e)) p (near-tested near _ (λ e. n)) (near-tested near _ (λ e. n)))),
  far-fresh near _,
  far-fresh near _,
)

-- ---- a run
sixteen-bit : (xs : List Call) → every is_sixteen_bit xs ≡ true → AllSixteenBit xs
unfolding every is_sixteen_bit
sixteen-bit [] h = tt
sixteen-bit (x ∷ xs) h =
    let p = and_parts (is_sixteen_bit x) (every is_sixteen_bit xs) h in
    let a = and_parts (ltb x.a NUMBERS) _ p.0 in
    let b = and_parts (ltb x.b NUMBERS) _ a.1 in
    let c = and_parts (ltb x.c NUMBERS) _ b.1 in
    let d = and_parts (ltb x.d NUMBERS) (ltb x.e NUMBERS) c.1 in
    (record { a = ltb-true _ _ a.0; b = ltb-true _ _ b.0; c = ltb-true _ _ c.0; d = ltb-true _ _ d.0; e = ltb-true _ _ d.1 }, sixteen-bit xs p.1)

-- The run in which far reads a near segment.
pub sheet-qualifies : Premises letters_kinds zero_and_one fresh sheet_shared.calls
unfolding sides-compute
sheet-qualifies = record { well-formed = refl; near-names = refl; far-rights = refl; far-kinds = refl; none-back = refl; only-such = refl }

pub sheet-qualifies-on-tables : PremisesOn letters_kinds zero_and_one fresh_tables sheet_shared.calls
unfolding sides-compute is_sixteen_bit
sheet-qualifies-on-tables = fresh-tables-qualify letters_kinds zero_and_one sheet_shared.calls (sixteen-bit sheet_shared.calls refl) sheet-qualifies

pub sheet-told : tell (answers fresh sheet_shared.calls) ≡ sheet_shared.told
unfolding sides-compute
sheet-told = refl

-- Demand 3 applied: whatever far does, or leaves undone, near sees the same.
otherwise-qualifies : Premises letters_kinds zero_and_one fresh sheet_otherwise
unfolding sides-compute
otherwise-qualifies = record { well-formed = refl; near-names = refl; far-rights = refl; far-kinds = refl; none-back = refl; only-such = refl }

same-calls : near_calls zero_and_one sheet_shared.calls ≡ near_calls zero_and_one sheet_otherwise
unfolding sides-compute
same-calls = refl

pub sheet-same : SameForNear zero_and_one fresh sheet_shared.calls fresh sheet_otherwise
unfolding sides-compute is_sixteen_bit
sheet-same =
    demand-3 zero_and_one fresh fresh sheet_shared.calls sheet_otherwise (sixteen-bit sheet_shared.calls refl) (sixteen-bit sheet_otherwise refl) sheet-qualifies otherwise-qualifies (λ p l n. refl) same-calls

-- Without one premise, and with all the others, the near side can be told other things.
pub premises-needed : Each Shows pairs
unfolding sides-compute
premises-needed = (
  record { not-met = refl; others-one = refl; others-two = refl; calls_same = refl; first = refl; second = refl; differ = refl },
  (
    record { not-met = refl; others-one = refl; others-two = refl; calls_same = refl; first = refl; second = refl; differ = refl },
    (
      record { not-met = refl; others-one = refl; others-two = refl; calls_same = refl; first = refl; second = refl; differ = refl },
      (
        record { not-met = refl; others-one = refl; others-two = refl; calls_same = refl; first = refl; second = refl; differ = refl },
        (
          record { not-met = refl; others-one = refl; others-two = refl; calls_same = refl; first = refl; second = refl; differ = refl },
          (
            record { not-met = refl; others-one = refl; others-two = refl; calls_same = refl; first = refl; second = refl; differ = refl },
            (
              record { not-met = refl; others-one = refl; others-two = refl; calls_same = refl; first = refl; second = refl; differ = refl },
              (
                record { not-met = refl; others-one = refl; others-two = refl; calls_same = refl; first = refl; second = refl; differ = refl },
                (
                  record { not-met = refl; others-one = refl; others-two = refl; calls_same = refl; first = refl; second = refl; differ = refl },
                  (
                    record { not-met = refl; others-one = refl; others-two = refl; calls_same = refl; first = refl; second = refl; differ = refl },
                    (
                      record { not-met = refl; others-one = refl; others-two = refl; calls_same = refl; first = refl; second = refl; differ = refl },
                      (
                        record { not-met = refl; others-one = refl; others-two = refl; calls_same = refl; first = refl; second = refl; differ = refl },
                        (
                          record { not-met = refl; others-one = refl; others-two = refl; calls_same = refl; first = refl; second = refl; differ = refl },
                          tt,
                        ),
                      ),
                    ),
                  ),
                ),
              ),
            ),
          ),
        ),
      ),
    ),
  ),
)
