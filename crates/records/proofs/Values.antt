-- "Value: the new serial for 4 to 7, the word for 12, the count for 17, otherwise 0": each is a 16-bit number, and so its
-- line on the tape is short.
-- Assumes nothing.
use Prim.Native.Nat.{ℕ, suc, ◌+◌, ◌<◌, ◌≤◌}
use native.Mathlib.Omega.{arith}
use mathlib.Core.Path.{◌≡◌, refl}
use mathlib.Core.Bool.{Bool, true, false, ◌&&◌}
use mathlib.Core.List.{List, [], ◌∷◌}
use lib.ListN.{length}
use lib.Dec.{eqb, ltb, leb}
use borrow.Author.Tests.{eqb-true, eqb-false, ltb-true, ltb-false}
use Rattle.things.specs.declared.ObjectNumber.{ObjectNumber}
use Rattle.things.specs.declared.Refusal.{Refusal}
use Rattle.things.specs.Answers.{answer_value}
use Rattle.things.specs.Lists.{pick, how_many}
use Rattle.things.proofs.ListLaws.{and_parts, every-or}
use Rattle.rules.specs.Machine.{PACKAGES, LAST_SERIAL, Body, segment, directory, type, extended, Place, empty, holding, Machine, last_of, inside, words_of, entries_of, living, place_of, is_used, used_entries}
use Rattle.rules.specs.Sound.{issued, is_number, is_many, is_permits, body_sound, place_sound, sound}
use Rattle.rules.specs.Checks.{Check, Result, refused, done, unless, answer_of}
use Rattle.rules.specs.Changes.{Change}
use Rattle.rules.specs.Calls
use Rattle.rules.specs.Calls.{named, opened, next_serial, making, make}
use Rattle.rules.specs.Step.{Call, rows, step}
use Rattle.rules.proofs.Parts.{sound-eight, sound-package}
use Rattle.rules.proofs.Keep.{place-sound}
use Rattle.rules.proofs.Inside.{no-places, living-sound}
use Rattle.rules.proofs.Decide.{Each, RowHas, on-unless, no_row, on_step, by-package}

-- No more than all pass.
passing : {A : Type 0} (f : A → Bool) (xs : List A) → how_many f xs ≤ length xs
unfolding how_many
passing f [] = omega arith
passing f (x ∷ xs) = go (f x) (passing f xs)
  where
    go : (b : Bool) → how_many f xs ≤ length xs → pick b (suc (how_many f xs)) (how_many f xs) ≤ suc (length xs)
    go true h = omega arith
    go false h = omega arith

few-in : (known : ObjectNumber → Bool) (last : ℕ) (x : Place) → place_sound known last x ≡ true → length (entries_of x) ≤ 16
unfolding place_sound body_sound entries_of
few-in known last empty h = omega arith
few-in known last (holding s (segment ws)) h = omega arith
few-in known last (holding s (directory m es)) h =
    let p = and_parts (ltb 0 s && leb s last) _ h in
    let q = and_parts (is_permits m) _ p.1 in
    let n = eqb-true (length es) 16 (and_parts (is_many 16 es) _ q.1).0 in
    omega arith
few-in known last (holding s type) h = omega arith
few-in known last (holding s (extended o m cs)) h = omega arith

none_in : length (entries_of empty) ≤ 16
unfolding entries_of
none_in = omega arith

module _ (M : Machine) (h : sound M ≡ true) where
  few-entries : (o : ObjectNumber) → length (entries_of (living M o)) ≤ 16
  unfolding living
  few-entries o = go (ltb o.0 PACKAGES) refl
    where
      go : (b : Bool) → ltb o.0 PACKAGES ≡ b → length (entries_of (inside M o.0 (place_of M o))) ≤ 16
      go true e = few-in (issued M) (last_of M o.0) (inside M o.0 (place_of M o)) (place-sound M o.0 (place_of M o) h (ltb-true o.0 PACKAGES e))
      go false e = rw (no-places M o.0 (sound-eight M h) (ltb-false o.0 PACKAGES e)) none_in

  few-used : (p a : ℕ) → used_entries (opened M p a) ≤ 16
  unfolding used_entries opened
  few-used p a =
      let n = few-entries (named M p a) in
      let u = passing is_used (entries_of (living M (named M p a))) in
      omega arith

  word_small : (p a b : ℕ) → Calls.word_at M p a b < 65536
  unfolding Calls.word_at opened is_number
  word_small p a b = ltb-true _ 65536 (every-or is_number (words_of (opened M p a)) b 0 (living-sound M (named M p a) h).words refl)

  next_small : (p : ℕ) → p < PACKAGES → eqb (last_of M p) LAST_SERIAL ≡ false → next_serial M p < 65536
  unfolding next_serial last_of is_number
  next_small p l e =
      let n = ltb-true (last_of M p) 65536 (sound-package M h p l).number in
      let f : last_of M p ≡ 65535 → ⊥ = eqb-false (last_of M p) LAST_SERIAL e in
      not_last (last_of M p) n f
    where
      not_last : (k : ℕ) → k < 65536 → (k ≡ 65535 → ⊥) → k + 1 < 65536
      not_last k n f = omega arith

-- Each call.
abbrev Small : Machine → Call → Result → Type 0
Small M x r = sound M ≡ true → answer_value (answer_of r) < 65536

refused-small : (M : Machine) (x : Call) (why : Refusal) → Small M x (refused why)
refused-small M x why h = omega arith

making-small : (M : Machine) (x : Call) (p : ℕ) (body : Body) (a b s d : ℕ) → p < PACKAGES → eqb (last_of M p) LAST_SERIAL ≡ false → Small M x (making M p body a b s d)
unfolding making
making-small M x p body a b s d l e h = next_small M h p l e

make-small : (M : Machine) (x : Call) (body : Body) → x.caller < PACKAGES → Small M x (make body M x.caller x.a x.b x.c x.d)
unfolding make
make-small M x body l = on-unless (Small M x) (refused-small M x) _ _ (λ f. making-small M x x.caller body x.a x.b x.c x.d l f.1.1.1.1.1.1.1.1.0)

make-object-small : (M : Machine) (x : Call) → x.caller < PACKAGES → Small M x (Calls.make_object M x.caller x.a x.b x.c x.d x.e)
unfolding Calls.make_object
make-object-small M x l = on-unless (Small M x) (refused-small M x) _ _ (λ f. making-small M x x.caller _ x.a x.b x.e x.d l f.1.1.1.1.1.1.1.1.1.1.1.1.0)

read_small : (M : Machine) (x : Call) → Small M x (Calls.read M x.caller x.a x.b x.c x.d x.e)
unfolding Calls.read
read_small M x = on-unless (Small M x) (refused-small M x) _ _ (λ f h. word_small M h x.caller x.a x.b)

count_small : (M : Machine) (x : Call) → Small M x (Calls.count M x.caller x.a x.b x.c x.d x.e)
unfolding Calls.count
count_small M x = on-unless (Small M x) (refused-small M x) _ _ (λ f h. let n = few-used M h x.caller x.a in omega arith)

zero-small : (M : Machine) (x : Call) (checks : List Check) (changes : List Change) → Small M x (unless checks (done 0 changes))
zero-small M x checks changes = on-unless (Small M x) (refused-small M x) checks (done 0 changes) (λ f h. omega arith)

every-row : Each (RowHas Small) rows
unfolding rows RowHas Calls.restrict Calls.drop Calls.hand Calls.make_segment Calls.make_directory Calls.make_type Calls.delete Calls.add_entry Calls.drop_entry Calls.fetch Calls.write Calls.copy Calls.set_inner_place Calls.get_inner_place
every-row = (
  no_row Small refused-small,
  (
    λ M x g h. omega arith,
    (
      λ M x g h. omega arith,
      (
        λ M x g. zero-small M x _ _,
        (
          λ M x g. make-small M x _ (by-package x.caller g.caller),
          (
            λ M x g. make-small M x _ (by-package x.caller g.caller),
            (
              λ M x g. make-small M x _ (by-package x.caller g.caller),
              (
                λ M x g. make-object-small M x (by-package x.caller g.caller),
                (
                  λ M x g. zero-small M x _ _,
                  (
                    λ M x g. zero-small M x _ _,
                    (
                      λ M x g. zero-small M x _ _,
                      (
                        λ M x g. zero-small M x _ _,
                        (
                          λ M x g. read_small M x,
                          (
                            λ M x g. zero-small M x _ _,
                            (
                              λ M x g. zero-small M x _ _,
                              (
                                λ M x g. zero-small M x _ _,
                                (
                                  λ M x g. zero-small M x _ _,
                                  (
                                    λ M x g. count_small M x,
                                    tt,
                                  ),
                                ),
                              ),
                            ),
                          ),
                        ),
                      ),
                    ),
                  ),
                ),
              ),
            ),
          ),
        ),
      ),
    ),
  ),
)

pub value-small : (M : Machine) (x : Call) → sound M ≡ true → answer_value (answer_of (step M x)) < 65536
value-small M x h = on_step Small refused-small every-row M x h
