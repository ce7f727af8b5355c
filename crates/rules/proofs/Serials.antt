-- "Serials are issued upward by each maker and never issued again."
-- Assumes nothing.
use Prim.Native.Nat.{ℕ, zero, suc, ◌+◌, ◌≤◌, ◌<◌}
use native.Mathlib.Omega.{arith}
use mathlib.Core.Path.{◌≡◌, refl, ap, subst, ◌∙◌}
use mathlib.Core.Logic.{◌⊎◌, inl, inr, ⊎_elim}
use mathlib.Core.Bool.{Bool, true, false}
use mathlib.Core.List.{List, [], ◌∷◌}
use lib.Dec.{eqb, leb}
use borrow.Author.Tests.{eqb-true, eqb-false, leb-true}
use Rattle.things.specs.declared.Refusal.{Refusal}
use Rattle.things.specs.Answers.{Answer}
use Rattle.std.specs.Prelude.{Ok, Err}
use Rattle.things.specs.Lists.{up_from}
use Rattle.things.proofs.ListLaws.{and_parts}
use Rattle.rules.specs.Machine.{PACKAGES, Machine, Package, nobody, package_of, Body, holding, last_of, empty_place, empty_entry}
use Rattle.rules.specs.Sound.{sound}
use Rattle.rules.specs.Changes.{Change, set_last, set_slot, set_place, changed, apply, apply_all}
use Rattle.rules.specs.Checks.{Check, Result, refused, done, answer_of, after, unless}
use Rattle.rules.specs.Calls
use Rattle.rules.specs.Calls.{named, opened, next_serial, made, making, make, copied, entry}
use Rattle.rules.specs.Step.{Call, rows, row_of, step}
use Rattle.rules.specs.Issue.{makes_for, with_serial, issued_to, Ascending}
use Rattle.rules.proofs.Parts.{sound-eight}
use Rattle.rules.proofs.Keep.{Quiet, quiet-last, slot-quiet, place-quiet, entry-quiet, inner-quiet, word-quiet}
use Rattle.rules.proofs.Decide.{Each, RowHas, on-unless, on-obey, on_step, by-package}
use Rattle.rules.proofs.KeepCalls.{last-is, step_keeps, AllSixteenBit}

-- ---- changes that issue nothing
abbrev AllQuiet : List Change → Type 0
AllQuiet [] = Unit {0}
AllQuiet (x ∷ xs) = Quiet x × AllQuiet xs

quiet_all : (M : Machine) (xs : List Change) → AllQuiet xs → (q : ℕ) → last_of (apply_all M xs) q ≡ last_of M q
unfolding apply_all
quiet_all M [] u q = refl
quiet_all M (x ∷ xs) u q = quiet_all (apply M x) xs u.1 q ∙ quiet-last M x u.0 q

copied-quiet : (M : Machine) (p a b c d n k : ℕ) → AllQuiet (up_from n k (copied M p a b c d))
unfolding up_from copied
copied-quiet M p a b c d zero k = tt
copied-quiet M p a b c d (suc n) k = (word-quiet _ _ _ _, copied-quiet M p a b c d n (suc k))

-- ---- a make
module _ (M : Machine) (h : sound M ≡ true) (p : ℕ) (l : p < PACKAGES) (body : Body) (a b s d : ℕ) where
  making-last : (q : ℕ) → last_of (after M (making M p body a b s d)) q ≡ last_of (apply M (set_last p (next_serial M p))) q
  unfolding making apply_all
  making-last q =
      quiet-last _ (set_slot p d (made M p s)) (slot-quiet p d (made M p s)) q
      ∙ quiet-last _ (set_place p (empty_place M p) (holding (next_serial M p) body)) (place-quiet p (empty_place M p) (holding (next_serial M p) body)) q
      ∙ quiet-last _ (Calls.store_entry M (named M p a) (empty_entry (opened M p a)) (entry b (made M p s) true)) (entry-quiet _ _ _ _) q

  making-own : last_of (after M (making M p body a b s d)) p ≡ last_of M p + 1
  unfolding next_serial
  making-own = making-last p ∙ last-is M p (next_serial M p) (rw (sound-eight M h) l)

-- The last serial of q stays, or q is the caller, and the call is done with the next serial, which is then the last.
abbrev pub Issues : Machine → Call → Result → ℕ → Type 0
Issues M x r q =
    (last_of (after M r) q ≡ last_of M q)
    ⊎ ((q ≡ x.caller) × (last_of (after M r) q ≡ last_of M q + 1) × (answer_of r ≡ Ok (last_of M q + 1)))

abbrev Issuing : Machine → Call → Result → Type 0
Issuing M x r = sound M ≡ true → (q : ℕ) → Issues M x r q

still : (M : Machine) (x : Call) (value : ℕ) (xs : List Change) → AllQuiet xs → Issuing M x (done value xs)
still M x value xs u h q = inl (quiet_all M xs u q)

other_last : (M : Machine) (p n q : ℕ) → (q ≡ p → ⊥) → last_of (apply M (set_last p n)) q ≡ last_of M q
unfolding last_of package_of apply changed
other_last M p n q ne = ap (λ (P : Package). P.last) (lib.Seq.get_or-set_other M p q _ nobody ne)

making-issues : (M : Machine) (x : Call) → x.caller < PACKAGES → (body : Body) (a b s d : ℕ) → Issuing M x (making M x.caller body a b s d)
unfolding making next_serial
making-issues M x l body a b s d h q = go (eqb q x.caller) refl
  where
    go : (t : Bool) → eqb q x.caller ≡ t → Issues M x (making M x.caller body a b s d) q
    go true e =
        let u : q ≡ x.caller = eqb-true q x.caller e in
        inr (u, rw u (making-own M h x.caller l body a b s d), rw u)
    go false e =
        inl (making-last M h x.caller l body a b s d q ∙ other_last M x.caller (next_serial M x.caller) q (eqb-false q x.caller e))

module _ (M : Machine) (x : Call) where
  unissued : (why : Refusal) → Issuing M x (refused why)
  unissued why h q = inl refl

  make-issues : x.caller < PACKAGES → (body : Body) → Issuing M x (make body M x.caller x.a x.b x.c x.d)
  unfolding make
  make-issues l body = on-unless (Issuing M x) unissued _ _ (λ f. making-issues M x l body x.a x.b x.c x.d)

  make-object-issues : x.caller < PACKAGES → Issuing M x (Calls.make_object M x.caller x.a x.b x.c x.d x.e)
  unfolding Calls.make_object
  make-object-issues l = on-unless (Issuing M x) unissued _ _ (λ f. making-issues M x l _ x.a x.b x.e x.d)

  -- a call that changes no last serial
  quietly : (xs : List Check) (value : ℕ) (ys : List Change) → AllQuiet ys → Issuing M x (unless xs (done value ys))
  quietly xs value ys u = on-unless (Issuing M x) unissued xs (done value ys) (λ f. still M x value ys u)

rows-issue : Each (RowHas Issuing) rows
unfolding rows RowHas Calls.restrict Calls.drop Calls.hand Calls.make_segment Calls.make_directory Calls.make_type Calls.delete Calls.add_entry Calls.drop_entry Calls.fetch Calls.read Calls.write Calls.copy Calls.set_inner_place Calls.get_inner_place Calls.count
rows-issue = (
  (λ M x g. unissued M x _),
  (
    (λ M x g. still M x 0 _ (slot-quiet _ _ _, tt)),
    (
      (λ M x g. still M x 0 _ (slot-quiet _ _ _, tt)),
      (
        (λ M x g. quietly M x _ 0 _ (slot-quiet _ _ _, tt)),
        (
          (λ M x g. make-issues M x (by-package x.caller g.caller) _),
          (
            (λ M x g. make-issues M x (by-package x.caller g.caller) _),
            (
              (λ M x g. make-issues M x (by-package x.caller g.caller) _),
              (
                (λ M x g. make-object-issues M x (by-package x.caller g.caller)),
                (
                  (λ M x g. quietly M x _ 0 _ (entry-quiet _ _ _ _, (place-quiet _ _ _, tt))),
                  (
                    (λ M x g. quietly M x _ 0 _ (entry-quiet _ _ _ _, tt)),
                    (
                      (λ M x g. quietly M x _ 0 _ (entry-quiet _ _ _ _, tt)),
                      (
                        (λ M x g. quietly M x _ 0 _ (slot-quiet _ _ _, tt)),
                        (
                          (λ M x g. quietly M x _ _ [] tt),
                          (
                            (λ M x g. quietly M x _ 0 _ (word-quiet _ _ _ _, tt)),
                            (
                              (λ M x g. quietly M x _ 0 _ (copied-quiet M x.caller x.a x.b x.c x.d x.e 0)),
                              (
                                (λ M x g. quietly M x _ 0 _ (inner-quiet _ _ _ _, tt)),
                                (
                                  (λ M x g. quietly M x _ 0 _ (slot-quiet _ _ _, tt)),
                                  (
                                    (λ M x g. quietly M x _ _ [] tt),
                                    tt,
                                  ),
                                ),
                              ),
                            ),
                          ),
                        ),
                      ),
                    ),
                  ),
                ),
              ),
            ),
          ),
        ),
      ),
    ),
  ),
)

-- One call: a last serial moves only upward, by one, by its own package's call, which is answered with it.
pub step-issues : (M : Machine) (x : Call) → sound M ≡ true → (q : ℕ) → Issues M x (step M x) q
step-issues M x = on_step Issuing unissued rows-issue M x

-- A make that is done is answered with the next serial, which is then its package's last.
abbrev pub Numbered : Machine → Call → Result → Type 0
Numbered M x r = sound M ≡ true → (serial : ℕ) → answer_of r ≡ Ok serial →
    (serial ≡ last_of M x.caller + 1) × (last_of (after M r) x.caller ≡ last_of M x.caller + 1)

not_done : (M : Machine) (x : Call) (why : Refusal) → Numbered M x (refused why)
not_done M x why h serial e = let z : ◌≡◌ {A = ℕ} 0 1 = cc in let w : ⊥ = omega arith in absurd w

done-is : (n serial : ℕ) → ◌≡◌ {A = Answer} (Ok n) (Ok serial) → serial ≡ n
done-is n serial e = cc

making-numbered : (M : Machine) (x : Call) → x.caller < PACKAGES → (body : Body) (a b s d : ℕ) → Numbered M x (making M x.caller body a b s d)
unfolding next_serial making
making-numbered M x l body a b s d h serial e =
    (done-is (last_of M x.caller + 1) serial e, making-own M h x.caller l body a b s d)

make-numbered : (M : Machine) (x : Call) → x.caller < PACKAGES → (body : Body) → Numbered M x (make body M x.caller x.a x.b x.c x.d)
unfolding make
make-numbered M x l body = on-unless (Numbered M x) (not_done M x) _ _ (λ f. making-numbered M x l body x.a x.b x.c x.d)

make-object-numbered : (M : Machine) (x : Call) → x.caller < PACKAGES → Numbered M x (Calls.make_object M x.caller x.a x.b x.c x.d x.e)
unfolding Calls.make_object
make-object-numbered M x l = on-unless (Numbered M x) (not_done M x) _ _ (λ f. making-numbered M x l _ x.a x.b x.e x.d)

row-numbered : (n : ℕ) → 4 ≤ n → n ≤ 7 → RowHas Numbered (row_of n)
unfolding rows RowHas Calls.make_segment Calls.make_directory Calls.make_type
row-numbered zero l u = let z : ⊥ = omega arith in absurd z
row-numbered (suc zero) l u = let z : ⊥ = omega arith in absurd z
row-numbered (suc (suc zero)) l u = let z : ⊥ = omega arith in absurd z
row-numbered (suc (suc (suc zero))) l u = let z : ⊥ = omega arith in absurd z
row-numbered (suc (suc (suc (suc zero)))) l u = λ M x g. make-numbered M x (by-package x.caller g.caller) _
row-numbered (suc (suc (suc (suc (suc zero))))) l u = λ M x g. make-numbered M x (by-package x.caller g.caller) _
row-numbered (suc (suc (suc (suc (suc (suc zero)))))) l u = λ M x g. make-numbered M x (by-package x.caller g.caller) _
row-numbered (suc (suc (suc (suc (suc (suc (suc zero))))))) l u = λ M x g. make-object-numbered M x (by-package x.caller g.caller)
row-numbered (suc (suc (suc (suc (suc (suc (suc (suc n)))))))) l u = let z : ⊥ = omega arith in absurd z

pub step-numbered : (M : Machine) (x : Call) → 4 ≤ x.number → x.number ≤ 7 → Numbered M x (step M x)
unfolding step
step-numbered M x l u = on-obey Numbered not_done (row_of x.number) (row-numbered x.number l u) M x

-- A run: the serials that it issues to one package ascend, from above its last serial at the start. So none is issued twice.
ascending-from : (k n : ℕ) (ns : List ℕ) → k ≤ n → Ascending n ns → Ascending k ns
ascending-from k n [] l h = tt
ascending-from k n (m ∷ ns) l h = let u = h.0 in (omega arith, h.1)

issued-more : (p : ℕ) (M : Machine) (x : Call) (ns : List ℕ) → sound M ≡ true → Ascending (last_of (after M (step M x)) p) ns → Ascending (last_of M p) (with_serial (makes_for p x) (answer_of (step M x)) ns)
issued-more p M x ns h g = go (makes_for p x) refl (answer_of (step M x)) refl
  where
    grown : last_of M p ≤ last_of (after M (step M x)) p
    grown = ⊎_elim (λ e. omega (arith, e)) (λ e. omega (arith, e.1)) (step-issues M x h p)

    go : (t : Bool) → makes_for p x ≡ t → (y : Answer) → answer_of (step M x) ≡ y → Ascending (last_of M p) (with_serial t y ns)
    go true e (Ok serial) f =
        let a = and_parts (eqb x.caller p) _ e in
        let b = and_parts (leb 4 x.number) (leb x.number 7) a.1 in
        let q : x.caller ≡ p = eqb-true x.caller p a.0 in
        let r = step-numbered M x (leb-true 4 x.number b.0) (leb-true x.number 7 b.1) h serial f in
        let s : last_of (after M (step M x)) p ≡ last_of M p + 1 = subst (λ (k : ℕ). last_of (after M (step M x)) k ≡ last_of M k + 1) q r.1 in
        let t : serial ≡ last_of M p + 1 = subst (λ (k : ℕ). serial ≡ last_of M k + 1) q r.0 in
        (omega arith, ascending-from serial (last_of (after M (step M x)) p) ns (omega arith) g)
    go true e (Err why) f = ascending-from (last_of M p) (last_of (after M (step M x)) p) ns grown g
    go false e y f = ascending-from (last_of M p) (last_of (after M (step M x)) p) ns grown g

pub serials-ascend : (p : ℕ) (M : Machine) (xs : List Call) → AllSixteenBit xs → sound M ≡ true → Ascending (last_of M p) (issued_to p M xs)
unfolding issued_to
serials-ascend p M [] n h = tt
serials-ascend p M (x ∷ xs) n h =
    issued-more p M x (issued_to p (after M (step M x)) xs) h (serials-ascend p (after M (step M x)) xs n.1 (step_keeps M x n.0 h))
