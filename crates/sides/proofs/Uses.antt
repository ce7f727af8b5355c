-- Every checked use of a number that is in no place is refused: by GONE, or by a refusal that is checked before it.
-- Assumes nothing.
use Prim.Native.Nat.{ℕ, ◌≤◌}
use native.Mathlib.Omega.{arith}
use mathlib.Core.Path.{◌≡◌, refl, sym, ap, subst, ◌∙◌}
use mathlib.Core.Logic.{◌⊎◌, inl, inr, ⊎_elim}
use mathlib.Core.Bool.{Bool, true, false, not}
use mathlib.Core.List.{List, [], ◌∷◌, ◌++◌}
use Rattle.things.specs.declared.Capability.{Capability}
use Rattle.things.specs.declared.Refusal.{Refusal}
use Rattle.things.specs.declared.Refusal.TheVariants.{BadNumber}
use Rattle.std.specs.Prelude.{Ok}
use Rattle.things.specs.Lists.{pick}
use Rattle.rules.specs.Machine.{Machine, Body}
use Rattle.rules.specs.Checks.{Check, ◌when◌, Result, refused, answer_of, unless, gone, checked}
use Rattle.rules.specs.Calls
use Rattle.rules.specs.Calls.{named, make, listed_object}
use Rattle.rules.specs.Step.{Call, Row, rows, row_of, good_numbers, obey, step, run}
use Rattle.rules.specs.Sound.{sound}
use Rattle.rules.proofs.KeepCalls.{AllSixteenBit}
use Rattle.rules.proofs.Decide.{does}
use Rattle.things.proofs.ListLaws.{never}
use Rattle.sides.specs.Lasting.{RefusedBy, CheckedSlot, slot_a, slot_b, slot_c, to_gone, to_second_gone, to_entry_gone}
use Rattle.sides.proofs.Deeds.{EachAt, row_at}
use Rattle.sides.proofs.Dead.{dead-stays-dead}

-- ---- every checked use is refused, by GONE or by a refusal before it
by-check : (ws : List Refusal) (c : Check) (cs : List Check) (r : Result) → RefusedBy ws (refused c.refusal) → (c.applies ≡ false → RefusedBy ws (unless cs r)) → RefusedBy ws (unless (c ∷ cs) r)
unfolding unless
by-check ws c cs r h g = go c.applies refl
  where
    go : (b : Bool) → c.applies ≡ b → RefusedBy ws (pick b (refused c.refusal) (unless cs r))
    go true e = h
    go false e = g e

module _ (M : Machine) (c : Capability) (right kind : ℕ) (cs : List Check) (r : Result) where
  first-use : gone M c.object ≡ true → RefusedBy to_gone (unless (checked M c right kind ++ cs) r)
  first-use g =
      by-check to_gone _ _ _ (inr (inl refl)) (λ _.
      by-check to_gone _ _ _ (inr (inr (inl refl))) (λ _.
      by-check to_gone _ _ _ (inr (inr (inr (inl refl)))) (λ e. never (sym g ∙ e))))

  second-use : gone M c.object ≡ true → RefusedBy to_second_gone (unless (checked M c right kind ++ cs) r)
  second-use g =
      by-check to_second_gone _ _ _ (inr (inl refl)) (λ _.
      by-check to_second_gone _ _ _ (inr (inr (inl refl))) (λ _.
      by-check to_second_gone _ _ _ (inr (inr (inr (inl refl)))) (λ e. never (sym g ∙ e))))

  past_first : RefusedBy to_second_gone (unless cs r) → RefusedBy to_second_gone (unless (checked M c right kind ++ cs) r)
  past_first h =
      by-check to_second_gone _ _ _ (inr (inl refl)) (λ _.
      by-check to_second_gone _ _ _ (inr (inr (inl refl))) (λ _.
      by-check to_second_gone _ _ _ (inr (inr (inr (inl refl)))) (λ _.
      by-check to_second_gone _ _ _ (inr (inr (inr (inr (inl refl))))) (λ _. h))))

obey-refused : (ws : List Refusal) (row : Row) (M : Machine) (x : Call) → RefusedBy ws (refused BadNumber) → RefusedBy ws (does row M x) → RefusedBy ws (obey row M x)
unfolding obey unless
obey-refused ws row M x h g = by-check ws (BadNumber when not (good_numbers row x)) [] (does row M x) h (λ _. g)

-- Slot a, which each of the calls 4 to 17 checks.
abbrev UsesA : ℕ → Row → Type 0
UsesA n row = 4 ≤ n → n ≤ 17 → (M : Machine) (x : Call) → gone M (named M x.caller x.a) ≡ true → RefusedBy to_gone (does row M x)

make-use : (body : Body) (M : Machine) (x : Call) → gone M (named M x.caller x.a) ≡ true → RefusedBy to_gone (make body M x.caller x.a x.b x.c x.d)
unfolding make named
make-use body M x g = first-use M _ _ _ _ _ g

rows-use-a : EachAt UsesA 0 rows
unfolding rows named Calls.make_segment Calls.make_directory Calls.make_type Calls.make_object Calls.delete Calls.add_entry Calls.drop_entry Calls.fetch Calls.read Calls.write Calls.copy Calls.set_inner_place Calls.get_inner_place Calls.count
rows-use-a = (
  (λ l u M x g. inl refl),
  (
    (λ l u M x g. let z : ⊥ = omega arith in absurd z),
    (
      (λ l u M x g. let z : ⊥ = omega arith in absurd z),
      (
        (λ l u M x g. let z : ⊥ = omega arith in absurd z),
        (
          (λ l u M x g. make-use _ M x g),
          (
            (λ l u M x g. make-use _ M x g),
            (
              (λ l u M x g. make-use _ M x g),
              (
                (λ l u M x g. first-use M _ _ _ _ _ g),
                (
                  (λ l u M x g. first-use M _ _ _ _ _ g),
                  (
                    (λ l u M x g. first-use M _ _ _ _ _ g),
                    (
                      (λ l u M x g. first-use M _ _ _ _ _ g),
                      (
                        (λ l u M x g. first-use M _ _ _ _ _ g),
                        (
                          (λ l u M x g. first-use M _ _ _ _ _ g),
                          (
                            (λ l u M x g. first-use M _ _ _ _ _ g),
                            (
                              (λ l u M x g. first-use M _ _ _ _ _ g),
                              (
                                (λ l u M x g. first-use M _ _ _ _ _ g),
                                (
                                  (λ l u M x g. first-use M _ _ _ _ _ g),
                                  (
                                    (λ l u M x g. first-use M _ _ _ [] _ g),
                                    tt,
                                  ),
                                ),
                              ),
                            ),
                          ),
                        ),
                      ),
                    ),
                  ),
                ),
              ),
            ),
          ),
        ),
      ),
    ),
  ),
)

pub gone-in-a : (M : Machine) (x : Call) → 4 ≤ x.number → x.number ≤ 17 → gone M (named M x.caller x.a) ≡ true → RefusedBy to_gone (step M x)
unfolding step
gone-in-a M x l u g =
    obey-refused to_gone (row_of x.number) M x (inl refl)
    (subst (λ (n : ℕ). UsesA n (row_of x.number)) (omega arith) (row_at UsesA rows 0 rows-use-a (λ k l u M x g. inl refl) x.number) l u M x g)

-- A second checked slot: c of calls 7 and 14, b of calls 15 and 16.
module _ (ws : List Refusal) (n : ℕ) (M : Machine) (x : Call) (e : x.number ≡ n) where
  step-refused : RefusedBy ws (refused BadNumber) → RefusedBy ws (does (row_of n) M x) → RefusedBy ws (step M x)
  unfolding step
  step-refused h g = obey-refused ws (row_of x.number) M x h (subst (λ (k : ℕ). RefusedBy ws (does (row_of k) M x)) (sym e) g)

gone-in-c : (M : Machine) (x : Call) → (x.number ≡ 7) ⊎ (x.number ≡ 14) → gone M (named M x.caller x.c) ≡ true → RefusedBy to_second_gone (step M x)
unfolding rows named Calls.make_object Calls.copy
gone-in-c M x e g =
    ⊎_elim
    (λ f. step-refused to_second_gone 7 M x f (inl refl) (past_first M _ _ _ _ _ (second-use M _ _ _ _ _ g)))
    (λ f. step-refused to_second_gone 14 M x f (inl refl) (past_first M _ _ _ _ _ (second-use M _ _ _ _ _ g))) e

gone-in-b : (M : Machine) (x : Call) → (x.number ≡ 15) ⊎ (x.number ≡ 16) → gone M (named M x.caller x.b) ≡ true → RefusedBy to_second_gone (step M x)
unfolding rows named Calls.set_inner_place Calls.get_inner_place
gone-in-b M x e g =
    ⊎_elim
    (λ f. step-refused to_second_gone 15 M x f (inl refl) (past_first M _ _ _ _ _ (second-use M _ _ _ _ _ g)))
    (λ f. step-refused to_second_gone 16 M x f (inl refl) (past_first M _ _ _ _ _ (second-use M _ _ _ _ _ g))) e

-- The entry's own capability, in a delete.
pub gone-in-entry : (M : Machine) (x : Call) → x.number ≡ 8 → gone M (listed_object M x.caller x.a x.b) ≡ true → RefusedBy to_entry_gone (step M x)
unfolding rows Calls.delete
gone-in-entry M x e g =
    step-refused to_entry_gone 8 M x e (inl refl)
    (by-check to_entry_gone _ _ _ (inr (inl refl)) (λ _.
    by-check to_entry_gone _ _ _ (inr (inr (inl refl))) (λ _.
    by-check to_entry_gone _ _ _ (inr (inr (inr (inl refl)))) (λ _.
    by-check to_entry_gone _ _ _ (inr (inr (inr (inr (inl refl))))) (λ _.
    by-check to_entry_gone _ _ _ (inr (inr (inr (inr (inr (inl refl)))))) (λ _.
    by-check to_entry_gone _ _ _ (inr (inr (inr (inr (inr (inr (inl refl))))))) (λ _.
    by-check to_entry_gone _ _ _ (inr (inr (inl refl))) (λ _.
    by-check to_entry_gone _ _ _ (inr (inr (inr (inl refl)))) (λ f. never (sym g ∙ f))))))))))

-- Every checked slot.
of_two : (r : Result) → RefusedBy to_gone r → RefusedBy to_second_gone r
of_two r (inl e) = inl e
of_two r (inr (inl e)) = inr (inl e)
of_two r (inr (inr (inl e))) = inr (inr (inl e))
of_two r (inr (inr (inr (inl e)))) = inr (inr (inr (inl e)))
of_two r (inr (inr (inr (inr e)))) = absurd e

pub gone-use-refused : (M : Machine) (x : Call) (i : ℕ) → CheckedSlot x i → gone M (named M x.caller i) ≡ true → RefusedBy to_second_gone (step M x)
gone-use-refused M x i (slot_a l u) g = of_two (step M x) (gone-in-a M x l u g)
gone-use-refused M x i (slot_c e) g = gone-in-c M x e g
gone-use-refused M x i (slot_b e) g = gone-in-b M x e g

-- After a delete and any further tape: a call that checks a slot with a capability on what was deleted is refused.
pub dead-use-refused : (M : Machine) (x : Call) (xs : List Call) → AllSixteenBit (x ∷ xs) → sound M ≡ true → x.number ≡ 8 → (value : ℕ) → answer_of (step M x) ≡ Ok value →
    (y : Call) (i : ℕ) → CheckedSlot y i → named (run M (x ∷ xs)) y.caller i ≡ listed_object M x.caller x.a x.b → RefusedBy to_second_gone (step (run M (x ∷ xs)) y)
dead-use-refused M x xs n h e value d y i c f =
    gone-use-refused (run M (x ∷ xs)) y i c (ap (gone (run M (x ∷ xs))) f ∙ (dead-stays-dead M x xs n h e value d).0)
