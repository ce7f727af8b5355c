-- Demand 3 over lent tables, and what lasts over any tape, of the machine that the tables show.
-- Assumes nothing.
use Prim.Native.Nat.{ℕ, zero, suc, ◌+◌, ◌*◌, ◌<◌}
use native.Mathlib.Omega.{arith}
use mathlib.Core.Path.{◌≡◌, refl, sym, ap, subst, ◌∙◌}
use mathlib.Core.Logic.{◌⊎◌}
use mathlib.Core.Bool.{Bool, true, false, ◌&&◌}
use mathlib.Core.List.{List, [], ◌∷◌, ◌++◌, map}
use lib.ListN.{length, get_or, take, drop}
use lib.Seq.{take_at, drop_at, drop-drop}
use Rattle.things.specs.declared.ObjectNumber.{ObjectNumber}
use Rattle.things.specs.declared.Capability.{Capability}
use Rattle.things.specs.Lists.{every, flat}
use Rattle.things.proofs.ListLaws.{and_parts}
use Rattle.rules.specs.Machine.{PACKAGES, Machine, nobody, package_of, fresh}
use Rattle.rules.specs.Sound.{issued, package_sound, sound}
use Rattle.rules.specs.Checks.{gone}
use Rattle.rules.specs.Step.{Call, run}
use Rattle.rules.proofs.Parts.{sound-eight, sound-each}
use Rattle.rules.proofs.KeepCalls.{AllSixteenBit, run-keeps}
use Rattle.tables.specs.Layout.{block_size, package_numbers, numbers, blocks, package_from, machine}
use Rattle.tables.specs.WellFormed.{well_formed}
use Rattle.tables.specs.Call.{next, run_on, fresh_tables}
use Rattle.tables.proofs.RoundTrip.{package-wide}
use Rattle.tables.proofs.Laws.{fresh-formed, fresh-shown, formed, next-formed, next-shown, run-formed, answers-shown, run-shown}
use Rattle.sides.specs.Sides.{Split, letters_kinds, near_names, far_rights, far_kinds, throughout, not_far_to_near, gives_such, Premises, near_calls, near_answers, SameNear}
use Rattle.sides.specs.Lasting.{Stands, Covered, Written, Fate}
use Rattle.sides.specs.OnTables.{block, throughout_on, PremisesOn, SameBlocks, SameForNearOn}
use Rattle.sides.proofs.Dead.{gone-for-good}
use Rattle.sides.proofs.Grow.{no-right-grows}
use Rattle.sides.proofs.Words.{what-changes-a-word}
use Rattle.sides.proofs.TwoRuns.{demand-3}

-- ---- blocks
blocks_at : {A : Type 0} (g : List ℕ → A) (d : A) (w n : ℕ) (t : List ℕ) (p : ℕ) → p < n → get_or (map g (blocks n w t)) p d ≡ g (take w (drop (p * w) t))
unfolding blocks
blocks_at g d w zero t p l = let z : ⊥ = omega arith in absurd z
blocks_at g d w (suc n) t zero l = let e : 0 * w ≡ 0 = omega arith in ap (λ (k : ℕ). g (take w (drop k t))) (sym e)
blocks_at g d w (suc n) t (suc p) l =
    let e : w + p * w ≡ suc p * w = omega arith in
    blocks_at g d w n (drop w t) p (omega arith) ∙ ap (λ (u : List ℕ). g (take w u)) (drop-drop (p * w) w t ∙ ap (λ (k : ℕ). drop k t) e)

flat-at : {A : Type 0} (f : A → List ℕ) (ok : A → Bool) (w : ℕ) → ((x : A) → ok x ≡ true → length (f x) ≡ w) → (d : A) (xs : List A) → every ok xs ≡ true → (p : ℕ) → p < length xs → take w (drop (p * w) (flat f xs)) ≡ f (get_or xs p d)
unfolding every flat
flat-at f ok w wide d [] h p l = let z : ⊥ = omega arith in absurd z
flat-at f ok w wide d (x ∷ xs) h zero l =
    let q = and_parts (ok x) (every ok xs) h in
    let e : 0 * w ≡ 0 = omega arith in
    ap (λ (k : ℕ). take w (drop k (f x ++ flat f xs))) e ∙ take_at (f x) (flat f xs) w (wide x q.0)
flat-at f ok w wide d (x ∷ xs) h (suc p) l =
    let q = and_parts (ok x) (every ok xs) h in
    let e : suc p * w ≡ w + p * w = omega arith in
    ap (λ (k : ℕ). take w (drop k (f x ++ flat f xs))) e
    ∙ ap (take w) (sym (drop-drop (p * w) w (f x ++ flat f xs)) ∙ ap (drop (p * w)) (drop_at (f x) (flat f xs) w (wide x q.0)))
    ∙ flat-at f ok w wide d xs q.1 p (omega arith)

-- A block shows its package, and is its package's numbers.
block-shows : (t : List ℕ) (p : ℕ) → p < PACKAGES → package_of (machine t) p ≡ package_from (block t p)
unfolding package_of machine block
block-shows t p l = blocks_at package_from nobody block_size PACKAGES t p l

block-is : (M : Machine) (p : ℕ) → sound M ≡ true → p < PACKAGES → block (numbers M) p ≡ package_numbers (package_of M p)
unfolding package_of numbers block
block-is M p h l = flat-at package_numbers (package_sound (issued M)) block_size (package-wide (issued M)) nobody M (sound-each M h) p (rw (sound-eight M h) l)

-- ---- the premises at each moment
through-shown : (f : Machine → Call → Bool) (t : List ℕ) (xs : List Call) → AllSixteenBit xs → well_formed t ≡ true → throughout_on f t xs ≡ throughout f (machine t) xs
unfolding throughout_on throughout
through-shown f t [] n h = refl
through-shown f t (x ∷ xs) n h =
    ap (λ (b : Bool). f (machine t) x && b) (through-shown f (next t x) xs n.1 (next-formed t x n.0 h) ∙ ap (λ (M : Machine). throughout f M xs) (next-shown t x n.0 h))

premises-shown : (kinds : List ℕ) (near : Split) (t : List ℕ) (xs : List Call) → AllSixteenBit xs → PremisesOn kinds near t xs → Premises kinds near (machine t) xs
premises-shown kinds near t xs n p = record {
  well-formed = (formed t p.well-formed).sound-shown;
  near-names = p.near-names;
  far-rights = p.far-rights;
  far-kinds = p.far-kinds;
  none-back = sym (through-shown (not_far_to_near near) t xs n p.well-formed) ∙ p.none-back;
  only-such = sym (through-shown (gives_such kinds near) t xs n p.well-formed) ∙ p.only-such;
}

same-shown : (near : Split) (t u : List ℕ) → SameBlocks near t u → SameNear near (machine t) (machine u)
same-shown near t u s p l n = block-shows t p l ∙ ap package_from (s p l n) ∙ sym (block-shows u p l)

end-block : (t : List ℕ) (xs : List Call) (p : ℕ) → AllSixteenBit xs → well_formed t ≡ true → p < PACKAGES → block (run_on t xs) p ≡ package_numbers (package_of (run (machine t) xs) p)
end-block t xs p n h l =
    let f = formed (run_on t xs) (run-formed t xs n h) in
    let e : numbers (run (machine t) xs) ≡ run_on t xs = sym (ap numbers (run-shown t xs n h)) ∙ f.shown in
    ap (λ (v : List ℕ). block v p) (sym e) ∙ block-is (run (machine t) xs) p (run-keeps (machine t) xs n (formed t h).sound-shown) l

-- Demand 3, as the letter has it, over lent tables.
pub demand-3-on-tables : (near : Split) (t u : List ℕ) (xs ys : List Call) → AllSixteenBit xs → AllSixteenBit ys →
    PremisesOn letters_kinds near t xs → PremisesOn letters_kinds near u ys → SameBlocks near t u → near_calls near xs ≡ near_calls near ys → SameForNearOn near t xs u ys
demand-3-on-tables near t u xs ys m n p q s c =
    let d = demand-3 near (machine t) (machine u) xs ys m n (premises-shown letters_kinds near t xs m p) (premises-shown letters_kinds near u ys n q) (same-shown near t u s) c in
    record {
      answers-same = ap (near_answers near xs) (answers-shown t xs m p.well-formed) ∙ d.answers-same ∙ sym (ap (near_answers near ys) (answers-shown u ys n q.well-formed));
      ends_same = λ r l k. end-block t xs r m p.well-formed l ∙ ap package_numbers (d.ends_same r l k) ∙ sym (end-block u ys r n q.well-formed l);
    }

-- What qualifies from the fresh machine qualifies from fresh tables.
pub fresh-tables-qualify : (kinds : List ℕ) (near : Split) (xs : List Call) → AllSixteenBit xs → Premises kinds near fresh xs → PremisesOn kinds near fresh_tables xs
fresh-tables-qualify kinds near xs n p = record {
  well-formed = fresh-formed;
  near-names = ap (near_names near) fresh-shown ∙ p.near-names;
  far-rights = ap (far_rights near) fresh-shown ∙ p.far-rights;
  far-kinds = ap (far_kinds kinds near) fresh-shown ∙ p.far-kinds;
  none-back = through-shown (not_far_to_near near) fresh_tables xs n fresh-formed ∙ ap (λ (M : Machine). throughout (not_far_to_near near) M xs) fresh-shown ∙ p.none-back;
  only-such = through-shown (gives_such kinds near) fresh_tables xs n fresh-formed ∙ ap (λ (M : Machine). throughout (gives_such kinds near) M xs) fresh-shown ∙ p.only-such;
}

-- ---- what lasts, of tables
module _ (t : List ℕ) (xs : List Call) (n : AllSixteenBit xs) (h : well_formed t ≡ true) where
  pub no-right-grows-on-tables : (c : Capability) → Stands (machine (run_on t xs)) c → issued (machine t) c.object ≡ true → Covered (machine t) c
  no-right-grows-on-tables c s u =
      no-right-grows (machine t) xs c n (formed t h).sound-shown (subst (λ (M : Machine). Stands M c) (run-shown t xs n h) s) u

  pub what-changes-a-word-on-tables : (o : ObjectNumber) (k : ℕ) → gone (machine t) o ≡ false → Written (machine t) xs o k ⊎ Fate (machine t) (machine (run_on t xs)) o k
  what-changes-a-word-on-tables o k g =
      subst (λ (M : Machine). Written (machine t) xs o k ⊎ Fate (machine t) M o k) (sym (run-shown t xs n h)) (what-changes-a-word (machine t) xs o k n (formed t h).sound-shown g)

  pub gone-for-good-on-tables : (o : ObjectNumber) → issued (machine t) o ≡ true → gone (machine t) o ≡ true → gone (machine (run_on t xs)) o ≡ true
  gone-for-good-on-tables o u g =
      subst (λ (M : Machine). gone M o ≡ true) (sym (run-shown t xs n h)) (gone-for-good (machine t) xs o n (formed t h).sound-shown u g)
