-- Demand 3: two runs that each meet the premises, with the same near tables and the same near calls in the same order, give
-- the near side the same answers and values, and leave its slots, places and last serials the same.
-- Assumes nothing.
use Prim.Native.Nat.{ℕ, zero, suc, ◌≤◌}
use native.Mathlib.Omega.{arith}
use mathlib.Core.Path.{◌≡◌, refl, sym, ap, subst, ◌∙◌}
use mathlib.Core.Bool.{Bool, true, false}
use mathlib.Core.List.{List, [], ◌∷◌}
use lib.ListN.{length, get_or, set, get_or-eq_default}
use lib.Dec.{eqb, ltb}
use borrow.Author.Tests.{ltb-true, ltb-false}
use Rattle.things.specs.Lists.{some}
use Rattle.things.proofs.ListLaws.{and_parts}
use Rattle.rules.specs.Machine.{PACKAGES, DIRECTORY, EXTENDED, Machine, nobody, package_of}
use Rattle.rules.specs.Changes.{Change, target, changed, apply, apply_all}
use Rattle.rules.specs.Checks.{Result, refused, done, answer_of, after}
use Rattle.rules.specs.Step.{Call, step, answers, run}
use Rattle.rules.proofs.Parts.{sound-eight}
use Rattle.rules.proofs.KeepCalls.{AllSixteenBit}
use Rattle.sides.specs.Sides.{Split, letters_kinds, throughout, not_far_to_near, gives_such, Premises, side_of, is_near, keep_if, near_calls, near_answers, SameNear, SameForNear}
use Rattle.sides.proofs.Dead.{apply-length}
use Rattle.sides.proofs.Has.{Has}
use Rattle.sides.proofs.Twin.{NearOnly, twin, step_same}
use Rattle.sides.proofs.Confined.{May, Kept, start-kept}
use Rattle.sides.proofs.OneCall.{step_kept, far-untouched}

-- ---- the same changes on machines that have package q the same
set-alike : {A : Type 0} (d : A) (f : A → A) (xs ys : List A) (i j : ℕ) → length xs ≡ length ys → get_or xs j d ≡ get_or ys j d → get_or (set xs i (f (get_or xs i d))) j d ≡ get_or (set ys i (f (get_or ys i d))) j d
set-alike d f [] [] i j l h = refl
set-alike d f [] (y ∷ ys) i j l h = let z : ⊥ = omega arith in absurd z
set-alike d f (x ∷ xs) [] i j l h = let z : ⊥ = omega arith in absurd z
set-alike d f (x ∷ xs) (y ∷ ys) zero zero l h = ap f h
set-alike d f (x ∷ xs) (y ∷ ys) zero (suc j) l h = h
set-alike d f (x ∷ xs) (y ∷ ys) (suc i) zero l h = h
set-alike d f (x ∷ xs) (y ∷ ys) (suc i) (suc j) l h = set-alike d f xs ys i j (omega arith) h

apply-alike : (M N : Machine) (y : Change) (q : ℕ) → length M ≡ length N → package_of M q ≡ package_of N q → package_of (apply M y) q ≡ package_of (apply N y) q
unfolding package_of apply
apply-alike M N y q l h = set-alike nobody (λ P. changed P y) M N (target y) q l h

all_alike : (M N : Machine) (ys : List Change) (q : ℕ) → length M ≡ length N → package_of M q ≡ package_of N q → package_of (apply_all M ys) q ≡ package_of (apply_all N ys) q
unfolding apply_all
all_alike M N [] q l h = h
all_alike M N (y ∷ ys) q l h = all_alike (apply M y) (apply N y) ys q (apply-length M y ∙ l ∙ sym (apply-length N y)) (apply-alike M N y q l h)

after-alike : (M N : Machine) (r : Result) (q : ℕ) → length M ≡ length N → package_of M q ≡ package_of N q → package_of (after M r) q ≡ package_of (after N r) q
after-alike M N (refused why) q l h = h
after-alike M N (done value ys) q l h = all_alike M N ys q l h

-- ---- what is left of a run that meets the premises
module _ (kinds : List ℕ) (near : Split) where
  record Live (M : Machine) (xs : List Call) : Type 0 where
    kept : Kept kinds near M
    sixteen : AllSixteenBit xs
    back : throughout (not_far_to_near near) M xs ≡ true
    such : throughout (gives_such kinds near) M xs ≡ true

  abbrev Alike : Machine → Machine → Type 0
  Alike M N = (q : ℕ) → near q ≡ true → package_of M q ≡ package_of N q

  record Same (M : Machine) (xs : List Call) (N : Machine) (ys : List Call) : Type 0 where
    answers-same : near_answers near xs (answers M xs) ≡ near_answers near ys (answers N ys)
    ends_same : Alike (run M xs) (run N ys)

through-parts : (f : Machine → Call → Bool) (M : Machine) (x : Call) (xs : List Call) → throughout f M (x ∷ xs) ≡ true → (f M x ≡ true) × (throughout f (after M (step M x)) xs ≡ true)
unfolding throughout
through-parts f M x xs h = and_parts (f M x) (throughout f (after M (step M x)) xs) h

-- One call more at the head of a run.
module _ (near : Split) (M : Machine) (x : Call) (xs : List Call) where
  answers-near : is_near near x ≡ true → near_answers near (x ∷ xs) (answers M (x ∷ xs)) ≡ answer_of (step M x) ∷ near_answers near xs (answers (after M (step M x)) xs)
  unfolding near_answers answers
  answers-near e = ap (λ (b : Bool). keep_if b (answer_of (step M x)) (near_answers near xs (answers (after M (step M x)) xs))) e

  answers-far : is_near near x ≡ false → near_answers near (x ∷ xs) (answers M (x ∷ xs)) ≡ near_answers near xs (answers (after M (step M x)) xs)
  unfolding near_answers answers
  answers-far e = ap (λ (b : Bool). keep_if b (answer_of (step M x)) (near_answers near xs (answers (after M (step M x)) xs))) e

  calls_near : is_near near x ≡ true → near_calls near (x ∷ xs) ≡ x ∷ near_calls near xs
  unfolding near_calls
  calls_near e = ap (λ (b : Bool). keep_if b x (near_calls near xs)) e

  calls-far : is_near near x ≡ false → near_calls near (x ∷ xs) ≡ near_calls near xs
  unfolding near_calls
  calls-far e = ap (λ (b : Bool). keep_if b x (near_calls near xs)) e

  run_more : run M (x ∷ xs) ≡ run (after M (step M x)) xs
  unfolding run
  run_more = refl

same_head : {A : Type 0} (x y : A) (xs ys : List A) → x ∷ xs ≡ y ∷ ys → x ≡ y
same_head x y xs ys e = cc

same-tail : {A : Type 0} (x y : A) (xs ys : List A) → x ∷ xs ≡ y ∷ ys → xs ≡ ys
same-tail x y xs ys e = cc

no-head : {A : Type 0} (x : A) (xs : List A) → [] ≡ x ∷ xs → ⊥
no-head x xs e = let z : ◌≡◌ {A = ℕ} 0 1 = cc in omega arith

side-near : (near : Split) (x : Call) → is_near near x ≡ true → near (side_of x) ≡ true
unfolding is_near
side-near near x e = (and_parts (ltb (side_of x) PACKAGES) (near (side_of x)) e).1

module _ (kinds : List ℕ) (near : Split) (directories : some (eqb DIRECTORY) kinds ≡ true) (extendeds : some (eqb EXTENDED) kinds ≡ true) where
  live-next : (M : Machine) (x : Call) (xs : List Call) → Live kinds near M (x ∷ xs) → Live kinds near (after M (step M x)) xs
  live-next M x xs l =
      let b = through-parts (not_far_to_near near) M x xs l.back in
      let s = through-parts (gives_such kinds near) M x xs l.such in
      record { kept = step_kept kinds near directories extendeds M l.kept x b.0 s.0 l.sixteen.0; sixteen = l.sixteen.1; back = b.1; such = s.1 }

  far-alike : (M : Machine) (x : Call) (xs : List Call) → Live kinds near M (x ∷ xs) → is_near near x ≡ false → Alike kinds near (after M (step M x)) M
  far-alike M x xs l e =
      far-untouched kinds near directories extendeds M l.kept x (through-parts (not_far_to_near near) M x xs l.back).0 (through-parts (gives_such kinds near) M x xs l.such).0 e

  -- a near call has the same result on both, and leaves them alike
  near-has : (M : Machine) → Kept kinds near M → (q : ℕ) → near q ≡ true → Has (NearOnly near) (package_of M q)
  near-has M k q n = subst (λ (b : Bool). Has (May kinds near M b) (package_of M q)) n (k.have q)

  near_same : (M N : Machine) (x : Call) → Kept kinds near M → Kept kinds near N → Alike kinds near M N → is_near near x ≡ true → step M x ≡ step N x
  near_same M N x k l a e =
      step_same M N x (twin near M N (record { one = k.sound-kept; two = l.sound-kept; same = a }) (near-has N l) (side_of x) (side-near near x e))

  near-alike : (M N : Machine) (x : Call) → Kept kinds near M → Kept kinds near N → Alike kinds near M N → is_near near x ≡ true → Alike kinds near (after M (step M x)) (after N (step N x))
  near-alike M N x k l a e q n =
      ap (λ (r : Result). package_of (after M r) q) (near_same M N x k l a e)
      ∙ after-alike M N (step N x) q (sound-eight M k.sound-kept ∙ sym (sound-eight N l.sound-kept)) (a q n)

  -- far calls at the head of either run
  skip-left : (M : Machine) (x : Call) (xs : List Call) (N : Machine) (ys : List Call) → is_near near x ≡ false → Same kinds near (after M (step M x)) xs N ys → Same kinds near M (x ∷ xs) N ys
  skip-left M x xs N ys e s = record { answers-same = answers-far near M x xs e ∙ s.answers-same; ends_same = λ q n. ap (λ (K : Machine). package_of K q) (run_more near M x xs) ∙ s.ends_same q n }

  skip-right : (M : Machine) (xs : List Call) (N : Machine) (y : Call) (ys : List Call) → is_near near y ≡ false → Same kinds near M xs (after N (step N y)) ys → Same kinds near M xs N (y ∷ ys)
  skip-right M xs N y ys e s = record { answers-same = s.answers-same ∙ sym (answers-far near N y ys e); ends_same = λ q n. s.ends_same q n ∙ sym (ap (λ (K : Machine). package_of K q) (run_more near N y ys)) }

  -- the same near call at the head of both
  both : (M N : Machine) (x : Call) (xs ys : List Call) → is_near near x ≡ true → step M x ≡ step N x → Same kinds near (after M (step M x)) xs (after N (step N x)) ys → Same kinds near M (x ∷ xs) N (x ∷ ys)
  both M N x xs ys e r s = record {
    answers-same = answers-near near M x xs e ∙ (let a = s.answers-same in cc) ∙ sym (answers-near near N x ys e);
    ends_same = λ q n. ap (λ (K : Machine). package_of K q) (run_more near M x xs) ∙ s.ends_same q n ∙ sym (ap (λ (K : Machine). package_of K q) (run_more near N x ys));
  }

  -- only far calls are left
  no_near : (M N : Machine) (ys : List Call) → Live kinds near N ys → Alike kinds near M N → [] ≡ near_calls near ys → Same kinds near M [] N ys
  unfolding near_answers answers run
  no_near M N [] l a c = record { answers-same = refl; ends_same = a }
  no_near M N (y ∷ ys) l a c = go (is_near near y) refl (no_near M (after N (step N y)) ys)
    where
      go : (b : Bool) → is_near near y ≡ b → (Live kinds near (after N (step N y)) ys → Alike kinds near M (after N (step N y)) → [] ≡ near_calls near ys → Same kinds near M [] (after N (step N y)) ys) → Same kinds near M [] N (y ∷ ys)
      go true e r = absurd (no-head y (near_calls near ys) (c ∙ calls_near near N y ys e))
      go false e r = skip-right M [] N y ys e (r (live-next N y ys l) (λ q n. a q n ∙ sym (far-alike N y ys l e q n)) (c ∙ calls-far near N y ys e))

  -- the next near call of the second run is x, after far ones
  meet : (M : Machine) (x : Call) (xs : List Call) (N : Machine) (ys : List Call) → Live kinds near N ys → Alike kinds near M N → x ∷ near_calls near xs ≡ near_calls near ys →
      ((K : Machine) (zs : List Call) → Live kinds near K (x ∷ zs) → Alike kinds near M K → near_calls near xs ≡ near_calls near zs → Same kinds near M (x ∷ xs) K (x ∷ zs)) →
      Same kinds near M (x ∷ xs) N ys
  unfolding near_calls
  meet M x xs N [] l a c k = absurd (no-head x (near_calls near xs) (sym c))
  meet M x xs N (y ∷ ys) l a c k = go (is_near near y) refl (meet M x xs (after N (step N y)) ys)
    where
      go : (b : Bool) → is_near near y ≡ b →
          (Live kinds near (after N (step N y)) ys → Alike kinds near M (after N (step N y)) → x ∷ near_calls near xs ≡ near_calls near ys →
          ((K : Machine) (zs : List Call) → Live kinds near K (x ∷ zs) → Alike kinds near M K → near_calls near xs ≡ near_calls near zs → Same kinds near M (x ∷ xs) K (x ∷ zs)) →
          Same kinds near M (x ∷ xs) (after N (step N y)) ys) → Same kinds near M (x ∷ xs) N (y ∷ ys)
      go true e r =
          let f : x ∷ near_calls near xs ≡ y ∷ near_calls near ys = c ∙ calls_near near N y ys e in
          let h : x ≡ y = same_head x y (near_calls near xs) (near_calls near ys) f in
          subst (λ (z : Call). Same kinds near M (x ∷ xs) N (z ∷ ys)) h
          (k N ys (subst (λ (z : Call). Live kinds near N (z ∷ ys)) (sym h) l) a (same-tail x y (near_calls near xs) (near_calls near ys) f))
      go false e r = skip-right M (x ∷ xs) N y ys e (r (live-next N y ys l) (λ q n. a q n ∙ sym (far-alike N y ys l e q n)) (c ∙ calls-far near N y ys e) k)

  two : (M : Machine) (xs : List Call) (N : Machine) (ys : List Call) → Live kinds near M xs → Live kinds near N ys → Alike kinds near M N → near_calls near xs ≡ near_calls near ys → Same kinds near M xs N ys
  unfolding near_calls
  two M [] N ys l k a c = no_near M N ys k a c
  two M (x ∷ xs) N ys l k a c = go (is_near near x) refl (two (after M (step M x)) xs)
    where
      go : (b : Bool) → is_near near x ≡ b →
          ((K : Machine) (zs : List Call) → Live kinds near (after M (step M x)) xs → Live kinds near K zs → Alike kinds near (after M (step M x)) K → near_calls near xs ≡ near_calls near zs → Same kinds near (after M (step M x)) xs K zs) →
          Same kinds near M (x ∷ xs) N ys
      go true e r =
          meet M x xs N ys k a (sym (calls_near near M x xs e) ∙ c) (λ K zs m b d.
          both M K x xs zs e (near_same M K x l.kept m.kept b e)
          (r (after K (step K x)) zs (live-next M x xs l) (live-next K x zs m) (near-alike M K x l.kept m.kept b e) d))
      go false e r =
          skip-left M x xs N ys e (r N ys (live-next M x xs l) k (λ q n. far-alike M x xs l e q n ∙ a q n) (sym (calls-far near M x xs e) ∙ c))

  -- the premises on the start hold again at the end
  run-live : (M : Machine) (xs : List Call) → Live kinds near M xs → Kept kinds near (run M xs)
  unfolding run
  run-live M [] l = l.kept
  run-live M (x ∷ xs) l = run-live (after M (step M x)) xs (live-next M x xs l)

live : (kinds : List ℕ) (near : Split) (M : Machine) (xs : List Call) → AllSixteenBit xs → Premises kinds near M xs → Live kinds near M xs
live kinds near M xs n p = record { kept = start-kept kinds near M p.well-formed p.near-names p.far-rights p.far-kinds; sixteen = n; back = p.none-back; such = p.only-such }

-- Packages above 7 are none, on both.
all_near : (near : Split) (M N : Machine) → length M ≡ PACKAGES → length N ≡ PACKAGES → SameNear near M N → (q : ℕ) → near q ≡ true → package_of M q ≡ package_of N q
unfolding package_of
all_near near M N l k a q n = go (ltb q PACKAGES) refl
  where
    go : (b : Bool) → ltb q PACKAGES ≡ b → get_or M q nobody ≡ get_or N q nobody
    go true e = a q (ltb-true q PACKAGES e) n
    go false e =
        let o = ltb-false q PACKAGES e in
        let u : length M ≤ q = rw l o in
        let v : length N ≤ q = rw k o in
        get_or-eq_default M nobody u ∙ sym (get_or-eq_default N nobody v)

-- Demand 3, with any list of kinds that the far side mayn't name while they live, if directories and extended objects are on it.
pub two_runs : (kinds : List ℕ) → some (eqb DIRECTORY) kinds ≡ true → some (eqb EXTENDED) kinds ≡ true → (near : Split) (M N : Machine) (xs ys : List Call) → AllSixteenBit xs → AllSixteenBit ys →
    Premises kinds near M xs → Premises kinds near N ys → SameNear near M N → near_calls near xs ≡ near_calls near ys → SameForNear near M xs N ys
two_runs kinds d e near M N xs ys m n p q a c =
    let s = two kinds near d e M xs N ys (live kinds near M xs m p) (live kinds near N ys n q) (all_near near M N (sound-eight M p.well-formed) (sound-eight N q.well-formed) a) c in
    record { answers-same = s.answers-same; ends_same = λ r l k. s.ends_same r k }

-- Demand 3, as the letter has it.
pub demand-3 : (near : Split) (M N : Machine) (xs ys : List Call) → AllSixteenBit xs → AllSixteenBit ys →
    Premises letters_kinds near M xs → Premises letters_kinds near N ys → SameNear near M N → near_calls near xs ≡ near_calls near ys → SameForNear near M xs N ys
unfolding some
demand-3 = two_runs letters_kinds refl refl

-- The far side may name living near types: the premise "no type" carries no weight.
pub types-may-be-named : (near : Split) (M N : Machine) (xs ys : List Call) → AllSixteenBit xs → AllSixteenBit ys →
    Premises (DIRECTORY ∷ EXTENDED ∷ []) near M xs → Premises (DIRECTORY ∷ EXTENDED ∷ []) near N ys → SameNear near M N → near_calls near xs ≡ near_calls near ys → SameForNear near M xs N ys
unfolding some
types-may-be-named = two_runs (DIRECTORY ∷ EXTENDED ∷ []) refl refl

pub run-kept : (near : Split) (M : Machine) (xs : List Call) → AllSixteenBit xs → Premises letters_kinds near M xs → Kept letters_kinds near (run M xs)
unfolding some
run-kept near M xs n p = run-live letters_kinds near refl refl M xs (live letters_kinds near M xs n p)
