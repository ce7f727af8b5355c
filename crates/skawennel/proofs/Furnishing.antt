-- Zero tables that are furnished package by package become the fresh tables.
-- Assumes nothing.
use Prim.Native.Nat.{ℕ, zero, suc, ◌+◌, ◌-◌, ◌*◌, ◌<◌, ◌≤◌}
use native.Mathlib.Omega.{arith}
use native.Mathlib.Numerals.{add-one}
use mathlib.Core.Path.{◌≡◌, refl, sym, ap, subst, ◌∙◌}
use mathlib.Core.List.{List, [], ◌∷◌, ◌++◌, append_assoc}
use lib.ListN.{length, get_or, replicate, replicate-append-replicate}
use lib.Seq.{sets, length-sets}
use Rattle.std.proofs.lemmas.List.{append-nil, length-append, length-replicate, get_or-replicate}
use Rattle.std.proofs.lemmas.Grind.{same_number_lists}
use Rattle.things.specs.Lists.{flat, up_from}
use Rattle.rules.specs.Machine.{PACKAGES, holding, empty_directory, fresh_package, fresh}
use Rattle.tables.specs.Layout.{inside_size, block_size, tables_size, capability_numbers, entry_numbers, inside_numbers, place_numbers, package_numbers, numbers}
use Rattle.tables.specs.Positions.{store, store_all}
use Rattle.tables.specs.Call.{fresh_tables}
use Rattle.tables.proofs.At.{sets-append-left, sets-append-right}
use Rattle.skawennel.specs.Furnished.{shelf_and_desk}

-- The first k numbers of tables are zero; all are, when k is their number.
abbrev pub Zeros : ℕ → List ℕ → Type 0
Zeros k t = (i : ℕ) → i < k → get_or t i 0 ≡ 0

pub zeros_all : (t : List ℕ) (n : ℕ) → tables_size ≤ n → length t ≡ tables_size → Zeros n t → t ≡ replicate tables_size 0
zeros_all t n e l z =
    let long = l ∙ sym (length-replicate {A = ℕ} tables_size 0) in
    let each : (k : ℕ) → k < tables_size → get_or t k 0 ≡ get_or (replicate tables_size 0) k 0 =
    λ k b. z k (omega arith) ∙ sym (get_or-replicate {A = ℕ} tables_size k 0 0 b) in
    same_number_lists t (replicate tables_size 0) long (λ k h. each k (rw l at h))

-- An empty directory in numbers.
pub directory_numbers : (n s : ℕ) → place_numbers (holding n (empty_directory s)) ≡ 2 ∷ n ∷ s ∷ 0 ∷ 0 ∷ replicate inside_size 0
unfolding place_numbers inside_numbers entry_numbers capability_numbers flat
directory_numbers n s = refl

-- What stands for a package, and what for the first n; the others are zero until they are furnished.
abbrev block : ℕ → List ℕ
block p = package_numbers (fresh_package p)

abbrev fresh_to : ℕ → List ℕ
fresh_to n = flat package_numbers (up_from n 0 fresh_package)

unfoldable pub furnished : ℕ → List ℕ
furnished n = fresh_to n ++ replicate (tables_size - block_size * n) 0

block-long : (p : ℕ) → length (block p) ≡ block_size
unfolding package_numbers place_numbers inside_numbers entry_numbers capability_numbers flat
block-long p = refl

-- One package more, from package k on.
one-more : (n k : ℕ) → flat package_numbers (up_from (suc n) k fresh_package) ≡ flat package_numbers (up_from n k fresh_package) ++ block (k + n)
unfolding flat up_from
one-more zero k = let e : k + 0 ≡ k = omega arith in rw e (append-nil (block k))
one-more (suc n) k =
    let e : suc k + n ≡ k + suc n = omega arith in
    let l = flat package_numbers (up_from n (suc k) fresh_package) in
    ap (λ (r : List ℕ). block k ++ r) (one-more n (suc k) ∙ ap (λ (m : ℕ). l ++ block m) e) ∙ sym (append_assoc (block k) l (block (k + suc n)))

fresh_to-more : (n : ℕ) → fresh_to (suc n) ≡ fresh_to n ++ block n
fresh_to-more n = let e : 0 + n ≡ n = omega arith in one-more n 0 ∙ ap (λ (m : ℕ). fresh_to n ++ block m) e

fresh_to-long : (n : ℕ) → length (fresh_to n) ≡ block_size * n
unfolding flat up_from
fresh_to-long zero = omega arith
fresh_to-long (suc n) =
    let e = ap length (fresh_to-more n) ∙ length-append (fresh_to n) (block n) in
    let l = fresh_to-long n in
    let b = block-long n in
    omega (arith, e, l, b)

-- The five runs of numbers that furnish a package, in its block.
abbrev last_run : List ℕ
last_run = 2 ∷ []

abbrev slot_run : ℕ → ℕ → ℕ → List ℕ
slot_run p serial rights = p ∷ serial ∷ rights ∷ []

abbrev place_run : ℕ → ℕ → List ℕ
place_run serial permits = 2 ∷ serial ∷ permits ∷ 0 ∷ 0 ∷ replicate inside_size 0

module _ (p : ℕ) where
  abbrev b₁ : List ℕ → List ℕ
  b₁ z = sets z 0 last_run

  abbrev b₂ : List ℕ → List ℕ
  b₂ z = sets (b₁ z) 1 (slot_run p 1 255)

  abbrev b₃ : List ℕ → List ℕ
  b₃ z = sets (b₂ z) 4 (slot_run p 2 252)

  abbrev b₄ : List ℕ → List ℕ
  b₄ z = sets (b₃ z) 49 (place_run 1 0)

  abbrev b₅ : List ℕ → List ℕ
  b₅ z = sets (b₄ z) 134 (place_run 2 3)

  block-is : b₅ (replicate block_size 0) ≡ block p
  unfolding package_numbers place_numbers inside_numbers entry_numbers capability_numbers flat
  block-is = refl

  module _ (a r : List ℕ) (la : length a ≡ block_size * p) where
    -- a run of stores inside the block
    in-block : (k : ℕ) (vs z : List ℕ) → length z ≡ block_size → k + length vs ≤ block_size → sets (a ++ (z ++ r)) (block_size * p + k) vs ≡ a ++ (sets z k vs ++ r)
    in-block k vs z lz h =
        subst (λ (n : ℕ). sets (a ++ (z ++ r)) (n + k) vs ≡ a ++ (sets z k vs ++ r)) la
        (sets-append-right vs a (z ++ r) k ∙ ap (λ (l : List ℕ). a ++ l) (sets-append-left vs z r k (rw lz h)))

    furnished-block : (z : List ℕ) → length z ≡ block_size → store_all (a ++ (z ++ r)) (shelf_and_desk p) ≡ a ++ (b₅ z ++ r)
    unfolding store_all store shelf_and_desk capability_numbers
    furnished-block z l =
        let l₁ = length-sets z 0 last_run ∙ l in
        let l₂ = length-sets (b₁ z) 1 (slot_run p 1 255) ∙ l₁ in
        let l₃ = length-sets (b₂ z) 4 (slot_run p 2 252) ∙ l₂ in
        let l₄ = length-sets (b₃ z) 49 (place_run 1 0) ∙ l₃ in
        let q : block_size * p ≡ block_size * p + 0 = omega arith in
        let e₁ : sets (a ++ (z ++ r)) (block_size * p) last_run ≡ a ++ (b₁ z ++ r) = rw q (in-block 0 last_run z l (omega arith)) in
        let e₂ = in-block 1 (slot_run p 1 255) (b₁ z) l₁ (omega arith) in
        let e₃ = in-block 4 (slot_run p 2 252) (b₂ z) l₂ (omega arith) in
        let e₄ = in-block 49 (place_run 1 0) (b₃ z) l₃ (omega arith) in
        let e₅ = in-block 134 (place_run 2 3) (b₄ z) l₄ (omega arith) in
        rw (directory_numbers 1 0, directory_numbers 2 3, e₁, e₂, e₃, e₄) e₅

-- Zero tables, one package more, and all.
pub furnished_none : replicate tables_size 0 ≡ furnished 0
unfolding furnished flat up_from
furnished_none = ap (λ (n : ℕ). replicate n 0) (let e : tables_size ≡ tables_size - block_size * 0 = omega arith in e)

pub furnished_one : (p : ℕ) → p < PACKAGES → store_all (furnished p) (shelf_and_desk p) ≡ furnished (p + 1)
unfolding furnished
furnished_one p l =
    let a = fresh_to p in
    let z : List ℕ = replicate block_size 0 in
    let r : List ℕ = replicate (tables_size - block_size * suc p) 0 in
    let e : tables_size - block_size * p ≡ block_size + (tables_size - block_size * suc p) = omega arith in
    let zeros : replicate {A = ℕ} (tables_size - block_size * p) 0 ≡ z ++ r =
    ap (λ (n : ℕ). replicate n 0) e ∙ sym (replicate-append-replicate {A = ℕ} block_size (tables_size - block_size * suc p) 0) in
    ap (λ (l : List ℕ). store_all (a ++ l) (shelf_and_desk p)) zeros
    ∙ furnished-block p a r (fresh_to-long p) z (length-replicate {A = ℕ} block_size 0)
    ∙ ap (λ (l : List ℕ). a ++ (l ++ r)) (block-is p)
    ∙ sym (append_assoc a (block p) r)
    ∙ ap (λ (l : List ℕ). l ++ r) (sym (fresh_to-more p))
    ∙ ap furnished (sym (add-one p))

pub furnished_all : furnished PACKAGES ≡ fresh_tables
unfolding furnished fresh_tables numbers fresh
furnished_all = append-nil (fresh_to PACKAGES)
