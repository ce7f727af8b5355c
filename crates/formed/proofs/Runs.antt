-- What a loop over the blocks of a list finds: all of them formed, a number of each, all numbers zero, all distinct.
-- Assumes nothing.
use Prim.Native.Nat.{ℕ, zero, suc, ◌+◌, ◌*◌, ◌/◌, ◌<◌, ◌≤◌}
use Rattle.std.proofs.lemmas.Nat.{div-mul-add}
use native.Mathlib.Omega.{arith}
use mathlib.Core.Path.{◌≡◌, refl, sym, ap, subst, ◌∙◌}
use mathlib.Core.Bool.{Bool, true, false, not, ◌&&◌, ◌||◌, and-true}
use mathlib.Core.List.{List, [], ◌∷◌, map}
use lib.Bits.{bit_or, or_add_and, and_le_l}
use lib.ListN.{length, get_or, take, drop, set, replicate, length-map, get_or-map, length-replicate, get_or-replicate}
use lib.Seq.{get_or-take, get_or-drop, drop-drop, take_all, ext_get_or}
use lib.Dec.{eqb, leb}
use borrow.Author.Tests.{eqb-true, eqb-false, eq-eqb, ne_eqb, leb-true, le-leb, not-true}
use Rattle.things.specs.Lists.{pick, every, some, how_many, distinct}
use Rattle.things.proofs.ListLaws.{and_parts, and_both, never}
use Rattle.tables.specs.Layout.{blocks}
use Rattle.tables.specs.WellFormed.{same}
use Rattle.tables.proofs.Laws.{same-is, same_self}
use Rattle.std.specs.List.{fold, sum}
use Rattle.std.specs.Fn.{Mut, Called}
use Rattle.std.proofs.lemmas.List.{drop-take, take-take}
use Rattle.std.specs.Array.{IsFromFnResultFrom}
use Rattle.std.specs.Simd.{first_chunks}
use Rattle.std.specs.Int.{from_bool}
use Rattle.formed.specs.Block.{is_zero, column}

-- Tests that imply each other are equal.
pub both : (a b : Bool) → (a ≡ true → b ≡ true) → (b ≡ true → a ≡ true) → a ≡ b
both true b f g = sym (f refl)
both false true f g = g refl
both false false f g = refl

and-turn : (a b c : Bool) → a && (b && c) ≡ (a && b) && c
and-turn true b c = refl
and-turn false b c = refl

-- ---- all
every_from : {A : Type 0} (f : A → Bool) (fine : Bool) (xs : List A) → fold (λ b x. b && f x) fine xs ≡ fine && every f xs
unfolding every
every_from f fine [] = sym (and-true fine)
every_from f fine (x ∷ xs) = every_from f (fine && f x) xs ∙ sym (and-turn fine (f x) (every f xs))

pub every_folded : {A : Type 0} (f : A → Bool) (xs : List A) (r : Bool) → r ≡ fold (λ b x. b && f x) true xs → r ≡ every f xs
every_folded f xs r e = e ∙ every_from f true xs

-- ---- parts: what stands from k on, where n numbers do
pub tail : (k n : ℕ) (x : List ℕ) → length x ≡ k + n → take n (drop k x) ≡ drop k x
tail k n x l = take_all n (drop k x) (rw (lib.ListN.length-drop k x) (omega arith))

-- ---- blocks
pub length-blocks : (n w : ℕ) (x : List ℕ) → length (blocks n w x) ≡ n
unfolding blocks
length-blocks zero w x = refl
length-blocks (suc n) w x = ap suc (length-blocks n w (drop w x))

pub blocks_at : (n w : ℕ) (x : List ℕ) (i : ℕ) → i < n → get_or (blocks n w x) i [] ≡ take w (drop (w * i) x)
unfolding blocks
blocks_at zero w x i l = let z : ⊥ = omega arith in absurd z
blocks_at (suc n) w x zero l = let e : w * 0 ≡ 0 = omega arith in rw e
blocks_at (suc n) w x (suc i) l =
    let e : w * suc i ≡ w + w * i = omega arith in
    rw (e, blocks_at n w (drop w x) i (omega arith), drop-drop (w * i) w x)

pub chunks : (n w : ℕ) (x : List ℕ) → first_chunks w n x ≡ blocks n w x
unfolding blocks
chunks zero w x = refl
chunks (suc n) w x = ap (λ (bs : List (List ℕ)). take w x ∷ bs) (chunks n w (drop w x))

pub every_block : (f : List ℕ → Bool) (n w : ℕ) (x : List ℕ) (bs : List (List ℕ)) (r : Bool) → r ≡ every f bs → bs ≡ first_chunks w n x → r ≡ every f (blocks n w x)
every_block f n w x bs r e h = e ∙ ap (every f) (h ∙ chunks n w x)

-- The same, of all that stands from k on.
pub every_from_on : (f : List ℕ → Bool) (k n w : ℕ) (x : List ℕ) (bs : List (List ℕ)) (r : Bool) → 0 < w → length x ≡ k + n * w → r ≡ every f bs → bs ≡ first_chunks w (length (take (n * w) (drop k x)) / w) (take (n * w) (drop k x)) → r ≡ every f (blocks n w (drop k x))
every_from_on f k n w x bs r p l e h =
    let t : take (n * w) (drop k x) ≡ drop k x = tail k (n * w) x l in
    let m : length (drop k x) ≡ n * w + 0 = rw (lib.ListN.length-drop k x) (omega arith) in
    every_block f n w (drop k x) bs r e (rw (t, m, div-mul-add n w 0 p) at h)

-- What stands behind the blocks is not looked at.
pub blocks_of_part : (n w : ℕ) (x : List ℕ) → blocks n w (take (n * w) x) ≡ blocks n w x
unfolding blocks
blocks_of_part zero w x = refl
blocks_of_part (suc n) w x =
    let e : suc n * w ≡ w + n * w = omega arith in
    rw (e, drop-take w (n * w) x, take-take w (w + n * w) x (omega arith), blocks_of_part n w (drop w x))

-- ---- a number of each block
pub column-long : (n w k : ℕ) (x : List ℕ) → length (column k (blocks n w x)) ≡ n
unfolding column
column-long n w k x = length-map (blocks n w x) (λ (y : List ℕ). get_or y k 0) ∙ length-blocks n w x

module _ {F : Type 0} (g : Mut F (ℕ × Unit {0}) ℕ) (f : F) (h : ℕ → ℕ) (ns : List ℕ) (acts : (i r : ℕ) (q : F) → Called g f (i, tt) r q → (q ≡ f) × (r ≡ h i)) where
  made_from : (i n : ℕ) → IsFromFnResultFrom g f ns i n → (j : ℕ) → j < n → get_or ns (i + j) 0 ≡ h (i + j)
  made_from i zero m j l = let z : ⊥ = omega arith in absurd z
  made_from i (suc n) m zero l =
      let z : i + 0 ≡ i = omega arith in
      rw z (m.2.1 0 ∙ (acts i m.1 m.0 m.3).1)
  made_from i (suc n) m (suc j) l =
      let z : i + suc j ≡ i + 1 + j = omega arith in
      let r : IsFromFnResultFrom g f ns (i + 1) n = subst (λ (q : F). IsFromFnResultFrom g q ns (i + 1) n) (acts i m.1 m.0 m.3).0 m.4 in
      rw z (made_from (i + 1) n r j (omega arith))

  pub made : (n : ℕ) → IsFromFnResultFrom g f ns 0 n → (j : ℕ) → j < n → get_or ns j 0 ≡ h j
  made n m j l = let z : 0 + j ≡ j = omega arith in rw (← z) (made_from 0 n m j l)

pub column-is : (n w k : ℕ) (x ns : List ℕ) → length ns ≡ n → k < w → ((j : ℕ) → j < n → get_or ns j 0 ≡ get_or x (w * j + k) 0) → ns ≡ column k (blocks n w x)
unfolding column
column-is n w k x ns l b h =
    ext_get_or 0 ns (column k (blocks n w x)) (l ∙ sym (column-long n w k x))
    (λ j g.
    let g' : j < n = rw l at g in
    h j g'
    ∙ sym
    (get_or-map (λ (y : List ℕ). get_or y k 0) (blocks n w x) j []
    ∙ rw (blocks_at n w x j g', get_or-take w (drop (w * j) x) k 0 b, get_or-drop (w * j) x k 0)))

-- ---- zeros
pub zero_is : (x : List ℕ) → is_zero x ≡ true → x ≡ replicate (length x) 0
unfolding is_zero
zero_is x h = same-is x (replicate (length x) 0) h

pub is-zero : (x : List ℕ) (n : ℕ) → x ≡ replicate n 0 → is_zero x ≡ true
unfolding is_zero
is-zero x n e =
    let z : List ℕ = replicate n 0 in
    let l : length z ≡ n = length-replicate {A = ℕ} n 0 in
    rw (e, l) (same_self z)

-- An or is zero just where both are.
pub or-zero : (a b : ℕ) → bit_or a b ≡ 0 → (a ≡ 0) × (b ≡ 0)
or-zero a b h =
    let s = or_add_and a b in
    let l = and_le_l a b in
    let m = lib.Bits.and_le_r a b in
    (omega arith, omega arith)

or-is-zero : (a b : ℕ) → eqb (bit_or a b) 0 ≡ eqb a 0 && eqb b 0
or-is-zero a b =
    both (eqb (bit_or a b) 0) (eqb a 0 && eqb b 0)
    (λ h. let p = or-zero a b (eqb-true (bit_or a b) 0 h) in and_both (eq-eqb a 0 p.0) (eq-eqb b 0 p.1))
    (λ h.
    let p = and_parts (eqb a 0) (eqb b 0) h in
    rw (eqb-true a 0 p.0, eqb-true b 0 p.1))

zeros_from : (a : ℕ) (x : List ℕ) → eqb (fold bit_or a x) 0 ≡ eqb a 0 && is_zero x
unfolding is_zero same
zeros_from a [] = sym (and-true (eqb a 0))
zeros_from a (b ∷ x) = rw (zeros_from (bit_or a b) x, or-is-zero a b) (sym (and-turn (eqb a 0) (eqb b 0) (is_zero x)))

pub zeros_joined : (x : List ℕ) (any i : ℕ) → any ≡ fold bit_or 0 (take i x) → length x ≤ i → eqb any 0 ≡ is_zero x
zeros_joined x any i e l = rw (e, take_all i x l) (zeros_from 0 x)

-- ---- distinct numbers: none but zero stands there twice
abbrev pub at_most_once : List ℕ → ℕ → Bool
at_most_once ns n = eqb n 0 || leb (how_many (eqb n) ns) 1

or-either : (x y : Bool) → (x ≡ false → y ≡ true) → x || y ≡ true
or-either true y h = refl
or-either false y h = h refl

or-other : (x y : Bool) → x || y ≡ true → x ≡ false → y ≡ true
or-other true y h e = never e
or-other false y h e = h

-- how many: none, or some
count_none : (n : ℕ) (ns : List ℕ) → some (eqb n) ns ≡ false → how_many (eqb n) ns ≡ 0
unfolding some how_many
count_none n [] h = refl
count_none n (m ∷ ns) h =
    let p = Rattle.things.proofs.ListLaws.or_parts (eqb n m) (some (eqb n) ns) h in
    rw p.0 (count_none n ns p.1)

none-count : (n : ℕ) (ns : List ℕ) → how_many (eqb n) ns ≡ 0 → some (eqb n) ns ≡ false
unfolding some how_many
none-count n [] h = refl
none-count n (m ∷ ns) h = go (eqb n m) refl (none-count n ns)
  where
    go : (b : Bool) → eqb n m ≡ b → (how_many (eqb n) ns ≡ 0 → some (eqb n) ns ≡ false) → eqb n m || some (eqb n) ns ≡ false
    go true e k = let g : suc (how_many (eqb n) ns) ≡ 0 = rw e at h in let z : ⊥ = omega arith in absurd z
    go false e k = let g : how_many (eqb n) ns ≡ 0 = rw e at h in rw e (k g)

count-here : (n : ℕ) (ns : List ℕ) → how_many (eqb n) (n ∷ ns) ≡ suc (how_many (eqb n) ns)
unfolding how_many
count-here n ns = rw (eq-eqb n n refl)

count_past : (n m : ℕ) (ns : List ℕ) → eqb n m ≡ false → how_many (eqb n) (m ∷ ns) ≡ how_many (eqb n) ns
unfolding how_many
count_past n m ns e = rw e

-- what is counted once is not counted more in a part
count-tail : (n m : ℕ) (ns : List ℕ) → how_many (eqb n) ns ≤ how_many (eqb n) (m ∷ ns)
unfolding how_many
count-tail n m ns = go (eqb n m)
  where
    go : (b : Bool) → how_many (eqb n) ns ≤ pick b (suc (how_many (eqb n) ns)) (how_many (eqb n) ns)
    go true = omega arith
    go false = omega arith

once-tail : (ks : List ℕ) (m : ℕ) (ns : List ℕ) → every (at_most_once (m ∷ ns)) ks ≡ true → every (at_most_once ns) ks ≡ true
once-tail ks m ns h =
    Rattle.things.proofs.ListLaws.every-mono (at_most_once (m ∷ ns)) (at_most_once ns) ks
    (λ n g. or-either (eqb n 0) _ (λ e.
    let a = leb-true (how_many (eqb n) (m ∷ ns)) 1 (or-other (eqb n 0) _ g e) in
    let b = count-tail n m ns in
    le-leb (how_many (eqb n) ns) 1 (omega arith)))
    h

-- a number that isn't among them may stand before them
once_more : (ks : List ℕ) (m : ℕ) (ns : List ℕ) → (eqb m 0 || not (some (eqb m) ks)) ≡ true → every (at_most_once ns) ks ≡ true → every (at_most_once (m ∷ ns)) ks ≡ true
unfolding every some
once_more [] m ns a h = refl
once_more (n ∷ ks) m ns a h =
    let p = and_parts (at_most_once ns n) (every (at_most_once ns) ks) h in
    let here : at_most_once (m ∷ ns) n ≡ true =
    or-either (eqb n 0) _ (λ e.
    let d : eqb n m ≡ false =
    ne_eqb n m (λ q.
    let r : eqb m 0 ≡ false = ne_eqb m 0 (λ z. eqb-false n 0 e (q ∙ z)) in
    let s = not-true (eqb m n || some (eqb m) ks) (or-other (eqb m 0) _ a r) in
    let t = Rattle.things.proofs.ListLaws.or_parts (eqb m n) (some (eqb m) ks) s in
    eqb-false m n t.0 (sym q)) in
    rw (count_past n m ns d) (or-other (eqb n 0) _ p.0 e)) in
    let rest : (eqb m 0 || not (some (eqb m) ks)) ≡ true =
    or-either (eqb m 0) _ (λ e.
    let s = not-true (eqb m n || some (eqb m) ks) (or-other (eqb m 0) _ a e) in
    rw (Rattle.things.proofs.ListLaws.or_parts (eqb m n) (some (eqb m) ks) s).1) in
    and_both here (once_more ks m ns rest p.1)

once-distinct : (ns : List ℕ) → every (at_most_once ns) ns ≡ true → distinct ns ≡ true
unfolding every distinct
once-distinct [] h = refl
once-distinct (n ∷ ns) h =
    let p = and_parts (at_most_once (n ∷ ns) n) (every (at_most_once (n ∷ ns)) ns) h in
    let head : (eqb n 0 || not (some (eqb n) ns)) ≡ true =
    or-either (eqb n 0) _ (λ e.
    let a = leb-true (how_many (eqb n) (n ∷ ns)) 1 (or-other (eqb n 0) _ p.0 e) in
    let b = count-here n ns in
    rw (none-count n ns (omega arith))) in
    and_both head (once-distinct ns (once-tail ns n ns p.1))

distinct-once : (ns : List ℕ) → distinct ns ≡ true → every (at_most_once ns) ns ≡ true
unfolding every distinct
distinct-once [] h = refl
distinct-once (n ∷ ns) h =
    let p = and_parts (eqb n 0 || not (some (eqb n) ns)) (distinct ns) h in
    let head : at_most_once (n ∷ ns) n ≡ true =
    or-either (eqb n 0) _ (λ e.
    let a = count_none n ns (not-true (some (eqb n) ns) (or-other (eqb n 0) _ p.0 e)) in
    let b = count-here n ns in
    le-leb (how_many (eqb n) (n ∷ ns)) 1 (omega arith)) in
    and_both head (once_more ns n ns p.0 (distinct-once ns p.1))

pub distinct-by : (ns : List ℕ) → every (at_most_once ns) ns ≡ distinct ns
distinct-by ns = both (every (at_most_once ns) ns) (distinct ns) (once-distinct ns) (distinct-once ns)

counted_from : (n k : ℕ) (ns : List ℕ) → fold (λ a x. a + x) k (map (λ m. from_bool (eqb n m)) ns) ≡ k + how_many (eqb n) ns
unfolding how_many
counted_from n k [] = omega arith
counted_from n k (m ∷ ns) = go (eqb n m) (counted_from n (k + from_bool (eqb n m)) ns)
  where
    go : (b : Bool) → fold (λ a x. a + x) (k + from_bool b) (map (λ m. from_bool (eqb n m)) ns) ≡ k + from_bool b + how_many (eqb n) ns → fold (λ a x. a + x) (k + from_bool b) (map (λ m. from_bool (eqb n m)) ns) ≡ k + pick b (suc (how_many (eqb n) ns)) (how_many (eqb n) ns)
    go true e = e ∙ omega arith
    go false e = e ∙ omega arith

pub counted : (n : ℕ) (ns : List ℕ) (r : ℕ) → r ≡ sum (map (λ m. from_bool (eqb n m)) ns) → r ≡ how_many (eqb n) ns
counted n ns r e = e ∙ counted_from n 0 ns ∙ omega arith
