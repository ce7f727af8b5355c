-- What the code tests of the numbers of an entry, of a body and of a place, by its kind, is that they are formed.
-- Assumes nothing.
use Prim.Native.Nat.{ℕ, zero, suc, ◌/◌, ◌<◌, ◌≤◌}
use native.Mathlib.Omega.{arith}
use mathlib.Core.Path.{◌≡◌, refl, sym, ap, subst, ◌∙◌}
use mathlib.Core.Bool.{Bool, true, false, not, ◌&&◌}
use mathlib.Core.List.{List, [], ◌∷◌, ◌++◌, map, append-nil}
use lib.ListN.{length, get_or, take, drop, replicate, take-append-drop, drop_of_length-le}
use lib.Seq.{drop_at, length-take-le}
use lib.Dec.{eqb, ltb, leb}
use borrow.Author.Tests.{eqb-true, eqb-false, eq-eqb, ne_eqb, leb-true, le-leb, lt-leb, lt-ltb}
use Rattle.things.specs.declared.Capability.{Capability}
use Rattle.things.specs.Lists.{pick, every, some, distinct, flat}
use Rattle.std.proofs.Common.{Fits, w16}
use Rattle.things.specs.Kinds.{kind_number, kind_from}
use Rattle.things.specs.declared.Kind.{Kind}
use Rattle.things.specs.declared.Kind.TheVariants.{Segment, Directory, «Type», Extended}
use Rattle.std.specs.Prelude.{Option, Some, None}
use Rattle.things.specs.Rights.{object, capability, is_null}
use Rattle.things.proofs.ListLaws.{and_parts, and_both, never}
use Rattle.rules.specs.Machine.{Body, empty}
use Rattle.rules.specs.Sound.{is_number, is_many, is_permits, names, entry_names, capability_sound, entry_sound, body_sound, place_sound}
use Rattle.tables.specs.Layout.{flag, capability_numbers, entry_numbers, inside_numbers, place_numbers, blocks, capability_from, entry_from, place_from}
use Rattle.tables.specs.Positions.{capability_at}
use Rattle.tables.specs.WellFormed.{same}
use Rattle.tables.proofs.RoundTrip.{capability-wide, entry-wide}
use Rattle.formed.specs.Block.{formed_as, is_zero, known_by, column, body_numbers, segment_from, directory_from, type_from, extended_from, capabilities_formed, entry_formed, entries_formed, body_formed, place_formed}
use Rattle.formed.proofs.Runs.{both, tail, length-blocks, blocks_of_part, zero_is, is-zero}
use Rattle.formed.proofs.Split.{formed-parts, formed-whole, blocks_from, blocks_to, capabilities-from}

-- All numbers of a slice are below 65,536.
abbrev pub Small : List ℕ → Type 0
Small x = (i : ℕ) → Fits w16 (get_or x i 0)

small-every : (x : List ℕ) → Small x → every is_number x ≡ true
unfolding every is_number
small-every [] s = refl
small-every (a ∷ x) s = and_both (lt-ltb a 65536 (s 0).fits) (small-every x (λ i. s (suc i)))

every_take : (f : ℕ → Bool) (n : ℕ) (x : List ℕ) → every f x ≡ true → every f (take n x) ≡ true
unfolding every
every_take f zero x h = refl
every_take f (suc n) [] h = h
every_take f (suc n) (a ∷ x) h =
    let p = and_parts (f a) (every f x) h in
    and_both p.0 (every_take f n x p.1)

self : (n : ℕ) → eqb n n ≡ true
self n = eq-eqb n n refl

-- ---- the kind that a number is
taken : (n m : ℕ) (j k : Kind) (rest : Option Kind) → m ≡ kind_number j → pick (eqb n m) (Some j) rest ≡ Some k → (rest ≡ Some k → n ≡ kind_number k) → n ≡ kind_number k
taken n m j k rest a e more = go (eqb n m) refl e
  where
    go : (b : Bool) → eqb n m ≡ b → pick b (Some j) rest ≡ Some k → n ≡ kind_number k
    go true q h = let i : j ≡ k = cc in eqb-true n m q ∙ a ∙ ap kind_number i
    go false q h = more h

kind_is : (n : ℕ) (k : Kind) → kind_from n ≡ Some k → n ≡ kind_number k
unfolding kind_from
kind_is n k e =
    taken n 1 Segment k _ refl e (λ e. taken n 2 Directory k _ refl e (λ e. taken n 3 «Type» k _ refl e (λ e. taken n 4 Extended k _ refl e (λ e. cc))))

passed : (n m : ℕ) (j : Kind) (rest : Option Kind) → pick (eqb n m) (Some j) rest ≡ None → (n ≡ m → ⊥) × (rest ≡ None)
passed n m j rest e = go (eqb n m) refl e
  where
    go : (b : Bool) → eqb n m ≡ b → pick b (Some j) rest ≡ None → (n ≡ m → ⊥) × (rest ≡ None)
    go true q h = cc
    go false q h = (eqb-false n m q, h)

no_kind : (n : ℕ) → kind_from (suc n) ≡ None → 4 < suc n
unfolding kind_from
no_kind n e =
    let p = passed (suc n) 1 Segment _ e in
    let q = passed (suc n) 2 Directory _ p.1 in
    let r = passed (suc n) 3 «Type» _ q.1 in
    let s = passed (suc n) 4 Extended _ r.1 in
    above n p.0 q.0 r.0 s.0
  where
    above : (m : ℕ) → (suc m ≡ 1 → ⊥) → (suc m ≡ 2 → ⊥) → (suc m ≡ 3 → ⊥) → (suc m ≡ 4 → ⊥) → 4 < suc m
    above zero b c d e = absurd (b refl)
    above (suc zero) b c d e = absurd (c refl)
    above (suc (suc zero)) b c d e = absurd (d refl)
    above (suc (suc (suc zero))) b c d e = absurd (e refl)
    above (suc (suc (suc (suc m)))) b c d e = omega arith

-- ---- an entry
flag_is : (f : ℕ) → eqb f (flag (eqb f 1)) ≡ leb f 1
flag_is f = go (eqb f 1) refl
  where
    go : (b : Bool) → eqb f 1 ≡ b → eqb f (flag b) ≡ leb f 1
    go true e = e ∙ sym (le-leb f 1 (let q = eqb-true f 1 e in omega arith))
    go false e =
        both (eqb f 0) (leb f 1) (λ h. le-leb f 1 (let q = eqb-true f 0 h in omega arith))
        (λ h. eq-eqb f 0 (zero-or-one f (leb-true f 1 h) (eqb-false f 1 e)))
      where
        zero-or-one : (n : ℕ) → n ≤ 1 → (n ≡ 1 → ⊥) → n ≡ 0
        zero-or-one zero l d = refl
        zero-or-one (suc n) l d = absurd (d (omega arith))

flag-zero : (f : ℕ) → leb f 1 && not (eqb f 1) ≡ eqb f 0
flag-zero f = go f (eqb f 1) refl
  where
    go : (n : ℕ) (b : Bool) → eqb n 1 ≡ b → leb n 1 && not b ≡ eqb n 0
    go zero true e = let q = eqb-true 0 1 e in let z : ⊥ = omega arith in absurd z
    go zero false e = refl
    go (suc n) true e = rw (le-leb (suc n) 1 (let q = eqb-true (suc n) 1 e in omega arith)) (sym (ne_eqb (suc n) 0 (λ q. let z : ⊥ = omega arith in z)))
    go (suc n) false e =
        let q = eqb-false (suc n) 1 e in
        rw (lt-leb (suc n) 1 (above n q), ne_eqb (suc n) 0 (λ q. let z : ⊥ = omega arith in z))
      where
        above : (m : ℕ) → (suc m ≡ 1 → ⊥) → 1 < suc m
        above zero d = absurd (d refl)
        above (suc m) d = omega arith

-- empty or used, with what the numbers leave of the flag
entry-turn : (unnamed null named small one none : Bool) → small && not one ≡ none → small && pick unnamed (null && not one) (true && named) ≡ pick unnamed (null && none) (named && small)
entry-turn true true named small one none e = e
entry-turn true false named true one none e = refl
entry-turn true false named false one none e = refl
entry-turn false null true true one none e = refl
entry-turn false null true false one none e = refl
entry-turn false null false true one none e = refl
entry-turn false null false false one none e = refl

-- A place's head is its first five numbers.
five : (P : List ℕ → Type 0) → ((k s a b c : ℕ) (z : List ℕ) → length z ≡ 80 → P (k ∷ s ∷ a ∷ b ∷ c ∷ z)) → (x : List ℕ) → length x ≡ 85 → P x
five P f [] l = let z : ⊥ = omega arith in absurd z
five P f (k ∷ []) l = let z : ⊥ = omega arith in absurd z
five P f (k ∷ s ∷ []) l = let z : ⊥ = omega arith in absurd z
five P f (k ∷ s ∷ a ∷ []) l = let z : ⊥ = omega arith in absurd z
five P f (k ∷ s ∷ a ∷ b ∷ []) l = let z : ⊥ = omega arith in absurd z
five P f (k ∷ s ∷ a ∷ b ∷ c ∷ z) l = f k s a b c z (omega arith)

module _ (lasts : List ℕ) where
  abbrev entry_test : List ℕ → Bool
  entry_test x =
      pick (eqb (get_or x 0 0) 0)
      (is_null (capability_at x 1) && eqb (get_or x 4 0) 0)
      (names (known_by lasts) (capability_at x 1) && leb (get_or x 4 0) 1)

  entry-formed : (x : List ℕ) → length x ≡ 5 → Small x → entry_test x ≡ entry_formed lasts x
  unfolding formed_as entry_numbers entry_from entry_sound capability_numbers capability_from capability_at same is_number
  entry-formed [] l s = let z : ⊥ = omega arith in absurd z
  entry-formed (a ∷ []) l s = let z : ⊥ = omega arith in absurd z
  entry-formed (a ∷ b ∷ []) l s = let z : ⊥ = omega arith in absurd z
  entry-formed (a ∷ b ∷ c ∷ []) l s = let z : ⊥ = omega arith in absurd z
  entry-formed (a ∷ b ∷ c ∷ d ∷ []) l s = let z : ⊥ = omega arith in absurd z
  entry-formed (n ∷ m ∷ o ∷ r ∷ f ∷ []) l s =
      let k : Capability = capability (object m o) r in
      let t : eqb f (flag (eqb f 1)) && true ≡ leb f 1 = mathlib.Core.Bool.and-true (eqb f (flag (eqb f 1))) ∙ flag_is f in
      rw (self n, self m, self o, self r, t, lt-ltb n 65536 (s 0).fits)
      (sym (entry-turn (eqb n 0) (is_null k) (names (known_by lasts) k) (leb f 1) (eqb f 1) (eqb f 0) (flag-zero f)))
  entry-formed (a ∷ b ∷ c ∷ d ∷ e ∷ f ∷ x) l s = let z : ⊥ = omega arith in absurd z

  pub entry_empty : (x : List ℕ) (c : Capability) (none : Bool) → length x ≡ 5 → Small x → get_or x 0 0 ≡ 0 → c ≡ capability_at x 1 → none ≡ is_null c → none && eqb (get_or x 4 0) 0 ≡ entry_formed lasts x
  entry_empty x c none l s e i h = rw (h, i) (rw (eq-eqb (get_or x 0 0) 0 e) at (entry-formed x l s))

  pub entry_used : (x : List ℕ) (c : Capability) (named : Bool) → length x ≡ 5 → Small x → (get_or x 0 0 ≡ 0 → ⊥) → c ≡ capability_at x 1 → named ≡ names (known_by lasts) c → named && leb (get_or x 4 0) 1 ≡ entry_formed lasts x
  entry_used x c named l s d i h = rw (h, i) (rw (ne_eqb (get_or x 0 0) 0 d) at (entry-formed x l s))

  -- ---- entries
  names-column : (bs : List (List ℕ)) → entry_names (map entry_from bs) ≡ column 0 bs
  unfolding column entry_from
  names-column [] = refl
  names-column (b ∷ bs) = rw (names-column bs)

  no-entries : true ≡ entries_formed lasts (replicate 80 0)
  unfolding every blocks some distinct column formed_as entry_numbers entry_from entry_sound capability_numbers capability_from same is_null
  no-entries = refl

  -- an empty directory
  pub entries_zero : (x : List ℕ) (zeros : Bool) → length x ≡ 85 → zeros ≡ is_zero (take 80 (drop 5 x)) → zeros ≡ true → true ≡ entries_formed lasts (drop 5 x)
  entries_zero x zeros l h t =
      let z : is_zero (drop 5 x) ≡ true = rw (tail 5 80 x l) at (sym h ∙ t) in
      let m : length (drop 5 x) ≡ 80 = rw (lib.ListN.length-drop 5 x) (omega arith) in
      let e : drop 5 x ≡ replicate 80 0 = zero_is (drop 5 x) z ∙ ap (λ (n : ℕ). replicate n 0) m in
      subst (λ (y : List ℕ). true ≡ entries_formed lasts y) (sym e) no-entries

  -- ---- a body, after its kind and serial
  module _ (a b c : ℕ) (z : List ℕ) (l : length z ≡ 80) where
    segment-to : Small z → (eqb a 0 && is_zero (b ∷ c ∷ [])) && is_zero (drop 32 z) ≡ true → body_formed lasts segment_from (a ∷ b ∷ c ∷ z) ≡ true
    unfolding segment_from body_numbers inside_numbers body_sound
    segment-to s h =
        let p = and_parts (eqb a 0 && is_zero (b ∷ c ∷ [])) _ h in
        let o = and_parts (eqb a 0) _ p.0 in
        let u = eqb-true a 0 o.0 in
        let n : List ℕ = b ∷ c ∷ [] in
        let q : n ≡ 0 ∷ 0 ∷ [] = zero_is n o.1 in
        let d : length (drop 32 z) ≡ 48 = rw (lib.ListN.length-drop 32 z) (omega arith) in
        let r : drop 32 z ≡ replicate 48 0 = zero_is (drop 32 z) p.1 ∙ ap (λ (k : ℕ). replicate k 0) d in
        let w : z ≡ take 32 z ++ replicate 48 0 = sym (take-append-drop 32 z) ∙ ap (λ (y : List ℕ). take 32 z ++ y) r in
        let e : a ∷ b ∷ c ∷ z ≡ 0 ∷ 0 ∷ 0 ∷ (take 32 z ++ replicate 48 0) = cc in
        formed-whole body_numbers segment_from (body_sound (known_by lasts)) (a ∷ b ∷ c ∷ z) e
        (and_both (eq-eqb _ _ (length-take-le 32 z (omega arith))) (every_take is_number 32 z (small-every z s)))

    segment-from : body_formed lasts segment_from (a ∷ b ∷ c ∷ z) ≡ true → (eqb a 0 && is_zero (b ∷ c ∷ [])) && is_zero (drop 32 z) ≡ true
    unfolding segment_from body_numbers inside_numbers
    segment-from h =
        let p = formed-parts body_numbers segment_from (body_sound (known_by lasts)) (a ∷ b ∷ c ∷ z) h in
        let e : a ∷ b ∷ c ∷ z ≡ 0 ∷ 0 ∷ 0 ∷ (take 32 z ++ replicate 48 0) = p.0 in
        let u : a ≡ 0 = cc in
        let n : b ∷ c ∷ [] ≡ replicate 2 0 = let y : b ≡ 0 = cc in let w : c ≡ 0 = cc in cc in
        let w : z ≡ take 32 z ++ replicate 48 0 = cc in
        let r : drop 32 z ≡ replicate 48 0 = ap (λ (y : List ℕ). drop 32 y) w ∙ drop_at (take 32 z) (replicate 48 0) 32 (length-take-le 32 z (omega arith)) in
        and_both (and_both (eq-eqb a 0 u) (is-zero (b ∷ c ∷ []) 2 n)) (is-zero (drop 32 z) 48 r)

    entries-rest : drop 80 z ≡ []
    entries-rest = let m : length z ≤ 80 = omega arith in drop_of_length-le z m

    directory-to : (ltb a 4 && is_zero (b ∷ c ∷ [])) && entries_formed lasts z ≡ true → body_formed lasts directory_from (a ∷ b ∷ c ∷ z) ≡ true
    unfolding directory_from body_numbers inside_numbers body_sound
    directory-to h =
        let p = and_parts (ltb a 4 && is_zero (b ∷ c ∷ [])) _ h in
        let q = and_parts (ltb a 4) _ p.0 in
        let n : List ℕ = b ∷ c ∷ [] in
        let o : n ≡ 0 ∷ 0 ∷ [] = zero_is n q.1 in
        let r = and_parts (every (entry_formed lasts) (blocks 16 5 z)) (distinct (column 0 (blocks 16 5 z))) p.1 in
        let es = map entry_from (blocks 16 5 z) in
        let u = blocks_from entry_numbers entry_from (entry_sound (known_by lasts)) 5 16 z [] r.0 entries-rest in
        let w : z ≡ flat entry_numbers es = u.0 ∙ append-nil (flat entry_numbers es) in
        let e : a ∷ b ∷ c ∷ z ≡ a ∷ 0 ∷ 0 ∷ flat entry_numbers es = cc in
        let d : distinct (entry_names es) ≡ true = rw (names-column (blocks 16 5 z)) r.1 in
        formed-whole body_numbers directory_from (body_sound (known_by lasts)) (a ∷ b ∷ c ∷ z) e
        (and_both q.0 (and_both (eq-eqb _ _ (lib.ListN.length-map (blocks 16 5 z) entry_from ∙ length-blocks 16 5 z)) (and_both u.1 d)))

    directory-from : body_formed lasts directory_from (a ∷ b ∷ c ∷ z) ≡ true → (ltb a 4 && is_zero (b ∷ c ∷ [])) && entries_formed lasts z ≡ true
    unfolding directory_from body_numbers inside_numbers body_sound
    directory-from h =
        let es = map entry_from (blocks 16 5 z) in
        let p = formed-parts body_numbers directory_from (body_sound (known_by lasts)) (a ∷ b ∷ c ∷ z) h in
        let e : a ∷ b ∷ c ∷ z ≡ a ∷ 0 ∷ 0 ∷ flat entry_numbers es = p.0 in
        let n : b ∷ c ∷ [] ≡ replicate 2 0 = let y : b ≡ 0 = cc in let w : c ≡ 0 = cc in cc in
        let q = and_parts (is_permits a) _ p.1 in
        let r = and_parts (is_many 16 es) _ q.1 in
        let u = and_parts (every (entry_sound (known_by lasts)) es) (distinct (entry_names es)) r.1 in
        let w : z ≡ flat entry_numbers es = cc in
        let w' : z ≡ flat entry_numbers es ++ [] = w ∙ sym (append-nil (flat entry_numbers es)) in
        let v = blocks_to entry_numbers entry_from (entry_sound (known_by lasts)) 5 (entry-wide (known_by lasts)) 16 z [] w' u.0 in
        let d : distinct (column 0 (blocks 16 5 z)) ≡ true = rw (← names-column (blocks 16 5 z)) u.1 in
        and_both (and_both q.0 (is-zero (b ∷ c ∷ []) 2 n)) (and_both v.0 d)

    extended-to : (ltb a 4 && known_by lasts (object b c)) && (capabilities_formed lasts 4 z && is_zero (drop 12 z)) ≡ true → body_formed lasts extended_from (a ∷ b ∷ c ∷ z) ≡ true
    unfolding extended_from body_numbers inside_numbers body_sound
    extended-to h =
        let p = and_parts (ltb a 4 && known_by lasts (object b c)) _ h in
        let q = and_parts (ltb a 4) _ p.0 in
        let r = and_parts (capabilities_formed lasts 4 z) _ p.1 in
        let d : length (drop 12 z) ≡ 68 = rw (lib.ListN.length-drop 12 z) (omega arith) in
        let o : drop 12 z ≡ replicate 68 0 = zero_is (drop 12 z) r.1 ∙ ap (λ (k : ℕ). replicate k 0) d in
        let cs = map capability_from (blocks 4 3 z) in
        let u = blocks_from capability_numbers capability_from (capability_sound (known_by lasts)) 3 4 z (replicate 68 0) (capabilities-from (capability_sound (known_by lasts)) 4 z (omega arith) r.0) o in
        let w : z ≡ flat capability_numbers cs ++ replicate 68 0 = u.0 in
        let e : a ∷ b ∷ c ∷ z ≡ a ∷ b ∷ c ∷ (flat capability_numbers cs ++ replicate 68 0) = cc in
        formed-whole body_numbers extended_from (body_sound (known_by lasts)) (a ∷ b ∷ c ∷ z) e
        (and_both q.1 (and_both q.0 (and_both (eq-eqb _ _ (lib.ListN.length-map (blocks 4 3 z) capability_from ∙ length-blocks 4 3 z)) r.0)))

    extended-from : body_formed lasts extended_from (a ∷ b ∷ c ∷ z) ≡ true → (ltb a 4 && known_by lasts (object b c)) && (capabilities_formed lasts 4 z && is_zero (drop 12 z)) ≡ true
    unfolding extended_from body_numbers inside_numbers body_sound
    extended-from h =
        let cs = map capability_from (blocks 4 3 z) in
        let p = formed-parts body_numbers extended_from (body_sound (known_by lasts)) (a ∷ b ∷ c ∷ z) h in
        let e : a ∷ b ∷ c ∷ z ≡ a ∷ b ∷ c ∷ (flat capability_numbers cs ++ replicate 68 0) = p.0 in
        let q = and_parts (known_by lasts (object b c)) _ p.1 in
        let r = and_parts (is_permits a) _ q.1 in
        let u = and_parts (is_many 4 cs) (every (capability_sound (known_by lasts)) cs) r.1 in
        let w : z ≡ flat capability_numbers cs ++ replicate 68 0 = cc in
        let v = blocks_to capability_numbers capability_from (capability_sound (known_by lasts)) 3 (capability-wide (known_by lasts)) 4 z (replicate 68 0) w u.1 in
        and_both (and_both r.0 q.0) (and_both u.1 (is-zero (drop 12 z) 68 v.1))

  pub segment_body : (x : List ℕ) (head rest : Bool) → length x ≡ 85 → Small x → head ≡ is_zero (take 2 (drop 3 x)) → rest ≡ is_zero (take 48 (drop 37 x)) → (eqb (get_or x 2 0) 0 && head) && rest ≡ body_formed lasts segment_from (drop 2 x)
  segment_body x head rest l =
      five (λ y. Small y → head ≡ is_zero (take 2 (drop 3 y)) → rest ≡ is_zero (take 48 (drop 37 y)) → (eqb (get_or y 2 0) 0 && head) && rest ≡ body_formed lasts segment_from (drop 2 y))
      (λ k s a b c z m t h r.
      rw (h, r, tail 32 48 z m) (both ((eqb a 0 && is_zero (b ∷ c ∷ [])) && is_zero (drop 32 z)) (body_formed lasts segment_from (a ∷ b ∷ c ∷ z)) (segment-to a b c z m (λ i. t (suc (suc (suc (suc (suc i))))))) (segment-from a b c z m)))
      x l

  pub directory_body : (x : List ℕ) (head rest : Bool) → length x ≡ 85 → head ≡ is_zero (take 2 (drop 3 x)) → rest ≡ entries_formed lasts (drop 5 x) → (ltb (get_or x 2 0) 4 && head) && rest ≡ body_formed lasts directory_from (drop 2 x)
  directory_body x head rest l =
      five (λ y. head ≡ is_zero (take 2 (drop 3 y)) → rest ≡ entries_formed lasts (drop 5 y) → (ltb (get_or y 2 0) 4 && head) && rest ≡ body_formed lasts directory_from (drop 2 y))
      (λ k s a b c z m h r.
      rw (h, r) (both ((ltb a 4 && is_zero (b ∷ c ∷ [])) && entries_formed lasts z) (body_formed lasts directory_from (a ∷ b ∷ c ∷ z)) (directory-to a b c z m) (directory-from a b c z m)))
      x l

  type_body : (x : List ℕ) → length x ≡ 85 → is_zero (drop 2 x) ≡ body_formed lasts type_from (drop 2 x)
  unfolding is_zero formed_as body_numbers type_from inside_numbers body_sound
  type_body x l =
      let m : length (drop 2 x) ≡ 83 = rw (lib.ListN.length-drop 2 x) (omega arith) in
      rw m (sym (mathlib.Core.Bool.and-true (same (drop 2 x) (replicate 83 0))))

  pub extended_body : (x : List ℕ) (of inners rest : Bool) → length x ≡ 85 → of ≡ known_by lasts (object (get_or x 3 0) (get_or x 4 0)) → inners ≡ capabilities_formed lasts (length (take 12 (drop 5 x)) / 3) (take 12 (drop 5 x)) → rest ≡ is_zero (take 68 (drop 17 x)) → (ltb (get_or x 2 0) 4 && of) && (inners && rest) ≡ body_formed lasts extended_from (drop 2 x)
  extended_body x of inners rest l =
      five (λ y. of ≡ known_by lasts (object (get_or y 3 0) (get_or y 4 0)) → inners ≡ capabilities_formed lasts (length (take 12 (drop 5 y)) / 3) (take 12 (drop 5 y)) → rest ≡ is_zero (take 68 (drop 17 y)) → (ltb (get_or y 2 0) 4 && of) && (inners && rest) ≡ body_formed lasts extended_from (drop 2 y))
      (λ k s a b c z m h i r.
      let n : length (take 12 z) ≡ 12 = length-take-le 12 z (omega arith) in
      rw (h, i, r, n, tail 12 68 z m, blocks_of_part 4 3 z)
      (both ((ltb a 4 && known_by lasts (object b c)) && (capabilities_formed lasts 4 z && is_zero (drop 12 z))) (body_formed lasts extended_from (a ∷ b ∷ c ∷ z)) (extended-to a b c z m) (extended-from a b c z m)))
      x l

  -- ---- a place
  not_zero : (n : ℕ) (y : List ℕ) → is_zero (suc n ∷ y) ≡ false
  unfolding is_zero same
  not_zero n y = rw (ne_eqb (suc n) 0 (λ e. let z : ⊥ = omega arith in z))

  headed : (k s : ℕ) (y z : List ℕ) (issued sound : Bool) → issued && (same y z && sound) ≡ same (k ∷ s ∷ y) (k ∷ s ∷ z) && (issued && sound)
  unfolding same
  headed k s y z issued sound = rw (self k, self s) (turn issued (same y z) sound)
    where
      turn : (a b c : Bool) → a && (b && c) ≡ b && (a && c)
      turn true b c = refl
      turn false true c = refl
      turn false false c = refl

  place-empty : (last : ℕ) (x : List ℕ) → length x ≡ 85 → get_or x 0 0 ≡ 0 → is_zero x ≡ place_formed lasts last x
  unfolding is_zero formed_as place_numbers place_from place_sound
  place-empty last x l e = rw (l, e) (sym (mathlib.Core.Bool.and-true (same x (replicate 85 0))))

  -- a kind that is none: nothing is shown, which has kind 0
  place_other : (last : ℕ) (x : List ℕ) → 4 < get_or x 0 0 → false ≡ place_formed lasts last x
  unfolding place_numbers place_from
  place_other last [] g = let z : ⊥ = omega arith in absurd z
  place_other last (k ∷ y) g =
      both false (place_formed lasts last (k ∷ y)) (λ h. never (sym h)) (λ h.
      let p = formed-parts place_numbers place_from (place_sound (known_by lasts) last) (k ∷ y) h in
      let e : k ∷ y ≡ 0 ∷ replicate 84 0 = p.0 ∙ ap place_numbers (nothing k g) in
      let z : k ≡ 0 = cc in
      let w : ⊥ = omega arith in absurd w)
    where
      nothing : (n : ℕ) → 4 < n → place_from (n ∷ y) ≡ empty
      nothing zero b = let z : ⊥ = omega arith in absurd z
      nothing (suc zero) b = let z : ⊥ = omega arith in absurd z
      nothing (suc (suc zero)) b = let z : ⊥ = omega arith in absurd z
      nothing (suc (suc (suc zero))) b = let z : ⊥ = omega arith in absurd z
      nothing (suc (suc (suc (suc zero)))) b = let z : ⊥ = omega arith in absurd z
      nothing (suc (suc (suc (suc (suc n))))) b = refl

  -- What holds no kind is formed just where it is all zero.
  pub place_empty : (last : ℕ) (x : List ℕ) (zeros : Bool) → length x ≡ 85 → kind_from (get_or x 0 0) ≡ None → zeros ≡ is_zero x → zeros ≡ place_formed lasts last x
  place_empty last x zeros l e z = z ∙ go x l e
    where
      go : (y : List ℕ) → length y ≡ 85 → kind_from (get_or y 0 0) ≡ None → is_zero y ≡ place_formed lasts last y
      go [] m h = let w : ⊥ = omega arith in absurd w
      go (zero ∷ y) m h = place-empty last (0 ∷ y) m refl
      go (suc n ∷ y) m h = not_zero n y ∙ place_other last (suc n ∷ y) (no_kind n h)

  pub place_unkind : (last : ℕ) (x : List ℕ) → length x ≡ 85 → kind_from (get_or x 0 0) ≡ None → (get_or x 0 0 ≡ 0 → ⊥) → false ≡ place_formed lasts last x
  place_unkind last [] l e h = let w : ⊥ = omega arith in absurd w
  place_unkind last (zero ∷ x) l e h = absurd (h refl)
  place_unkind last (suc n ∷ x) l e h = place_other last (suc n ∷ x) (no_kind n e)

  abbrev place_test : ℕ → (List ℕ → Body) → List ℕ → Bool
  place_test last shown x = (ltb 0 (get_or x 1 0) && leb (get_or x 1 0) last) && body_formed lasts shown (drop 2 x)

  kind-is : (k j : ℕ) (last : ℕ) (shown : List ℕ → Body) (s : ℕ) (y : List ℕ) → k ≡ j → place_test last shown (j ∷ s ∷ y) ≡ place_formed lasts last (j ∷ s ∷ y) → place_test last shown (k ∷ s ∷ y) ≡ place_formed lasts last (k ∷ s ∷ y)
  kind-is k j last shown s y e h = rw e h

  pub place_segment : (last : ℕ) (x : List ℕ) (k : Kind) (fine : Bool) → length x ≡ 85 → kind_from (get_or x 0 0) ≡ Some k → k ≡ Segment → fine ≡ body_formed [] segment_from (drop 2 x) → (ltb 0 (get_or x 1 0) && leb (get_or x 1 0) last) && fine ≡ place_formed lasts last x
  unfolding formed_as place_numbers place_from place_sound body_numbers segment_from body_sound
  place_segment last x k fine l e i h =
      rw h
      (five (λ y. get_or y 0 0 ≡ 1 → place_test last segment_from y ≡ place_formed lasts last y)
      (λ n s a b c z m j. kind-is n 1 last segment_from s (a ∷ b ∷ c ∷ z) j (headed 1 s (a ∷ b ∷ c ∷ z) (body_numbers (segment_from (a ∷ b ∷ c ∷ z))) (ltb 0 s && leb s last) (body_sound (known_by lasts) (segment_from (a ∷ b ∷ c ∷ z)))))
      x l (kind_is _ k e ∙ ap kind_number i))

  pub place_directory : (last : ℕ) (x : List ℕ) (k : Kind) (fine : Bool) → length x ≡ 85 → kind_from (get_or x 0 0) ≡ Some k → k ≡ Directory → fine ≡ body_formed lasts directory_from (drop 2 x) → (ltb 0 (get_or x 1 0) && leb (get_or x 1 0) last) && fine ≡ place_formed lasts last x
  unfolding formed_as place_numbers place_from place_sound body_numbers directory_from
  place_directory last x k fine l e i h =
      rw h
      (five (λ y. get_or y 0 0 ≡ 2 → place_test last directory_from y ≡ place_formed lasts last y)
      (λ n s a b c z m j. kind-is n 2 last directory_from s (a ∷ b ∷ c ∷ z) j (headed 2 s (a ∷ b ∷ c ∷ z) (body_numbers (directory_from (a ∷ b ∷ c ∷ z))) (ltb 0 s && leb s last) (body_sound (known_by lasts) (directory_from (a ∷ b ∷ c ∷ z)))))
      x l (kind_is _ k e ∙ ap kind_number i))

  pub place_type : (last : ℕ) (x : List ℕ) (k : Kind) (fine : Bool) → length x ≡ 85 → kind_from (get_or x 0 0) ≡ Some k → k ≡ «Type» → fine ≡ is_zero (take 83 (drop 2 x)) → (ltb 0 (get_or x 1 0) && leb (get_or x 1 0) last) && fine ≡ place_formed lasts last x
  unfolding formed_as place_numbers place_from place_sound body_numbers type_from
  place_type last x k fine l e i h =
      rw (h, tail 2 83 x l, type_body x l)
      (five (λ y. get_or y 0 0 ≡ 3 → place_test last type_from y ≡ place_formed lasts last y)
      (λ n s a b c z m j. kind-is n 3 last type_from s (a ∷ b ∷ c ∷ z) j (headed 3 s (a ∷ b ∷ c ∷ z) (body_numbers (type_from (a ∷ b ∷ c ∷ z))) (ltb 0 s && leb s last) (body_sound (known_by lasts) (type_from (a ∷ b ∷ c ∷ z)))))
      x l (kind_is _ k e ∙ ap kind_number i))

  pub place_extended : (last : ℕ) (x : List ℕ) (k : Kind) (fine : Bool) → length x ≡ 85 → kind_from (get_or x 0 0) ≡ Some k → k ≡ Extended → fine ≡ body_formed lasts extended_from (drop 2 x) → (ltb 0 (get_or x 1 0) && leb (get_or x 1 0) last) && fine ≡ place_formed lasts last x
  unfolding formed_as place_numbers place_from place_sound body_numbers extended_from
  place_extended last x k fine l e i h =
      rw h
      (five (λ y. get_or y 0 0 ≡ 4 → place_test last extended_from y ≡ place_formed lasts last y)
      (λ n s a b c z m j. kind-is n 4 last extended_from s (a ∷ b ∷ c ∷ z) j (headed 4 s (a ∷ b ∷ c ∷ z) (body_numbers (extended_from (a ∷ b ∷ c ∷ z))) (ltb 0 s && leb s last) (body_sound (known_by lasts) (extended_from (a ∷ b ∷ c ∷ z)))))
      x l (kind_is _ k e ∙ ap kind_number i))
