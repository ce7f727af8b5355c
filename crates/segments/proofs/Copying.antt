-- What copy comes to, and what it leaves.
-- Assumes nothing.
use Prim.Native.Nat.{ℕ, zero, suc, ◌+◌, ◌<◌, ◌≤◌}
use native.Mathlib.Omega.{arith}
use mathlib.Core.Path.{◌≡◌, refl, sym, ap, ◌∙◌}
use mathlib.Core.Bool.{Bool, true, false, ◌||◌}
use mathlib.Core.List.{List, [], ◌∷◌, ◌++◌}
use lib.ListN.{length, get_or, set, take, drop, length-take, length-drop}
use lib.Seq.{sets, ext_get_or, get_or-take, get_or-drop}
use lib.Dec.{ltb}
use borrow.Author.Tests.{ltb-false}
use Rattle.std.specs.Prelude.{Ok, Err, IsErrAnd}
use Rattle.things.specs.declared.Capability.{Capability}
use Rattle.things.specs.declared.Refusal.{Refusal}
use Rattle.things.specs.declared.Refusal.TheVariants.{Outside}
use Rattle.things.specs.Answers.{Answer}
use Rattle.things.specs.Lists.{every, up_from}
use Rattle.things.specs.Rights.{READ, WRITE}
use Rattle.things.proofs.ListLaws.{every-or, set-any, or_parts, up_from-same, up_from-length, up_from-at}
use Rattle.rules.specs.Machine.{WORDS, SEGMENT, Place, empty, Package, Machine, nobody, package_of, places_of, slot_of, inside, kind_of, words_of}
use Rattle.rules.specs.Sound.{is_number, sound}
use Rattle.rules.specs.Changes.{Change, set_word, with_word, place_at, changed, apply, apply_all}
use Rattle.rules.specs.Checks.{refused, done, ◌when◌, unless, checked}
use Rattle.rules.specs.Calls
use Rattle.rules.specs.Calls.{named, word_at, copied}
use Rattle.rules.proofs.Keep.{keep_word}
use Rattle.rules.proofs.Inside.{inside-sound, with-word-kind}
use Rattle.tables.specs.Layout.{numbers, machine}
use Rattle.tables.specs.Positions.{word_pos, store}
use Rattle.tables.specs.Call.{tables_after}
use Rattle.tables.proofs.Laws.{formed}
use Rattle.tables.proofs.Stored.{word-stored}
use Rattle.access.specs.Lent.{Lent}
use Rattle.access.proofs.View.{view_word}
use Rattle.access.specs.declared.which.Package.{Package as AtPackage}
use Rattle.access.specs.declared.which.Place.{Place as At}
use Rattle.checks.specs.Ends.{Ends}
use Rattle.checks.specs.Rooms.{LivesAt}
use Rattle.checks.specs.Verdicts.{passes, stops, verdict}
use Rattle.checks.proofs.Deciding.{ends_early, refusing, letting, acting, past, ends_by, ends-refused, ends-done}
use Rattle.checks.proofs.Checking.{Opened, sound-shown, opened-is}
use Rattle.segments.proofs.Results.{segment-opened}

kinds-stay : (N : Machine) (p i j w q r : ℕ) → kind_of (inside (apply N (set_word p i j w)) q r) ≡ kind_of (inside N q r)
unfolding apply changed places_of package_of
kinds-stay N p i j w q r =
    set-any (λ (P : Package). kind_of (get_or P.places r empty) ≡ kind_of (inside N q r)) N p q (changed (package_of N p) (set_word p i j w)) nobody
    (λ e. rw (← e) (set-any (λ (x : Place). kind_of x ≡ kind_of (inside N q r)) (package_of N q).places i r (with_word j w (place_at (package_of N q) i)) empty (λ f. rw f (with-word-kind j w (place_at (package_of N q) i))) refl)) refl

-- The stored words, one after another.
module _ (ws : List ℕ) (number : every is_number ws ≡ true) (m j : ℕ) (ml : m < 8) (jl : j < 16) (b d : ℕ) where
  abbrev word : ℕ → ℕ
  word k = get_or ws (b + k) 0

  abbrev storing : ℕ → Change
  storing k = set_word m j (d + k) (word k)

  word_number : (k : ℕ) → is_number (word k) ≡ true
  unfolding is_number
  word_number k = every-or is_number ws (b + k) 0 number refl

  copied-left : (n k : ℕ) (N : Machine) → sound N ≡ true → kind_of (inside N m j) ≡ SEGMENT → d + (k + n) ≤ 32 → numbers (apply_all N (up_from n k storing)) ≡ sets (numbers N) (word_pos m j (d + k)) (up_from n k word)
  unfolding apply_all up_from store
  copied-left zero k N h s l = refl
  copied-left (suc n) k N h s l =
      let x = storing k in
      let g : sound (apply N x) ≡ true = keep_word N m j (d + k) (word k) h (word_number k) in
      let e : set (numbers N) (word_pos m j (d + k)) (word k) ≡ numbers (apply N x) = word-stored N h m ml j (d + k) (word k) jl (omega arith) s in
      let q : word_pos m j (d + suc k) ≡ suc (word_pos m j (d + k)) = omega arith in
      let r = copied-left n (suc k) (apply N x) g (kinds-stay N m j (d + k) (word k) m j ∙ s) (omega arith) in
      rw (q, ← e) at r

-- What copy comes to, and what it leaves.
module _ (t : List ℕ) (w : Lent t) (p a b c d e q i m j : ℕ) (o : Opened (machine t) (slot_of (machine t) p a) READ SEGMENT q i) where
  abbrev M : Machine
  M = machine t

  copy-second : Calls.copy M p a b c d e ≡ unless (checked M (slot_of M p c) WRITE SEGMENT ++ ((Outside when ltb WORDS (b + e) || ltb WORDS (d + e)) ∷ [])) (done 0 (up_from e 0 (copied M p a b c d)))
  unfolding Calls.copy
  copy-second = past (checked M (slot_of M p a) READ SEGMENT) _ _ o.all-passed

  module _ (u : Opened M (slot_of M p c) WRITE SEGMENT m j) where
    copy-outside : (ltb WORDS (b + e) || ltb WORDS (d + e)) ≡ true → Calls.copy M p a b c d e ≡ refused Outside
    copy-outside h = copy-second ∙ past (checked M (slot_of M p c) WRITE SEGMENT) _ _ u.all-passed ∙ refusing _ _ _ h

    each-copied : (k : ℕ) → copied M p a b c d k ≡ set_word m j (d + k) (get_or (words_of (inside M q i)) (b + k) 0)
    unfolding copied word_at named
    each-copied k = rw (opened-is M p a READ SEGMENT q i o, u.maker-is, u.place_is)

    copy_done : (ltb WORDS (b + e) || ltb WORDS (d + e)) ≡ false → Calls.copy M p a b c d e ≡ done 0 (up_from e 0 (λ k. set_word m j (d + k) (get_or (words_of (inside M q i)) (b + k) 0)))
    copy_done h =
        copy-second ∙ past (checked M (slot_of M p c) WRITE SEGMENT) _ _ u.all-passed ∙ letting _ _ _ h ∙ acting _
        ∙ ap (λ (xs : List Change). done 0 xs) (up_from-same e 0 _ _ each-copied)

    -- the words of the first segment, as the tables have them
    same-words : b + e ≤ 32 → up_from e 0 (λ k. get_or (words_of (inside M q i)) (b + k) 0) ≡ take e (drop b (take 32 (drop (word_pos q i 0) t)))
    same-words l =
        let f : ℕ → ℕ = λ k. get_or (words_of (inside M q i)) (b + k) 0 in
        let long : length (take e (drop b (take 32 (drop (word_pos q i 0) t)))) ≡ e =
        simp (length-take, length-drop) (let n = w.sized in let x = o.maker-below in let y = o.place-below in omega arith) in
        ext_get_or 0 (up_from e 0 f) (take e (drop b (take 32 (drop (word_pos q i 0) t)))) (up_from-length e 0 f ∙ sym long)
        (λ k g.
        let k' : k < e = rw (up_from-length e 0 f) at g in
        let z : 0 + k ≡ k = omega arith in
        let v : word_pos q i 0 + (b + k) ≡ word_pos q i (b + k) = omega arith in
        up_from-at e 0 k f 0 k' ∙ ap f z
        ∙ sym (view_word t w q i o.maker-below o.place-below o.kind-is (b + k) (omega arith))
        ∙ sym (get_or-take e (drop b (take 32 (drop (word_pos q i 0) t))) k 0 k' ∙ get_or-drop b (take 32 (drop (word_pos q i 0) t)) k 0
        ∙ get_or-take 32 (drop (word_pos q i 0) t) (b + k) 0 (omega arith) ∙ get_or-drop (word_pos q i 0) t (b + k) 0 ∙ ap (λ (n : ℕ). get_or t n 0) v))

    copy-ends : (v : List ℕ) → (ltb WORDS (b + e) || ltb WORDS (d + e)) ≡ false → v ≡ sets t (word_pos m j d) (take e (drop b (take 32 (drop (word_pos q i 0) t)))) → Ends (Calls.copy M p a b c d e) t v (Ok 0)
    unfolding tables_after
    copy-ends v h g =
        let x = or_parts (ltb WORDS (b + e)) (ltb WORDS (d + e)) h in
        let y = ltb-false WORDS (b + e) x.0 in
        let y' = ltb-false WORDS (d + e) x.1 in
        let z : d ≡ d + 0 = omega arith in
        let ws = words_of (inside M q i) in
        let f = formed t w.formed in
        let s = copied-left ws (inside-sound M q i (sound-shown t w)).words m j u.maker-below u.place-below b d e 0 M (sound-shown t w) u.kind-is (omega arith) in
        let s' : numbers (apply_all M (up_from e 0 (λ k. set_word m j (d + k) (get_or ws (b + k) 0)))) ≡ sets t (word_pos m j d) (up_from e 0 (λ k. get_or ws (b + k) 0)) =
        s ∙ rw (f.shown, ← z) in
        ends-done _ t v 0 _ (copy_done h) (g ∙ rw (← same-words y) (sym s'))

-- ---- by what the code's checks answer
module _ (t : List ℕ) (w : Lent t) (p : AtPackage) (a b c d e : ℕ) where
  abbrev c₁ : Capability
  c₁ = slot_of (machine t) p.number a

  abbrev c₂ : Capability
  c₂ = slot_of (machine t) p.number c

  pub copy_early : (why : Refusal) (r : Answer) → verdict (checked (machine t) c₁ READ SEGMENT) ≡ stops why → IsErrAnd r (λ x. x ≡ why) → Ends (Calls.copy (machine t) p.number a b c d e) t t r
  unfolding Calls.copy
  copy_early why r h x = ends_early (checked (machine t) c₁ READ SEGMENT) _ _ t why r h x

  -- the first segment is found
  module _ (source : At) (h : verdict (checked (machine t) c₁ READ SEGMENT) ≡ passes) (l : LivesAt (machine t) c₁.object SEGMENT source) where
    from-opened : Opened (machine t) c₁ READ SEGMENT source.maker source.number
    from-opened = segment-opened t w p a READ source h l

    pub copy_targetless : (why : Refusal) (r : Answer) → verdict (checked (machine t) c₂ WRITE SEGMENT) ≡ stops why → IsErrAnd r (λ x. x ≡ why) → Ends (Calls.copy (machine t) p.number a b c d e) t t r
    copy_targetless why r v x =
        ends_by _ _ _ _ _ (copy-second t w p.number a b c d e source.maker source.number 0 0 from-opened)
        (ends_early (checked (machine t) c₂ WRITE SEGMENT) _ _ t why r v x)

    -- and the second
    module _ (target : At) (h' : verdict (checked (machine t) c₂ WRITE SEGMENT) ≡ passes) (l' : LivesAt (machine t) c₂.object SEGMENT target) (x y : Bool) (xe : x ≡ ltb WORDS (b + e)) (ye : y ≡ ltb WORDS (d + e)) where
      to-opened : Opened (machine t) c₂ WRITE SEGMENT target.maker target.number
      to-opened = segment-opened t w p c WRITE target h' l'

      pub copy_beyond : x || y ≡ true → Ends (Calls.copy (machine t) p.number a b c d e) t t (Err Outside)
      copy_beyond z =
          ends-refused _ t Outside
          (copy-outside t w p.number a b c d e source.maker source.number target.maker target.number from-opened to-opened (rw (xe, ye) at z))

      pub copy_stored : (v : List ℕ) → x || y ≡ false → v ≡ sets t (word_pos target.maker target.number d) (take e (drop b (take 32 (drop (word_pos source.maker source.number 0) t)))) → Ends (Calls.copy (machine t) p.number a b c d e) t v (Ok 0)
      copy_stored v z =
          copy-ends t w p.number a b c d e source.maker source.number target.maker target.number from-opened to-opened v (rw (xe, ye) at z)
