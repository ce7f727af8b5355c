-- Laws of written text: pieces one after another, and what is left to write.
-- Assumes nothing.
use Prim.Native.Nat.{ℕ, suc, ◌+◌, ◌-◌, ◌*◌, ◌<◌, ◌≤◌}
use mathlib.Core.Path.{◌≡◌, refl, sym, ap, subst, ◌∙◌}
use mathlib.Core.List.{List, [], ◌∷◌, ◌++◌, append_assoc, append-nil}
use native.Mathlib.Omega.{arith}
use native.Mathlib.Nat.{add_assoc, add-zero, suc-mul}
use native.Mathlib.Numerals.{add-one}
use lib.ListN.{length, take, drop, get_or, set, length-append, length-take, length-drop, take-append-drop, drop_of_length-le}
use lib.Seq.{take_at, drop_at, set_split, drop-drop, length-take-le, drop-cons}
use borrow.Rule.Slice.PartMut.{put_mid}
use Rattle.std.specs.Borrow.{MutBor}
use Rattle.text.specs.Text.{◌▹◌, texts}
use Rattle.print.specs.declared.Text.{Text}
use Rattle.print.specs.Writing.{written, Wrote, blank, followed_by, Room}

written_none : (l : List ℕ) (k : ℕ) → written l k [] ≡ l
unfolding written
written_none l k = rw add-zero (take-append-drop k l)

written-length : (l : List ℕ) (k : ℕ) (t : List ℕ) → k + length t ≤ length l → length (written l k t) ≡ length l
unfolding written
written-length l k t h = simp (length-append, length-drop, length-take) (omega arith)

pub written-one : (l : List ℕ) (k x : ℕ) → k < length l → set l k x ≡ written l k (x ∷ [])
unfolding written
written-one l k x h = set_split l k x h ∙ rw add-one

-- what a part of the buffer holds, once it holds the text
pub written-part : (l : List ℕ) (k : ℕ) {t u : List ℕ} → u ≡ t → k + length t ≤ length l → put_mid k (k + length t - k) l u ≡ written l k t
unfolding written
written-part l k {t} {u} e h =
    let n : k + length t - k ≡ length t = omega arith in
    rw (e, n, drop-drop (length t) k l)

module _ (l : List ℕ) (k : ℕ) (a : List ℕ) (h : k + length a ≤ length l) where
  front_length : length (take k l ++ a) ≡ k + length a
  front_length = length-append (take k l) a ∙ ap (λ (n : ℕ). n + length a) (length-take-le k l (omega arith))

  written-front : take (k + length a) (written l k a) ≡ take k l ++ a
  unfolding written
  written-front = ap (take (k + length a)) (sym (append_assoc (take k l) a (drop (k + length a) l))) ∙ take_at (take k l ++ a) (drop (k + length a) l) (k + length a) front_length

  written_back : drop (k + length a) (written l k a) ≡ drop (k + length a) l
  unfolding written
  written_back = ap (drop (k + length a)) (sym (append_assoc (take k l) a (drop (k + length a) l))) ∙ drop_at (take k l ++ a) (drop (k + length a) l) (k + length a) front_length

  written-far : (n : ℕ) → drop (k + length a + n) (written l k a) ≡ drop (k + length a + n) l
  written-far n = sym (drop-drop n (k + length a) (written l k a)) ∙ ap (drop n) written_back ∙ drop-drop n (k + length a) l

  open_up : (b : List ℕ) → written (written l k a) (k + length a) b ≡ take (k + length a) (written l k a) ++ (b ++ drop (k + length a + length b) (written l k a))
  unfolding written
  open_up b = refl

  close_up : (b : List ℕ) → (take k l ++ a) ++ (b ++ drop (k + length a + length b) l) ≡ written l k (a ++ b)
  unfolding written
  close_up b = simp (append_assoc, length-append, add_assoc)

  written-more : (b : List ℕ) → written (written l k a) (k + length a) b ≡ written l k (a ++ b)
  written-more b = open_up b ∙ ap (λ (x : List ℕ). x ++ (b ++ drop (k + length a + length b) (written l k a))) written-front
      ∙ ap (λ (x : List ℕ). (take k l ++ a) ++ (b ++ x)) (written-far (length b)) ∙ close_up b

-- Lists that are one text after another.
pub none_both : (t : List ℕ) → [] ▹ t ≡ t
unfolding ◌▹◌
none_both t = refl

pub both-none : (t : List ℕ) → t ▹ [] ≡ t
unfolding ◌▹◌
both-none t = append-nil t

pub both-assoc : (t u v : List ℕ) → (t ▹ u) ▹ v ≡ t ▹ u ▹ v
unfolding ◌▹◌
both-assoc t u v = append_assoc t u v

pub both-length : (t u : List ℕ) → length (t ▹ u) ≡ length t + length u
unfolding ◌▹◌
both-length t u = length-append t u

both-written : (l : List ℕ) (k : ℕ) (a : List ℕ) → k + length a ≤ length l → (b : List ℕ) → written (written l k a) (k + length a) b ≡ written l k (a ▹ b)
unfolding ◌▹◌
both-written l k a h b = written-more l k a h b

-- A text, and another after it in the same buffer.
abbrev at_with : Text → List ℕ → ℕ → Text
at_with s l k = record s { out = record s.out { now = l }; at = k }

pub followed-none : (s : Text) → followed_by s [] ≡ s
followed-none s = ap (λ (l : List ℕ). at_with s l (s.at + 0)) (written_none s.out.now s.at) ∙ ap (λ (k : ℕ). at_with s s.out.now k) (add-zero s.at)

pub followed_both : (s : Text) (t u : List ℕ) → Room s (t ▹ u) → followed_by (followed_by s t) u ≡ followed_by s (t ▹ u)
followed_both s t u r =
    let n = both-length t u in
    let e : s.at + length t + length u ≡ s.at + length (t ▹ u) = omega arith in
    ap (λ (l : List ℕ). at_with s l (s.at + length t + length u)) (both-written s.out.now s.at t (omega (arith, r.fits)) u)
    ∙ ap (at_with s (written s.out.now s.at (t ▹ u))) e

-- room for the same text by another name
pub roomed : {s : Text} {t u : List ℕ} → t ≡ u → Room s u → Room s t
roomed {s} e r = subst (Room s) (sym e) r

-- Room for two is room for the first, and after it for the second.
pub first : {s : Text} (t u : List ℕ) → Room s (t ▹ u) → Room s t
first t u r = let n = both-length t u in record { fits = omega (arith, r.fits) }

pub rest : {s s' : Text} (t u : List ℕ) → s' ≡ followed_by s t → Room s (t ▹ u) → Room s' u
rest {s} t u e r =
    let n = both-length t u in
    let m = written-length s.out.now s.at t (omega (arith, r.fits)) in
    rw e (record { fits = omega (arith, r.fits) })

-- One text after another.
pub then : {s s' s'' : Text} (t u : List ℕ) → Room s (t ▹ u) → s' ≡ followed_by s t → s'' ≡ followed_by s' u → s'' ≡ followed_by s (t ▹ u)
then {s} t u r a b = b ∙ ap (λ (x : Text). followed_by x u) a ∙ followed_both s t u r

pub followed-length : {s : Text} {t : List ℕ} → Room s t → length (followed_by s t).out.now ≡ length s.out.now
followed-length {s} {t} r = written-length s.out.now s.at t r.fits

-- What was written into a buffer from its start on, as its owner sees it: the text's length is n.
pub wrote : {b : MutBor (List ℕ)} {s s' : Text} {t : List ℕ} {n : ℕ} → s ≡ blank b → length t ≤ length b.now → s' ≡ followed_by s t → n ≡ s'.at → Wrote b.now s'.out.now 0 n t
wrote {b} {s} {s'} {t} start room e n =
    let whole : s' ≡ followed_by (blank b) t = e ∙ ap (λ (x : Text). followed_by x t) start in
    record { room = omega arith; text = ap (λ (x : Text). x.out.now) whole; end = n ∙ ap (λ (x : Text). x.at) whole }

pub blank-room : {b : MutBor (List ℕ)} {s : Text} (t : List ℕ) → s ≡ blank b → length t ≤ length b.now → Room s t
blank-room t start room = rw start (record { fits = omega arith })

pub wrote-length : {l l' : List ℕ} {k k' : ℕ} {t : List ℕ} → Wrote l l' k k' t → length l' ≡ length l
wrote-length {l} {l'} {k} {k'} {t} a = ap length a.text ∙ written-length l k t a.room

pub wrote-within : {l l' : List ℕ} {k k' : ℕ} {t : List ℕ} → Wrote l l' k k' t → k' ≤ length l'
wrote-within w = let n = wrote-length w in omega (arith, w.room, w.end)

-- What was written from the start on is the text.
pub wrote-text : {l l' : List ℕ} {k : ℕ} {t : List ℕ} → Wrote l l' 0 k t → take k l' ≡ t
unfolding written
wrote-text {l} {l'} {k} {t} w =
    let e : k ≡ length t = omega (arith, w.end) in
    rw (w.text, e) (take_at t (drop (0 + length t) l) (length t) refl)

-- the same text by another name
pub named : {l l' : List ℕ} {k k' : ℕ} {t u : List ℕ} → t ≡ u → Wrote l l' k k' t → Wrote l l' k k' u
named {l} {l'} {k} {k'} e w = subst (λ (x : List ℕ). Wrote l l' k k' x) e w

-- What is left to write leads where all there was to write led, and has room.
pub record Left (s : Text) (t : List ℕ) (s' : Text) (t' : List ℕ) : Type 0 where
  pub room : Room s' t'
  pub leads : followed_by s' t' ≡ followed_by s t

pub left-start : {s : Text} {t : List ℕ} → Room s t → Left s t s t
left-start r = record { room = r; leads = refl }

pub left_as : {s s' : Text} {t t' t'' : List ℕ} → t' ≡ t'' → Left s t s' t' → Left s t s' t''
left_as {s} {s'} {t} e a = subst (λ (x : List ℕ). Left s t s' x) e a

pub left_step : {s s' s'' : Text} {t : List ℕ} (a b : List ℕ) → Left s t s' (a ▹ b) → s'' ≡ followed_by s' a → Left s t s'' b
left_step {s} {s'} a b x e = record {
  room = rest a b e x.room;
  leads = ap (λ (y : Text). followed_by y b) e ∙ followed_both s' a b x.room ∙ x.leads;
}

-- Where all that is left is written, all is written; and where nothing is left.
pub left-last : {s s' s'' : Text} {t u : List ℕ} → Left s t s' u → s'' ≡ followed_by s' u → s'' ≡ followed_by s t
left-last a e = e ∙ a.leads

pub left_end : {s s' : Text} {t : List ℕ} → Left s t s' [] → s' ≡ followed_by s t
left_end {s} {s'} a = sym (followed-none s') ∙ a.leads

-- The texts of a list's elements: a loop has written those of the first i.
module _ {A : Type 0} (f : A → List ℕ) (xs : List A) (d : A) where
  texts-more : (i : ℕ) → i < length xs → texts f (drop i xs) ≡ f (get_or xs i d) ▹ texts f (drop (i + 1) xs)
  unfolding texts
  texts-more i h = rw (add-one i, drop-cons xs i d h)

  texts-none : (i : ℕ) → length xs ≤ i → texts f (drop i xs) ≡ []
  unfolding texts
  texts-none i h = rw (drop_of_length-le xs h)

  abbrev pub Sofar : Text → Text → ℕ → Type 0
  Sofar s s' i = Left s (texts f xs) s' (texts f (drop i xs))

  pub sofar-room : {s s' : Text} (i : ℕ) → Sofar s s' i → i < length xs → Room s' (f (get_or xs i d))
  sofar-room i a h = first _ _ (left_as (texts-more i h) a).room

  pub sofar-more : {s s' s'' : Text} (i : ℕ) → Sofar s s' i → i < length xs → s'' ≡ followed_by s' (f (get_or xs i d)) → Sofar s s'' (i + 1)
  sofar-more i a h e = left_step (f (get_or xs i d)) (texts f (drop (i + 1) xs)) (left_as (texts-more i h) a) e

  pub sofar-end : {s s' : Text} (i : ℕ) → Sofar s s' i → length xs ≤ i → s' ≡ followed_by s (texts f xs)
  sofar-end i a h = left_end (left_as (texts-none i h) a)

  -- texts of at most b bytes each
  pub texts-bound : (b : ℕ) (ys : List A) → ((i : ℕ) → i < length ys → length (f (get_or ys i d)) ≤ b) → length (texts f ys) ≤ length ys * b
  unfolding texts
  texts-bound b [] h = omega arith
  texts-bound b (y ∷ ys) h =
      let a = h 0 (omega arith) in
      let c = texts-bound b ys (λ i l. h (suc i) (omega arith)) in
      let e = both-length (f y) (texts f ys) in
      let m : suc (length ys) * b ≡ length ys * b + b = suc-mul (length ys) b in
      omega arith
