-- A part that comes back, as a run of stores.
-- Assumes nothing.
use Prim.Native.Nat.{ℕ, ◌+◌, ◌-◌, ◌<◌, ◌≤◌}
use native.Mathlib.Omega.{arith}
use mathlib.Core.Path.{◌≡◌, refl, sym, ap, subst, ◌∙◌}
use mathlib.Core.Bool.{Bool, true, false}
use mathlib.Core.List.{List, ◌++◌, append_assoc}
use mir.Val.{bool_byte}
use lib.ListN.{length, get_or, set, take, drop}
use lib.Seq.{sets, sets-eq, drop-drop, take-suc, take-suc-set, length-take-le}
use native.Mathlib.Numerals.{add-one}
use borrow.Rule.Slice.PartMut.{put_mid, mid_of, set_mid_at, mid_len, put_same}
use Rattle.tables.specs.Layout.{flag}
use Rattle.tables.proofs.At.{sets-append-left, sets-append-right}

-- A part that comes back with other numbers.
pub part-back : (a e : ℕ) (xs ys : List ℕ) → a ≤ e → e ≤ length xs → length ys ≡ e - a → put_mid a (e - a) xs ys ≡ sets xs a ys
part-back a e xs ys l g n =
    let h : a + length ys ≤ length xs = rw n (omega arith) in
    let q : a + (e - a) ≡ a + length ys = rw n in
    let d : drop (e - a) (drop a xs) ≡ drop (a + length ys) xs = drop-drop (e - a) a xs ∙ ap (λ (m : ℕ). drop m xs) q in
    rw d (sym (append_assoc (take a xs) ys (drop (a + length ys) xs)) ∙ sym (sets-eq ys xs a h))

-- One store in a part.
pub part-store : (a e j : ℕ) (xs : List ℕ) (v : ℕ) → e ≤ length xs → j < e - a → put_mid a (e - a) xs (set (mid_of a (e - a) xs) j v) ≡ set xs (a + j) v
part-store a e j xs v g b = set_mid_at a (e - a) j xs v (rw (mid_len a e xs g) b)

-- A copy out of a list, one element a turn.
pub take-copied : (xs ys : List ℕ) (k : ℕ) → k < length xs → k < length ys → take k xs ≡ take k ys → take (k + 1) (set xs k (get_or ys k 0)) ≡ take (k + 1) ys
take-copied xs ys k l g e = rw (add-one k, take-suc-set xs k (get_or ys k 0) l, take-suc ys k 0 g, e)

-- A run of stores in a part.
pub part-run : (a e d : ℕ) (xs vs : List ℕ) → a ≤ e → e ≤ length xs → d + length vs ≤ e - a → put_mid a (e - a) xs (sets (mid_of a (e - a) xs) d vs) ≡ sets xs (a + d) vs
part-run a e d xs vs l g h =
    let front = take a xs in
    let mid = mid_of a (e - a) xs in
    let post = drop (e - a) (drop a xs) in
    let n : length front ≡ a = length-take-le a xs (omega arith) in
    let m : d + length vs ≤ length mid = rw (mid_len a e xs g) h in
    let right : sets (front ++ (mid ++ post)) (a + d) vs ≡ front ++ sets (mid ++ post) d vs =
    subst (λ (k : ℕ). sets (front ++ (mid ++ post)) (k + d) vs ≡ front ++ sets (mid ++ post) d vs) n (sets-append-right vs front (mid ++ post) d) in
    let whole : front ++ (mid ++ post) ≡ xs = put_same a (e - a) xs in
    let right' : sets xs (a + d) vs ≡ front ++ sets (mid ++ post) d vs = subst (λ (z : List ℕ). sets z (a + d) vs ≡ front ++ sets (mid ++ post) d vs) whole right in
    sym (right' ∙ ap (λ (z : List ℕ). front ++ z) (sets-append-left vs mid post d m))

-- A flag as a number.
pub flag_is : (b : Bool) → bool_byte b ≡ flag b
flag_is true = refl
flag_is false = refl
