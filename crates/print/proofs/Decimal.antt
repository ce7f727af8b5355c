-- What io's decimal writes is the definition's decimal, and how long it gets.
-- Assumes nothing.
use Prim.Native.Nat.{ℕ, zero, suc, ◌+◌, ◌-◌, ◌*◌, ◌/◌, ◌%◌, ◌^◌, ◌<◌, ◌≤◌}
use mathlib.Core.Path.{◌≡◌, sym, ap, subst, ◌∙◌}
use mathlib.Core.List.{List, [], ◌∷◌, ◌++◌}
use native.Mathlib.Omega.{arith}
use native.Mathlib.Nat.{pow-suc, one-le-pow, pow-le-pow_right, lt_of_not-le}
use native.Mathlib.Decide.{dec_le}
use native.Mathlib.Numerals.{sub-one}
use borrow.Author.Tests.{lt-ltb, le-ltb}
use lib.ListN.{length, take, length-append}
use mathlib.Core.Logic.{◌⊎◌, inl, inr, ⊎_elim}
use lib.Dec.{lit≤}
use Rattle.io.specs.Digits.{last_digits, hex_digit_ascii, IsDigitCount}
use Rattle.text.specs.Text.{decimal_in, decimal}
use Rattle.print.specs.Writing.{number_then}
use Rattle.print.proofs.Writing.{both-length}

glyph-is : (d : ℕ) → d < 10 → hex_digit_ascii d ≡ 48 + d
glyph-is d h = rw (lt-ltb d 10 h)

short : (f n : ℕ) → n < 10 → decimal_in (suc f) n ≡ (48 + n) ∷ []
unfolding decimal_in
short f n h = rw (lt-ltb n 10 h)

long : (f n : ℕ) → 10 ≤ n → decimal_in (suc f) n ≡ decimal_in f (n / 10) ++ ((48 + n % 10) ∷ [])
unfolding decimal_in
long f n h = rw (le-ltb n 10 h)

digits_are : (f k n : ℕ) → k < f → n < 10 ^ suc k → (1 < suc k → 10 ^ k ≤ n) → last_digits 10 (suc k) n ≡ decimal_in f n
digits_are zero k n h below above = absurd (omega arith)
digits_are (suc f) zero n h below above =
    let small : n < 10 = below in
    let m : n % 10 ≡ n = omega arith in
    rw m (ap (λ (d : ℕ). d ∷ []) (glyph-is n small)) ∙ sym (short f n small)
digits_are (suc f) (suc k) n h below above =
    let p : 0 < 10 ^ k = one-le-pow k 10 (omega arith) in
    let s : 10 ^ suc k ≡ 10 ^ k * 10 = pow-suc 10 k in
    let s2 : 10 ^ suc (suc k) ≡ 10 ^ suc k * 10 = pow-suc 10 (suc k) in
    let low : 10 ^ suc k ≤ n = above (omega arith) in
    let big : 10 ≤ n = omega arith in
    ap (λ (l : List ℕ). l ++ (hex_digit_ascii (n % 10) ∷ [])) (digits_are f k (n / 10) (omega arith) (omega arith) (λ _. omega arith))
    ∙ ap (λ (d : ℕ). decimal_in f (n / 10) ++ (d ∷ [])) (glyph-is (n % 10) (omega arith))
    ∙ sym (long f n big)

pub decimal-is : (r n : ℕ) → r ≤ 20 → IsDigitCount 10 1 n r → last_digits 10 r n ≡ decimal n
unfolding decimal
decimal-is zero n h f = absurd (omega (arith, f.0))
decimal-is (suc k) n h f = digits_are 20 k n (omega arith) f.1 (λ m. subst (λ (j : ℕ). 10 ^ j ≤ n) (sub-one (suc k)) (f.2 m))

few : (r n : ℕ) → n < 2 ^ 64 → IsDigitCount 10 1 n r → 21 ≤ r → ⊥
few r n small f h =
    let g : 20 ≤ r - 1 = omega arith in
    let a : 10 ^ 20 ≤ 10 ^ (r - 1) = pow-le-pow_right (lit≤ tt) g in
    let b : 10 ^ (r - 1) ≤ n = f.2 (omega arith) in
    omega arith

at_most : (r n : ℕ) → n < 2 ^ 64 → IsDigitCount 10 1 n r → r ≤ 20
at_most r n small f = let h : r < 21 = lt_of_not-le (few r n small f) in omega arith

pub text-is : (r n : ℕ) (l : List ℕ) → n < 2 ^ 64 → IsDigitCount 10 1 n r → take r l ≡ last_digits 10 r n → take r l ≡ decimal n
text-is r n l h f e = e ∙ decimal-is r n (at_most r n h f) f

lt-or-ge : (n k : ℕ) → (n < k) ⊎ (k ≤ n)
lt-or-ge n k = elim (dec_le k n) [ yes h ↦ inr h | no h ↦ inl (lt_of_not-le h) ]

-- a number below 10 ^ (k + 1) has at most k + 1 digits
digits_in : (f k n : ℕ) → n < 10 ^ suc k → length (decimal_in f n) ≤ suc k
unfolding decimal_in
digits_in zero k n h = omega arith
digits_in (suc f) zero n h = let small : n < 10 = h in rw (short f n small) (omega arith)
digits_in (suc f) (suc k) n h =
    let s : 10 ^ suc (suc k) ≡ 10 ^ suc k * 10 = pow-suc 10 (suc k) in
    let i : length (decimal_in f (n / 10)) ≤ suc k = digits_in f k (n / 10) (omega arith) in
    ⊎_elim (λ small. rw (short f n small) (omega arith)) (λ big. rw (long f n big, length-append) (omega arith)) (lt-or-ge n 10)

pub decimal-length : (k n : ℕ) → n < 10 ^ suc k → length (decimal n) ≤ suc k
unfolding decimal
decimal-length k n h = digits_in 20 k n h

pub number-length : (k n b : ℕ) → n < 10 ^ suc k → length (number_then n b) ≤ suc k + 1
number-length k n b h = let d = decimal-length k n h in let e = both-length (decimal n) (b ∷ []) in omega arith
