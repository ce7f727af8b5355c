-- Text in a lent buffer: that it has room, and that it was written.
-- Assumes nothing.
use Rattle.std.specs.Prelude.{ℕ, ◌+◌, ◌≤◌, ◌≡◌, List, [], ◌∷◌, ◌++◌, length, take, drop, Option, Some, None}
use Rattle.std.specs.Borrow.{MutBor}
use Rattle.things.specs.declared.Kind.{Kind}
use Rattle.things.specs.Kinds.{kind_number}
use Rattle.text.specs.Text.{decimal, ◌▹◌}
use Rattle.text.specs.Tree
use Rattle.print.specs.declared.Text.{Text}
use Rattle.print.specs.declared.Sign.{Sign}
use Rattle.print.specs.declared.Sign.TheVariants.{Here, Before, Leaf, Lost}

-- A buffer with the bytes of a text from a position on.
unfoldable pub written : List ℕ → ℕ → List ℕ → List ℕ
written l k t = take k l ++ (t ++ drop (k + length t) l)

-- A writer found the buffer as l and the position at k, and left them as l' and k': it wrote t, which had room.
pub record Wrote (l l' : List ℕ) (k k' : ℕ) (t : List ℕ) : Type 0 where
  pub room : k + length t ≤ length l
  pub text : l' ≡ written l k t
  pub end : k' ≡ k + length t

-- A text of no bytes yet in a buffer.
abbrev pub blank : MutBor (List ℕ) → Text
blank b = record { out = b; at = 0 }

-- A text with the bytes of another after it, in the same buffer; and that the buffer has room for them.
abbrev pub followed_by : Text → List ℕ → Text
followed_by s t = record s { out = record s.out { now = written s.out.now s.at t }; at = s.at + length t }

pub record Room (s : Text) (t : List ℕ) : Type 0 where
  pub fits : s.at + length t ≤ length s.out.now

-- A number in decimal, and a byte after it: `number` for a text of one byte.
abbrev pub number_then : ℕ → ℕ → List ℕ
number_then n b = decimal n ▹ (b ∷ [])

abbrev pub pair_then : ℕ × ℕ → List ℕ
pair_then p = number_then p.0 p.1

-- The number of an object's kind, 0 for an object that is gone.
abbrev pub kind_shown : Option Kind → ℕ
kind_shown (Some kind) = kind_number kind
kind_shown None = 0

-- The sign of the listing that a sign in code stands for.
abbrev pub sign_in : Sign → Tree.Sign
sign_in Here = Tree.here
sign_in Before = Tree.before
sign_in Leaf = Tree.leaf
sign_in Lost = Tree.lost

abbrev pub sign_byte : Sign → ℕ
sign_byte Here = 43
sign_byte Before = 61
sign_byte Leaf = 45
sign_byte Lost = 120
