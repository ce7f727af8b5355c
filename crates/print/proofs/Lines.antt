-- The lines that are printed, by the bytes that are written for them; and how long they get.
-- Assumes nothing.
use Prim.Native.Nat.{ℕ, suc, ◌<◌, ◌≤◌}
use mathlib.Core.Path.{◌≡◌, refl, sym, ◌∙◌}
use mathlib.Core.Bool.{Bool, true, false}
use mathlib.Core.List.{List, [], ◌∷◌, append_assoc}
use native.Mathlib.Omega.{arith}
use lib.ListN.{length}
use Rattle.things.specs.declared.Refusal.{Refusal}
use Rattle.things.specs.declared.Refusal.TheVariants.{BadTables, BadNumber, Empty, NoAbility, Gone, WrongKind, WrongType, Outside, NoEntry, NameUsed, WrongEntry, NotAddable, Occupied, NoRoom, NoPlace, Spent}
use Rattle.things.specs.Answers.{Answer}
use Rattle.std.specs.Prelude.{Ok, Err}
use Rattle.things.specs.declared.Capability.{Capability}
use Rattle.things.specs.Answers.{refusal_number, answer_number, answer_value}
use Rattle.things.specs.Kinds.{kind_from}
use Rattle.rules.specs.Machine.{segment, directory, type, extended, Place, empty, holding, kind_of}
use Rattle.rules.specs.Step.{Call}
use Rattle.text.specs.Text.{say, number, texts, ◌▹◌}
use Rattle.text.specs.Tape
use Rattle.text.specs.Tape.{ending}
use Rattle.text.specs.Tree
use Rattle.text.specs.Tree.{sign_text}
use Rattle.print.specs.declared.Sign.{Sign}
use Rattle.print.specs.declared.Sign.TheVariants.{Here, Before, Leaf, Lost}
use Rattle.print.specs.Writing.{number_then, pair_then, kind_shown, sign_in, sign_byte}
use Rattle.print.proofs.Writing.{both-none, both-length}
use Rattle.print.proofs.Decimal.{number-length}

five : {A : Type 0} (f : A → List ℕ) (a b c d e : A) (t : List ℕ) → texts f (a ∷ b ∷ c ∷ d ∷ e ∷ []) ▹ t ≡ f a ▹ f b ▹ f c ▹ f d ▹ f e ▹ t
unfolding texts ◌▹◌
five f a b c d e t = simp append_assoc

-- The tape's line by its numbers.
pub tape-numbers : (n : ℕ) (x : Call) (y : Answer) {caller call given value : ℕ} → caller ≡ x.caller → call ≡ x.number → given ≡ answer_number y → value ≡ answer_value y →
    texts pair_then ((n, 32) ∷ (caller, 32) ∷ (call, 32) ∷ (given, 32) ∷ (value, 10) ∷ []) ≡ Tape.line n x y
unfolding Tape.line number
tape-numbers n x y {caller} {call} {given} {value} p q r s =
    sym (both-none _) ∙ five pair_then (n, 32) (caller, 32) (call, 32) (given, 32) (value, 10) [] ∙ rw (p, q, r, s, both-none) refl

sign-said : (s : Sign) → (sign_byte s ∷ 10 ∷ []) ≡ say (sign_text (sign_in s)) ▹ say "\n"
unfolding ◌▹◌
sign-said Here = refl
sign-said Before = refl
sign-said Leaf = refl
sign-said Lost = refl

-- The tree listing's line by its numbers, and its sign.
pub tree-numbers : (depth : ℕ) (c : Capability) (kind : ℕ) (sign : Sign) {maker serial shown rights byte : ℕ} → maker ≡ c.object.0 → serial ≡ c.object.1 → shown ≡ kind → rights ≡ c.rights → byte ≡ sign_byte sign →
    texts pair_then ((depth, 32) ∷ (maker, 46) ∷ (serial, 32) ∷ (shown, 32) ∷ (rights, 32) ∷ []) ▹ (byte ∷ 10 ∷ []) ≡ Tree.line depth c kind (sign_in sign)
unfolding Tree.line number
tree-numbers depth c kind sign {maker} {serial} {shown} {rights} {byte} p q r s b =
    five pair_then (depth, 32) (maker, 46) (serial, 32) (shown, 32) (rights, 32) (byte ∷ 10 ∷ []) ∙ rw (p, q, r, s, b, sign-said sign) refl

-- The kind of what a place holds, as a line shows it.
pub kind-shown : (x : Place) → kind_shown (kind_from (kind_of x)) ≡ kind_of x
unfolding kind_of kind_from
kind-shown empty = refl
kind-shown (holding s (segment ws)) = refl
kind-shown (holding s (directory m es)) = refl
kind-shown (holding s type) = refl
kind-shown (holding s (extended o m cs)) = refl

refusal-small : (why : Refusal) → refusal_number why ≤ 16
refusal-small BadTables = omega arith
refusal-small BadNumber = omega arith
refusal-small Empty = omega arith
refusal-small NoAbility = omega arith
refusal-small Gone = omega arith
refusal-small WrongKind = omega arith
refusal-small WrongType = omega arith
refusal-small Outside = omega arith
refusal-small NoEntry = omega arith
refusal-small NameUsed = omega arith
refusal-small WrongEntry = omega arith
refusal-small NotAddable = omega arith
refusal-small Occupied = omega arith
refusal-small NoRoom = omega arith
refusal-small NoPlace = omega arith
refusal-small Spent = omega arith

answer-small : (y : Answer) → answer_number y ≤ 16
answer-small (Ok value) = omega arith
answer-small (Err why) = refusal-small why

-- A number of at most 2 and at most 5 digits, and so on, each with the byte after it.
pub tape-line-length : (n : ℕ) (x : Call) (y : Answer) → n < 10000 → x.caller < 256 → x.number < 256 → answer_value y < 65536 → length (Tape.line n x y) ≤ 22
unfolding Tape.line number
tape-line-length n x y a b c d =
    let s = answer-small y in
    let x1 = number-length 3 n 32 a in
    let x2 = number-length 2 x.caller 32 (omega arith) in
    let x3 = number-length 2 x.number 32 (omega arith) in
    let x4 = number-length 1 (answer_number y) 32 (omega arith) in
    let x5 = number-length 4 (answer_value y) 10 (omega arith) in
    let e1 = both-length (number_then n 32) (number_then x.caller 32 ▹ number_then x.number 32 ▹ number_then (answer_number y) 32 ▹ number_then (answer_value y) 10) in
    let e2 = both-length (number_then x.caller 32) (number_then x.number 32 ▹ number_then (answer_number y) 32 ▹ number_then (answer_value y) 10) in
    let e3 = both-length (number_then x.number 32) (number_then (answer_number y) 32 ▹ number_then (answer_value y) 10) in
    let e4 = both-length (number_then (answer_number y) 32) (number_then (answer_value y) 10) in
    omega arith

pub ending-length : (n : ℕ) (b : Bool) → n < 9999 → length (ending n b) ≤ 10
unfolding ending number
ending-length n true h =
    let x = number-length 3 n 10 (omega arith) in
    let e = both-length (say "END ") (number_then n 10) in
    omega arith
ending-length n false h =
    let x = number-length 3 (suc n) 10 (omega arith) in
    let e = both-length (say "STOP ") (number_then (suc n) 10) in
    omega arith

pub tree-line-length : (d : ℕ) (c : Capability) (kind : ℕ) (s : Tree.Sign) → d < 1000 → c.object.0 < 10 → c.object.1 < 65536 → kind < 10 → c.rights < 256 → length (Tree.line d c kind s) ≤ 20
unfolding Tree.line number
tree-line-length d c kind s a b h k r =
    let x1 = number-length 2 d 32 a in
    let x2 = number-length 0 c.object.0 46 b in
    let x3 = number-length 4 c.object.1 32 (omega arith) in
    let x4 = number-length 0 kind 32 k in
    let x5 = number-length 2 c.rights 32 (omega arith) in
    let x6 = sign-length s in
    let e1 = both-length (number_then d 32) (number_then c.object.0 46 ▹ number_then c.object.1 32 ▹ number_then kind 32 ▹ number_then c.rights 32 ▹ say (sign_text s) ▹ say "\n") in
    let e2 = both-length (number_then c.object.0 46) (number_then c.object.1 32 ▹ number_then kind 32 ▹ number_then c.rights 32 ▹ say (sign_text s) ▹ say "\n") in
    let e3 = both-length (number_then c.object.1 32) (number_then kind 32 ▹ number_then c.rights 32 ▹ say (sign_text s) ▹ say "\n") in
    let e4 = both-length (number_then kind 32) (number_then c.rights 32 ▹ say (sign_text s) ▹ say "\n") in
    let e5 = both-length (number_then c.rights 32) (say (sign_text s) ▹ say "\n") in
    let e6 = both-length (say (sign_text s)) (say "\n") in
    omega arith
  where
    sign-length : (s : Tree.Sign) → length (say (sign_text s)) ≡ 1
    sign-length Tree.here = refl
    sign-length Tree.before = refl
    sign-length Tree.leaf = refl
    sign-length Tree.lost = refl
