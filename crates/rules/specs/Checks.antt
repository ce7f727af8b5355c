-- Checks in their order, each with its refusal (01, "The sixteen refusals").
-- Assumes nothing.
use Rattle.std.specs.Prelude.{ℕ, Bool, not, List, [], ◌∷◌, eqb}
use Rattle.things.specs.declared.ObjectNumber.{ObjectNumber}
use Rattle.things.specs.declared.Capability.{Capability}
use Rattle.things.specs.declared.Refusal.{Refusal}
use Rattle.things.specs.declared.Refusal.TheVariants.{Empty, NoAbility, Gone, WrongKind}
use Rattle.things.specs.Answers.{Answer}
use Rattle.std.specs.Prelude.{Ok, Err}
use Rattle.things.specs.Lists.{pick}
use Rattle.things.specs.Rights.{is_null, has_right}
use Rattle.rules.specs.Machine.{Place, Machine, is_empty, kind_of, living}
use Rattle.rules.specs.Changes.{Change, apply_all}

-- A call is refused, or done with a value and what it changes.
pub data Result : Type 0 where
  refused : Refusal → Result
  done : ℕ → List Change → Result

abbrev pub answer_of : Result → Answer
answer_of (refused why) = Err why
answer_of (done value xs) = Ok value

-- "Each refusal is given only then, with value 0 and the tables untouched."
abbrev pub after : Machine → Result → Machine
after M (refused why) = M
after M (done value xs) = apply_all M xs

pub record Check : Type 0 where
  pub refusal : Refusal
  pub applies : Bool

infix 20 ◌when◌
abbrev pub ◌when◌ : Refusal → Bool → Check
why when test = record { refusal = why; applies = test }

-- "The table's order is the order of checks": the first that applies is the answer.
unfoldable pub unless : List Check → Result → Result
unless [] r = r
unless (x ∷ xs) r = pick x.applies (refused x.refusal) (unless xs r)

-- "GONE: the named object isn't in a place."
unfoldable pub gone : Machine → ObjectNumber → Bool
gone M o = is_empty (living M o)

unfoldable pub is_kind : ℕ → Place → Bool
is_kind kind x = eqb (kind_of x) kind

-- "Each checked slot goes through 2 to 5."
abbrev pub checked : Machine → Capability → ℕ → ℕ → List Check
checked M c right kind =
    (Empty when is_null c)
    ∷ (NoAbility when not (has_right c right))
    ∷ (Gone when gone M c.object)
    ∷ (WrongKind when not (is_kind kind (living M c.object)))
    ∷ []
