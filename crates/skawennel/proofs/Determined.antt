-- "Two outcomes that it allows are proved equal", for each public entry; there is no exception.
-- Assumes nothing.
use Prim.Native.Nat.{ℕ}
use mathlib.Core.Path.{◌≡◌, sym, ◌∙◌}
use mathlib.Core.List.{List}
use Rattle.things.specs.Answers.{Answer}
use Rattle.rules.specs.Step.{Call}
use Rattle.things.specs.declared.Outcome.{Outcome}
use Rattle.tables.specs.Call.{decide}
use Rattle.checks.specs.Ends.{Ends}
use Rattle.skawennel.specs.Boundary.{Stepped, Freshened, FreshenedInNumbers}

-- the step: answer, value and tables
pub one-step : (t u v : List ℕ) (x : Call) (r s : Answer) → Ends (decide t x) t u r → Ends (decide t x) t v s → (r ≡ s) × (u ≡ v)
one-step t u v x r s e f = (e.answered ∙ sym f.answered, e.left ∙ sym f.left)

pub one-step-in-numbers : (t u v : List ℕ) (x : Call) (r s : Outcome) → Stepped t x r u → Stepped t x s v → (r ≡ s) × (u ≡ v)
one-step-in-numbers t u v x r s e f = (e.told ∙ sym f.told, e.left ∙ sym f.left)

-- fresh tables
pub one-fresh : (t u v : List ℕ) (r s : Answer) → Freshened t u r → Freshened t v s → (r ≡ s) × (u ≡ v)
one-fresh t u v r s e f = (e.told ∙ sym f.told, e.left ∙ sym f.left)

pub one-fresh-in-numbers : (t u v : List ℕ) (m n : ℕ) → FreshenedInNumbers t u m → FreshenedInNumbers t v n → (m ≡ n) × (u ≡ v)
one-fresh-in-numbers t u v m n e f = (e.told ∙ sym f.told, e.left ∙ sym f.left)

-- the count, the length, and whatever else is promised as an equation
pub one_answer : {A : Type 0} (x y z : A) → x ≡ z → y ≡ z → x ≡ y
one_answer x y z e f = e ∙ sym f
