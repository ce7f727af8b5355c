-- Which serials a run issues.
-- Assumes nothing.
use Rattle.std.specs.Prelude.{ℕ, ◌<◌, Bool, true, false, ◌&&◌, List, [], ◌∷◌, eqb, leb}
use Rattle.things.specs.Answers.{Answer}
use Rattle.std.specs.Prelude.{Ok, Err}
use Rattle.rules.specs.Machine.{Machine}
use Rattle.rules.specs.Checks.{answer_of, after}
use Rattle.rules.specs.Step.{Call, step}

-- Calls 4 to 7, by this package.
abbrev pub makes_for : ℕ → Call → Bool
makes_for p x = eqb x.caller p && (leb 4 x.number && leb x.number 7)

abbrev pub with_serial : Bool → Answer → List ℕ → List ℕ
with_serial true (Ok serial) ns = serial ∷ ns
with_serial true (Err why) ns = ns
with_serial false a ns = ns

-- The serials that a run issues to package p, in order: the values of its makes that are done.
unfoldable pub issued_to : ℕ → Machine → List Call → List ℕ
issued_to p M [] = []
issued_to p M (x ∷ xs) = with_serial (makes_for p x) (answer_of (step M x)) (issued_to p (after M (step M x)) xs)

-- Each number is above the one before, and the first above n.
abbrev pub Ascending : ℕ → List ℕ → Type 0
Ascending n [] = Unit {0}
Ascending n (k ∷ ks) = (n < k) × Ascending k ks
