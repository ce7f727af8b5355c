-- The kinds of objects and their numbers (01, "Things and their numbers"): "Segment (kind 1)", "Directory (kind 2)", "Type
-- (kind 3)", "Extended object (kind 4)".
-- Assumes nothing.
use Rattle.std.specs.Prelude.{ℕ, ◌≡◌, eqb, Option, Some, None, Result, MatchResult}
use Rattle.things.specs.declared.Kind.{Kind}
use Rattle.things.specs.declared.Kind.TheVariants.{Segment, Directory, «Type», Extended}
use Rattle.things.specs.declared.NoKind.{NoKind}
use Rattle.things.specs.Lists.{pick}

abbrev pub kind_number : Kind → ℕ
kind_number Segment = 1
kind_number Directory = 2
kind_number «Type» = 3
kind_number Extended = 4

-- The kind that has this number. 0, of a place that holds no object, and any number from 5 on is no kind's.
unfoldable pub kind_from : ℕ → Option Kind
kind_from n =
    pick (eqb n 1) (Some Segment)
    (pick (eqb n 2) (Some Directory)
    (pick (eqb n 3) (Some «Type»)
    (pick (eqb n 4) (Some Extended)
    None)))

abbrev pub Decodes : ℕ → Result Kind NoKind → Type 0
Decodes n r = MatchResult r (λ kind. kind_from n ≡ Some kind) (λ _. kind_from n ≡ None)
