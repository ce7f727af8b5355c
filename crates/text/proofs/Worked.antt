-- 01's six records: what both programs print, by computing.
-- Assumes nothing.
use mathlib.Core.Path.{◌≡◌, refl}
use Rattle.rules.proofs.Computes.{computes}
use Rattle.text.specs.Text.{◌▹◌, decimal_in, decimal, number, texts}
use Rattle.text.specs.Tape
use Rattle.text.specs.Tape.{is_record, call_from, with_call, is_end, records_in, tape, lines, ending, told, unless_long, tape_text}
use Rattle.text.specs.Tree
use Rattle.text.specs.Tree.{and_then, each, sign_of, within, shown, item, opened_in, opened, tree, trees, tree_text}
use Rattle.text.specs.SixRecords.{six, six_told, six_tree}

pub six-records : (tape_text six ≡ six_told) × (tree_text six ≡ six_tree)
unfolding computes ◌▹◌ decimal_in decimal number texts is_record call_from with_call is_end records_in tape Tape.line lines ending told unless_long tape_text and_then each sign_of Tree.line within shown item opened_in opened tree trees tree_text
six-records = (refl, refl)
