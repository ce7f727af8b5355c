-- Where in the tables a thing stands, and what storing a change there leaves: the code's side of the layout. That it agrees
-- with `numbers` is a law.
-- Assumes nothing.
use Rattle.std.specs.Prelude.{ℕ, ◌+◌, ◌*◌, List, [], ◌∷◌, get_or}
use Rattle.std.proofs.lemmas.List.Edits.{sets}
use Rattle.things.specs.declared.Capability.{Capability}
use Rattle.things.specs.Rights.{object, capability}
use Rattle.rules.specs.Changes.{Change, set_last, set_slot, set_place, set_entry, set_inner, set_word}
use Rattle.tables.specs.Layout.{capability_size, entry_size, head_size, place_size, slots_size, block_size, capability_numbers, entry_numbers, place_numbers}

abbrev pub last_pos : ℕ → ℕ
last_pos p = block_size * p

abbrev pub slot_pos : ℕ → ℕ → ℕ
slot_pos p i = block_size * p + (1 + capability_size * i)

abbrev pub place_pos : ℕ → ℕ → ℕ
place_pos p i = block_size * p + (1 + slots_size + place_size * i)

abbrev pub entry_pos : ℕ → ℕ → ℕ → ℕ
entry_pos p i j = place_pos p i + (head_size + entry_size * j)

abbrev pub inner_pos : ℕ → ℕ → ℕ → ℕ
inner_pos p i j = place_pos p i + (head_size + capability_size * j)

abbrev pub word_pos : ℕ → ℕ → ℕ → ℕ
word_pos p i j = place_pos p i + (head_size + j)

-- The three numbers from position k on.
unfoldable pub capability_at : List ℕ → ℕ → Capability
capability_at t k = capability (object (get_or t k 0) (get_or t (k + 1) 0)) (get_or t (k + 2) 0)

-- The tables with a change stored, number by number.
unfoldable pub store : List ℕ → Change → List ℕ
store t (set_last p n) = sets t (last_pos p) (n ∷ [])
store t (set_slot p i c) = sets t (slot_pos p i) (capability_numbers c)
store t (set_place p i x) = sets t (place_pos p i) (place_numbers x)
store t (set_entry p i j e) = sets t (entry_pos p i j) (entry_numbers e)
store t (set_inner p i j c) = sets t (inner_pos p i j) (capability_numbers c)
store t (set_word p i j w) = sets t (word_pos p i j) (w ∷ [])

unfoldable pub store_all : List ℕ → List Change → List ℕ
store_all t [] = t
store_all t (x ∷ xs) = store_all (store t x) xs
