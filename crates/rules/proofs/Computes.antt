-- A proof that says `unfolding computes` has every definition of the rules open, and so can compute a run.
-- Assumes nothing.
use Rattle.things.specs.Lists.{every, some, how_many, first, distinct, flat, up_from}
use Rattle.things.specs.Rights.{is_null, has_right, restricted, takes, addable}
use Rattle.rules.specs.Machine.{kind_of, package_of, last_of, slot_of, places_of, is_empty, serial_of, words_of, entries_of, inners_of, permits_of, type_of, holds, place_of, living, empty_place, is_named, is_used, has_entry, entry_of, entry_named, empty_entry, used_entries, fresh}
use Rattle.rules.specs.Sound.{issued, is_number, capability_sound, entry_sound, body_sound, place_sound, package_sound, sound}
use Rattle.rules.specs.Changes.{with_entry, with_inner, with_word, changed, apply, apply_all}
use Rattle.rules.specs.Checks.{unless, gone, is_kind}
use Rattle.rules.specs.Calls.{restrict, drop, hand, named, opened, next_serial, made, making, make, make_segment, make_directory, make_type, make_object, listed, listed_object, delete, add_entry, drop_entry, fetch, word_at, read, write, copied, copy, is_of, set_inner_place, get_inner_place, count}
use Rattle.rules.specs.Step.{in_range, may_call, rows, good_numbers, obey, step, answers, run}

unfoldable pub computes : Unit {0}
unfolding every some how_many first distinct flat up_from is_null has_right restricted takes addable kind_of package_of last_of slot_of places_of is_empty serial_of words_of entries_of inners_of permits_of type_of holds place_of living empty_place is_named is_used has_entry entry_of entry_named empty_entry used_entries fresh issued is_number capability_sound entry_sound body_sound place_sound package_sound sound with_entry with_inner with_word changed apply apply_all unless gone is_kind restrict drop hand named opened next_serial made making make make_segment make_directory make_type make_object listed listed_object delete add_entry drop_entry fetch word_at read write copied copy is_of set_inner_place get_inner_place count in_range may_call rows good_numbers obey step answers run
computes = tt
