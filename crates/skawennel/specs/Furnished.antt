-- What is stored to furnish a package: "Each package has made a shelf (directory, serial 1, permits 0, place 0, slot 0 with
-- rights 255) and a desk (directory, serial 2, permits 3, place 1, slot 1 with rights 252). Last serial 2."
-- Assumes nothing.
use Rattle.std.specs.Prelude.{ℕ, List, [], ◌∷◌}
use Rattle.things.specs.Rights.{object, capability}
use Rattle.rules.specs.Machine.{holding, empty_directory}
use Rattle.rules.specs.Changes.{Change, set_last, set_slot, set_place}

unfoldable pub shelf_and_desk : ℕ → List Change
shelf_and_desk p =
    set_last p 2
    ∷ set_slot p 0 (capability (object p 1) 255)
    ∷ set_slot p 1 (capability (object p 2) 252)
    ∷ set_place p 0 (holding 1 (empty_directory 0))
    ∷ set_place p 1 (holding 2 (empty_directory 3))
    ∷ []
