-- A store of only the main object, whose fields hold no references.
use Rattle.std.specs.Prelude.{ℕ, List, [], ◌∷◌}
use Rattle.roopl_semantics.specs.Store.{Value, OfClass, Store, main_name}

-- the main object with these values
abbrev pub alone : ℕ → List Value → Store
alone class values = (main_name, record { head = OfClass class; count = 1; cells = values }) ∷ []
