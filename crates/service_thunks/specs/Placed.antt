-- The same addresses by their places, as the code reaches them.
use Rattle.std.specs.Prelude.{ℕ, ◌+◌, List, [], ◌∷◌}
use Rattle.service_thunks.specs.declared.service.Service.{Service}

-- services at addresses 8 bytes apart, from an address on
abbrev pub by_place : ℕ → List Service → List (ℕ × Service)
by_place at [] = []
by_place at (service ∷ services) = (at, service) ∷ by_place (at + 8) services
